-- The name of a branch of the tree of a tick.
use Rattle.std.specs.Prelude.{ℕ, List, IsTrue}
use Rattle.limit_tree.specs.Sharing.{Branch, LimitTree, IsBranch}
use Rattle.line_rates.specs.declared.ask.Ask.{Ask}
use Rattle.line_rates.specs.declared.ask.Name.{Name}
use Rattle.line_rates.specs.Names.{bears}
use Rattle.line_rates.specs.Rates.{Rates}
use Rattle.line_rates.specs.TickTree.{IsNamed}

-- the branch of a node is that of the name
abbrev pub IsNameOf : Rates → ℕ → List Ask → LimitTree → ℕ → Name → Type 0
IsNameOf rates tick asks t k n = (b : Branch) → IsBranch t k b → IsNamed rates tick asks n b

-- the branch of a node is that of some name under which an ask counts
abbrev pub HasNameOf : Rates → ℕ → List Ask → LimitTree → ℕ → Ask → Type 0
HasNameOf rates tick asks t k a =
    (n : Name) × IsTrue (bears rates n a) × IsNameOf rates tick asks t k n
