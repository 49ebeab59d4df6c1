-- The tree of a whole second: a leaf for each ask, and a branch for each name that asks count
-- under, with the rates themselves as limits.
use Rattle.std.specs.Prelude.{◌≡◌, ℕ, ◌||◌, nat_eq, nat_lt, min, if◌then◌else◌, List, map, Option, Some, None, IsTrue, ⊤}
use Rattle.std.specs.FinMap as finite
use Rattle.limit_tree.specs.Sharing.{Branch, LimitTree}
use Rattle.line_rates.specs.declared.ask.Ask.{Ask}
use Rattle.line_rates.specs.declared.ask.Name.{Name}
use Rattle.line_rates.specs.Names.{want_of}
use Rattle.line_rates.specs.Rates.{Rates, floor_rate, rate_of}
use Rattle.line_rates.specs.TickTree.{bears_at, is_name}
use Rattle.rate_plan.specs.declared.tens.TheConstants.{MAX_PLANNED}

-- the limit of a rate in a second; a rate of 0 is no limit, and neither is one above `MAX_PLANNED`
abbrev pub second_limit : ℕ → Option ℕ
second_limit rate = if nat_eq rate 0 || nat_lt MAX_PLANNED rate then None else Some rate

-- the floor of an ask in a second: its session's guarantee, and at most its want
abbrev pub second_floor : Rates → Ask → ℕ
second_floor rates a = min a.want (floor_rate (finite.get rates.users a.user) a.way)

-- the branch of a name in a second: the limit of its rate, over the leaves that count under it
abbrev pub name_branch : Rates → List Ask → Name → Branch
name_branch rates asks n =
    record { limit = second_limit (rate_of rates n); holds = bears_at rates n asks }

pub record IsNameBranch (rates : Rates) (asks : List Ask) (n : Name) (b : Branch) : Type 0 where
  pub limit : b.limit ≡ second_limit (rate_of rates n)
  pub holds : (i : ℕ) → b.holds i ≡ bears_at rates n asks i

-- a number has a branch exactly if it has a name, and the branch is that of the name
abbrev pub AreNameBranches : Rates → List Ask → Option Name → Option Branch → Type 0
AreNameBranches rates asks None None = ⊤
AreNameBranches rates asks (Some n) (Some b) = IsNameBranch rates asks n b
AreNameBranches rates asks None (Some b) = ⊥
AreNameBranches rates asks (Some n) None = ⊥

-- One leaf for each ask, with its want and floor; one branch for the server and for each name that
-- an ask counts under, over the leaves that do; no others. `name` is the name of a branch number.
pub record IsSecondTree (rates : Rates) (asks : List Ask) (t : LimitTree) : Type 0 where
  pub wants : t.wants ≡ map want_of asks
  pub floors : t.floors ≡ map (second_floor rates) asks
  pub name : ℕ → Option Name
  pub named : (k : ℕ) → AreNameBranches rates asks (name k) (t.branch k)
  pub no_other : (k : ℕ) (n : Name) → name k ≡ Some n → IsTrue (is_name rates asks n)
  pub each_name : (n : Name) → IsTrue (is_name rates asks n) → (k : ℕ) × (name k ≡ Some n)
  pub once : (j k : ℕ) (n : Name) → name j ≡ Some n → name k ≡ Some n → j ≡ k
