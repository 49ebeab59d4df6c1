-- The tree of a tick: sets of asks by the names that they count under.
use Rattle.std.specs.Prelude.{◌≡◌, ℕ, Bool, true, false, ◌||◌, List, map, slice_get, Option, Some, None, IsTrue, IsPermutation, ⊤}
use Rattle.std.specs.List.{list_any}
use Rattle.limit_tree.specs.Sharing.{Branch, LimitTree}
use Rattle.line_rates.specs.declared.ask.Ask.{Ask}
use Rattle.line_rates.specs.declared.ask.Name.{Name}
use Rattle.line_rates.specs.declared.ask.Name.TheVariants.{Server}
use Rattle.line_rates.specs.Names.{bears, want_of, floor_of}
use Rattle.line_rates.specs.Rates.{Rates, rate_of}
use Rattle.line_rates.specs.Ticks.{rate_limit}

abbrev pub bears_in : Rates → Name → Option Ask → Bool
bears_in rates n None = false
bears_in rates n (Some a) = bears rates n a

-- the ask of the leaf counts under the name
abbrev pub bears_at : Rates → Name → List Ask → ℕ → Bool
bears_at rates n asks i = bears_in rates n (slice_get asks i)

abbrev pub is_server : Name → Bool
is_server Server = true
is_server n = false

-- the names of the branches: the server's, and each that an ask counts under
abbrev pub is_name : Rates → List Ask → Name → Bool
is_name rates asks n = is_server n || list_any (bears rates n) asks

-- the branch of a name in a tick: the limit of its rate, over the leaves that count under it
pub record IsNamed (rates : Rates) (tick : ℕ) (asks : List Ask) (n : Name)
    (b : Branch) : Type 0 where
  pub limit : b.limit ≡ rate_limit (rate_of rates n) tick
  pub holds : (i : ℕ) → b.holds i ≡ bears_at rates n asks i

-- a number has a branch exactly if it has a name, and the branch is that of the name
abbrev pub AreNamed : Rates → ℕ → List Ask → Option Name → Option Branch → Type 0
AreNamed rates tick asks None None = ⊤
AreNamed rates tick asks (Some n) (Some b) = IsNamed rates tick asks n b
AreNamed rates tick asks None (Some b) = ⊥
AreNamed rates tick asks (Some n) None = ⊥

-- One leaf for each ask, with its want and floor; one branch for the server and for each name that
-- an ask counts under, over the leaves that do; no others. `name` is the name of a branch number.
pub record IsTickTree (rates : Rates) (tick : ℕ) (asks : List Ask) (t : LimitTree) : Type 0 where
  pub wants : t.wants ≡ map want_of asks
  pub floors : t.floors ≡ map (floor_of rates) asks
  pub name : ℕ → Option Name
  pub named : (k : ℕ) → AreNamed rates tick asks (name k) (t.branch k)
  pub no_other : (k : ℕ) (n : Name) → name k ≡ Some n → IsTrue (is_name rates asks n)
  pub each_name : (n : Name) → IsTrue (is_name rates asks n) → (k : ℕ) × (name k ≡ Some n)
  pub once : (j k : ℕ) (n : Name) → name j ≡ Some n → name k ≡ Some n → j ≡ k

-- an ask with its lane
abbrev pub Asker : Type 0
Asker = ℕ × Ask

abbrev pub ask_in : Asker → Ask
ask_in x = x.1

abbrev pub lane_in : Asker → ℕ
lane_in x = x.0

-- A plan: the asks in some order are the leaves of its tree, and `lanes` has their lanes in that
-- order.
pub record IsPlan (rates : Rates) (tick : ℕ) (asks : List Asker) (t : LimitTree)
    (lanes : List ℕ) : Type 0 where
  pub order : List Asker
  pub all : IsPermutation asks order
  pub tree : IsTickTree rates tick (map ask_in order) t
  pub lanes_are : lanes ≡ map lane_in order
