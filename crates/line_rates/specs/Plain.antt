-- Names and the tree of a tick as they are stated without groups and floors.
use Rattle.std.specs.Prelude.{◌≡◌, ◌↔◌, ℕ, Bool, true, false, ◌||◌, ◌&&◌, nat_eq, List, map, slice_get, Option, Some, None, IsTrue, ⊤}
use Rattle.std.specs.FinMap as finite
use Rattle.std.specs.List.{list_any}
use Rattle.limit_tree.specs.Sharing.{Branch, LimitTree}
use Rattle.line_rates.specs.declared.ask.Way.{Way}
use Rattle.line_rates.specs.declared.ask.Ask.{Ask}
use Rattle.line_rates.specs.Names.{same_way, want_of}
use Rattle.line_rates.specs.Rates.{Rates, way_of, user_rate, session_rate, floor_rate, group_of}
use Rattle.line_rates.specs.Ticks.{rate_limit}
use Rattle.line_rates.specs.TickTree.{IsTickTree}

-- the names: the server; a way; a way and a user; a way, a user and a session
pub data PlainName : Type 0 where
  PlainServer : PlainName
  PlainWay : Way → PlainName
  PlainUser : Way → ℕ → PlainName
  PlainSession : Way → ℕ → ℕ → PlainName

abbrev pub bears_plain : PlainName → Ask → Bool
bears_plain PlainServer a = true
bears_plain (PlainWay way) a = same_way a.way way
bears_plain (PlainUser way user) a = same_way a.way way && nat_eq a.user user
bears_plain (PlainSession way user session) a =
    same_way a.way way && (nat_eq a.user user && nat_eq a.session session)

abbrev pub plain_rate : Rates → PlainName → ℕ
plain_rate rates PlainServer = rates.server
plain_rate rates (PlainWay way) = way_of rates.down rates.up way
plain_rate rates (PlainUser way user) = user_rate (finite.get rates.users user) way
plain_rate rates (PlainSession way user session) = session_rate (finite.get rates.users user) way

abbrev pub bears_plain_in : PlainName → Option Ask → Bool
bears_plain_in n None = false
bears_plain_in n (Some a) = bears_plain n a

-- the server's name, and each that an ask counts under
abbrev pub is_plain_server : PlainName → Bool
is_plain_server PlainServer = true
is_plain_server n = false

abbrev pub is_plain_name : List Ask → PlainName → Bool
is_plain_name asks n = is_plain_server n || list_any (bears_plain n) asks

-- the branch of a name: the limit of its rate in the tick, over the leaves that count under it
pub record IsPlainNamed (rates : Rates) (tick : ℕ) (asks : List Ask) (n : PlainName)
    (b : Branch) : Type 0 where
  pub limit : b.limit ≡ rate_limit (plain_rate rates n) tick
  pub holds : (i : ℕ) → b.holds i ≡ bears_plain_in n (slice_get asks i)

abbrev pub ArePlainNamed : Rates → ℕ → List Ask → Option PlainName → Option Branch → Type 0
ArePlainNamed rates tick asks None None = ⊤
ArePlainNamed rates tick asks (Some n) (Some b) = IsPlainNamed rates tick asks n b
ArePlainNamed rates tick asks None (Some b) = ⊥
ArePlainNamed rates tick asks (Some n) None = ⊥

-- One leaf for each ask, with its want; one branch for the server and for each name that an ask
-- counts under, over the leaves that do; no others.
pub record IsPlainTickTree (rates : Rates) (tick : ℕ) (asks : List Ask)
    (t : LimitTree) : Type 0 where
  pub wants : t.wants ≡ map want_of asks
  pub name : ℕ → Option PlainName
  pub named : (k : ℕ) → ArePlainNamed rates tick asks (name k) (t.branch k)
  pub no_other : (k : ℕ) (n : PlainName) → name k ≡ Some n → IsTrue (is_plain_name asks n)
  pub each_name : (n : PlainName) → IsTrue (is_plain_name asks n) → (k : ℕ) × (name k ≡ Some n)
  pub once : (j k : ℕ) (n : PlainName) → name j ≡ Some n → name k ≡ Some n → j ≡ k

abbrev pub zero_of : Ask → ℕ
zero_of a = 0

-- no user is in a group, and no session has a guarantee
pub record IsPlainRates (rates : Rates) : Type 0 where
  pub groups : (user : ℕ) → group_of rates user ≡ None
  pub floors : (user : ℕ) (way : Way) → floor_rate (finite.get rates.users user) way ≡ 0

-- Then the tree of a tick is the plain one, and its floors are 0.
abbrev pub NoGroupsAndFloorsIsPlain : Type 0
NoGroupsAndFloorsIsPlain =
    (rates : Rates) (tick : ℕ) (asks : List Ask) (t : LimitTree) → IsPlainRates rates
    → IsTickTree rates tick asks t
    ↔ (IsPlainTickTree rates tick asks t × (t.floors ≡ map zero_of asks))
