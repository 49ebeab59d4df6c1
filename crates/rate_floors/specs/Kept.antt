-- Counted sessions whose guarantees fit, and their asks.
use Rattle.std.specs.Prelude.{◌≡◌, ◌≤◌, ℕ, List, length, count_by}
use Rattle.std.specs.List.{All, Contains}
use Rattle.limit_tree.specs.Sharing.{LimitTree, IsWithin}
use Rattle.line_rates.specs.declared.ask.Ask.{Ask}
use Rattle.line_rates.specs.declared.ask.Name.TheVariants.{Session}
use Rattle.line_rates.specs.declared.ask.Way.{Way}
use Rattle.line_rates.specs.FloorSums.{FloorsFit}
use Rattle.line_rates.specs.Names.{bears}
use Rattle.line_rates.specs.Rates.{Rates}
use Rattle.line_rates.specs.TickTree.{IsTickTree}
use Rattle.rate_floors.specs.declared.find.UserSessions.{UserSessions}
use Rattle.rate_floors.specs.Promises.{Promises, PromisesFit, user_key}

-- at most one ask for each session and way
abbrev pub HasOneAskEach : Rates → List Ask → Type 0
HasOneAskEach rates asks =
    (way : Way) (user session : ℕ) → count_by (bears rates (Session way user session)) asks ≤ 1

-- the asks of a user come from at most as many sessions as are counted
pub record IsOfCounted (asks : List Ask) (entry : UserSessions) : Type 0 where
  pub sessions : List ℕ
  pub few : length sessions ≤ entry.sessions
  pub each : (a : Ask) → Contains asks a → a.user ≡ user_key entry → Contains sessions a.session

-- Asks of counted sessions: at most one for each session and way, and for each user with a row from
-- at most as many sessions as are counted.
pub record AreOfCounted (p : Promises) (asks : List Ask) : Type 0 where
  pub once : HasOneAskEach p.rates asks
  pub few : All (IsOfCounted asks) p.users

-- In every tick, what these asks are guaranteed under each name is within its limit,
abbrev pub PromisesAreKept : Type 0
PromisesAreKept =
    (p : Promises) (asks : List Ask) → PromisesFit p → AreOfCounted p asks → (tick : ℕ)
    → FloorsFit p.rates tick asks

-- and the floors of the tick's tree are within its limits.
abbrev pub FloorsStayWithin : Type 0
FloorsStayWithin =
    (p : Promises) (asks : List Ask) → PromisesFit p → AreOfCounted p asks
    → (tick : ℕ) (t : LimitTree) → IsTickTree p.rates tick asks t → IsWithin t t.floors
