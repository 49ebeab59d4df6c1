-- Peers in a round, by users and sessions.
use Rattle.std.specs.Prelude.{◌≡◌, ◌≤◌, List, count_by}
use Rattle.std.specs.FinMap as finite
use Rattle.line_rates.specs.declared.ask.Ask.{Ask}
use Rattle.line_rates.specs.declared.ask.Name.{Name}
use Rattle.line_rates.specs.declared.ask.Name.TheVariants.{User, Session}
use Rattle.line_rates.specs.Names.{bears}
use Rattle.line_rates.specs.Rates.{Rates, group_of, user_rate, session_rate, floor_rate}
use Rattle.lane_desk.specs.Peers.{ArePeers}

-- no two asks count under the name
abbrev pub IsOfOne : Rates → List Ask → Name → Type 0
IsOfOne rates asks n = count_by (bears rates n) asks ≤ 1

-- the user of an ask has no rates and no guarantee of its own in the way of the ask
pub record IsUnrated (rates : Rates) (a : Ask) : Type 0 where
  pub user : user_rate (finite.get rates.users a.user) a.way ≡ 0
  pub session : session_rate (finite.get rates.users a.user) a.way ≡ 0
  pub guarantee : floor_rate (finite.get rates.users a.user) a.way ≡ 0

-- Two sessions of a user are peers in a way, if each has one ask.
abbrev pub SessionsArePeers : Type 0
SessionsArePeers = (rates : Rates) (asks : List Ask) (a b : Ask) → a.way ≡ b.way → a.user ≡ b.user
    → IsOfOne rates asks (Session a.way a.user a.session)
    → IsOfOne rates asks (Session b.way b.user b.session) → ArePeers rates asks a b

-- Two users of one group, or of none, without rates and guarantees of their own are peers in a way,
-- if each has one ask.
abbrev pub UsersArePeers : Type 0
UsersArePeers = (rates : Rates) (asks : List Ask) (a b : Ask) → a.way ≡ b.way
    → group_of rates a.user ≡ group_of rates b.user → IsUnrated rates a → IsUnrated rates b
    → IsOfOne rates asks (User a.way a.user) → IsOfOne rates asks (User b.way b.user)
    → ArePeers rates asks a b
