-- The part of a grant that is taken from each session of its user.
use Rattle.std.specs.Prelude.{ℕ, ◌+◌, ◌-◌, min, max, ◌&&◌, nat_eq, if◌then◌else◌, List, [], ◌∷◌, sum_by}
use Rattle.line_rates.specs.declared.ask.Way.{Way}
use Rattle.line_rates.specs.Granted.{Granted}
use Rattle.line_rates.specs.Names.{same_way}

-- the octets that grants are to a session of a user
abbrev pub session_octets : Way → ℕ → ℕ → List Granted → ℕ
session_octets way user session gs =
    sum_by (λ g. if same_way g.ask.way way
    && (nat_eq g.ask.user user && nat_eq g.ask.session session) then g.octets else 0) gs

-- the most that all of these grants are to one session of a user, of those sessions that some of
-- them are to
abbrev pub most_to : Way → ℕ → List Granted → List Granted → ℕ
most_to way user all [] = 0
most_to way user all (g ∷ gs) =
    max (if same_way g.ask.way way && nat_eq g.ask.user user
    then session_octets way user g.ask.session all else 0)
    (most_to way user all gs)

-- Sessions of a user have one credit, what each of them has left at least. So of a grant, that is
-- taken from it by which the session has been granted more in its round than any session of the
-- user before: all grants of a round take the most that one session is granted.
abbrev pub own_part : List Granted → Granted → ℕ
own_part before g =
    min g.octets (session_octets g.ask.way g.ask.user g.ask.session before + g.octets
    - most_to g.ask.way g.ask.user before before)
