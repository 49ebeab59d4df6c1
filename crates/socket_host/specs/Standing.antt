-- The user of a session.
use Rattle.std.specs.Prelude.{ℕ, ◌≡◌, Bool, false, true, nat_eq, List, Option, Some, None, option_map, unwrap_or}
use Rattle.std.specs.Arc.{arc_value}
use Rattle.std.specs.FinMap as map
use Rattle.std.specs.declared.alloc.Global.{Global}
use Rattle.authorizer.specs.Users.{Users}
use Rattle.session_table.specs.declared.actions.HookCall.{HookCall}
use Rattle.session_table.specs.declared.actions.HookCall.TheVariants.{Login, Logout}
use Rattle.socket_host.specs.declared.standing.Standing.{Standing}

abbrev is_number : Option ℕ → ℕ → Bool
is_number None number = false
is_number (Some n) number = nat_eq n number

-- the number of the user of a name; 0 for no user
abbrev pub number_of : Users → List ℕ → ℕ
number_of users name = unwrap_or (option_map (λ user. user.number) (map.get users name)) 0

-- a user of this name has this number
abbrev pub is_user : Users → List ℕ → ℕ → Bool
is_user users name number =
    is_number (option_map (λ user. user.number) (map.get users name)) number

-- a login is that of the user of the name, by the terms that are held; whoever is logged out is
-- not inside; no other event changes anything
abbrev pub Follows : Standing → HookCall Global → Standing → Type 0
Follows old (Login name) new =
    (new.user ≡ number_of (arc_value old.held.terms).users.users name) × (new.is_inside ≡ true)
    × (new.held ≡ old.held)
Follows old (Logout name) new =
    (new.is_inside ≡ false) × (new.held ≡ old.held) × (new.user ≡ old.user)
Follows old _ new = new ≡ old
