-- A session of the server: who is served, and who is charged for what it moves.
use Rattle.std.specs.Prelude.{ℕ, ◌≡◌, ◌⊎◌, List, Result}
use Rattle.std.specs.declared.alloc.Global.{Global}
use Rattle.authorizer.specs.Users.{Users}
use Rattle.control_session.specs.Calls.{HostCall}
use Rattle.control_session.specs.Charges.{IsChargedByLogins}
use Rattle.control_session.specs.Rows.{Outcome}
use Rattle.control_session.specs.Sessions.{new_session}
use Rattle.control_session.specs.Sides.{Given}
use Rattle.control_session.specs.declared.fault.ControlFault.{ControlFault}
use Rattle.rate_floors.specs.Promises.{Promises}
use Rattle.session_table.specs.Steps.{Standing}
use Rattle.session_table.specs.declared.settings.Settings.{Settings}

-- There was no memory to begin; or, for some settings, it was a whole session in which each step is
-- for the users of the login, and each transfer is charged to the user who was logged in last.
-- `users`, `user` and `before` are what the host had before it, and `after` who is charged then.
abbrev pub IsHosted : {H A S R K : Type 0}
    → (Users → Standing → Given K → ℕ → S → S → Promises → Outcome A R K → Type 0)
    → (H → HostCall A S R K → H → Type 0) → ℕ → List ℕ → H → H → Users → ℕ → ℕ → ℕ → Type 0
IsHosted Row Does turns peer host host' users user before after =
    (host' ≡ host)
    ⊎ ((settings : Settings Global) × (result : Result (Unit {0}) ControlFault)
    × IsChargedByLogins Row Does turns result (new_session settings peer) host host'
    users user before after)
