-- The waits of a session by the calls of its handler: for a login, and after a wrong password.
use Rattle.std.specs.Prelude.{◌≡◌, ℕ, Bool, true, false, cond}
use Rattle.std.specs.declared.alloc.Global.{Global}
use Rattle.client_patience.specs.declared.patience.Patience.{Patience}
use Rattle.client_patience.specs.declared.waits.Waits.{Waits}
use Rattle.session_table.specs.declared.actions.HookCall.{HookCall}
use Rattle.session_table.specs.declared.actions.HookCall.TheVariants.{Login, LoginFailed, Logout}

-- the connection is with a login from Login on, and without one from Logout on; no call is a sign
-- of life of the client
abbrev pub FollowsInWaits : Waits → HookCall Global → Waits → Type 0
FollowsInWaits old (Login name) new = (new.is_inside ≡ true) × (new.heard ≡ old.heard)
FollowsInWaits old (Logout name) new = (new.is_inside ≡ false) × (new.heard ≡ old.heard)
FollowsInWaits old _ new = new ≡ old

-- the reply that comes next is to a wrong password, whoever was logged in before
abbrev pub is_wrong_after : Bool → HookCall Global → Bool
is_wrong_after old (LoginFailed name) = true
is_wrong_after old _ = old

-- the seconds by which a reply is delayed
abbrev pub delay_of : Bool → Patience → ℕ
delay_of is_wrong patience = cond is_wrong patience.login_delay 0
