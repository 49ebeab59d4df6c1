-- What a server keeps whose owner gives no signs.
use Rattle.std.proofs.Common.{◌≡◌, ◌≢◌, ◌≤◌, ◌*◌, ℕ, Bool, true, Option, Some, None, inl, inr, Result, Ok, Err, IfOk, IfSome, subst}
use Rattle.std.proofs.lemmas.Bool.{false≢true}
use Rattle.std.specs.declared.alloc.Global.{Global}
use Rattle.line_rates.specs.Rates.{Rates}
use Rattle.ftp_daemon.specs.SameRates.{may_hold}
use Rattle.paced_rounds.specs.Allowed.{AreAllowed}
use Rattle.paced_rounds.specs.Settled.{rounds_in}
use Rattle.paced_rounds.specs.Spans.{seconds_from}
use Rattle.paced_rounds.specs.declared.account.SettledRounds.{SettledRounds}
use Rattle.line_rates.specs.declared.fault.LimitsFault.{LimitsFault}
use Rattle.ftp_server.specs.Rows.{IsRefusedFor, no_others}
use Rattle.ftp_server.specs.declared.fault.FtpServerFault.{FtpServerFault}
use Rattle.ftp_server.specs.declared.fault.FtpServerFault.TheVariants.{Number}
use Rattle.ftp_server.specs.declared.ranges.NumberFault.{NumberFault}

-- the bound of a result, by rates that are the same
abbrev pub IsBound : (Rates → Bool) → ℕ → Result (SettledRounds Global) FtpServerFault → Type 0
IsBound allows rate result = IfOk result (λ settled. rate ≢ 0 → ((other : Rates) → allows other ≡ true → other.server ≡ rate) → settled.issued ≤ seconds_from settled.opened settled.latest * rate)

pub rated : (allows : Rates → Bool) (result : Result (SettledRounds Global) FtpServerFault) (limits rates : Rates) → limits ≡ rates → IsBound allows limits.server result → IsBound allows rates.server result
rated allows result limits rates same bound = subst (λ (r : Rates). IsBound allows r.server result) same bound

-- the rounds of a result, by rates that are the same
pub allowed_alike : (allows : Rates → Bool) (result : Result (SettledRounds Global) FtpServerFault) (limits rates : Rates) → limits ≡ rates → IfOk result (λ settled. AreAllowed (may_hold limits allows) (rounds_in settled)) → IfOk result (λ settled. AreAllowed (may_hold rates allows) (rounds_in settled))
allowed_alike allows result limits rates same holds = subst (λ (r : Rates). IfOk result (λ settled. AreAllowed (may_hold r allows) (rounds_in settled))) same holds

-- an owner without signs puts no other rates in force
pub alone : (rate : ℕ) (result : Result (SettledRounds Global) FtpServerFault) → IsBound no_others rate result → IfOk result (λ settled. rate ≢ 0 → settled.issued ≤ seconds_from settled.opened settled.latest * rate)
alone rate (Ok settled) bound = λ some. bound some (λ rates may. absurd (false≢true may))
alone rate (Err fault) bound = tt

-- the parts were refused, so the server is, for the same fault
pub err_number : {X Y : Type 0} (found : Option NumberFault) (made : Result X FtpServerFault) (served : Result Y FtpServerFault) (e v : FtpServerFault) → made ≡ Err e → served ≡ Err v → v ≡ e → IfSome found (λ fault. made ≡ Err (Number fault)) → IfSome found (λ fault. served ≡ Err (Number fault))
err_number None made served e v is so same holds = tt
err_number (Some fault) made served e v is so same holds = cc

either : {X Y : Type 0} (fault : LimitsFault) (made : Result X FtpServerFault) (served : Result Y FtpServerFault) (e v : FtpServerFault) → made ≡ Err e → served ≡ Err v → v ≡ e → IsRefusedFor fault made → IsRefusedFor fault served
either fault made served e v is so same (inl rates) = inl (cc)
either fault made served e v is so same (inr memory) = inr (cc)

pub err_refused : {X Y : Type 0} (found : Option LimitsFault) (made : Result X FtpServerFault) (served : Result Y FtpServerFault) (e v : FtpServerFault) → made ≡ Err e → served ≡ Err v → v ≡ e → IfSome found (λ fault. IsRefusedFor fault made) → IfSome found (λ fault. IsRefusedFor fault served)
err_refused None made served e v is so same holds = tt
err_refused (Some fault) made served e v is so same holds = either fault made served e v is so same holds
