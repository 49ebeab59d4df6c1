-- The next step of a server to its end, by the signs of its owner.
use Rattle.std.specs.Prelude.{ℕ, Bool, nat_eq, if◌then◌else◌, Option, Some, None}
use Rattle.client_patience.specs.Waits.{is_over}
use Rattle.client_patience.specs.declared.patience.Patience.{Patience}
use Rattle.ftp_daemon.specs.declared.draining.EndStep.{EndStep}
use Rattle.ftp_daemon.specs.declared.draining.EndStep.TheVariants.{Nothing, Drain, End, Cut}

-- a server that drains ends once no client is connected, and cuts transfers once their time is over
abbrev pub due_since : Option ℕ → Bool → ℕ → ℕ → Patience → EndStep
due_since None is_to_drain clients now patience = if is_to_drain then Drain else Nothing
due_since (Some since) is_to_drain clients now patience =
    if nat_eq clients 0 then End
    else if is_over since now patience.drain_timeout then Cut
    else Nothing

-- the sign that it is to end comes before all others
abbrev pub due_by : Bool → Bool → Option ℕ → ℕ → ℕ → Patience → EndStep
due_by is_up is_to_drain since clients now patience =
    if is_up then End else due_since since is_to_drain clients now patience
