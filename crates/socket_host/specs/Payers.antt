-- The user who is charged for the transfer on a ticket.
use Rattle.std.specs.Prelude.{ℕ}
use Rattle.transfer_ticket.specs.declared.view.TicketView.{TicketView}
use Rattle.transfer_ticket.specs.declared.view.TicketView.TheVariants.{Away, Missed, Idle, Busy, Runs}
use Rattle.transfer_worker.specs.declared.job.LaneJob.{LaneJob}
use Rattle.transfer_worker.specs.declared.job.LaneJob.TheVariants.{Send, Take}

module _ {R K C : Type 0} where
  abbrev pub user_of : LaneJob R K C → ℕ
  user_of (Send user session source connection data_type) = user
  user_of (Take user session connection sink data_type) = user

  -- the number charged for the transfer that the session put on its ticket; this number if there is
  -- none
  abbrev pub charged_on : ℕ → TicketView (LaneJob R K C) → ℕ
  charged_on payer Away = payer
  charged_on payer Missed = payer
  charged_on payer Idle = payer
  charged_on payer (Busy job asked begun tries) = user_of job
  charged_on payer (Runs job seen looks) = payer
