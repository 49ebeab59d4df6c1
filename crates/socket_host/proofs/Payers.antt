-- Who is charged for what is on a ticket, from step to step.
use Rattle.std.proofs.Common.{ℕ, ◌≡◌, ◌∙◌, Bool, true, false, refl, ap}
use Rattle.socket_host.specs.Payers.{charged_on}
use Rattle.transfer_ticket.specs.Tickets.{asking, begun, is_busy, is_owner, tried}
use Rattle.transfer_ticket.specs.declared.view.TicketView.{TicketView}
use Rattle.transfer_ticket.specs.declared.view.TicketView.TheVariants.{Away, Missed, Idle, Busy, Runs}
use Rattle.transfer_worker.specs.declared.job.LaneJob.{LaneJob}

module _ {R K C : Type 0} where
  pub on_tried : (payer : ℕ) (v : TicketView (LaneJob R K C)) → charged_on payer (tried v) ≡ charged_on payer v
  on_tried payer Away = refl
  on_tried payer Missed = refl
  on_tried payer Idle = refl
  on_tried payer (Busy job asked before n) = refl
  on_tried payer (Runs job seen n) = refl

  pub on_begun : (payer : ℕ) (v : TicketView (LaneJob R K C)) → charged_on payer (begun v) ≡ charged_on payer v
  on_begun payer Away = refl
  on_begun payer Missed = refl
  on_begun payer Idle = refl
  on_begun payer (Busy job asked before n) = refl
  on_begun payer (Runs job seen n) = refl

  pub on_asking : (payer : ℕ) (v : TicketView (LaneJob R K C)) → charged_on payer (asking v) ≡ charged_on payer v
  on_asking payer Away = refl
  on_asking payer Missed = refl
  on_asking payer Idle = refl
  on_asking payer (Busy job asked before n) = refl
  on_asking payer (Runs job seen n) = refl

  pub on_idle : (payer : ℕ) (v : TicketView (LaneJob R K C)) → is_owner v ≡ true → is_busy v ≡ false → charged_on payer v ≡ payer
  on_idle payer Away owner idle = refl
  on_idle payer Missed owner idle = refl
  on_idle payer Idle owner idle = refl
  on_idle payer (Busy job asked before n) owner idle = absurd (cc)
  on_idle payer (Runs job seen n) owner idle = refl

  -- behind an ask to stop
  pub on_stopped : (payer : ℕ) (v w w' : TicketView (LaneJob R K C)) (over : Bool) → charged_on payer v ≡ payer → w ≡ begun v
      → (over ≡ false → w' ≡ asking w) → (over ≡ true → w' ≡ tried w) → charged_on payer w' ≡ payer
  on_stopped payer v w w' false is first asks over = ap (charged_on payer) (asks refl) ∙ (on_asking payer w ∙ (ap (charged_on payer) first ∙ (on_begun payer v ∙ is)))
  on_stopped payer v w w' true is first asks over = ap (charged_on payer) (over refl) ∙ (on_tried payer w ∙ (ap (charged_on payer) first ∙ (on_begun payer v ∙ is)))
