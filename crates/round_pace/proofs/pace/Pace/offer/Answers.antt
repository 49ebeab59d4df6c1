use Rattle.std.proofs.Common.{◌≡◌, ℕ, ◌+◌, ◌-◌, ◌/◌, ◌^◌, ap, ◌∙◌}
use Rattle.std.specs.Prelude.{min}
use Rattle.round_pace.specs.Offered.{offer_all, offer_round}
use Rattle.round_pace.specs.Paced.{Paced}
use Rattle.round_pace.proofs.HandedIn.{hands_rows_in}
use Rattle.round_pace.proofs.Handing.{offered_again}
use Rattle.round_pace.proofs.pace.Pace.offer.Goals as goal

pub returns-then-self-clause-round : goal.returns-then-self-clause-round
returns-then-self-clause-round g c =
    let kept = c.self.invariant in
    let tick : ℕ = c.args.now / 2000 in
    let p : Paced = record {
      begun = c.self.inside.begun;
      moment = c.self.inside.moment;
      server = c.self.inside.server;
      down = c.self.inside.down;
      up = c.self.inside.up;
      groups = c.self.inside.groups.items;
      users = c.self.inside.users.items;
      offered = c.self.inside.offered;
    } in
    let same : offer_all p ≡ p.offered = hands_rows_in p kept.groups_rise kept.users_rise kept.are_groups kept.are_users ∙ kept.handed c.if-self.true in
    let moved : c.saturating_add-self-inside.result ≡ min (p.moment + 1000) (2 ^ 64 - 1) = cc in
    ap (λ (m : ℕ). record { begun = p.begun; moment = m; server = p.server; down = p.down; up = p.up; groups = p.groups; users = p.users; offered = p.offered }) moved
    ∙ offered_again tick p c.if-tick-self.true same
    ∙ ap (offer_round tick) c.self.view_is
