use Rattle.std.proofs.Common.{◌≡◌, ◌≤◌, []}
use Rattle.std.specs.Prelude.{vec_len, vec_capacity}
use Rattle.desk_rule.specs.declared.view.DeskView.TheVariants.{Round}
use Rattle.lane_desk.specs.Begun.{dealt_round}
use Rattle.lane_desk.specs.Open.{AreFresh}
use Rattle.lane_desk.proofs.open.deal.Given as goal

abbrev pub invariant-loop-lane : goal.invariant-loop-lane
invariant-loop-lane g l = (l.round.table_id ≡ l.initial.round.table_id) × (l.round.me ≡ (Round (dealt_round l.lanes l.lane), [])) × (vec_len l.seats ≡ l.lane) × (l.lanes ≤ vec_capacity l.seats) × AreFresh l.shared.table_id l.lane l.seats.items
