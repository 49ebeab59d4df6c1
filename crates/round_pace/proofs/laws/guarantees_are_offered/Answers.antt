use Rattle.round_pace.proofs.Guaranteeing.{stretches_are_guaranteed, next_is_guaranteed, histories_are_guaranteed}
use Rattle.round_pace.proofs.laws.guarantees_are_offered.Goals as goal

pub returns : goal.returns
returns c = record {
  stretches = stretches_are_guaranteed c.promises_are_kept.ensures.kept;
  next = next_is_guaranteed c.promises_are_kept.ensures.kept;
  histories = histories_are_guaranteed c.promises_are_kept.ensures.kept;
}
