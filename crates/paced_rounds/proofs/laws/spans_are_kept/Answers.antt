use Rattle.paced_rounds.proofs.SpanLemmas.{spans_are_kept}
use Rattle.paced_rounds.proofs.laws.spans_are_kept.Goals as goal

pub returns : goal.returns
returns c = record { kept = spans_are_kept }
