use Rattle.machine_parts.proofs.Unread.{says-unremoved}
use Rattle.machine_parts.proofs.file_reading.unremoved.Goals as goal

pub returns : goal.returns
returns c = record {
  words = says-unremoved c.args.path.now c.as_str.result.now c.unremoved_for.result c.unremoved_for.ensures.words;
}
