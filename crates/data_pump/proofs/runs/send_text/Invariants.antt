use Rattle.std.proofs.Common.{◌≡◌, ◌-◌, ◌*◌, ◌≤◌, length, take}
use Rattle.data_pump.specs.WireText.{sent_text}
use Rattle.data_pump.proofs.runs.send_text.Given as goal

abbrev pub invariant-lines : goal.invariant-lines
invariant-lines l = record {
  within : l.from ≤ length l.piece;
  most : l.count ≤ 2 * l.from;
  least : l.from ≤ l.count;
  sent : take l.count l.wire ≡ sent_text (take l.from l.piece);
}

abbrev pub decreases-lines : goal.decreases-lines
decreases-lines l = length l.piece - l.from
