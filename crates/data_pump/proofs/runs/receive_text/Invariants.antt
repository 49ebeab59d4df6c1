use Rattle.std.proofs.Common.{◌+◌, ◌-◌, ◌≤◌, length, take}
use Rattle.ftp_terms.specs.declared.data_type.DataType.TheVariants.{Ascii}
use Rattle.data_pump.specs.WireText.{cr_if, ReceivesOctets}
use Rattle.data_pump.proofs.runs.receive_text.Given as goal

abbrev pub invariant-runs : goal.invariant-runs
invariant-runs l = record {
  within : l.from ≤ length l.piece;
  few : l.count + length (cr_if l.held) ≤ l.from + length (cr_if l.holds_cr);
  received : ReceivesOctets Ascii (cr_if l.holds_cr) (take l.from l.piece) (take l.count l.text) (cr_if l.held);
}

abbrev pub decreases-runs : goal.decreases-runs
decreases-runs l = length l.piece - l.from
