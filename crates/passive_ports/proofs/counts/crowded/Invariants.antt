use Rattle.passive_ports.proofs.Crowds.{AllFit}
use Rattle.passive_ports.proofs.counts.crowded.Given as goal

abbrev pub invariant-loop-address : goal.invariant-loop-address
invariant-loop-address g l = AllFit l.counts l.limit l.address-iterator → AllFit l.counts l.limit l.counts.entries
