use Rattle.passive_ports.proofs.open.+open_passive.Given as goal

abbrev pub decreases-open_passive : goal.decreases-open_passive
decreases-open_passive g l = l.tries
