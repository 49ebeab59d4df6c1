use Rattle.line_rates.proofs.TickLemmas.{ten_ticks}
use Rattle.line_rates.proofs.laws.ten_ticks_make_a_second.Goals as goal

pub returns : goal.returns
returns c = record { second = ten_ticks }
