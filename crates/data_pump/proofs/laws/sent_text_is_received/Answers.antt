use Rattle.data_pump.proofs.WireLemmas.{received-sent}
use Rattle.data_pump.proofs.laws.sent_text_is_received.Goals as goal

pub returns : goal.returns
returns c = record { received = received-sent }
