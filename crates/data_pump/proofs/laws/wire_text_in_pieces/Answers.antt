use Rattle.data_pump.proofs.WireLemmas.{sent-append}
use Rattle.data_pump.proofs.laws.wire_text_in_pieces.Goals as goal

pub returns : goal.returns
returns c = record { pieces = sent-append }
