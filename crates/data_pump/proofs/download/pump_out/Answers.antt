use Rattle.data_pump.proofs.DownloadLemmas.{sending_moved, sending_ended}
use Rattle.data_pump.proofs.download.pump_out.Goals as goal

pub returns-clause-sending : goal.returns-clause-sending
returns-clause-sending g c = λ before text sending.
    sending_moved g.S.Source.remaining g.K.Write.contents c.octets.result c.args.out.now.flow c.pump-pumped.new.self.flow c.pump-pumped.result before text
    c.pump-pumped.ensures.moved sending

pub returns-clause-whole : goal.returns-clause-whole
returns-clause-whole g c = λ before text sending ended.
    sending_ended g.S.Source.remaining g.K.Write.contents c.pump-pumped.new.self.flow before text
    (sending_moved g.S.Source.remaining g.K.Write.contents c.octets.result c.args.out.now.flow c.pump-pumped.new.self.flow c.pump-pumped.result before text
    c.pump-pumped.ensures.moved sending)
    (c.pump-pumped.ensures.moved.at_end ended)
