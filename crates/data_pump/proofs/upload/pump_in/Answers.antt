use Rattle.data_pump.proofs.UploadLemmas.{receiving_pumped}
use Rattle.data_pump.proofs.upload.pump_in.Goals as goal

pub returns-clause-receiving : goal.returns-clause-receiving
returns-clause-receiving g c = λ before octets receiving.
    let pumped = c.pump-pumped.ensures in
    receiving_pumped g.K.Read.remaining g.T.Sink.collected g.T.Sink.target c.octets.result c.args.upload.now c.pump-pumped.new.self c.pump-pumped.result
    before octets pumped.moved pumped.over pumped.last receiving
