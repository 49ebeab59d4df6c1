use Rattle.std.proofs.Common.{ap, refl, ◌∙◌}
use Rattle.data_pump.specs.Uploads.{InFlow}
use Rattle.data_pump.proofs.UploadLemmas.{receiving_at_open}
use Rattle.data_pump.proofs.upload.DataIn.open.Goals as goal

pub returns-in-Ok-clause-receiving : goal.returns-in-Ok-clause-receiving
returns-in-Ok-clause-receiving g c = λ before octets p q.
    let flow = c.in-Ok.ensures.flow in
    receiving_at_open g.K.Read.remaining g.T.Sink.collected g.T.Sink.target before octets _
    (ap (λ (f : InFlow g.row.K.Denot g.row.T.Denot). f.held) flow) refl
    (ap (λ (f : InFlow g.row.K.Denot g.row.T.Denot). g.K.Read.remaining f.connection) flow ∙ q)
    (ap (λ (f : InFlow g.row.K.Denot g.row.T.Denot). g.T.Sink.collected f.sink) flow ∙ p)
