use Rattle.std.proofs.Common.{ap, subst}
use Rattle.data_pump.specs.Downloads.{OutFlow, OutView, TopsUp}
use Rattle.data_pump.proofs.DownloadLemmas.{sending_topped}
use Rattle.data_pump.proofs.download.DataOut.top_up.Goals as goal

pub returns-clause-sending : goal.returns-clause-sending
returns-clause-sending g c = λ before text sending.
    sending_topped g.S.Source.remaining g.K.Write.contents c.args.self.now.flow c.top_up.new.self before text
    (subst (λ (f : OutFlow g.row.S.Denot g.row.K.Denot). TopsUp g.S.Source.remaining f c.top_up.new.self) (ap (λ (d : OutView g.row.S.Denot g.row.K.Denot). d.flow) c.self.view_is) c.top_up.ensures.topped) sending
