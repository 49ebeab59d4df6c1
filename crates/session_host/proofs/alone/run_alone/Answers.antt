use Rattle.std.proofs.Common.{◌≡◌, refl}
use Rattle.session_host.proofs.Breaking.{breaks}
use Rattle.session_host.proofs.Lending.{lent_none, lent_then, sole_floors, sole_lent, sole_seen}
use Rattle.session_host.proofs.Seeing.{served_keeps, served_seen}
use Rattle.session_host.proofs.Reporting.{served_reported}
use Rattle.session_host.specs.Alone.{SameLent, parts}
use Rattle.session_host.proofs.alone.run_alone.Goals as goal

pub returns-clause-whole : goal.returns-clause-whole
returns-clause-whole g c =
    let users = c.args.host.now.users.now.users in
    served_seen _ _ parts (λ host. host.users.now.users ≡ users) (sole_seen g.C.Moments.Gives g.D.DataSide.Asks g.H.Hooks.Reported g.R.TextReader.remaining g.R.TextReader.may_fail g.W.TextWriter.contents g.W.TextWriter.may_refuse users)
    _ _ _ _ _ _ refl c.run_on.ensures.whole

pub returns-clause-floors : goal.returns-clause-floors
returns-clause-floors g c =
    c.run_on.ensures.floors (λ host. host.floors.now)
    (sole_floors g.C.Moments.Gives g.D.DataSide.Asks g.H.Hooks.Reported g.R.TextReader.remaining g.R.TextReader.may_fail g.W.TextWriter.contents g.W.TextWriter.may_refuse)

pub returns-clause-same : goal.returns-clause-same
returns-clause-same g c =
    served_keeps _ _ SameLent lent_none lent_then
    (sole_lent g.C.Moments.Gives g.D.DataSide.Asks g.H.Hooks.Reported g.R.TextReader.remaining g.R.TextReader.may_fail g.W.TextWriter.contents g.W.TextWriter.may_refuse)
    _ _ _ _ _ c.run_on.ensures.whole

pub returns-clause-reported : goal.returns-clause-reported
returns-clause-reported g c =
    let users = c.args.host.now.users.now.users in
    served_reported users g.C.Moments.Gives g.D.DataSide.Asks g.H.Hooks.Reported g.R.TextReader.remaining g.R.TextReader.may_fail g.W.TextWriter.contents g.W.TextWriter.may_refuse _ _ _ _ _ _
    (served_seen _ _ parts (λ host. host.users.now.users ≡ users) (sole_seen g.C.Moments.Gives g.D.DataSide.Asks g.H.Hooks.Reported g.R.TextReader.remaining g.R.TextReader.may_fail g.W.TextWriter.contents g.W.TextWriter.may_refuse users)
    _ _ _ _ _ _ refl c.run_on.ensures.whole)

pub returns-clause-breaks : goal.returns-clause-breaks
returns-clause-breaks g c =
    let users = c.args.host.now.users.now.users in
    breaks users g.C.Moments.Gives g.D.DataSide.Asks g.H.Hooks.Reported g.R.TextReader.remaining g.R.TextReader.may_fail g.W.TextWriter.contents g.W.TextWriter.may_refuse _ _ _ _ _ _
    (served_seen _ _ parts (λ host. host.users.now.users ≡ users) (sole_seen g.C.Moments.Gives g.D.DataSide.Asks g.H.Hooks.Reported g.R.TextReader.remaining g.R.TextReader.may_fail g.W.TextWriter.contents g.W.TextWriter.may_refuse users)
    _ _ _ _ _ _ refl c.run_on.ensures.whole)
