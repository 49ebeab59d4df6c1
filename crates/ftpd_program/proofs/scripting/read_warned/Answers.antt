use Rattle.std.proofs.Common.{refl}
use Rattle.ftpd_program.proofs.Scripts.{octets_of, text_read, unconfigured, warned_of}
use Rattle.ftpd_program.proofs.scripting.read_warned.Goals as goal

pub returns-in-Ok-clause-warned : goal.returns-in-Ok-clause-warned
returns-in-Ok-clause-warned g c =
    warned_of (g.L.Lookout.Shows c.args.lookout.now) c.args.path.now c.in-Ok.octets.items _ c.warned.result
    (text_read _ _ c.in-Ok.octets.items c.in-Ok.octets.items c.in-Ok.ensures.whole c.in-Ok.ensures.end refl)
    c.warned.ensures.warned

pub returns-in-Ok-clause-octets : goal.returns-in-Ok-clause-octets
returns-in-Ok-clause-octets g c =
    octets_of (λ read. read.2.items) c.in-Ok.octets.items _ c.warned.result
    (text_read _ _ c.in-Ok.octets.items c.in-Ok.octets.items c.in-Ok.ensures.whole c.in-Ok.ensures.end refl)
    c.warned.ensures.octets

pub returns-in-Ok-clause-refused : goal.returns-in-Ok-clause-refused
returns-in-Ok-clause-refused g c =
    unconfigured c.in-Ok.octets.items _ c.warned.result
    (text_read _ _ c.in-Ok.octets.items c.in-Ok.octets.items c.in-Ok.ensures.whole c.in-Ok.ensures.end refl)
    c.warned.ensures.refused
