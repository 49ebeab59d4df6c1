use Rattle.ftpd_program.proofs.Scripts.{configured, text_read, unconfigured}
use Rattle.ftpd_program.proofs.scripting.read_config.Goals as goal

pub returns-in-Ok-clause-config : goal.returns-in-Ok-clause-config
returns-in-Ok-clause-config g c =
    configured c.as_slice.result.now _ c.judged.result
    (text_read _ _ c.in-Ok.octets.items c.as_slice.result.now c.in-Ok.ensures.whole c.in-Ok.ensures.end c.as_slice.ensures.value)
    c.judged.ensures.config

pub returns-in-Ok-clause-refused : goal.returns-in-Ok-clause-refused
returns-in-Ok-clause-refused g c =
    unconfigured c.as_slice.result.now _ c.judged.result
    (text_read _ _ c.in-Ok.octets.items c.as_slice.result.now c.in-Ok.ensures.whole c.in-Ok.ensures.end c.as_slice.ensures.value)
    c.judged.ensures.refused
