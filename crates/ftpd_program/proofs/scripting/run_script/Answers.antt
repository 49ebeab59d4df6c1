use Rattle.ftpd_program.proofs.scripting.run_script.Goals as goal

pub returns-in-Ok-clause-served : goal.returns-in-Ok-clause-served
returns-in-Ok-clause-served g c = (c.in_ok-config.config, c.in_ok-config.ensures.config, c.in-Ok.ensures.served)

pub returns-in-Err-clause-unserved : goal.returns-in-Err-clause-unserved
returns-in-Err-clause-unserved g c = (c.in_ok-config.config, c.in_ok-config.ensures.config, c.in-Err.ensures.broken)
