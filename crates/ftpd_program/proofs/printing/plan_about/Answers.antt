use Rattle.ftpd_program.proofs.printing.plan_about.Goals as goal

pub returns-in-Err-clause-refused : goal.returns-in-Err-clause-refused
returns-in-Err-clause-refused c = c.unplanned.ensures.refused c.args.octets.now c.in-Err.ensures.fault
