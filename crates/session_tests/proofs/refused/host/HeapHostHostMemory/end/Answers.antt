use Rattle.control_session.proofs.Lending.{lifts}
use Rattle.session_tests.proofs.refused.host.HeapHostHostMemory.end.Goals as goal

pub returns-in-Some-clause-row : goal.returns-in-Some-clause-row
returns-in-Some-clause-row g c = lifts c.args.event.now c.in-Some.event _ (cc) (0, _, _, _, _, _, tt, c.end_by.ensures.row)
