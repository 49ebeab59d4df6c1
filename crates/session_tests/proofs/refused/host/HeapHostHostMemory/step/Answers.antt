use Rattle.std.proofs.Common.{refl}
use Rattle.control_session.proofs.Lending.{lend, lend_refused}
use Rattle.control_session.specs.Sides.{back_in}
use Rattle.session_tests.proofs.refused.host.HeapHostHostMemory.step.Goals as goal

pub returns-clause-row : goal.returns-clause-row
returns-clause-row g c = lend c.args.input.now c.step_by.result _ _ (λ x v row. (0, _, _, _, _, _, tt, row)) c.step_by.ensures.row

pub returns-clause-refused : goal.returns-clause-refused
returns-clause-refused g c = lend_refused c.args.input.now c.step_by.result _ _ (λ input. back_in input) _ (λ input same stopped. ((0, _, _, _, c.step_by.new.floors, tt, stopped), refl)) c.step_by.ensures.unchanged c.step_by.ensures.stopped c.step_by.ensures.back
