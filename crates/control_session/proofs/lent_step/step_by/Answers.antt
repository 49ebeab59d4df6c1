use Rattle.session_table.specs.declared.inputs.Input.TheVariants.{DataReady, TransferEnded}
use Rattle.control_session.proofs.Lending.{lifts}
use Rattle.control_session.proofs.lent_step.step_by.Goals as goal

pub returns-in-Some-TransferEnded-clause-row : goal.returns-in-Some-TransferEnded-clause-row
returns-in-Some-TransferEnded-clause-row g c =
    lifts c.args.input.now (TransferEnded c.in-Some-TransferEnded.end c.in-Some-TransferEnded.sink) _ (cc) (c.step_end.ensures.row c.args.floors.now)

pub returns-in-Some-DataReady-clause-row : goal.returns-in-Some-DataReady-clause-row
returns-in-Some-DataReady-clause-row g c =
    lifts c.args.input.now (DataReady c.in-Some-DataReady.port) _ (cc) (c.step_ready.ensures.row c.args.moment c.args.store.now c.args.floors.now)
