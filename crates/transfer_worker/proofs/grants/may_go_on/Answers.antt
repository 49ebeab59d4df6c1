use Rattle.std.proofs.Common.{◌+◌, [], ◌∷◌, ◌∙◌}
use Rattle.std.specs.Prelude.{replicate}
use Rattle.transfer_worker.specs.declared.gate.Go.TheVariants.{On, Later, Stop}
use Rattle.transfer_worker.specs.Passes.{pass_call}
use Rattle.transfer_worker.proofs.Adding.{passes_then}
use Rattle.transfer_worker.proofs.Steps.{later}
use Rattle.transfer_worker.proofs.grants.may_go_on.Goals as goal

pub returns-in-On-clause-passed : goal.returns-in-On-clause-passed
returns-in-On-clause-passed g c =
    let i = c.loop.invariant.3 in
    let t = c.args.transfer.now in
    (i.0, passes_then _ _ _ (replicate i.0 (pass_call t.session t.moved Later)) (pass_call t.session t.moved On ∷ []) i.1 c.in-On.ensures.passed)

pub loop-preserved : goal.loop-preserved
loop-preserved g c =
    let i = c.loop.invariant in
    let t = c.args.transfer.now in
    (tt, tt, c.pass.ensures.heard ∙ i.2, (i.3.0 + 1, later t.session t.moved i.3.0 _ _ _ i.3.1 c.in-Later.ensures.passed))

pub returns-in-Stop-clause-passed : goal.returns-in-Stop-clause-passed
returns-in-Stop-clause-passed g c =
    let i = c.loop.invariant.3 in
    let t = c.args.transfer.now in
    (i.0, passes_then _ _ _ (replicate i.0 (pass_call t.session t.moved Later)) (pass_call t.session t.moved Stop ∷ []) i.1 c.in-Stop.ensures.passed)
