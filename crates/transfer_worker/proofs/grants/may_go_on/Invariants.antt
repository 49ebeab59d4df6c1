use Rattle.std.proofs.Common.{◌≡◌, ℕ}
use Rattle.std.specs.Prelude.{replicate}
use Rattle.transfer_worker.specs.declared.gate.Go.TheVariants.{Later}
use Rattle.transfer_worker.specs.Passes.{pass_call, Passes}
use Rattle.transfer_worker.proofs.grants.may_go_on.Given as goal

abbrev pub invariant-loop : goal.invariant-loop
invariant-loop g l =
    (goal.iterator-loop g).can_next l.iterator' × (goal.iterator-loop g).is_finite l.iterator'
    × (g.G.Gate.heard l.gate ≡ g.G.Gate.heard l.initial.gate)
    × ((laters : ℕ) × Passes (g.G.Gate.passed l.initial.gate) (g.G.Gate.passed l.gate) (replicate laters (pass_call l.fn.transfer.session l.fn.transfer.moved Later)))
