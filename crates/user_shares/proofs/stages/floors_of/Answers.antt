use Rattle.std.proofs.Common.{arith, ◌≡◌, ◌∙◌, ℕ, length, take, ap}
use Rattle.std.proofs.Math.Seq.{take-length}
use Rattle.limit_tree.specs.Outline.{limits}
use Rattle.limit_tree.proofs.Leaves.{length-wants_in, length-floors_in}
use Rattle.user_shares.proofs.Added.{floors-more}
use Rattle.user_shares.proofs.stages.floors_of.Goals as goal

pub loop-leaf-preserved : goal.loop-leaf-preserved
loop-leaf-preserved g c =
    let ps = c.args.flat.now in
    floors-more (limits ps).floors c.loop-leaf.floors.items _ c.loop-leaf.leaf c.floor.result (omega (arith, c.leaves-leaves.ensures.leaves, length-wants_in ps, length-floors_in ps)) c.loop-leaf.invariant c.floor.ensures.floor c.in_ok-push.ensures.items

pub returns : goal.returns
returns g c =
    let ps = c.args.flat.now in
    let done : c.loop-leaf.leaf ≡ length (limits ps).floors = omega (arith, c.leaves-leaves.ensures.leaves, length-wants_in ps, length-floors_in ps) in
    record { floors = c.loop-leaf.invariant ∙ (ap (λ (n : ℕ). take n (limits ps).floors) done ∙ take-length (limits ps).floors) }
