use Rattle.std.proofs.Common.{arith, ℕ, List, subst, ap, sum}
use Rattle.limit_tree.specs.Sharing.{IsDeepestFull}
use Rattle.limit_tree.specs.Outline.{limits}
use Rattle.limit_tree.specs.declared.place.Place.{Place}
use Rattle.limit_tree.proofs.Sums.{sum-wanted}
use Rattle.limit_tree.proofs.tree.Tree.full_above.Goals as goal

pub new-look-requires : goal.new-look-requires
new-look-requires g c = omega (arith, c.self.invariant.few_octets, c.self.invariant.few_leaves, ap (λ (ps : List Place). sum (limits ps).wants) c.self.view_is, sum-wanted (limits c.args.self.now) c.args.grants.now c.requires.grants)

pub returns : goal.returns
returns g c =
    let saw = c.walk.ensures.saw c.new-look.result c.new-look.ensures.start in
    let P : List ℕ → ℕ → Type 0 = λ grants leaf. IsDeepestFull (limits c.args.self.now) grants leaf c.walk.new.visitor.found in
    record { deepest = subst (λ (leaf : ℕ). P c.args.grants.now leaf) c.new-look.ensures.leaf (subst (λ (grants : List ℕ). P grants c.new-look.result.leaf) c.new-look.ensures.grants saw.found) }
