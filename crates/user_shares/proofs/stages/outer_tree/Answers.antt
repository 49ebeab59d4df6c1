use Rattle.std.proofs.Common.{List, sym, subst}
use Rattle.limit_tree.specs.declared.place.NodeKind.{NodeKind}
use Rattle.user_shares.specs.Kinds.{IsOuterKind}
use Rattle.user_shares.specs.Rebuilt.{AreSoundKinds, HasKinds, IsReshaped}
use Rattle.user_shares.proofs.Alike.{alike-of, has-kinds, outer-keeps}
use Rattle.user_shares.proofs.SoundKinds.{outer-sound}
use Rattle.user_shares.proofs.stages.outer_tree.Goals as goal

pub outer_kinds-requires-clause-owners : goal.outer_kinds-requires-clause-owners
outer_kinds-requires-clause-owners g c = c.requires.users.each

pub outer_kinds-requires-clause-few : goal.outer_kinds-requires-clause-few
outer_kinds-requires-clause-few g c = c.requires.users.few

pub outer_kinds-requires-clause-floors : goal.outer_kinds-requires-clause-floors
outer_kinds-requires-clause-floors g c = c.requires.floors.each

pub rebuilt-requires-clause-kinds : goal.rebuilt-requires-clause-kinds
rebuilt-requires-clause-kinds g c = subst (λ (ks : List NodeKind). HasKinds c.args.flat.now ks) (sym c.deref.ensures.value) (has-kinds c.args.flat.now (IsOuterKind c.args.owners.now c.args.most.now c.args.floors.now) c.in_ok-kinds.kinds.items (outer-keeps c.args.owners.now c.args.most.now c.args.floors.now) c.in_ok-kinds.ensures.kinds)

pub rebuilt-requires-clause-faultless : goal.rebuilt-requires-clause-faultless
rebuilt-requires-clause-faultless g c =
    subst (λ (ks : List NodeKind). AreSoundKinds c.args.flat.now ks) (sym c.deref.ensures.value)
    (outer-sound c.args.flat.now c.args.owners.now c.args.most.now c.args.floors.now c.in_ok-kinds.kinds.items c.requires.sound.sound c.nodes-nodes.ensures.flat c.requires.users c.requires.heads c.requires.ranges c.requires.most c.requires.small c.requires.floors c.in_ok-kinds.ensures.kinds)

pub returns : goal.returns
returns g c = record { alike = alike-of c.args.flat.now (IsOuterKind c.args.owners.now c.args.most.now c.args.floors.now) c.in_ok-kinds.kinds.items c.in_ok-tree.tree c.in_ok-kinds.ensures.kinds (subst (λ (ks : List NodeKind). IsReshaped c.args.flat.now ks c.in_ok-tree.tree) c.deref.ensures.value c.in_ok-tree.ensures.reshaped) }
