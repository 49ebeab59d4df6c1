use Rattle.std.proofs.Common.{List, sym, subst}
use Rattle.limit_tree.specs.declared.place.NodeKind.{NodeKind}
use Rattle.user_shares.specs.Kinds.{IsInnerKind}
use Rattle.user_shares.specs.Rebuilt.{AreSoundKinds, HasKinds, IsReshaped}
use Rattle.user_shares.proofs.Alike.{alike-of, has-kinds, inner-keeps}
use Rattle.user_shares.proofs.SoundKinds.{inner-sound}
use Rattle.user_shares.proofs.stages.inner_tree.Goals as goal

pub rebuilt-requires-clause-kinds : goal.rebuilt-requires-clause-kinds
rebuilt-requires-clause-kinds g c = subst (λ (ks : List NodeKind). HasKinds c.args.flat.now ks) (sym c.deref.ensures.value) (has-kinds c.args.flat.now (IsInnerKind c.args.owners.now) c.in_ok-kinds.kinds.items (inner-keeps c.args.owners.now) c.in_ok-kinds.ensures.kinds)

pub rebuilt-requires-clause-faultless : goal.rebuilt-requires-clause-faultless
rebuilt-requires-clause-faultless g c = subst (λ (ks : List NodeKind). AreSoundKinds c.args.flat.now ks) (sym c.deref.ensures.value) (inner-sound c.args.flat.now c.args.owners.now c.in_ok-kinds.kinds.items c.requires.sound.sound c.nodes-nodes.ensures.flat c.in_ok-kinds.ensures.kinds)

pub returns : goal.returns
returns g c = record { alike = alike-of c.args.flat.now (IsInnerKind c.args.owners.now) c.in_ok-kinds.kinds.items c.in_ok-tree.tree c.in_ok-kinds.ensures.kinds (subst (λ (ks : List NodeKind). IsReshaped c.args.flat.now ks c.in_ok-tree.tree) c.deref.ensures.value c.in_ok-tree.ensures.reshaped) }
