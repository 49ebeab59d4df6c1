use Rattle.std.proofs.Common.{arith, List, sym, subst}
use Rattle.limit_tree.specs.declared.place.NodeKind.{NodeKind}
use Rattle.user_shares.specs.Kinds.{IsTightKind}
use Rattle.user_shares.specs.Rebuilt.{AreSoundKinds, HasKinds, IsReshaped}
use Rattle.user_shares.proofs.Alike.{alike-of, has-kinds, tight-keeps}
use Rattle.user_shares.proofs.SoundKinds.{tight-sound}
use Rattle.user_shares.proofs.stages.tight_tree.Goals as goal

pub tight_kinds-requires-clause-totals : goal.tight_kinds-requires-clause-totals
tight_kinds-requires-clause-totals g c = omega (arith, c.requires.totals.within.wanted.leaves, c.requires.totals.is_outer.each)

pub rebuilt-requires-clause-kinds : goal.rebuilt-requires-clause-kinds
rebuilt-requires-clause-kinds g c = subst (λ (ks : List NodeKind). HasKinds c.args.flat.now ks) (sym c.deref.ensures.value) (has-kinds c.args.flat.now (IsTightKind c.args.users.now c.args.totals.now) c.in_ok-kinds.kinds.items (tight-keeps c.args.users.now c.args.totals.now) c.in_ok-kinds.ensures.kinds)

pub rebuilt-requires-clause-faultless : goal.rebuilt-requires-clause-faultless
rebuilt-requires-clause-faultless g c = subst (λ (ks : List NodeKind). AreSoundKinds c.args.flat.now ks) (sym c.deref.ensures.value) (tight-sound c.args.flat.now c.args.users.now c.args.owners.now c.args.totals.now c.in_ok-kinds.kinds.items c.requires.sound.sound c.nodes-nodes.ensures.flat c.requires.users c.requires.totals c.in_ok-kinds.ensures.kinds)

pub returns : goal.returns
returns g c = record { alike = alike-of c.args.flat.now (IsTightKind c.args.users.now c.args.totals.now) c.in_ok-kinds.kinds.items c.in_ok-tree.tree c.in_ok-kinds.ensures.kinds (subst (λ (ks : List NodeKind). IsReshaped c.args.flat.now ks c.in_ok-tree.tree) c.deref.ensures.value c.in_ok-tree.ensures.reshaped) }
