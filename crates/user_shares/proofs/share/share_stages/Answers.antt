use Rattle.std.proofs.Common.{rules, List, length, sym, subst}
use Rattle.limit_tree.specs.Outline.{limits}
use Rattle.limit_tree.specs.declared.place.Place.{Place}
use Rattle.user_shares.specs.Faults.{AreSmall, IsUserFault}
use Rattle.user_shares.specs.Nodes.{AreUsers}
use Rattle.user_shares.specs.Rebuilt.{IsSoundOutline}
use Rattle.user_shares.specs.Stages.{IsShared}
use Rattle.user_shares.proofs.share.share_stages.Goals as goal

pub share_flat-requires-clause-sound : goal.share_flat-requires-clause-sound
share_flat-requires-clause-sound g c = subst (λ (ps : List Place). IsSoundOutline ps) (sym c.in_ok-flat.ensures.of) (record { sound = c.nodes_are_a_tree.ensures.sound; depths = c.nodes_are_a_tree.ensures.depths })

pub share_flat-requires-clause-users : goal.share_flat-requires-clause-users
share_flat-requires-clause-users g c = subst (λ (ps : List Place). AreUsers ps c.args.users.now c.args.owners.now) (sym c.in_ok-flat.ensures.of) c.requires.users

pub returns-clause-shared : goal.returns-clause-shared
returns-clause-shared g c = subst (λ (ps : List Place). IsShared (limits ps) (length c.args.users.now) c.args.owners.now c.in_ok-shared.shared.0.items c.in_ok-shared.shared.1) c.in_ok-flat.ensures.of c.in_ok-shared.ensures.shared

pub returns-clause-small : goal.returns-clause-small
returns-clause-small g c = subst (λ (ps : List Place). AreSmall (limits ps) (length c.args.users.now) c.args.owners.now) c.in_ok-flat.ensures.of c.in_ok-shared.ensures.small

pub returns-in_err-shared-clause-fault : goal.returns-in_err-shared-clause-fault
returns-in_err-shared-clause-fault g c =
    let fault = c.in_err-shared.field-0.0 in
    let moved : IsUserFault (limits c.args.tree.now) (length c.args.users.now) c.args.owners.now fault = subst (λ (ps : List Place). IsUserFault (limits ps) (length c.args.users.now) c.args.owners.now fault) c.in_ok-flat.ensures.of c.in_err-shared.ensures.fault in
    search (rules, moved)
