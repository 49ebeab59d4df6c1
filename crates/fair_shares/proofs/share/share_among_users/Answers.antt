use Rattle.std.proofs.Common.{rules, ℕ, List, length, sym, subst}
use Rattle.limit_tree.specs.Outline.{limits}
use Rattle.limit_tree.specs.declared.place.Place.{Place}
use Rattle.line_rates.specs.declared.share_by.ShareBy.TheVariants as share
use Rattle.user_shares.specs.Faults.{IsUserFault}
use Rattle.fair_shares.specs.Faults.{IsFairFault}
use Rattle.fair_shares.specs.Unshared.{fault_of}
use Rattle.fair_shares.specs.Users.{IsTreeOf}
use Rattle.fair_shares.proofs.LargeUsers.{user_fault}
use Rattle.fair_shares.proofs.share.share_among_users.Goals as goal

pub users_of-requires : goal.users_of-requires
users_of-requires g c = record { tree = subst (λ (ps : List Place). IsTreeOf c.args.asks.now (limits ps)) (sym c.in_ok-flat.ensures.of) c.requires.asks }

pub returns-in_err-grants-clause-fault : goal.returns-in_err-grants-clause-fault
returns-in_err-grants-clause-fault g c =
    let asks = c.args.asks.now in
    let users = c.in_ok-users.users in
    let e = c.in_err-grants.field-0.0 in
    let of_users : IsUserFault (limits c.args.tree) (length users.nodes.items) users.owners.items e =
    subst (λ (ns : List ℕ). IsUserFault (limits c.args.tree) (length ns) users.owners.items e) c.deref.ensures.value
    (subst (λ (os : List ℕ). IsUserFault (limits c.args.tree) (length c.deref.result.now) os e) c.deref-2.ensures.value c.in_err-grants.ensures.fault) in
    let fault : IsFairFault share.Users asks (fault_of e) =
    user_fault asks (limits c.args.tree) (length users.nodes.items) users.owners.items e c.requires.asks c.in_ok-users.ensures.owners of_users in
    search (rules, fault)
