use Rattle.std.proofs.Common.{rules, ◌≡◌, List, sym, subst}
use Rattle.line_rates.specs.declared.share_by.ShareBy.{ShareBy}
use Rattle.fair_shares.specs.Faults.{IsFairFault}
use Rattle.ask_shares.specs.Faults.{IsUnshared, unshared_fault}
use Rattle.ask_shares.proofs.Refusing.{unshared_is}
use Rattle.ask_shares.proofs.leaves.fair_leaves.Goals as goal

pub share_tree-requires : goal.share_tree-requires
share_tree-requires g c = record { asks = (c.args.limits.now, c.args.tick, c.requires.tree) }

pub returns-in_err-sealed-clause-fault : goal.returns-in_err-sealed-clause-fault
returns-in_err-sealed-clause-fault g c =
    let e = c.in_err-sealed.field-0.0 in
    let found : IsFairFault c.args.limits.now.share_by c.args.asks.now e =
    subst (λ (by : ShareBy). IsFairFault by c.args.asks.now e) c.share_by.ensures.share_by c.in_err-sealed.ensures.fault in
    let fault : IsUnshared c.args.limits.now.share_by c.args.asks.now (unshared_fault e) = unshared_is c.args.limits.now.share_by c.args.asks.now e found in
    search (rules, fault)
