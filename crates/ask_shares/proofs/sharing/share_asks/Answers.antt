use Rattle.std.proofs.Common.{◌≡◌, List, map, subst, sym, ◌∙◌}
use Rattle.line_rates.specs.FloorSums.{FloorsFit}
use Rattle.line_rates.specs.Refused.{HasFault, IsFaultOf, IsNotOfFloors}
use Rattle.line_rates.specs.TickTree.{Asker, ask_in}
use Rattle.line_rates.specs.declared.ask.Ask.{Ask}
use Rattle.line_rates.specs.declared.fault.PlanFault.{PlanFault}
use Rattle.ask_shares.specs.Leaves.{AreNumbered}
use Rattle.ask_shares.proofs.Refusing.{fault_is, numbered_asks, of_floors}
use Rattle.ask_shares.proofs.sharing.share_asks.Goals as goal

pub returns-in-Err-Tree-clause-fault : goal.returns-in-Err-Tree-clause-fault
returns-in-Err-Tree-clause-fault g c =
    fault_is g.row.A.Denot c.args.limits.now c.args.tick c.args.asks.now c.in_ok-numbered.numbered.items c.in-Err-Tree.fault c.in_ok-numbered.ensures.numbered
    (subst (λ (x : List Asker). HasFault g.row.A.Denot c.args.limits.now c.args.tick x c.in-Err-Tree.fault) c.deref.ensures.value
    (subst (λ (fault : PlanFault). IsFaultOf g.row.A.Denot c.args.limits.now c.args.tick c.deref.result.now fault) c.in-Err-Tree.field-0-is c.in-Err-Tree.ensures.fault))

pub returns-in-Err-Tree-clause-floors : goal.returns-in-Err-Tree-clause-floors
returns-in-Err-Tree-clause-floors g c = λ fit.
    of_floors c.in-Err-Tree.fault (subst (λ (fault : PlanFault). IsNotOfFloors fault) c.in-Err-Tree.field-0-is
    (c.in-Err-Tree.ensures.floors (subst (λ (x : List Ask). FloorsFit c.args.limits.now c.args.tick x)
    (sym (numbered_asks c.args.asks.now c.deref.result.now (subst (λ (x : List Asker). AreNumbered c.args.asks.now x) (sym c.deref.ensures.value) c.in_ok-numbered.ensures.numbered))) fit)))
