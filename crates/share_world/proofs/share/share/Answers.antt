use Rattle.std.proofs.Common.{List, subst}
use Rattle.fair_terms.specs.Fair.{IsFair}
use Rattle.limit_tree.specs.Outline.{limits as seen}
use Rattle.line_rates.specs.declared.ask.Ask.{Ask}
use Rattle.line_rates.specs.declared.fault.PlanFault.{PlanFault}
use Rattle.line_rates.specs.Refused.{IsFaultOf, IsNotOfFloors}
use Rattle.share_world.proofs.Small.{no_other_fault}
use Rattle.share_world.proofs.share.share.Goals as goal

pub returns-in-Err-Tree-clause-fault : goal.returns-in-Err-Tree-clause-fault
returns-in-Err-Tree-clause-fault g c = λ fit.
    no_other_fault g.row.A.Denot c.args.limits.now c.args.tick c.args.asks.now c.in-Err-Tree.field-0-0 c.fits_rates.ensures.fit c.requires.few c.requires.wants
    (subst (λ (f : PlanFault). IsFaultOf g.row.A.Denot c.args.limits.now c.args.tick c.args.asks.now f) c.in-Err-Tree.field-0-is c.in-Err-Tree.ensures.fault)
    (subst IsNotOfFloors c.in-Err-Tree.field-0-is (c.in-Err-Tree.ensures.floors fit))

pub returns-in-Ok-share_plan-clause-fair : goal.returns-in-Ok-share_plan-clause-fair
returns-in-Ok-share_plan-clause-fair g c =
    let made = c.in-Ok-share_plan in
    record {
      plan = made.ensures.plan.plan;
      fair = subst (λ (asks : List Ask). IsFair c.args.limits.now.share_by asks (seen made.field-0.sealed.tree) made.field-0.sealed.grants) made.ensures.plan.asks_are made.ensures.fair;
    }
