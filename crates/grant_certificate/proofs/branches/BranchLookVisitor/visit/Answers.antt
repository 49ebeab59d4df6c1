use Rattle.std.proofs.Common.{ℕ, List, ◌↔◌, IsTrue, subst}
use Rattle.limit_tree.specs.Outline.{IsFullPlace}
use Rattle.grant_certificate.proofs.branches.BranchLookVisitor.visit.Goals as goal

pub returns-clause-saw : goal.returns-clause-saw
returns-clause-saw c = λ start seen count leaves was. record {
  over = c.see.ensures.saw start.over seen c.args.place c.load-load.ensures.over count was.over;
  backing = c.see-2.ensures.saw start.backing seen (subst (λ (g : List ℕ). IsTrue c.load-load.result.full ↔ IsFullPlace c.args.place g) c.args.self.now.same c.load-load.ensures.full) count was.backing;
}
