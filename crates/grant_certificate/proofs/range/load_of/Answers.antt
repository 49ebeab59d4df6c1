use Rattle.std.proofs.Common.{rules, ◌≡◌, ◌<◌, ◌∙◌, ap, Some}
use Rattle.limit_tree.specs.Outline.{IsFullPlace}
use Rattle.limit_tree.specs.declared.place.NodeKind.TheVariants.{Branch}
use Rattle.limit_tree.proofs.Looks.{full-place, full-place-sum}
use Rattle.grant_certificate.specs.Ranges.{IsOverPlace}
use Rattle.grant_certificate.proofs.Places.{over-place, over-place-less}
use Rattle.grant_certificate.proofs.range.load_of.Goals as goal

pub returns-in-Some : goal.returns-in-Some
returns-in-Some c =
    let kind : c.args.place.kind ≡ Branch (Some c.in-Some.most) = c.in-Branch.is ∙ ap Branch c.in-Some.is in
    let sum = c.sum-taken.result in
    let over : c.in-Some.most < sum → IsOverPlace c.args.place c.args.grants.now = over-place c.args.place c.in-Some.most sum c.args.grants.now kind c.sum-taken.ensures.sum in
    let less : IsOverPlace c.args.place c.args.grants.now → c.in-Some.most < sum = over-place-less c.args.place c.in-Some.most sum c.args.grants.now kind c.sum-taken.ensures.sum in
    let full : sum ≡ c.in-Some.most → IsFullPlace c.args.place c.args.grants.now = full-place c.args.place c.in-Some.most sum c.args.grants.now kind c.sum-taken.ensures.sum in
    let used : IsFullPlace c.args.place c.args.grants.now → sum ≡ c.in-Some.most = full-place-sum c.args.place c.in-Some.most sum c.args.grants.now kind c.sum-taken.ensures.sum in
    search (rules, over, less, full, used)
