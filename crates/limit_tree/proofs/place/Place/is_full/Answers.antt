use Rattle.std.proofs.Common.{rules, ◌≡◌, ◌∙◌, ap, Some}
use Rattle.limit_tree.specs.Outline.{IsFullPlace}
use Rattle.limit_tree.specs.declared.place.NodeKind.TheVariants.{Branch}
use Rattle.limit_tree.proofs.Looks.{full-place, full-place-sum}
use Rattle.limit_tree.proofs.place.Place.is_full.Goals as goal

pub returns-in-Some : goal.returns-in-Some
returns-in-Some c =
    let kind : c.args.self.kind ≡ Branch (Some c.in-Some.most) = c.in-Branch.is ∙ ap Branch c.in-Some.is in
    let forth : c.sum.result ≡ c.in-Some.most → IsFullPlace c.args.self c.args.grants.now = full-place c.args.self c.in-Some.most c.sum.result c.args.grants.now kind c.sum.ensures.sum in
    let back : IsFullPlace c.args.self c.args.grants.now → c.sum.result ≡ c.in-Some.most = full-place-sum c.args.self c.in-Some.most c.sum.result c.args.grants.now kind c.sum.ensures.sum in
    search (rules, forth, back)
