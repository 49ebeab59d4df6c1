use Rattle.std.proofs.Common.{arith, ◌≡◌, ◌∙◌, List, Some, sym, ap, length}
use Rattle.std.specs.Prelude.{slice_get}
use Rattle.limit_tree.specs.Outline.{limits}
use Rattle.limit_tree.specs.declared.place.Place.{Place}
use Rattle.limit_tree.proofs.Looks.{some_within}
use Rattle.limit_tree.proofs.tree.Tree.place.Goals as goal

pub unreachable-requires : goal.unreachable-requires
unreachable-requires g c =
    let saw = c.walk.ensures.saw c.new-look.result c.new-look.ensures.start in
    some_within c.args.self.now c.args.node c.requires.node (sym (ap (slice_get c.args.self.now) c.new-look.ensures.number) ∙ (sym saw.found ∙ c.in-None.is))

pub returns : goal.returns
returns g c =
    let saw = c.walk.ensures.saw c.new-look.result c.new-look.ensures.start in
    let found : slice_get c.args.self.now c.args.node ≡ Some c.in-Some.place = sym (ap (slice_get c.args.self.now) c.new-look.ensures.number) ∙ (sym saw.found ∙ c.in-Some.is) in
    record {
      place = found;
      inside = omega (arith, c.self.invariant.bounded c.args.node c.in-Some.place (ap (λ (ps : List Place). slice_get ps c.args.node) c.self.view_is ∙ found), c.self.invariant.wants_are, ap (λ (ps : List Place). length (limits ps).wants) c.self.view_is);
    }
