use Rattle.std.proofs.Common.{◌∙◌, ◌∷◌, [], map, length, sym, ap, subst, lit<}
use Rattle.std.proofs.lemmas.List.{map-append}
use Rattle.std.proofs.lemmas.List.Sums.{fold_push}
use Rattle.std.proofs.lemmas.Iterator.Consumers.{YieldsList-at, YieldsList-so_far, YieldsList-end}
use Rattle.std.proofs.lemmas.Iterator.Splits.{YieldsList-from_str_split}
use Rattle.std.specs.List.{fold, AllByRecursion}
use Rattle.virtual_path.specs.Path.{slashed, through, names_of, HasNoSlash}
use Rattle.virtual_path.proofs.Elements.{each-take}
use Rattle.virtual_path.proofs.Walks.{each-fold, no_slash_in_names}
use Rattle.virtual_path.proofs.walk.walk.Goals as goal

pub loop-name-preserved : goal.loop-name-preserved
loop-name-preserved g c = λ path names text.
    let items = c.split-name-items.ensures in
    let road = YieldsList-at c.into_iter-name-iterator.ensures.into_iter_gives (YieldsList-from_str_split 47 c.args.way.now (lit< tt) items.text items.has_more items.pattern) in
    let so_far = YieldsList-so_far road c.loop-name.yielded _ c.loop-name.yielded_by in
    let passed = map (λ name. name.now) c.loop-name.yielded in
    let passed_names = subst (AllByRecursion HasNoSlash) (sym so_far) (each-take HasNoSlash (length c.loop-name.yielded) (names_of c.args.way.now) (no_slash_in_names c.args.way.now)) in
    let here = each-fold HasNoSlash HasNoSlash (λ name q _. q) path passed names passed_names in
    c.in_ok-follow.ensures.follows (fold through path passed) here (c.loop-name.invariant path names text)
    ∙ ap slashed (sym (fold_push through path passed c.in-Some.name.now))
    ∙ ap (λ passed. slashed (fold through path passed)) (sym (map-append (λ name. name.now) c.loop-name.yielded (c.in-Some.name ∷ [])))

pub returns : goal.returns
returns g c =
    let items = c.split-name-items.ensures in
    let road = YieldsList-at c.into_iter-name-iterator.ensures.into_iter_gives (YieldsList-from_str_split 47 c.args.way.now (lit< tt) items.text items.has_more items.pattern) in
    let all = YieldsList-end road c.loop-name.yielded _ c.loop-name.yielded_by _ _ c.in-None.is c.next.ensures.steps in
    record { walks = λ path names text. c.loop-name.invariant path names text ∙ ap (λ passed. slashed (fold through path passed)) all.0 }
