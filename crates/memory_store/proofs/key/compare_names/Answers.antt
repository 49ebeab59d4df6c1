use Rattle.std.proofs.Common.{◌≡◌, refl, lit<}
use Rattle.std.specs.Cmp.Lexicographic.{slice_cmp}
use Rattle.std.specs.Ordering.{nat_cmp}
use Rattle.std.proofs.lemmas.Iterator.Consumers.{YieldsList-at}
use Rattle.std.proofs.lemmas.Iterator.Search.{cmp_from_yields_List}
use Rattle.std.proofs.lemmas.Iterator.Splits.{YieldsList-from_str_split}
use Rattle.memory_store.proofs.key.compare_names.Goals as goal

pub returns : goal.returns
returns c =
    let left = c.split.ensures in
    let right = c.split-2.ensures in
    cmp_from_yields_List (λ x y. y ≡ x) _ (slice_cmp nat_cmp) _ c.cmp.ensures.ran
    (YieldsList-from_str_split 47 c.args.text.now (lit< tt) left.text left.has_more left.pattern)
    (λ it e. YieldsList-at e (YieldsList-from_str_split 47 c.args.other.now (lit< tt) right.text right.has_more right.pattern)) (λ x y. refl)
