use Rattle.std.proofs.Common.{◌∙◌, ap, lit<}
use Rattle.std.proofs.lemmas.Iterator.Adapters.{YieldsList-from_skip}
use Rattle.std.proofs.lemmas.Iterator.Consumers.{YieldsList-at, map_from_collect}
use Rattle.std.proofs.lemmas.Iterator.Splits.{YieldsList-from_str_split}
use Rattle.std.proofs.lemmas.Result.{IfOk-weaker}
use Rattle.virtual_path.specs.Path.{names_in}
use Rattle.virtual_path.proofs.path.VPath.names.Goals as goal

pub returns : goal.returns
returns g c =
    let items = c.split.ensures in
    let road = YieldsList-from_skip 1 (YieldsList-at c.skip.ensures.source (YieldsList-from_str_split 47 c.as_str.result.now (lit< tt) items.text items.has_more items.pattern)) c.skip.ensures.count in
    record { names = IfOk-weaker c.collect.result _ _ (λ names same. same ∙ ap names_in c.as_str.ensures.value ∙ c.self.view_is) (map_from_collect _ c.collect.ensures.ran road) }
