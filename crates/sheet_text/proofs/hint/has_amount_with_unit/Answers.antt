use Rattle.std.proofs.Common.{◌==◌, rules, tests}
use Rattle.std.proofs.lemmas.Iterator.Search.{any_from_yields_List}
use Rattle.std.proofs.lemmas.Iterator.Splits.{YieldsList-from_slice_split}
use Rattle.sheet_text.specs.Hints.{is_amount_with_unit}
use Rattle.sheet_text.proofs.hint.has_amount_with_unit.Goals as goal

pub returns : goal.returns
returns c =
    let items = c.split.ensures in
    let ran = c.any.ensures.ran in
    record {
      unit = any_from_yields_List is_amount_with_unit _ _ c.any.result ran
          (YieldsList-from_slice_split _ (λ octet. octet == 32) c.args.line.now items.rest items.done items.closure (λ x b q k. search (rules, tests)))
          (λ x b q k. search (rules, tests));
    }
