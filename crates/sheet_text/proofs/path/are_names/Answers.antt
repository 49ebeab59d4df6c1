use Rattle.std.proofs.Common.{rules, ◌==◌, tests}
use Rattle.std.proofs.lemmas.Iterator.Search.{all_from_yields_List}
use Rattle.std.proofs.lemmas.Iterator.Splits.{YieldsList-from_slice_split}
use Rattle.sheet_text.specs.Text.{is_name}
use Rattle.sheet_text.proofs.path.are_names.Goals as goal

pub returns : goal.returns
returns c =
    let items = c.split.ensures in
    let ran = c.all.ensures.ran in
    record {
      names = all_from_yields_List is_name _ _ c.all.result ran
          (YieldsList-from_slice_split _ (λ octet. octet == 47) c.args.text.now items.rest items.done items.closure (λ x b q k. search (rules, tests)))
          (λ x b q k. search (rules, tests));
    }
