use Rattle.std.proofs.Common.{◌≡◌, true, false, [], lit<, rules}
use borrow.Author.Tests.{tests}
use Rattle.std.proofs.lemmas.Iterator.{cases_from_any}
use Rattle.std.proofs.lemmas.Iterator.Splits.{YieldsList-from_str_split}
use Rattle.virtual_path.specs.Path.{is_long_name, names_of}
use Rattle.virtual_path.proofs.Elements.{any_answer}
use Rattle.virtual_path.proofs.walk.has_long_name.Goals as goal

pub returns : goal.returns
returns c =
    let items = c.split.ensures in
    let road = YieldsList-from_str_split 47 c.args.text.now (lit< tt) items.text items.has_more items.pattern in
    record {
      long = any_answer is_long_name (names_of c.args.text.now) [] c.any.result
          (cases_from_any _ _ _ (λ name. is_long_name name ≡ true) (λ name. is_long_name name ≡ false) c.any.ensures.ran road
          (λ x q k. search (rules, tests)) (λ x q k. search (rules, tests)));
    }
