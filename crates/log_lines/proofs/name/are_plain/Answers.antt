use Rattle.std.proofs.Common.{rules, tests}
use Rattle.std.proofs.lemmas.Iterator.{YieldsList-from_chars}
use Rattle.std.proofs.lemmas.Iterator.Search.{all_from_yields_List}
use Rattle.log_lines.specs.Names.{is_plain}
use Rattle.log_lines.proofs.name.are_plain.Goals as goal

pub returns : goal.returns
returns c =
    let ran = c.all.ensures.ran in
    record {
      plain = all_from_yields_List is_plain _ _ c.all.result ran
          (YieldsList-from_chars c.args.word.now c.utf8.word (search (rules, tests)))
          (λ x b q k. search (rules, tests));
    }
