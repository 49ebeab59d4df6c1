use Rattle.std.proofs.Common.{◌≡◌, ◌∙◌, sym, true, rules}
use Rattle.log_lines.specs.Numbers.{is_numeral}
use Rattle.log_lines.proofs.Parsed.{number_read}
use Rattle.log_lines.proofs.number.read_number.Goals as goal

pub returns-then-is_numeral : goal.returns-then-is_numeral
returns-then-is_numeral c =
    let numeral : is_numeral c.args.word.now ≡ true = search rules in
    record { number = c.ok.ensures.value ∙ number_read c.args.word.now c.parse.result c.parse.ensures.value.0 numeral }
