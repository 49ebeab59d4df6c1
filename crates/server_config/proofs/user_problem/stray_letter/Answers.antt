use Rattle.std.proofs.Common.{◌≡◌, ◌++◌, true, false, append_assoc, encode_utf8, sym, ap, ◌∙◌}
use Rattle.std.specs.Option.{is_some}
use Rattle.std.specs.Str.Iter.{chars_rest}
use Rattle.ftp_terms.specs.Letters.{letters_of}
use Rattle.server_config.proofs.StrayLetters.{all_more, has_letters, is_none, is_not_none}
use Rattle.server_config.proofs.user_problem.stray_letter.Goals as goal

pub returns-then-not-is_letter : goal.returns-then-not-is_letter
returns-then-not-is_letter c =
    let (before, is, all) = c.loop-character.invariant in
    let octets = encode_utf8 c.in-Some.character in
    let after = chars_rest c.next.new.self in
    let stray : is_some (letters_of octets) ≡ false = sym c.is_letter.ensures.letter ∙ c.if-not-is_letter.true in
    record {
      stray = record {
        before = before;
        after = after;
        is = is ∙ ap (λ rest. before ++ rest) c.in-Some.ensures.steps.0 ∙ sym (append_assoc before octets after);
        letters = is_not_none (letters_of before) (has_letters before ∙ all);
        stray = is_none (letters_of octets) stray;
      };
    }

pub loop-character-preserved : goal.loop-character-preserved
loop-character-preserved c =
    let (before, is, all) = c.loop-character.invariant in
    let octets = encode_utf8 c.in-Some.character in
    let after = chars_rest c.next.new.self in
    let letter : is_some (letters_of octets) ≡ true = sym c.is_letter.ensures.letter ∙ c.if-not-is_letter.false in (
      before ++ octets,
      is ∙ ap (λ rest. before ++ rest) c.in-Some.ensures.steps.0 ∙ sym (append_assoc before octets after),
      all_more before octets all (sym (has_letters octets) ∙ letter),
    )
