-- What is looked at, with one more line.
use Rattle.std.proofs.Common.{◌≡◌, ◌∙◌, ◌+◌, ℕ, cond, List, [], ◌∷◌, ◌++◌, append_assoc, Option, Some, None, option_map, is_some, length, refl, sym, ap, subst, arith}
use Rattle.std.specs.List.{count_by}
use Rattle.std.specs.Option.{unwrap_or}
use Rattle.std.proofs.lemmas.List.{append-nil, length-append}
use Rattle.std.proofs.lemmas.List.Sums.{sum_by-append}
use Rattle.log_lines.specs.Lines.{Line}
use Rattle.usage_report.specs.Looks.{HasLooked, IsLookOf, first_unread, is_unread, looked}
use Rattle.usage_report.specs.declared.look.LogLook.{LogLook}

first_after_read : (seen : List (Option Line)) (line : Line) → first_unread (seen ++ Some line ∷ []) ≡ first_unread seen
first_after_read [] line = refl
first_after_read (None ∷ seen) line = refl
first_after_read (Some first ∷ seen) line = ap (option_map (λ n. n + 1)) (first_after_read seen line)

first_after_unread : (seen : List (Option Line)) → first_unread (seen ++ None ∷ []) ≡ Some (unwrap_or (first_unread seen) (length seen + 1))
first_after_unread [] = refl
first_after_unread (None ∷ seen) = refl
first_after_unread (Some first ∷ seen) =
    ap (option_map (λ n. n + 1)) (first_after_unread seen)
    ∙ ap Some (one_more (first_unread seen) (length seen + 1))
    ∙ ap (λ (n : ℕ). Some (unwrap_or (option_map (λ m. m + 1) (first_unread seen)) n)) (let same : length seen + 1 + 1 ≡ length (Some first ∷ seen) + 1 = omega arith in same)
  where
    one_more : (o : Option ℕ) (n : ℕ) → unwrap_or o n + 1 ≡ unwrap_or (option_map (λ m. m + 1) o) (n + 1)
    one_more None n = refl
    one_more (Some m) n = refl

unread_more : (seen : List (Option Line)) (line : Option Line) → count_by is_unread (seen ++ line ∷ []) ≡ count_by is_unread seen + cond (is_unread line) 1 0
unread_more seen line =
    let more = sum_by-append (λ (l : Option Line). cond (is_unread l) 1 0) seen (line ∷ []) in
    more ∙ ap (λ (n : ℕ). count_by is_unread seen + n) (omega arith)

-- the look after one more line
pub looked_more : (look : LogLook) (line : Option Line) → HasLooked look (looked look (is_some line)) (line ∷ [])
looked_more look (Some line) = λ seen was. record {
  lines = ap (λ (n : ℕ). n + 1) was.lines ∙ sym (length-append seen (Some line ∷ []));
  unread = was.unread ∙ sym (unread_more seen (Some line) ∙ omega arith);
  first = was.first ∙ sym (first_after_read seen line);
}
looked_more look None = λ seen was. record {
  lines = ap (λ (n : ℕ). n + 1) was.lines ∙ sym (length-append seen (None ∷ []));
  unread = ap (λ (n : ℕ). n + 1) was.unread ∙ sym (unread_more seen None);
  first =
      let same : unwrap_or look.first_unread (look.lines + 1) ≡ unwrap_or (first_unread seen) (length seen + 1) =
      ap (λ (o : Option ℕ). unwrap_or o (look.lines + 1)) was.first ∙ ap (λ (n : ℕ). unwrap_or (first_unread seen) (n + 1)) was.lines in
      ap Some same ∙ sym (first_after_unread seen);
}

pub looked_nothing : (look : LogLook) → HasLooked look look []
looked_nothing look = λ seen was. subst (IsLookOf look) (sym (append-nil seen)) was

pub looked_both : (one two three : LogLook) (first second : List (Option Line)) → HasLooked one two first → HasLooked two three second → HasLooked one three (first ++ second)
looked_both one two three first second a b = λ seen was. subst (IsLookOf three) (append_assoc seen first second) (b (seen ++ first) (a seen was))
