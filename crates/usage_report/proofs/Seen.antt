-- What is seen, with one more line.
use Rattle.std.proofs.Common.{◌≡◌, ◌∙◌, ℕ, Bool, true, false, cond, List, [], ◌∷◌, ◌++◌, append_assoc, Option, Some, None, Result, Ok, Err, OnOk, filter, refl, sym, ap, subst}
use Rattle.std.specs.BTreeMap.{get_by_text}
use Rattle.std.specs.List.{filter_map}
use Rattle.std.proofs.lemmas.List.{append-nil}
use Rattle.std.proofs.lemmas.List.Elements.{filter-append, filter_map-append}
use Rattle.log_lines.specs.Lines.{Line}
use Rattle.log_lines.specs.declared.moment.LogDay.{LogDay}
use Rattle.usage_report.specs.Adding.{plus, row_of, tally_of}
use Rattle.usage_report.specs.Usages.{HasSeen, IsCounted, IsUsageOf, counted, is_on, with_key}
use Rattle.usage_report.specs.declared.key.UsageKey.{UsageKey}
use Rattle.usage_report.specs.declared.adding.Sums.{Sums}
use Rattle.usage_report.specs.declared.usage.Usage.{Usage}
use Rattle.usage_report.proofs.Added.{rows_more, tally_more}

counted_more : (day : Option LogDay) (seen more : List (Option Line)) → counted day (seen ++ more) ≡ counted day seen ++ counted day more
counted_more day seen more =
    ap (filter (is_on day)) (filter_map-append (λ (line : Option Line). line) seen more)
    ∙ filter-append (is_on day) (filter_map (λ line. line) seen) (filter_map (λ line. line) more)

counted_on : (day : Option LogDay) (seen : List (Option Line)) (line : Line) → is_on day line ≡ true
    → counted day (seen ++ Some line ∷ []) ≡ counted day seen ++ line ∷ []
counted_on day seen line on =
    counted_more day seen (Some line ∷ [])
    ∙ ap (λ (b : Bool). counted day seen ++ cond b (line ∷ []) []) on

counted_off : (day : Option LogDay) (seen : List (Option Line)) (line : Line) → is_on day line ≡ false
    → counted day (seen ++ Some line ∷ []) ≡ counted day seen
counted_off day seen line off =
    counted_more day seen (Some line ∷ [])
    ∙ ap (λ (b : Bool). counted day seen ++ cond b (line ∷ []) []) off
    ∙ append-nil (counted day seen)

counted_none : (day : Option LogDay) (seen : List (Option Line)) → counted day (seen ++ None ∷ []) ≡ counted day seen
counted_none day seen = counted_more day seen (None ∷ []) ∙ append-nil (counted day seen)

-- three texts, one after another
pub three : (old one more all a b c : List ℕ) → one ≡ old ++ a → more ≡ one ++ b → all ≡ more ++ c → all ≡ old ++ (a ++ b ++ c)
three old one more all a b c first second third =
    third
    ∙ ap (λ (xs : List ℕ). xs ++ c) (second ∙ ap (λ (xs : List ℕ). xs ++ b) first ∙ append_assoc old a b)
    ∙ append_assoc old (a ++ b) c

pub on_ok : {E : Type 0} (r : Result (Unit {0}) E) (P Q : Type 0) → (P → Q) → OnOk r P → OnOk r Q
on_ok (Ok u) P Q f p = f p
on_ok (Err e) P Q f p = p

-- sums that are the same of the same transfers
kept : (usage : Usage) (seen after : List (Option Line)) → IsUsageOf usage seen
    → counted usage.day after ≡ counted usage.day seen → IsUsageOf usage after
kept usage seen after was same = record {
  rows = λ key. was.rows key ∙ ap (λ (lines : List Line). row_of (with_key usage.by key lines)) (sym same);
  total = was.total ∙ ap tally_of (sym same);
}

pub seen_off : (usage : Usage) (line : Line) → is_on usage.day line ≡ false → HasSeen usage usage (Some line ∷ [])
seen_off usage line off = record {
  by = refl;
  day = refl;
  sums = λ seen was. kept usage seen (seen ++ Some line ∷ []) was (counted_off usage.day seen line off);
}

pub seen_on : (before after : Usage) (line : Line) → is_on before.day line ≡ true → IsCounted before after line → HasSeen before after (Some line ∷ [])
seen_on before after line on is = record {
  by = is.by;
  day = is.day;
  sums = λ seen was.
      let now = counted_on before.day seen line on in
      record {
        rows = λ key.
            subst (λ (b : UsageKey). get_by_text after.rows key ≡ row_of (with_key b key (counted after.day (seen ++ Some line ∷ [])))) (sym is.by)
            (subst (λ (d : Option LogDay). get_by_text after.rows key ≡ row_of (with_key before.by key (counted d (seen ++ Some line ∷ [])))) (sym is.day)
            (is.rows key ∙ rows_more before.by key (counted before.day seen) line (get_by_text before.rows) was.rows
            ∙ ap (λ (lines : List Line). row_of (with_key before.by key lines)) (sym now)));
        total =
            subst (λ (d : Option LogDay). after.total ≡ tally_of (counted d (seen ++ Some line ∷ []))) (sym is.day)
            (is.total ∙ ap (λ (t : Sums). plus t line) was.total ∙ sym (tally_more (counted before.day seen) line) ∙ ap tally_of (sym now));
      };
}

-- a line that is not of the form adds nothing
pub seen_unread : (usage : Usage) → HasSeen usage usage (None ∷ [])
seen_unread usage = record {
  by = refl;
  day = refl;
  sums = λ seen was. kept usage seen (seen ++ None ∷ []) was (counted_none usage.day seen);
}

pub seen_nothing : (usage : Usage) → HasSeen usage usage []
seen_nothing usage = record {
  by = refl;
  day = refl;
  sums = λ seen was. subst (IsUsageOf usage) (sym (append-nil seen)) was;
}

pub seen_both : (one two three : Usage) (first second : List (Option Line)) → HasSeen one two first → HasSeen two three second → HasSeen one three (first ++ second)
seen_both one two three first second a b = record {
  by = b.by ∙ a.by;
  day = b.day ∙ a.day;
  sums = λ seen was. subst (IsUsageOf three) (append_assoc seen first second) (b.sums (seen ++ first) (a.sums seen was));
}

pub ok_any : {T E : Type 0} (r : Result T E) (P : Type 0) → P → OnOk r P
ok_any (Ok u) P p = p
ok_any (Err e) P p = tt
