-- Sums with one more transfer.
use Rattle.std.proofs.Common.{◌≡◌, ◌∙◌, ◌+◌, ℕ, Bool, true, false, cond, List, [], ◌∷◌, ◌++◌, Option, Some, refl, sym, ap, arith}
use Rattle.std.specs.List.{sum_by}
use Rattle.std.specs.Option.{unwrap_or}
use Rattle.std.specs.Prelude.{bytes_eq}
use Rattle.std.proofs.lemmas.Slice.Eq.{bytes_eq-Decides}
use Rattle.std.proofs.lemmas.List.{append-nil, length-append}
use Rattle.std.proofs.lemmas.List.Elements.{filter-append}
use Rattle.std.proofs.lemmas.List.Sums.{sum_by-append}
use Rattle.log_lines.specs.Lines.{Line}
use Rattle.log_lines.specs.Words.{Octets}
use Rattle.usage_report.specs.Keys.{key_of}
use Rattle.usage_report.specs.Adding.{no_tally, plus, row_of, tally_of}
use Rattle.usage_report.specs.Usages.{with_key}
use Rattle.usage_report.specs.declared.key.UsageKey.{UsageKey}
use Rattle.usage_report.specs.declared.adding.Sums.{Sums}

same_tally : (a b c x y z : ℕ) → a ≡ x → b ≡ y → c ≡ z
    → ◌≡◌ {A = Sums} (record { transfers = a; octets = b; seconds = c }) (record { transfers = x; octets = y; seconds = z })
same_tally a b c x y z one two three = rw (one, two, three) refl

sum_more : (f : Line → ℕ) (lines : List Line) (line : Line) → sum_by f (lines ++ line ∷ []) ≡ sum_by f lines + f line
sum_more f lines line = sum_by-append f lines (line ∷ []) ∙ ap (λ (n : ℕ). sum_by f lines + n) (omega arith)

pub tally_more : (lines : List Line) (line : Line) → tally_of (lines ++ line ∷ []) ≡ plus (tally_of lines) line
tally_more lines line =
    same_tally _ _ _ _ _ _
    (length-append lines (line ∷ []))
    (sum_more (λ l. l.size.octets) lines line)
    (sum_more (λ l. l.size.seconds) lines line)

pub row_more : (lines : List Line) (line : Line) → row_of (lines ++ line ∷ []) ≡ Some (plus (unwrap_or (row_of lines) no_tally) line)
row_more [] line = ap Some (tally_more [] line)
row_more (first ∷ lines) line = ap Some (tally_more (first ∷ lines) line)

-- the row of a key, with one more transfer
pub rows_more : (by : UsageKey) (key : Octets) (lines : List Line) (line : Line) (rows : Octets → Option Sums)
    → ((k : Octets) → rows k ≡ row_of (with_key by k lines))
    → cond (bytes_eq (key_of by line) key) (Some (plus (unwrap_or (rows (key_of by line)) no_tally) line)) (rows key)
    ≡ row_of (with_key by key (lines ++ line ∷ []))
rows_more by key lines line rows all =
    go (bytes_eq (key_of by line) key) refl
    ∙ sym (ap row_of (filter-append (λ l. bytes_eq (key_of by l) key) lines (line ∷ [])))
  where
    go : (b : Bool) → bytes_eq (key_of by line) key ≡ b
        → cond (bytes_eq (key_of by line) key) (Some (plus (unwrap_or (rows (key_of by line)) no_tally) line)) (rows key)
        ≡ row_of (with_key by key lines ++ cond (bytes_eq (key_of by line) key) (line ∷ []) [])
    go true e =
        let same : key_of by line ≡ key = (bytes_eq-Decides (key_of by line) key).0 e in
        let row : rows (key_of by line) ≡ row_of (with_key by key lines) = ap rows same ∙ all key in
        rw e
        (ap (λ (r : Option Sums). Some (plus (unwrap_or r no_tally) line)) row
        ∙ sym (row_more (with_key by key lines) line))
    go false e = rw e (all key ∙ sym (ap row_of (append-nil (with_key by key lines))))
