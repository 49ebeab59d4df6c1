use Rattle.std.proofs.Common.{◌≡◌, ◌∙◌, ℕ, List, ◌++◌, ap, sym, codes, slice_index, Result, Ok, Err, OnOk}
use Rattle.std.specs.Prelude.{string_bytes}
use Rattle.limit_tree.specs.Outline.{limits}
use Rattle.limit_tree.specs.declared.place.Place.{Place}
use Rattle.grant_certificate.specs.declared.flaw.Flaw.{Flaw}
use Rattle.sheet_commands.specs.Checking.{flaw_words, number_word}
use Rattle.sheet_commands.proofs.verdict.push_flaw.Goals as goal

-- the words of a flaw that were written
wrote : {T E : Type 0} (r : Result T E) (new old words : List ℕ) (reported : Flaw → List ℕ) (flaw same : Flaw) → flaw ≡ same → words ≡ reported same → OnOk r (new ≡ old ++ words) → OnOk r (new ≡ old ++ reported flaw)
wrote (Ok value) new old words reported flaw same is e p = p ∙ ap (λ (w : List ℕ). old ++ w) (e ∙ ap reported (sym is))
wrote (Err fault) new old words reported flaw same is e p = tt

with_numbers : (name p q : List ℕ) (g m n : ℕ) → p ≡ q → m ≡ n → name ++ (codes " " ++ p) ++ number_word g ++ number_word m ≡ name ++ (codes " " ++ q) ++ number_word g ++ number_word n
with_numbers name p q g m n same number =
    ap (λ (t : List ℕ). name ++ (codes " " ++ t) ++ number_word g ++ number_word m) same ∙ ap (λ (k : ℕ). name ++ (codes " " ++ q) ++ number_word g ++ number_word k) number

with_paths : (name p q a b : List ℕ) → p ≡ q → a ≡ b → name ++ (codes " " ++ p) ++ (codes " " ++ a) ≡ name ++ (codes " " ++ q) ++ (codes " " ++ b)
with_paths name p q a b leaf node = ap (λ (t : List ℕ). name ++ (codes " " ++ t) ++ (codes " " ++ a)) leaf ∙ ap (λ (t : List ℕ). name ++ (codes " " ++ q) ++ (codes " " ++ t)) node

pub returns-in-OverWant : goal.returns-in-OverWant
returns-in-OverWant g c =
    let gs = c.args.grants.now in
    let leaf = c.in-OverWant.leaf in
    let number = c.want-want.ensures.want ∙ ap (λ (o : List Place). slice_index (limits o).wants leaf) c.tree.ensures.tree in
    record {
      words = wrote c.push_numbers.result (string_bytes c.push_numbers.new.text) (string_bytes c.args.text.now) _ (flaw_words c.args.sheet.now gs) c.args.flaw _ c.in-OverWant.is
          (with_numbers (codes "2 OverWant") c.leaf_path.result.now _ (slice_index gs leaf) c.want-want.result _ c.leaf_path.ensures.path number) c.push_numbers.ensures.words;
    }

pub returns-in-UnderFloor : goal.returns-in-UnderFloor
returns-in-UnderFloor g c =
    let gs = c.args.grants.now in
    let leaf = c.in-UnderFloor.leaf in
    let number = c.floor-floor.ensures.floor ∙ ap (λ (o : List Place). slice_index (limits o).floors leaf) c.tree-in-UnderFloor.ensures.tree in
    record {
      words = wrote c.push_numbers-in-UnderFloor.result (string_bytes c.push_numbers-in-UnderFloor.new.text) (string_bytes c.args.text.now) _ (flaw_words c.args.sheet.now gs) c.args.flaw _ c.in-UnderFloor.is
          (with_numbers (codes "8 UnderFloor") c.leaf_path-in-UnderFloor.result.now _ (slice_index gs leaf) c.floor-floor.result _ c.leaf_path-in-UnderFloor.ensures.path number) c.push_numbers-in-UnderFloor.ensures.words;
    }

pub returns-in-NotAbove : goal.returns-in-NotAbove
returns-in-NotAbove g c = record {
  words = wrote c.push_paths.result (string_bytes c.push_paths.new.text) (string_bytes c.args.text.now) _ (flaw_words c.args.sheet.now c.args.grants.now) c.args.flaw _ c.in-NotAbove.is
      (with_paths (codes "5 NotAbove") c.leaf_path-in-NotAbove.result.now _ c.path.result.now _ c.leaf_path-in-NotAbove.ensures.path c.path.ensures.path) c.push_paths.ensures.words;
}

pub returns-in-NotFull : goal.returns-in-NotFull
returns-in-NotFull g c = record {
  words = wrote c.push_paths-in-NotFull.result (string_bytes c.push_paths-in-NotFull.new.text) (string_bytes c.args.text.now) _ (flaw_words c.args.sheet.now c.args.grants.now) c.args.flaw _ c.in-NotFull.is
      (with_paths (codes "6 NotFull") c.leaf_path-in-NotFull.result.now _ c.path-in-NotFull.result.now _ c.leaf_path-in-NotFull.ensures.path c.path-in-NotFull.ensures.path) c.push_paths-in-NotFull.ensures.words;
}
