-- The octets of a path.
use Rattle.std.proofs.Common.{◌≡◌, ◌∙◌, ℕ, ◌<◌, ◌==◌, nat_eq, ◌&&◌, true, false, cond, List, [], ◌∷◌, refl, ap, sym, subst, eqb-true, arith, tests, Option, Some, Result, Ok, Err, Bor}
use Rattle.std.specs.Prelude.{IfSome, MatchResult}
use Rattle.std.specs.Option.{option_map}
use Rattle.sheet_text.specs.Paths.{IsPathText, names_of, parts}
use Rattle.std.specs.Result.{result_ok}
use Rattle.std.specs.List.{list_all, onto_first}
use Rattle.std.specs.Str.{IsUtf8, IsAscii}
use Rattle.std.proofs.lemmas.Str.{IsUtf8-from_ascii}
use Rattle.std.proofs.lemmas.Str.Ascii.{IsAscii-cons, IsAscii-nil}
use Rattle.sheet_text.specs.Text.{is_name, is_name_octet, is_named_path, named_path}
use Rattle.sheet_text.proofs.Numbers.{both}

name_octet : (octet : ℕ) → is_name_octet octet ≡ true → octet < 128
name_octet octet e = grind (arith, tests)

octets_of_names : (names : List (List ℕ)) → list_all is_name names ≡ true → list_all (list_all is_name_octet) names ≡ true
octets_of_names [] e = refl
octets_of_names (name ∷ names) e =
    let halves = both (is_name name) (list_all is_name names) e in
    let octets = (both _ (list_all is_name_octet name) halves.0).1 in
    rw octets (octets_of_names names halves.1)

pub ascii_between : (text : List ℕ) → list_all (list_all is_name_octet) (parts 47 text) ≡ true → IsAscii text
ascii_between [] e = IsAscii-nil
ascii_between (octet ∷ text) e =
    elim (octet == 47) as (λ b. (octet == 47) ≡ b → list_all (list_all is_name_octet) (cond b ([] ∷ parts 47 text) (onto_first octet (parts 47 text))) ≡ true → IsAscii (octet ∷ text)) [
      | true ↦ λ is h. IsAscii-cons octet text (grind (arith, tests, is)) (ascii_between text h)
      | false ↦ λ is h. let more = onto (parts 47 text) h in IsAscii-cons octet text (name_octet octet more.0) (ascii_between text more.1)
    ] refl e
  where
    onto : (names : List (List ℕ)) → list_all (list_all is_name_octet) (onto_first octet names) ≡ true → (is_name_octet octet ≡ true) × (list_all (list_all is_name_octet) names ≡ true)
    onto [] h = ((both (is_name_octet octet) true (both (is_name_octet octet && true) true h).0).0, refl)
    onto (name ∷ names) h =
        let halves = both (is_name_octet octet && list_all is_name_octet name) (list_all (list_all is_name_octet) names) h in
        let first = both (is_name_octet octet) (list_all is_name_octet name) halves.0 in
        (first.0, rw first.1 halves.1)

pub path_ascii : (text : List ℕ) → is_named_path text ≡ true → IsAscii text
path_ascii [] e = cc
path_ascii (octet ∷ rest) e =
    let halves = both (nat_eq octet 47) (list_all is_name (parts 47 rest)) e in
    IsAscii-cons octet rest (grind (arith, tests, halves.0)) (ascii_between rest (octets_of_names (parts 47 rest) halves.1))

-- the text that comes back is the one that was given
pub is_text : {E : Type 0} (o : Option (Bor (List ℕ))) (r : Result (Bor (List ℕ)) E) (text : List ℕ) (Q : E → Type 0) → MatchResult r (λ s. (s.now ≡ text) × IsUtf8 text) (λ e. (¬ (IsUtf8 text)) × Q e) → o ≡ result_ok r → IsAscii text
    → option_map (λ path. names_of path.now) o ≡ Some (names_of text)
is_text o (Ok s) text Q h e a = ap (option_map (λ path. names_of path.now)) e ∙ ap (λ (t : List ℕ). Some (names_of t)) h.0
is_text o (Err x) text Q h e a = absurd (h.0 (IsUtf8-from_ascii text a))

pub is_rooted : {E : Type 0} (o : Option (Bor (List ℕ))) (r : Result (Bor (List ℕ)) E) (text : List ℕ) (Q : E → Type 0) → MatchResult r (λ s. (s.now ≡ text) × IsUtf8 text) (λ e. (¬ (IsUtf8 text)) × Q e) → o ≡ result_ok r → is_named_path text ≡ true
    → IfSome o (λ path. IsPathText path.now)
is_rooted o (Ok s) text Q h e named = subst (λ (x : Option (Bor (List ℕ))). IfSome x (λ path. IsPathText path.now)) (sym e) (subst IsPathText (sym h.0) (rooted text named))
  where
    rooted : (t : List ℕ) → is_named_path t ≡ true → IsPathText t
    rooted [] e = λ some. absurd (omega (arith, some))
    rooted (octet ∷ rest) e = λ some. eqb-true octet 47 (both (nat_eq octet 47) (list_all is_name (parts 47 rest)) e).0
is_rooted o (Err x) text Q h e named = absurd (h.0 (IsUtf8-from_ascii text (path_ascii text named)))

pub is_named : (text : List ℕ) → is_named_path text ≡ true → named_path text ≡ Some (names_of text)
is_named text e = rw e refl
