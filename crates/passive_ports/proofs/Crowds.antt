-- Addresses with more connections than a limit.
use Rattle.std.proofs.Common.{◌≡◌, ◌∙◌, ℕ, ◌≤◌, Bool, true, false, List, [], ◌∷◌, Option, Some, None, bytes_eq, unwrap_or, refl, sym, subst, ap, arith}
use Rattle.std.specs.BTreeMap as tree
use Rattle.std.specs.Cmp.Lexicographic.{slice_cmp}
use Rattle.std.specs.Map.{lookup}
use Rattle.std.specs.Ordering.{nat_cmp}
use Rattle.std.proofs.lemmas.Map.Text.{is_eq-slice_cmp}
use Rattle.passive_ports.specs.Connections.{Counts, count_at, count_in}
use Rattle.passive_ports.proofs.CountLemmas.{same_address}

-- the address of an entry has at most as many
abbrev pub Fits : Counts → ℕ → List ℕ × ℕ → Type 0
Fits counts limit entry = count_in counts entry.0 ≤ limit

abbrev pub AllFit : Counts → ℕ → List (List ℕ × ℕ) → Type 0
AllFit counts limit [] = Unit {0}
AllFit counts limit (entry ∷ entries) = Fits counts limit entry × AllFit counts limit entries

-- an address that is found among entries which all fit
found_fits : (counts : Counts) (limit : ℕ) (address : List ℕ) (count : ℕ) (entries : List (List ℕ × ℕ)) → AllFit counts limit entries
    → lookup (tree.is_at (slice_cmp nat_cmp address)) entries ≡ Some count → count_in counts address ≤ limit
found_fits counts limit address count [] fit is = cc
found_fits counts limit address count (e ∷ es) fit is = go (tree.is_at (slice_cmp nat_cmp address) e.0) refl (found_fits counts limit address count es fit.1)
  where
    go : (b : Bool) → tree.is_at (slice_cmp nat_cmp address) e.0 ≡ b → (lookup (tree.is_at (slice_cmp nat_cmp address)) es ≡ Some count → count_in counts address ≤ limit)
        → count_in counts address ≤ limit
    go true t rest =
        let same : address ≡ e.0 = same_address address e.0 (sym (is_eq-slice_cmp address e.0) ∙ t) in
        subst (λ (a : List ℕ). count_in counts a ≤ limit) (sym same) fit.0
    go false t rest = rest (rw t at is)

-- so no address has more
pub none_has_more : (counts : Counts) (limit : ℕ) → AllFit counts limit counts.entries → (address : List ℕ) → count_in counts address ≤ limit
none_has_more counts limit fit address = go (count_at counts address) refl
  where
    go : (found : Option ℕ) → count_at counts address ≡ found → count_in counts address ≤ limit
    go None is = let none : count_in counts address ≡ 0 = ap (λ (o : Option ℕ). unwrap_or o 0) is in omega (arith, none)
    go (Some count) is = found_fits counts limit address count counts.entries fit is
