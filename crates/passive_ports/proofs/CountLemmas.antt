-- The counts of addresses in an ordered map.
use Rattle.std.proofs.Common.{◌≡◌, ◌≢◌, ℕ, zero, suc, ◌-◌, true, cond, List, Option, Some, None, bytes_eq, unwrap_or, refl, sym, ap, ◌∙◌, arith}
use Rattle.std.specs.BTreeMap as tree
use Rattle.std.specs.Cmp.{eq_by_cmp_equiv}
use Rattle.std.specs.Cmp.Lexicographic.{slice_cmp}
use Rattle.std.specs.Ordering.{nat_cmp}
use Rattle.std.proofs.lemmas.Bool.{ne_eqb}
use Rattle.std.proofs.lemmas.Cmp.{nat_list_cmp_total}
use Rattle.std.proofs.lemmas.Slice.Eq.{bytes_eq-Decides}
use Rattle.std.proofs.lemmas.Map.Text.{is_eq-slice_cmp}
use Rattle.passive_ports.specs.Connections.{Counts, count_at, kept_count, SetsCount}

symmetric : (a b : List ℕ) → bytes_eq a b ≡ bytes_eq b a
symmetric a b = sym (is_eq-slice_cmp a b) ∙ (eq_by_cmp_equiv nat_list_cmp_total).symm a b ∙ is_eq-slice_cmp b a

-- the address has this value now, and every other keeps its own
pub sets_count : (old new : Counts) (address : List ℕ) (value : Option ℕ) (count : ℕ) → tree.UpdatesBy (slice_cmp nat_cmp) (slice_cmp nat_cmp address) old new value
    → value ≡ kept_count count → SetsCount old new address count
sets_count old new address value count updates is other =
    updates.0 other ∙ (λ i. cond ((is_eq-slice_cmp address other ∙ symmetric address other) i) (is i) (count_at old other))

pub some_count : (count : ℕ) → count ≢ 0 → Some count ≡ kept_count count
some_count count some = sym (ap (λ b. cond b None (Some count)) (ne_eqb count 0 some))

pub no_count : (count : ℕ) → count ≡ 0 → None ≡ kept_count count
no_count count none = sym (ap kept_count none)

pub unwrap_or-kept_count : (count : ℕ) → unwrap_or (kept_count count) 0 ≡ count
unwrap_or-kept_count zero = refl
unwrap_or-kept_count (suc count) = ap (λ b. unwrap_or (cond b None (Some (suc count))) 0) (ne_eqb (suc count) 0 (omega arith))

pub same_address : (a b : List ℕ) → bytes_eq a b ≡ true → a ≡ b
same_address a b e = (bytes_eq-Decides a b).0 e
