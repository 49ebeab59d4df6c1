-- Totals of users, leaf by leaf.
use Rattle.std.proofs.Common.{◌≡◌, ℕ, zero, suc, ◌+◌, ◌<◌, ◌≤◌, true, List, [], ◌∷◌, ◌++◌, length, take, set, refl, sym, ap, ◌∙◌, subst, arith, inl, inr, Some, get_or-set_other, get_or-set_same}
use Rattle.std.specs.Prelude.{slice_get, slice_index}
use Rattle.std.proofs.Math.ListN.{length-set}
use Rattle.std.proofs.lemmas.Bool.{cases_eq}
use Rattle.limit_tree.proofs.Sums.{sum_in}
use Rattle.grant_certificate.specs.Users.{leaves_of}
use Rattle.grant_certificate.proofs.UserRanges.{in_more, in_none}
use Rattle.grant_certificate.proofs.UserSums.{own_leaf, leaf_other}
use Rattle.user_shares.proofs.Reshaping.{take-next}

pub totals-more : (owners grants totals : List ℕ) (leaf total : ℕ) → leaf < length owners → slice_index owners leaf < length totals → ((u : ℕ) → u < length totals → slice_index totals u ≡ sum_in leaf (leaves_of owners u) (λ i. slice_index grants i)) → total ≡ slice_index totals (slice_index owners leaf) + slice_index grants leaf → (u : ℕ) → u < length totals → slice_index (set totals (slice_index owners leaf) total) u ≡ sum_in (leaf + 1) (leaves_of owners u) (λ i. slice_index grants i)
totals-more owners grants totals leaf total low few before is u l =
    let f : ℕ → ℕ = λ i. slice_index grants i in
    let user = slice_index owners leaf in
    elim (cases_eq u user) [
      | inl e ↦
          let more : sum_in (leaf + 1) (leaves_of owners u) f ≡ sum_in leaf (leaves_of owners u) f + f leaf = in_more (leaves_of owners u) f leaf (subst (λ (w : ℕ). leaves_of owners w leaf ≡ true) (sym e) (own_leaf owners leaf low)) in
          let here : slice_index (set totals user total) u ≡ total = ap (λ (w : ℕ). slice_index (set totals user total) w) e ∙ get_or-set_same totals user total 0 few in
          let was : slice_index totals user ≡ sum_in leaf (leaves_of owners u) f = ap (λ (w : ℕ). slice_index totals w) (sym e) ∙ before u l in
          omega (arith, more, here, was, is)
      | inr ne ↦
          let none : sum_in (leaf + 1) (leaves_of owners u) f ≡ sum_in leaf (leaves_of owners u) f = in_none (leaves_of owners u) f leaf (leaf_other owners u leaf ne) in
          let same : slice_index (set totals user total) u ≡ slice_index totals u = get_or-set_other totals user u total 0 ne in
          omega (arith, none, same, before u l)
    ]

index-get : (xs : List ℕ) (k : ℕ) → k < length xs → slice_get xs k ≡ Some (slice_index xs k)
index-get [] k less = absurd (omega arith)
index-get (x ∷ xs) zero less = refl
index-get (x ∷ xs) (suc k) less = index-get xs k (omega arith)

pub floors-more : (fs items new : List ℕ) (leaf x : ℕ) → leaf < length fs → items ≡ take leaf fs → x ≡ slice_index fs leaf → new ≡ items ++ x ∷ [] → new ≡ take (leaf + 1) fs
floors-more fs items new leaf x less before is more =
    more ∙ (ap (λ (xs : List ℕ). xs ++ x ∷ []) before ∙
    (ap (λ (y : ℕ). take leaf fs ++ y ∷ []) is ∙ sym (take-next fs leaf (slice_index fs leaf) (index-get fs leaf less))))
