-- Which leaves a look marks.
use Rattle.std.proofs.Common.{◌≡◌, ℕ, ◌+◌, ◌<◌, ◌≤◌, Bool, true, false, List, length, set, sym, ◌∙◌, subst, arith, ◌⊎◌, inl, inr, Option, Some}
use Rattle.std.specs.Prelude.{◌↔◌, IsTrue, slice_get, slice_index}
use Rattle.std.proofs.lemmas.Bool.{and_parts, leb-true, ltb-true, cases_eq}
use Rattle.std.proofs.lemmas.List.{get_or-set_same, get_or-set_other}
use Rattle.limit_tree.specs.Outline.{leaf_range}
use Rattle.grant_certificate.specs.Ranges.{IsGreatest, IsNoneGreater, IsMarked, IsHeldWithin}

pub in_range : (first leaves i : ℕ) → IsTrue (leaf_range first leaves i) → (first ≤ i) × (i < first + leaves)
in_range first leaves i h = let both = and_parts _ _ h in (leb-true first i both.0, ltb-true i (first + leaves) both.1)

-- beside a grant no other is too great where the greatest is not
pub greatest-near : (first leaves : ℕ) (g floors : List ℕ) (most grant : ℕ) → IsGreatest first leaves g floors most → (most < grant + 2) ↔ IsNoneGreater first leaves g floors grant
greatest-near first leaves g floors most grant is = (
  λ less j within. elim (is.above j within) [
    | inl few ↦ inl (omega arith)
    | inr floored ↦ inr floored
  ],
  λ none. elim is.one [
    | inl zero ↦ omega arith
    | inr one ↦ elim (none one.0 one.1) [
      | inl less ↦ let same : slice_index g one.0 ≡ most = one.2 in omega arith
      | inr floored ↦ absurd (one.3 floored)
    ]
  ],
)

-- a leaf is held within a range where it names the number, lies there, and the greatest grant is not too great
pub held-within : (number first leaves most : ℕ) (g floors : List ℕ) (c : List (Option ℕ)) (i : ℕ) → IsGreatest first leaves g floors most → slice_get c i ≡ Some (Some number) → IsTrue (leaf_range first leaves i) → most < slice_index g i + 2 → IsHeldWithin number first leaves g floors c i
held-within number first leaves most g floors c i is named holds near = record {
  named = named;
  holds = holds;
  greatest = (greatest-near first leaves g floors most (slice_index g i) is).0 near;
}

pub within-near : (number first leaves most : ℕ) (g floors : List ℕ) (c : List (Option ℕ)) (i : ℕ) → IsGreatest first leaves g floors most → IsHeldWithin number first leaves g floors c i → most < slice_index g i + 2
within-near number first leaves most g floors c i is h = (greatest-near first leaves g floors most (slice_index g i) is).1 h.greatest

-- marked is what was, and what of the leaves before one has a property
abbrev pub AreMarked : List Bool → List Bool → ℕ → (ℕ → Type 0) → Type 0
AreMarked marks old end H = (i : ℕ) → IsMarked marks i ↔ (IsMarked old i ⊎ ((i < end) × H i))

pub marks-set : (marks old : List Bool) (leaf : ℕ) (H : ℕ → Type 0) → leaf < length marks → H leaf → AreMarked marks old leaf H → AreMarked (set marks leaf true) old (leaf + 1) H
marks-set marks old leaf H inside holds are i = elim (cases_eq i leaf) [
  | inl same ↦ (
    λ marked. inr (omega (arith, same), subst H (sym same) holds),
    λ either. subst (IsMarked (set marks leaf true)) (sym same) (get_or-set_same marks leaf true false inside),
  )
  | inr other ↦ (
    λ marked. elim ((are i).0 (sym (get_or-set_other marks leaf i true false other) ∙ marked)) [
      | inl was ↦ inl was
      | inr here ↦ let l : i < leaf = here.0 in inr (omega arith, here.1)
    ],
    λ either. get_or-set_other marks leaf i true false other ∙ (elim either [
      | inl was ↦ (are i).1 (inl was)
      | inr here ↦ let l : i < leaf + 1 = here.0 in (are i).1 (inr (omega (arith, other), here.1))
    ]),
  )
]

pub marks-pass : (marks old : List Bool) (leaf : ℕ) (H : ℕ → Type 0) → (H leaf → ⊥) → AreMarked marks old leaf H → AreMarked marks old (leaf + 1) H
marks-pass marks old leaf H not are i = (
  λ marked. elim ((are i).0 marked) [
    | inl was ↦ inl was
    | inr here ↦ let l : i < leaf = here.0 in inr (omega arith, here.1)
  ],
  λ either. elim either [
    | inl was ↦ (are i).1 (inl was)
    | inr here ↦ elim (cases_eq i leaf) [
      | inl same ↦ absurd (not (subst H same here.1))
      | inr other ↦ let l : i < leaf + 1 = here.0 in (are i).1 (inr (omega (arith, other), here.1))
    ]
  ],
)
