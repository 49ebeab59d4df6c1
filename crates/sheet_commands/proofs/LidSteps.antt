-- The lids of leaves, after one more node.
use Rattle.std.proofs.Common.{◌≡◌, ◌≢◌, ◌∙◌, ◌+◌, ◌<◌, ℕ, Bool, true, false, if◌then◌else◌, List, Option, Some, None, length, get_or, nat_eq, refl, sym, ap, inl, inr, set, slice_get, take, get_or-set_same, get_or-set_other, eq-eqb}
use Rattle.std.proofs.lemmas.Bool.{cases_eq, ne_eqb}
use Rattle.std.proofs.lemmas.Option.{get_or_from_slice_get}
use Rattle.std.proofs.lemmas.List.Sums.{fold_more}
use Rattle.limit_tree.specs.declared.place.Place.{Place}
use Rattle.sheet_commands.specs.Columns.{HasLids, lid_of, limit_alone, own_limit, tighter}

tighter_none : (limit : Option ℕ) → tighter limit None ≡ limit
tighter_none None = refl
tighter_none (Some most) = refl

-- the lid of a leaf after one more node
lid_more : (outline : List Place) (node leaf : ℕ) (p : Place) → node < length outline → slice_get outline node ≡ Some p
    → lid_of (take (node + 1) outline) leaf ≡ tighter (lid_of (take node outline) leaf) (own_limit p leaf)
lid_more outline node leaf p less is =
    fold_more (λ (least : Option ℕ) (x : Place). tighter least (own_limit x leaf)) None outline node p less
    ∙ ap (λ (x : Place). tighter (lid_of (take node outline) leaf) (own_limit x leaf)) (get_or_from_slice_get outline node p p is)

own_of : (p : Place) (leaf : ℕ) → p.first ≡ leaf → own_limit p leaf ≡ limit_alone p
own_of p leaf is = ap (λ (b : Bool). if b then limit_alone p else None) (eq-eqb p.first leaf is)

own_none : (p : Place) (leaf : ℕ) → p.first ≢ leaf → own_limit p leaf ≡ None
own_none p leaf apart = ap (λ (b : Bool). if b then limit_alone p else None) (ne_eqb p.first leaf apart)

own_of_none : (p : Place) (leaf : ℕ) → limit_alone p ≡ None → own_limit p leaf ≡ None
own_of_none p leaf none = elim (nat_eq p.first leaf) as (λ b. (if b then limit_alone p else None) ≡ None) [ true ↦ none | false ↦ refl ]

-- a node without a limit for one leaf alone changes no lid
pub unnoted : (outline : List Place) (node : ℕ) (p : Place) (lids : List (Option ℕ)) → node < length outline → slice_get outline node ≡ Some p
    → limit_alone p ≡ None → HasLids (take node outline) lids → HasLids (take (node + 1) outline) lids
unnoted outline node p lids less is none has leaf inside =
    has leaf inside ∙ sym (lid_more outline node leaf p less is ∙ ap (tighter (lid_of (take node outline) leaf)) (own_of_none p leaf none) ∙ tighter_none _)

-- the limit of a node for one leaf alone is noted at that leaf
pub noted : (outline : List Place) (node : ℕ) (p : Place) (lids : List (Option ℕ)) (most : ℕ) → node < length outline → slice_get outline node ≡ Some p
    → limit_alone p ≡ Some most → p.first < length lids → HasLids (take node outline) lids
    → (leaf : ℕ) → leaf < length lids
    → get_or (set lids p.first (tighter (get_or lids p.first None) (Some most))) leaf None ≡ lid_of (take (node + 1) outline) leaf
noted outline node p lids most less is alone first has leaf inside = elim (cases_eq p.first leaf) [
  | inl same ↦
      ap (λ (i : ℕ). get_or (set lids p.first (tighter (get_or lids p.first None) (Some most))) i None) (sym same)
      ∙ get_or-set_same lids p.first _ None first
      ∙ ap (λ (o : Option ℕ). tighter o (Some most)) (ap (λ (i : ℕ). get_or lids i None) same ∙ has leaf inside)
      ∙ sym (lid_more outline node leaf p less is ∙ ap (tighter (lid_of (take node outline) leaf)) (own_of p leaf same ∙ alone))
  | inr apart ↦
      get_or-set_other lids p.first leaf _ None (λ is. apart (sym is))
      ∙ has leaf inside
      ∙ sym (lid_more outline node leaf p less is ∙ ap (tighter (lid_of (take node outline) leaf)) (own_none p leaf apart) ∙ tighter_none _)
]
