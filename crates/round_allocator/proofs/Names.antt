-- The last full branch above an unmet leaf backs it.
use Rattle.std.proofs.Common.{◌≡◌, ℕ, zero, suc, ◌+◌, ◌<◌, ◌≤◌, List, [], ◌∷◌, ◌++◌, length, length-append, refl, sym, ap, ◌∙◌, subst, arith, inl, inr, Option, Some, None}
use Rattle.std.specs.Prelude.{IsTrue, slice_get}
use Rattle.std.proofs.lemmas.Bool.{cases_lt}
use Rattle.limit_tree.specs.Sharing.{Branch, LimitTree, IsBranch, IsInside, IsWithin, IsFull, IsDeepestFull, IsBottleneck, IsBackedBy}
use Rattle.limit_tree.specs.Laws.{LaterIsInside}
use Rattle.round_allocator.specs.Rounds.{HasBottlenecks, IsEntry, IsNamed}

-- a full branch that holds the leaf and lies inside a bottleneck is one too
pub bottleneck-inside : (t : LimitTree) (g : List ℕ) (i : ℕ) (a b : Branch) → IsBottleneck t b g i → IsFull a g → IsTrue (a.holds i) → IsInside a.holds b.holds → IsBottleneck t a g i
bottleneck-inside t g i a b bottle full holds inside = record {
  full = full;
  holds = holds;
  greatest = λ j held. bottle.greatest j (inside j held);
}

-- the last full branch above a leaf with a bottleneck is one
pub bottleneck-deepest : (t : LimitTree) (g : List ℕ) (i : ℕ) (last : Option ℕ) → LaterIsInside t → IsDeepestFull t g i last → (n : ℕ) (b : Branch) → IsBranch t n b → IsBottleneck t b g i → (k : ℕ) × (a : Branch) × (last ≡ Some k) × IsBranch t k a × IsBottleneck t a g i
bottleneck-deepest t g i None later none n b is bottle = absurd (none n (b, is, bottle.holds, bottle.full))
bottleneck-deepest t g i (Some k) later deepest n b is bottle =
    let full = deepest.0 in
    let above : n ≤ k = deepest.1 n (b, is, bottle.holds, bottle.full) in
    (k, full.0, refl, full.1, bottleneck-inside t g i full.0 b bottle full.3 full.2 (later n k i b full.0 is full.1 above bottle.holds full.2))

-- grants with bottlenecks are backed by the certificate that names the last full branches
pub named-backed : (t : LimitTree) (g : List ℕ) (c : List (Option ℕ)) → LaterIsInside t → IsWithin t g → HasBottlenecks t g → IsNamed t g c → IsBackedBy t g c
named-backed t g c later within bottles named = record {
  leaves = named.leaves ∙ within.wanted.leaves;
  backed = λ i l unmet.
      let at = bottles i unmet in
      let e = named.entries i l in
      let last = bottleneck-deepest t g i e.0 later (e.2.unmet unmet) at.0 at.1 at.2 at.3 in
      (last.0, last.1, e.1 ∙ ap Some last.2, last.3, last.4);
}

-- the entries of the leaves below n
pub record IsNamedBelow (t : LimitTree) (g : List ℕ) (n : ℕ) (c : List (Option ℕ)) : Type 0 where
  pub leaves : length c ≡ n
  pub entries : (i : ℕ) → i < n → (entry : Option ℕ) × (slice_get c i ≡ Some entry) × IsEntry t g i entry

get-front : (c d : List (Option ℕ)) (i : ℕ) (o : Option ℕ) → slice_get c i ≡ Some o → slice_get (c ++ d) i ≡ Some o
get-front [] d i o e = absurd (cc)
get-front (x ∷ c) d zero o e = e
get-front (x ∷ c) d (suc i) o e = get-front c d i o e

get-last : (c : List (Option ℕ)) (o : Option ℕ) (i : ℕ) → i ≡ length c → slice_get (c ++ o ∷ []) i ≡ Some o
get-last [] o zero e = refl
get-last [] o (suc i) e = absurd (omega arith)
get-last (x ∷ c) o zero e = absurd (omega arith)
get-last (x ∷ c) o (suc i) e = get-last c o i (omega arith)

-- and one entry more
pub named-more : (t : LimitTree) (g : List ℕ) (n : ℕ) (c : List (Option ℕ)) (o : Option ℕ) → IsNamedBelow t g n c → IsEntry t g n o → IsNamedBelow t g (n + 1) (c ++ o ∷ [])
named-more t g n c o below new = record {
  leaves = omega (arith, below.leaves, length-append c (o ∷ []));
  entries = λ i l. elim (cases_lt i n) [
    | inl old ↦ let e = below.entries i old in (e.0, get-front c (o ∷ []) i e.0 e.1, e.2)
    | inr past ↦
        let same : i ≡ n = omega arith in
        (o, get-last c o i (omega (arith, below.leaves)), subst (λ (j : ℕ). IsEntry t g j o) (sym same) new)
  ];
}
