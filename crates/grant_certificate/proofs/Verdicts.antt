-- A flaw and backed grants exclude each other.
use Rattle.std.proofs.Common.{◌≡◌, ℕ, ◌<◌, List, length, refl, sym, ap, ◌∙◌, subst, arith, inl, inr, Option, Some, None, ◌≤◌}
use Rattle.std.specs.Prelude.{◌↔◌, IsTrue, slice_get, slice_index, MatchOption, sum, ◌^◌}
use Rattle.std.proofs.lemmas.Bool.{false≢true, cases_lt}
use Rattle.limit_tree.specs.Sharing.{Branch, LimitTree, IsBranch, IsWithin, IsFull, IsNotTooGreat, IsBottleneck, IsBackedBy, sum_over}
use Rattle.limit_tree.proofs.Sums.{sum-wanted}
use Rattle.grant_certificate.specs.Flaws.{HasLengths, IsFirstOver, Names, IsBackedAt, IsTooGreat, IsLeafFlaw, IsFirstUnbacked, IsFirstFlaw, IsVerdict}
use Rattle.grant_certificate.specs.declared.flaw.Flaw.{Flaw}
use Rattle.grant_certificate.specs.declared.flaw.Flaw.TheVariants.{WrongLength, OverWant, OverLimit, NoNode, NotAbove, NotFull, TooGreat, UnderFloor}
use Rattle.grant_certificate.specs.declared.flaw.Verdict.{Verdict}
use Rattle.grant_certificate.specs.declared.flaw.Verdict.TheVariants.{Yes, No}

-- what the entry of a backed leaf names
abbrev Backing : LimitTree → List ℕ → List (Option ℕ) → ℕ → Type 0
Backing t g c i = (k : ℕ) × (b : Branch) × (slice_get c i ≡ Some (Some k)) × IsBranch t k b × IsBottleneck t b g i

-- an entry names one branch
same_branch : (t : LimitTree) (c : List (Option ℕ)) (i k n : ℕ) (a b : Branch) → Names t c i k a → slice_get c i ≡ Some (Some n) → IsBranch t n b → a ≡ b
same_branch t c i k n a b named got is =
    let e : Some (Some k) ≡ Some (Some n) = sym named.0 ∙ got in
    let same : k ≡ n = cc in
    let f : Some a ≡ Some b = sym named.1 ∙ (ap t.branch same ∙ is) in
    cc

too_great-refutes : (t : LimitTree) (g : List ℕ) (i j : ℕ) → IsTooGreat t g i j → IsNotTooGreat t g i j → ⊥
too_great-refutes t g i j great (inl less) = absurd (omega (arith, great.0))
too_great-refutes t g i j great (inr floored) = great.1 floored

leaf_refutes : (t : LimitTree) (g : List ℕ) (c : List (Option ℕ)) (i : ℕ) (f : Flaw) → IsLeafFlaw t g c i f → Backing t g c i → ⊥
leaf_refutes t g c i WrongLength h at = h
leaf_refutes t g c i (OverWant leaf) h at = h
leaf_refutes t g c i (UnderFloor leaf) h at = h
leaf_refutes t g c i (OverLimit node) h at = h
leaf_refutes t g c i (NoNode leaf) h at = h.1 at.0 at.1 (at.2, at.3)
leaf_refutes t g c i (NotAbove leaf node) h at =
    let same : h.1 ≡ at.1 = same_branch t c i node at.0 h.1 at.1 h.2 at.2 at.3 in
    false≢true (sym h.3 ∙ subst (λ (b : Branch). IsTrue (b.holds i)) (sym same) at.4.holds)
leaf_refutes t g c i (NotFull leaf node) h at =
    let same : h.1 ≡ at.1 = same_branch t c i node at.0 h.1 at.1 h.2 at.2 at.3 in
    h.4 (subst (λ (b : Branch). IsFull b g) (sym same) at.4.full)
leaf_refutes t g c i (TooGreat leaf other) h at =
    let same : h.2 ≡ at.1 = same_branch t c i h.1 at.0 h.2 at.1 h.3 at.2 at.3 in
    let great = h.6 in
    too_great-refutes t g i other great.1 (at.4.greatest other (subst (λ (b : Branch). IsTrue (b.holds other)) same great.0))

at_leaf : (t : LimitTree) (g : List ℕ) (c : List (Option ℕ)) (f : Flaw) → HasLengths t g c × IsWithin t g × IsFirstUnbacked t g c f → IsBackedBy t g c → ⊥
at_leaf t g c f h backed = let u : IsFirstUnbacked t g c f = h.2 in leaf_refutes t g c u.0 f u.4 (backed.backed u.0 u.1 u.2)

pub flaw_refutes : (t : LimitTree) (g : List ℕ) (c : List (Option ℕ)) (f : Flaw) → IsFirstFlaw t g c f → IsWithin t g → IsBackedBy t g c → ⊥
flaw_refutes t g c WrongLength h within backed = h (within.wanted.leaves, backed.leaves)
flaw_refutes t g c (OverWant leaf) h within backed = absurd (omega (arith, h.2, within.wanted.wants leaf h.1))
flaw_refutes t g c (UnderFloor leaf) h within backed = absurd (omega (arith, h.3, within.floors leaf h.2))
flaw_refutes t g c (OverLimit node) h within backed =
    let over = h.3 in
    absurd (omega (arith, over.4, within.limits node over.1 over.0 over.2 over.3))
flaw_refutes t g c (NoNode leaf) h within backed = at_leaf t g c (NoNode leaf) h backed
flaw_refutes t g c (NotAbove leaf node) h within backed = at_leaf t g c (NotAbove leaf node) h backed
flaw_refutes t g c (NotFull leaf node) h within backed = at_leaf t g c (NotFull leaf node) h backed
flaw_refutes t g c (TooGreat leaf other) h within backed = at_leaf t g c (TooGreat leaf other) h backed

pub verdict_yes : (t : LimitTree) (g : List ℕ) (c : List (Option ℕ)) (v : Verdict) → IsVerdict t g c v → (v ≡ Yes) ↔ (IsWithin t g × IsBackedBy t g c)
verdict_yes t g c Yes h = (λ e. h, λ p. refl)
verdict_yes t g c (No f) h = (λ e. absurd (cc), λ p. absurd (flaw_refutes t g c f h p.0 p.1))

-- of grants within, the flaw of the first leaf that is not backed is the first
pub unbacked-first : (t : LimitTree) (g : List ℕ) (c : List (Option ℕ)) (f : Flaw) → HasLengths t g c → IsWithin t g → IsFirstUnbacked t g c f → IsFirstFlaw t g c f
unbacked-first t g c WrongLength lengths within first = absurd (first.4)
unbacked-first t g c (OverWant leaf) lengths within first = absurd (first.4)
unbacked-first t g c (UnderFloor leaf) lengths within first = absurd (first.4)
unbacked-first t g c (OverLimit node) lengths within first = absurd (first.4)
unbacked-first t g c (NoNode leaf) lengths within first = (lengths, within, first)
unbacked-first t g c (NotAbove leaf node) lengths within first = (lengths, within, first)
unbacked-first t g c (NotFull leaf node) lengths within first = (lengths, within, first)
unbacked-first t g c (TooGreat leaf other) lengths within first = (lengths, within, first)

abbrev Backed : LimitTree → List ℕ → List (Option ℕ) → ℕ → Type 0
Backed t g c i = (k : ℕ) × (b : Branch) × Names t c i k b × IsBottleneck t b g i

-- of grants within, the verdict on their backing is the verdict
pub backing-flaw : (t : LimitTree) (g : List ℕ) (c : List (Option ℕ)) (found : Option Flaw) → HasLengths t g c → IsWithin t g → MatchOption found ((i : ℕ) → i < length g → IsBackedAt t g c i) (λ f. IsFirstUnbacked t g c f) → MatchOption found (IsWithin t g × IsBackedBy t g c) (λ f. IsFirstFlaw t g c f)
backing-flaw t g c None lengths within all = (within, record { leaves = lengths.1; backed = λ i l unmet. let at : Backed t g c i = all i l unmet in (at.0, at.1, at.2.0, at.2.1, at.3) })
backing-flaw t g c (Some f) lengths within first = unbacked-first t g c f lengths within first

-- grants without a flaw of their own are within
pub is-within : (t : LimitTree) (g wants floors : List ℕ) → length g ≡ length t.wants → wants ≡ t.wants → floors ≡ t.floors → length floors ≡ length g → ((j : ℕ) → j < length g → slice_index g j ≤ slice_index wants j) → ((j : ℕ) → j < length floors → slice_index floors j ≤ slice_index g j) → IsFirstOver t g None → IsWithin t g
is-within t g wants floors count same_wants same_floors floored few enough none = record {
  wanted = record { leaves = count; wants = subst (λ (ws : List ℕ). (j : ℕ) → j < length g → slice_index g j ≤ slice_index ws j) same_wants few };
  floors = λ i l. subst (λ (fs : List ℕ). slice_index fs i ≤ slice_index g i) same_floors (enough i (omega arith));
  limits = λ k most b is limit. elim (cases_lt most (sum_over b.holds g)) [
    | inr fits ↦ fits
    | inl over ↦ absurd (none k (b, most, is, limit, over))
  ];
}

pub sum-fits : (t : LimitTree) (g wants : List ℕ) → length g ≡ length t.wants → wants ≡ t.wants → ((j : ℕ) → j < length g → slice_index g j ≤ slice_index wants j) → sum t.wants < 2 ^ 64 → sum g < 2 ^ 64
sum-fits t g wants count same few fits = omega (arith, sum-wanted t g (record { leaves = count; wants = subst (λ (ws : List ℕ). (j : ℕ) → j < length g → slice_index g j ≤ slice_index ws j) same few }))
