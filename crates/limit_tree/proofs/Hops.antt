-- What a row of trees takes in, tree by tree.
use Rattle.std.proofs.Common.{◌≡◌, ℕ, zero, suc, ◌+◌, ◌<◌, ◌≤◌, List, [], ◌∷◌, length, take, drop, min, max, sum, refl, sym, ap, ◌∙◌, subst, arith, Option, Some, None}
use Rattle.std.specs.Prelude.{slice_get, unwrap_or}
use Rattle.std.specs.Option.{option_map}
use Rattle.std.proofs.lemmas.List.Sums.{sum_by-cons, sum_by-take-drop}
use Rattle.limit_tree.specs.Outline.{limits, cut, absorb_step, absorb_stack, absorbed, first_or_zero}
use Rattle.limit_tree.specs.Flat.{IsRow, HasRow, IsTreeAt, IsShaped, taken_in, taken_below}
use Rattle.std.proofs.lemmas.Option.{slice_get_within}
use Rattle.limit_tree.specs.declared.place.NodeKind.{NodeKind}
use Rattle.limit_tree.specs.declared.place.NodeKind.TheVariants.{Branch, Leaf}
use Rattle.limit_tree.specs.declared.place.Place.{Place}
use Rattle.limit_tree.proofs.Looks.{some_within}
use Rattle.limit_tree.proofs.Absorbs.{stack-wants, sum_wants-drop}

-- from a node on it is the first
pub drop-at : (ps : List Place) (k : ℕ) (p : Place) → slice_get ps k ≡ Some p → drop k ps ≡ p ∷ drop (k + 1) ps
drop-at [] k p e = absurd (cc)
drop-at (x ∷ ps) zero p e = let same : x ≡ p = cc in ap (λ (y : Place). y ∷ ps) same
drop-at (x ∷ ps) (suc k) p e = let next : suc k + 1 ≡ suc (k + 1) = omega arith in drop-at ps k p e ∙ ap (λ (n : ℕ). p ∷ drop n (x ∷ ps)) (sym next)

stack-at : (level : ℕ) (ps : List Place) (k : ℕ) (p : Place) (kind : NodeKind) → slice_get ps k ≡ Some p → p.kind ≡ kind → absorb_stack level (drop k ps) ≡ absorb_step level p.kids kind (absorb_stack level (drop (k + 1) ps))
stack-at level ps k p kind got is = ap (absorb_stack level) (drop-at ps k p got) ∙ ap (λ (x : NodeKind). absorb_step level p.kids x (absorb_stack level (drop (k + 1) ps))) is

pub absorbed-leaf : (level : ℕ) (ps : List Place) (k : ℕ) (p : Place) (want floor : ℕ) → slice_get ps k ≡ Some p → p.kind ≡ Leaf want floor → absorbed level ps k ≡ min want (max floor level)
absorbed-leaf level ps k p want floor got is = ap first_or_zero (stack-at level ps k p (Leaf want floor) got is)

pub absorbed-branch : (level : ℕ) (ps : List Place) (k : ℕ) (p : Place) (limit : Option ℕ) → slice_get ps k ≡ Some p → p.kind ≡ Branch limit → absorbed level ps k ≡ cut limit (taken_in level ps (k + 1) p.kids)
absorbed-branch level ps k p limit got is = ap first_or_zero (stack-at level ps k p (Branch limit) got is)

-- a tree pops its kids and leaves one element
abbrev Hops : ℕ → List Place → ℕ → Type 0
Hops level ps fuel = (k : ℕ) (p : Place) → slice_get ps k ≡ Some p → p.nodes ≤ fuel → absorb_stack level (drop k ps) ≡ absorbed level ps k ∷ absorb_stack level (drop (k + p.nodes) ps)

pub row-last : (ps : List Place) (at first n last past : ℕ) → IsRow ps at first n last past → at ≤ last
row-last ps at first zero last past row = omega (arith, row.0)
row-last ps at first (suc n) last past row = omega (arith, row-last ps (at + row.0.nodes) (first + row.0.leaves) n last past row.3)

row-drop : (level : ℕ) (ps : List Place) (fuel : ℕ) → Hops level ps fuel → (n at first last past : ℕ) → IsRow ps at first n last past → last ≤ at + fuel → drop n (absorb_stack level (drop at ps)) ≡ absorb_stack level (drop last ps)
row-drop level ps fuel hops zero at first last past row fits = ap (λ (k : ℕ). absorb_stack level (drop k ps)) row.0
row-drop level ps fuel hops (suc n) at first last past row fits =
    let next = row-last ps (at + row.0.nodes) (first + row.0.leaves) n last past row.3 in
    ap (drop (suc n)) (hops at row.0 row.1 (omega (arith, next))) ∙
    row-drop level ps fuel hops n (at + row.0.nodes) (first + row.0.leaves) last past row.3 (omega arith)

hop-kind : (level : ℕ) (ps : List Place) (fuel : ℕ) → Hops level ps fuel → (k : ℕ) (p : Place) → slice_get ps k ≡ Some p → p.nodes ≤ suc fuel → IsTreeAt ps k p → (kind : NodeKind) → p.kind ≡ kind → absorb_stack level (drop k ps) ≡ absorbed level ps k ∷ absorb_stack level (drop (k + p.nodes) ps)
hop-kind level ps fuel hops k p got fits tree (Leaf want floor) is =
    let one = tree.leaf want floor is in
    stack-at level ps k p (Leaf want floor) got is ∙
    (ap (λ (x : ℕ). x ∷ absorb_stack level (drop (k + 1) ps)) (sym (absorbed-leaf level ps k p want floor got is)) ∙
    ap (λ (n : ℕ). absorbed level ps k ∷ absorb_stack level (drop (k + n) ps)) (sym one.0))
hop-kind level ps fuel hops k p got fits tree (Branch limit) is =
    stack-at level ps k p (Branch limit) got is ∙
    (ap (λ (x : ℕ). x ∷ drop p.kids (absorb_stack level (drop (k + 1) ps))) (sym (absorbed-branch level ps k p limit got is)) ∙
    ap (λ (s : List ℕ). absorbed level ps k ∷ s) (row-drop level ps fuel hops p.kids (k + 1) p.first (k + p.nodes) (p.first + p.leaves) (tree.branch limit is) (omega arith)))

hops : (level : ℕ) (ps : List Place) (fuel : ℕ) → IsShaped ps → Hops level ps fuel
hops level ps zero shaped = λ k p got fits. absurd (omega (arith, (shaped k p got).some))
hops level ps (suc fuel) shaped = λ k p got fits. hop-kind level ps fuel (hops level ps fuel shaped) k p got fits (shaped k p got) p.kind refl

pub hop : (level : ℕ) (ps : List Place) (k : ℕ) (p : Place) → IsShaped ps → slice_get ps k ≡ Some p → absorb_stack level (drop k ps) ≡ absorbed level ps k ∷ absorb_stack level (drop (k + p.nodes) ps)
hop level ps k p shaped got = hops level ps p.nodes shaped k p got (omega arith)

-- one tree more
pub taken-more : (level : ℕ) (ps : List Place) (at n : ℕ) (p : Place) → IsShaped ps → slice_get ps at ≡ Some p → taken_in level ps at (suc n) ≡ absorbed level ps at + taken_in level ps (at + p.nodes) n
taken-more level ps at n p shaped got =
    ap (λ (s : List ℕ). sum (take (suc n) s)) (hop level ps at p shaped got) ∙
    sum_by-cons (λ x. x) (absorbed level ps at) (take n (absorb_stack level (drop (at + p.nodes) ps)))

pub taken-one : (level : ℕ) (ps : List Place) (at : ℕ) (p : Place) → IsShaped ps → slice_get ps at ≡ Some p → taken_in level ps at 1 ≡ absorbed level ps at
taken-one level ps at p shaped got = omega (arith, taken-more level ps at 0 p shaped got)

pub taken-at : (level : ℕ) (ps : List Place) (at : ℕ) → IsShaped ps → at < length ps → taken_in level ps at 1 ≡ absorbed level ps at
taken-at level ps at shaped less = go (slice_get ps at) refl
  where
    go : (o : Option Place) → slice_get ps at ≡ o → taken_in level ps at 1 ≡ absorbed level ps at
    go None e = absurd (some_within ps at less e)
    go (Some p) e = taken-one level ps at p shaped e

pub same-node : (ps : List Place) (k : ℕ) (p q : Place) → slice_get ps k ≡ Some p → slice_get ps k ≡ Some q → p ≡ q
same-node ps k p q in_p in_q = go (sym in_p ∙ in_q)
  where
    go : Some p ≡ Some q → p ≡ q
    go e = cc

-- the kids of a node
pub taken_below-is : (level : ℕ) (ps : List Place) (node : ℕ) (p : Place) → slice_get ps node ≡ Some p → taken_below level ps node ≡ taken_in level ps (node + 1) p.kids
taken_below-is level ps node p got = ap (λ (o : Option Place). taken_in level ps (node + 1) (unwrap_or (option_map (λ (q : Place). q.kids) o) 0)) got

pub taken-wants : (level : ℕ) (ps : List Place) (at n : ℕ) → taken_in level ps at n ≤ sum (limits ps).wants
taken-wants level ps at n = omega (arith, sum_by-take-drop (λ x. x) (absorb_stack level (drop at ps)) n, stack-wants level (drop at ps), sum_wants-drop at ps)

-- the first tree of a row, and the rest of it
pub row-next : (ps : List Place) (at n m : ℕ) (p : Place) → IsShaped ps → HasRow ps at n → n ≡ suc m → slice_get ps at ≡ Some p → HasRow ps (at + p.nodes) m
row-next ps at n m p shaped row is got = go (subst (HasRow ps at) is row)
  where
    go : HasRow ps at (suc m) → HasRow ps (at + p.nodes) m
    go row =
        let here = row.3 in
        let same : here.0 ≡ p = some_same (sym here.1 ∙ got) in
        subst (λ (q : Place). HasRow ps (at + q.nodes) m) same (row.0 + here.0.leaves, row.1, row.2, here.3)
      where
        some_same : {x y : Place} → Some x ≡ Some y → x ≡ y
        some_same e = cc

-- the first tree of a row begins at the row's first leaf, and the rest of the row ends where the row does
pub row-onward : (ps : List Place) (at begin n m last past : ℕ) (p : Place) → IsRow ps at begin n last past → n ≡ suc m → slice_get ps at ≡ Some p → (p.first ≡ begin) × IsRow ps (at + p.nodes) (begin + p.leaves) m last past
row-onward ps at begin n m last past p row is got = go (subst (λ (k : ℕ). IsRow ps at begin k last past) is row)
  where
    go : IsRow ps at begin (suc m) last past → (p.first ≡ begin) × IsRow ps (at + p.nodes) (begin + p.leaves) m last past
    go row =
        let same : row.0 ≡ p = some_same (sym row.1 ∙ got) in
        (ap (λ (q : Place). q.first) (sym same) ∙ row.2, subst (λ (q : Place). IsRow ps (at + q.nodes) (begin + q.leaves) m last past) same row.3)
      where
        some_same : {x y : Place} → Some x ≡ Some y → x ≡ y
        some_same e = cc

-- a row that is not empty begins with a node
pub row-inside : (ps : List Place) (at n : ℕ) → HasRow ps at n → 0 < n → at < length ps
row-inside ps at zero row some = absurd (omega arith)
row-inside ps at (suc m) row some = slice_get_within ps at row.3.0 row.3.1
