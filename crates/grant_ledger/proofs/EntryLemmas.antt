use Rattle.std.proofs.Common.{◌≡◌, ◌≢◌, ◌+◌, ◌<◌, ℕ, suc, zero, List, [], ◌∷◌, length, drop, get_or, set, refl, sym, ap, ◌∙◌, arith, drop-cons, Option, Some, None}
use Rattle.std.proofs.lemmas.List.{get_or-replicate, get_or-set_same, get_or-set_other, length-set, set-set, set-get_or}
use Rattle.grant_ledger.specs.Books.{by_lane, AreLanes, NamesNot}
use Rattle.grant_ledger.specs.Laws.{IsByLane, IsDrawnAt}

-- 64 places
pub by_lane-length : (ls gs : List ℕ) → length (by_lane ls gs) ≡ 64
by_lane-length [] gs = refl
by_lane-length (l ∷ ls) [] = refl
by_lane-length (l ∷ ls) (g ∷ gs) = length-set (by_lane ls gs) l (Some g) ∙ by_lane-length ls gs

-- a lane that an entry doesn't name has no amount
pub by_lane-absent : (ls gs : List ℕ) (lane : ℕ) → lane < 64 → NamesNot lane ls → get_or (by_lane ls gs) lane None ≡ None
by_lane-absent [] gs lane h a = get_or-replicate 64 lane None None h
by_lane-absent (l ∷ ls) [] lane h a = get_or-replicate 64 lane None None h
by_lane-absent (l ∷ ls) (g ∷ gs) lane h a = get_or-set_other (by_lane ls gs) l lane (Some g) None a.0 ∙ by_lane-absent ls gs lane h a.1

-- the first of the entry's lanes has the first amount
pub by_lane-first : (l g : ℕ) (ls gs : List ℕ) → l < 64 → get_or (by_lane (l ∷ ls) (g ∷ gs)) l None ≡ Some g
by_lane-first l g ls gs h = get_or-set_same (by_lane ls gs) l (Some g) None (rw (by_lane-length ls gs) h)

-- once it is drawn, the rest is left
pub by_lane-drawn : (l g : ℕ) (ls gs : List ℕ) → l < 64 → NamesNot l ls → set (by_lane (l ∷ ls) (g ∷ gs)) l None ≡ by_lane ls gs
by_lane-drawn l g ls gs h a =
    set-set (by_lane ls gs) l (Some g) None
    ∙ (ap (λ (o : Option ℕ). set (by_lane ls gs) l o) (sym (by_lane-absent ls gs l h a)) ∙ set-get_or (by_lane ls gs) l None)

-- the lanes that are left are lanes, and the one at j is none of those after it
pub AreLanes-drop : (ls : List ℕ) (j : ℕ) → AreLanes ls → j < length ls → (get_or ls j 0 < 64) × NamesNot (get_or ls j 0) (drop (suc j) ls)
AreLanes-drop [] j are h = absurd (omega (arith, h))
AreLanes-drop (l ∷ ls) zero are h = (are.0, are.1)
AreLanes-drop (l ∷ ls) (suc j) are h = AreLanes-drop ls j are.2 (omega (arith, h))

-- the amount at the j-th lane of an entry whose first j amounts are drawn, and what is left once it is drawn
pub drawn_at : (ls gs : List ℕ) (j : ℕ) → AreLanes ls → j < length ls → length ls ≡ length gs
    → get_or (by_lane (drop j ls) (drop j gs)) (get_or ls j 0) None ≡ Some (get_or gs j 0)
drawn_at ls gs j are h len =
    rw (drop-cons ls j 0 h, drop-cons gs j 0 (omega (arith, h, len)))
    (by_lane-first (get_or ls j 0) (get_or gs j 0) (drop (suc j) ls) (drop (suc j) gs) (AreLanes-drop ls j are h).0)

pub left_after : (ls gs : List ℕ) (j k : ℕ) → k ≡ suc j → AreLanes ls → j < length ls → length ls ≡ length gs
    → set (by_lane (drop j ls) (drop j gs)) (get_or ls j 0) None ≡ by_lane (drop k ls) (drop k gs)
left_after ls gs j k is are h len =
    rw (is, drop-cons ls j 0 h, drop-cons gs j 0 (omega (arith, h, len)))
    (by_lane-drawn (get_or ls j 0) (get_or gs j 0) (drop (suc j) ls) (drop (suc j) gs) (AreLanes-drop ls j are h).0 (AreLanes-drop ls j are h).1)

-- a lane of the list is not one that it does not name
pub NamesNot-differs : (ls : List ℕ) (lane i : ℕ) → NamesNot lane ls → i < length ls → lane ≢ get_or ls i 0
NamesNot-differs [] lane i a h = absurd (omega (arith, h))
NamesNot-differs (l ∷ ls) lane zero a h = a.0
NamesNot-differs (l ∷ ls) lane (suc i) a h = NamesNot-differs ls lane i a.1 (omega (arith, h))

-- the amount at the i-th lane
pub by_lane-named : (ls gs : List ℕ) (i : ℕ) → AreLanes ls → i < length ls → length ls ≡ length gs
    → get_or (by_lane ls gs) (get_or ls i 0) None ≡ Some (get_or gs i 0)
by_lane-named [] gs i are h len = absurd (omega (arith, h))
by_lane-named (l ∷ ls) [] i are h len = absurd (omega (arith, h, len))
by_lane-named (l ∷ ls) (g ∷ gs) zero are h len = by_lane-first l g ls gs are.0
by_lane-named (l ∷ ls) (g ∷ gs) (suc i) are h len =
    get_or-set_other (by_lane ls gs) l (get_or ls i 0) (Some g) None
    (λ e. NamesNot-differs ls l i are.1 (omega (arith, h)) (sym e))
    ∙ by_lane-named ls gs i are.2 (omega (arith, h)) (omega (arith, len))

pub is_by_lane : (ls gs : List ℕ) → AreLanes ls → length ls ≡ length gs → IsByLane ls gs (by_lane ls gs)
is_by_lane ls gs are len = record {
  each_lane = by_lane-length ls gs;
  named = λ i h. by_lane-named ls gs i are h len;
  others = λ lane h a. by_lane-absent ls gs lane h a;
}

pub is_drawn_at : (ls gs : List ℕ) (i : ℕ) → AreLanes ls → length ls ≡ length gs → i < length ls → IsDrawnAt ls gs i
is_drawn_at ls gs i are len h = record {
  lane = (AreLanes-drop ls i are h).0;
  there = drawn_at ls gs i are h len;
  left = left_after ls gs i (i + 1) (omega arith) are h len;
}
