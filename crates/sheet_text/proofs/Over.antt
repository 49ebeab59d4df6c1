-- Each node holds the wants within its path: over trees side by side, and over a branch.
use Rattle.std.proofs.Common.{◌≡◌, ◌∙◌, ℕ, ◌<◌, ◌≤◌, ◌+◌, ◌-◌, Bool, true, false, List, [], ◌∷◌, ◌++◌, map, length, get_or, refl, sym, ap, subst, arith, filter, inl, inr, length-append}
use Rattle.std.proofs.lemmas.Bool.{cases_lt}
use Rattle.std.proofs.lemmas.Bool.Decides.{nat_tests}
use Rattle.std.proofs.lemmas.List.{get_or_append_left, get_or-append_right}
use Rattle.std.proofs.lemmas.List.Elements.{filter-append}
use Rattle.limit_tree.specs.declared.place.Place.{Place}
use Rattle.limit_tree.specs.Outline.{leaf_range, leaf_count, behind, deeper}
use Rattle.limit_tree.proofs.Places.{leaf_count-append, leaf_count-behind}
use Rattle.sheet_text.specs.Paths.{Path, is_within, Each}
use Rattle.sheet_text.specs.Forest.{IsOver, AreOver}
use Rattle.sheet_text.proofs.Within.{not_over, not_under, each_at, each_filter, each_map}

range_past : (first leaves i : ℕ) → first + leaves ≤ i → leaf_range first leaves i ≡ false
range_past first leaves i l = grind (arith, nat_tests)

range_before : (n first leaves i : ℕ) → i < n → leaf_range (n + first) leaves i ≡ false
range_before n first leaves i l = grind (arith, nat_tests)

range_behind : (n first leaves i : ℕ) → n ≤ i → leaf_range (n + first) leaves i ≡ leaf_range first leaves (i - n)
range_behind n first leaves i l = grind (arith, nat_tests)

-- more wants behind, all elsewhere
over_left : (wants more : List Path) (o : Place) (p : Path) → IsOver wants o p → Each (λ q. is_within p q ≡ false) more → IsOver (wants ++ more) o p
over_left wants more o p over apart = record { within = omega (arith, over.within, length-append wants more); holds = λ i l. holds i l }
  where
    holds : (i : ℕ) → i < length (wants ++ more) → leaf_range o.first o.leaves i ≡ is_within p (get_or (wants ++ more) i [])
    holds i l = elim (cases_lt i (length wants)) [
      | inl early ↦ over.holds i early ∙ ap (is_within p) (sym (get_or_append_left wants more [] i early))
      | inr late ↦
          range_past o.first o.leaves i (omega (arith, over.within, late))
          ∙ sym (ap (is_within p) (get_or-append_right wants more (length wants) i [] refl late) ∙ each_at (λ q. is_within p q ≡ false) more (i - length wants) apart (omega (arith, l, late, length-append wants more)))
    ]

-- more wants before, all elsewhere
over_right : (before wants : List Path) (o : Place) (p : Path) → IsOver wants o p → Each (λ q. is_within p q ≡ false) before → IsOver (before ++ wants) (behind (length before) o) p
over_right before wants o p over apart = record { within = omega (arith, over.within, length-append before wants); holds = λ i l. holds i l }
  where
    holds : (i : ℕ) → i < length (before ++ wants) → leaf_range (length before + o.first) o.leaves i ≡ is_within p (get_or (before ++ wants) i [])
    holds i l = elim (cases_lt i (length before)) [
      | inl early ↦
          range_before (length before) o.first o.leaves i early
          ∙ sym (ap (is_within p) (get_or_append_left before wants [] i early) ∙ each_at (λ q. is_within p q ≡ false) before i apart early)
      | inr late ↦
          range_behind (length before) o.first o.leaves i late
          ∙ over.holds (i - length before) (omega (arith, l, late, length-append before wants))
          ∙ ap (is_within p) (sym (get_or-append_right before wants (length before) i [] refl late))
    ]

-- of each path of the one tree: all paths of the others lie elsewhere
pub all_left : (wants more : List Path) (os : List Place) (ps : List Path) → AreOver wants os ps → Each (λ p. Each (λ q. is_within p q ≡ false) more) ps → AreOver (wants ++ more) os ps
all_left wants more [] [] over apart = tt
all_left wants more [] (p ∷ ps) over apart = over
all_left wants more (o ∷ os) [] over apart = over
all_left wants more (o ∷ os) (p ∷ ps) over apart = (over_left wants more o p over.0 apart.0, all_left wants more os ps over.1 apart.1)

pub all_right : (before wants : List Path) (os : List Place) (ps : List Path) → AreOver wants os ps → Each (λ p. Each (λ q. is_within p q ≡ false) before) ps → AreOver (before ++ wants) (map (behind (length before)) os) ps
all_right before wants [] [] over apart = tt
all_right before wants [] (p ∷ ps) over apart = over
all_right before wants (o ∷ os) [] over apart = over
all_right before wants (o ∷ os) (p ∷ ps) over apart = (over_right before wants o p over.0 apart.0, all_right before wants os ps over.1 apart.1)

pub all_deeper : (wants : List Path) (os : List Place) (ps : List Path) → AreOver wants os ps → AreOver wants (map deeper os) ps
all_deeper wants [] [] over = tt
all_deeper wants [] (p ∷ ps) over = over
all_deeper wants (o ∷ os) [] over = over
all_deeper wants (o ∷ os) (p ∷ ps) over = (record { within = over.0.within; holds = over.0.holds }, all_deeper wants os ps over.1)

pub all_beside : (wants more : List Path) (os rs : List Place) (ps qs : List Path) → AreOver wants os ps → AreOver wants rs qs → AreOver wants (os ++ rs) (ps ++ qs)
all_beside wants more [] rs [] qs a b = b
all_beside wants more [] rs (p ∷ ps) qs a b = absurd a
all_beside wants more (o ∷ os) rs [] qs a b = absurd a
all_beside wants more (o ∷ os) rs (p ∷ ps) qs a b = (a.0, all_beside wants more os rs ps qs a.1 b)

-- paths of a tree below one kid, and those of trees elsewhere at that depth or deeper
abbrev pub IsElsewhere : Path → Path → Type 0
IsElsewhere kid q = (is_within kid q ≡ false) × (length kid ≤ length q)

pub over_none : (kid : Path) (ps qs : List Path) → Each (λ p. is_within kid p ≡ true) ps → Each (IsElsewhere kid) qs → Each (λ p. Each (λ q. is_within p q ≡ false) qs) ps
over_none kid [] qs within elsewhere = tt
over_none kid (p ∷ ps) qs within elsewhere = (each_map (IsElsewhere kid) (λ q. is_within p q ≡ false) qs (λ q e. not_over kid p q within.0 e.0) elsewhere, over_none kid ps qs within.1 elsewhere)

pub under_none : (kid : Path) (qs ps : List Path) → Each (λ p. is_within kid p ≡ true) ps → Each (IsElsewhere kid) qs → Each (λ q. Each (λ p. is_within q p ≡ false) ps) qs
under_none kid [] ps within elsewhere = tt
under_none kid (q ∷ qs) ps within elsewhere = (each_map (λ p. is_within kid p ≡ true) (λ p. is_within q p ≡ false) ps (λ p e. not_under kid q p elsewhere.0.0 elsewhere.0.1 e) within, under_none kid qs ps within elsewhere.1)

-- nodes and their paths, of which these are wants
pub record Matches (want : Path → Bool) (os : List Place) (ps : List Path) : Type 0 where
  pub over : AreOver (filter want ps) os ps
  pub count : leaf_count os ≡ length (filter want ps)

-- a tree beside trees that lie elsewhere
pub beside_one : (want : Path → Bool) (kid : Path) (os rs : List Place) (ps qs : List Path) → Matches want os ps → Each (λ p. is_within kid p ≡ true) ps → Matches want rs qs → Each (IsElsewhere kid) qs → Matches want (os ++ map (behind (leaf_count os)) rs) (ps ++ qs)
beside_one want kid os rs ps qs one within others elsewhere = record {
  over = subst (λ (w : List Path). AreOver w (os ++ map (behind (leaf_count os)) rs) (ps ++ qs)) (sym (filter-append want ps qs))
      (all_beside (filter want ps ++ filter want qs) [] os (map (behind (leaf_count os)) rs) ps qs left (subst (λ (n : ℕ). AreOver (filter want ps ++ filter want qs) (map (behind n) rs) qs) (sym one.count) right));
  count = leaf_count-append os (map (behind (leaf_count os)) rs) ∙ counts ∙ sym (ap length (filter-append want ps qs) ∙ length-append (filter want ps) (filter want qs));
}
  where
    counts : leaf_count os + leaf_count (map (behind (leaf_count os)) rs) ≡ length (filter want ps) + length (filter want qs)
    counts = omega (arith, one.count, others.count, leaf_count-behind (leaf_count os) rs)

    left : AreOver (filter want ps ++ filter want qs) os ps
    left = all_left (filter want ps) (filter want qs) os ps one.over (over_none kid ps (filter want qs) within (each_filter (IsElsewhere kid) want qs elsewhere))

    right : AreOver (filter want ps ++ filter want qs) (map (behind (length (filter want ps))) rs) qs
    right = all_right (filter want ps) (filter want qs) rs qs others.over (under_none kid qs (filter want ps) (each_filter (λ p. is_within kid p ≡ true) want ps within) elsewhere)
