-- The lanes of a plan are those on which an ask was found, each once.
use Rattle.std.proofs.Common.{◌≡◌, ℕ, zero, suc, ◌+◌, ◌<◌, ◌≤◌, List, [], ◌∷◌, ◌++◌, map, length, get_or, refl, ap, ◌∙◌, subst, arith, append_assoc, All, Option, Some, None, IsPermutation}
use Rattle.std.proofs.lemmas.List.{length-append}
use Rattle.std.proofs.lemmas.List.Elements.{All-cons, All-head, All-nil, All-tail}
use Rattle.std.proofs.lemmas.List.Sorted.{All-permutation}
use Rattle.grant_ledger.specs.Books.{NamesNot}
use Rattle.line_rates.specs.declared.ask.Ask.{Ask}
use Rattle.line_rates.specs.TickTree.{Asker, lane_in}
use Rattle.lane_desk.specs.Tried.{asks_from, mark_of}
use Rattle.lane_desk.proofs.DueLemmas.{at_most_one, is_same, many, many_at, many_moved, names_not, place_of}
use Rattle.round_events.proofs.Deciding.{Once}

abbrev IsFoundAt : List (Option Ask) → Asker → Type 0
IsFoundAt found x = get_or found x.0 None ≡ Some x.1

found_at : (done : List (Option Ask)) (o : Option Ask) (fs : List (Option Ask)) (k : ℕ) → length done ≡ k → get_or (done ++ o ∷ fs) k None ≡ o
found_at [] o fs zero e = refl
found_at [] o fs (suc k) e = absurd (omega (arith, e))
found_at (x ∷ done) o fs zero e = absurd (omega (arith, e))
found_at (x ∷ done) o fs (suc k) e = found_at done o fs k (omega (arith, e))

all_found : (done fs : List (Option Ask)) (k : ℕ) → length done ≡ k → All (IsFoundAt (done ++ fs)) (asks_from k fs)
all_found done [] k e = All-nil (IsFoundAt (done ++ []))
all_found done (None ∷ fs) k e =
    subst (λ (xs : List (Option Ask)). All (IsFoundAt xs) (asks_from (k + 1) fs)) (append_assoc done (None ∷ []) fs) (all_found (done ++ None ∷ []) fs (k + 1) (omega (arith, e, length-append done (None ∷ []))))
all_found done (Some a ∷ fs) k e =
    All-cons (IsFoundAt (done ++ Some a ∷ fs)) (k, a) (asks_from (k + 1) fs) (found_at done (Some a) fs k e)
    (subst (λ (xs : List (Option Ask)). All (IsFoundAt xs) (asks_from (k + 1) fs)) (append_assoc done (Some a ∷ []) fs) (all_found (done ++ Some a ∷ []) fs (k + 1) (omega (arith, e, length-append done (Some a ∷ [])))))

once_of : (xs : List Asker) → ((k : ℕ) → many k xs ≤ 1) → Once (map lane_in xs)
unfolding many
once_of [] few = tt
once_of (x ∷ xs) few = (names_not x.0 xs (omega (arith, few x.0, is_same x.0 x refl)), once_of xs (λ k. omega (arith, few k)))

found_here : (found : List (Option Ask)) (xs : List Asker) (j : ℕ) → All (IsFoundAt found) xs → j < length (map lane_in xs) → (a : Ask) × (get_or found (get_or (map lane_in xs) j 0) None ≡ Some a)
found_here found [] j h less = absurd (omega arith)
found_here found (x ∷ xs) zero h less = (x.1, All-head (IsFoundAt found) x xs h)
found_here found (x ∷ xs) (suc j) h less = found_here found xs j (All-tail (IsFoundAt found) x xs h) (omega arith)

-- the lanes are those on which an ask was found, each once
pub record AreFound (found : List (Option Ask)) (lanes : List ℕ) : Type 0 where
  pub once : Once lanes
  pub some : (j : ℕ) → j < length lanes → (a : Ask) × (get_or found (get_or lanes j 0) None ≡ Some a)
  pub none : (i : ℕ) → get_or found i None ≡ None → NamesNot i lanes
  pub place : (i : ℕ) (a : Ask) → get_or found i None ≡ Some a → (j : ℕ) × (j < length lanes) × (get_or lanes j 0 ≡ i)

pub are_found : (found : List (Option Ask)) (order : List Asker) → IsPermutation (asks_from 0 found) order → AreFound found (map lane_in order)
are_found found order p =
    let marks : (k : ℕ) → many k order ≡ mark_of (get_or found k None) = λ k. many_moved k (asks_from 0 found) order p ∙ many_at found k in
    record {
      once = once_of order (λ k. omega (arith, marks k, at_most_one (get_or found k None)));
      some = λ j less. found_here found order j (All-permutation (IsFoundAt found) (asks_from 0 found) order p (all_found [] found 0 refl)) less;
      none = λ i e. names_not i order (marks i ∙ ap mark_of e);
      place = λ i a e. place_of i order (marks i ∙ ap mark_of e);
    }
