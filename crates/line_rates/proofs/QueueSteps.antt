-- The steps of the loop over a queue, in which those of one name stand side by side.
use Rattle.std.proofs.Common.{◌≡◌, ℕ, suc, ◌+◌, ◌-◌, ◌<◌, ◌≤◌, Bool, true, false, List, [], ◌∷◌, ◌++◌, length, map, sym, ap, ◌∙◌, subst, arith, Option, Some, None, get_or, take, drop, drop-drop, All, IsPermutation, length-append, append_assoc, ◌||◌}
use Rattle.std.specs.List.{AllByRecursion, list_any}
use Rattle.std.proofs.Math.Seq.{drop-cons}
use Rattle.std.proofs.lemmas.List.{map-append, take_all, take_more, length-take-le, length-drop, take-append-drop, get_or-drop, get_or-take, length-map}
use Rattle.std.proofs.lemmas.List.Elements.{recursion_from_All, All-map, All-drop}
use Rattle.std.proofs.lemmas.List.Folds.{list_any_none}
use Rattle.std.proofs.lemmas.List.Sorted.{length_permutation}
use borrow.Rule.Slice.PartMut.{put_mid, mid_of}
use Rattle.limit_tree.specs.Outline.{deeper, places, branch_over, leaf_alone}
use Rattle.limit_tree.specs.declared.place.Place.{Place}
use Rattle.limit_tree.specs.declared.node.Node.{Node}
use Rattle.limit_tree.proofs.Places.{places_of_all}
use Rattle.line_rates.specs.declared.ask.Ask.{Ask}
use Rattle.line_rates.specs.declared.ask.Name.{Name}
use Rattle.line_rates.specs.declared.queue.Queued.{Queued}
use Rattle.line_rates.specs.Grown.{key, has_key, is_option, IsGrownFrom}
use Rattle.line_rates.specs.Names.{floor_of}
use Rattle.line_rates.specs.Queue.{asker_of, name_of, AreTogether, IsRun}
use Rattle.line_rates.specs.Rates.{Rates, rate_of}
use Rattle.line_rates.specs.Ticks.{rate_limit}
use Rattle.line_rates.specs.TickTree.{Asker, ask_in}
use Rattle.line_rates.proofs.KidLemmas.{SoFar, IsFront, leaf_step, branch_step, all_grown, grown_before}
use Rattle.line_rates.proofs.MarkLemmas.{bool_same}
use Rattle.line_rates.proofs.NameLemmas.{same_name-is, same_name-refl, key_low}
use Rattle.line_rates.proofs.PartLemmas.{take_at, drop_at, put_at}
use Rattle.line_rates.proofs.RowLemmas.{at_any}

head_at : (queue : List Queued) (i : ℕ) (d : Queued) → i < length queue → drop i queue ≡ get_or queue i d ∷ drop (i + 1) queue
head_at queue i d lt = let e : suc i ≡ i + 1 = omega arith in drop-cons queue i d lt ∙ ap (λ (m : ℕ). get_or queue i d ∷ drop m queue) e

pub leaf_next : {A : Type 0} (r : Rates) (tick l start floor : ℕ) (all : List Asker) (queue : List Queued) (d : Queued) (kids new_kids : List (Node A)) (kid : Node A)
    → SoFar r tick l all (map asker_of (take start queue)) (map asker_of (drop start queue)) (places_of_all kids)
    → start < length queue → key r l (get_or queue start d).asker.1 ≡ None → places kid ≡ leaf_alone (get_or queue start d).asker.1.want floor ∷ [] → floor ≡ floor_of r (get_or queue start d).asker.1 → new_kids ≡ kids ++ kid ∷ []
    → SoFar r tick l all (map asker_of (take (start + 1) queue)) (map asker_of (drop (start + 1) queue)) (places_of_all new_kids)
leaf_next r tick l start floor all queue d kids new_kids kid s lt none leaf is_floor nodes =
    let x = get_or queue start d in
    leaf_step r tick l all (map asker_of (take start queue)) (map asker_of (drop start queue)) (map asker_of (take (start + 1) queue)) (map asker_of (drop (start + 1) queue)) x.asker kids new_kids kid s
    (ap (map asker_of) (head_at queue start d lt)) none (leaf ∙ ap (λ (f : ℕ). leaf_alone x.asker.1.want f ∷ []) is_floor)
    (ap (map asker_of) (take_more queue start d lt) ∙ map-append asker_of (take start queue) (x ∷ [])) nodes

is_key : (top : Name) (o : Option Name) → is_option top o ≡ true → o ≡ Some top
is_key top None h = absurd (cc)
is_key top (Some m) h = ap (λ k. Some k) (sym (same_name-is top m h))

some_key : (r : Rates) (l : ℕ) (top : Name) (xs : List Ask) → 0 < length xs → AllByRecursion (λ a. key r l a ≡ Some top) xs → list_any (has_key r l top) xs ≡ true
some_key r l top [] lt h = absurd (omega arith)
some_key r l top (x ∷ xs) lt h = ap (λ (b : Bool). b || list_any (has_key r l top) xs) (ap (is_option top) h.0 ∙ same_name-refl top)

-- a run of one name is the front of what is left
module _ (r : Rates) (l count : ℕ) (top : Name) (queue : List Queued) (d : Queued) (together : AreTogether r l queue) (run : IsRun queue count) (first : (get_or queue 0 d).name ≡ Some top) where
  front_keys : All (λ x. key r l x.asker.1 ≡ Some top) (take count queue)
  front_keys k e lt =
      let size : length (take count queue) ≡ count = length-take-le count queue run.within in
      let here : get_or (take count queue) k e ≡ get_or queue k e = get_or-take count queue k e (omega arith) in
      ap (λ x. key r l x.asker.1) here ∙ sym (together.named k e (let w = run.within in omega arith)) ∙ run.same k e (omega arith) ∙ ap name_of (at_any queue 0 e d (let w = run.within in let s = run.some in omega arith)) ∙ first

  rest_keys : All (λ x. has_key r l top x.asker.1 ≡ false) (drop count queue)
  rest_keys k e lt =
      let size : length (drop count queue) ≡ length queue - count = length-drop count queue in
      let here : get_or (drop count queue) k e ≡ get_or queue (count + k) e = get_or-drop count queue k e in
      ap (λ x. has_key r l top x.asker.1) here ∙ ap (is_option top) (sym (together.named (count + k) e (omega arith)))
      ∙ bool_same (is_option top (get_or queue (count + k) e).name) false
      (λ h. let same : (get_or queue 0 e).name ≡ (get_or queue (count + k) e).name = ap name_of (at_any queue 0 e d (omega arith)) ∙ first ∙ sym (is_key top (get_or queue (count + k) e).name h) in
      absurd (run.next e (omega arith) (sym (together.contiguous 0 count (count + k) e (omega arith) (omega arith) (omega arith) same)))) (λ h. absurd (cc))

  pub run_front : IsFront r l top (map asker_of queue) (map asker_of (take count queue)) (map asker_of (drop count queue))
  run_front =
      let keys = recursion_from_All (λ a. key r l a ≡ Some top) (map ask_in (map asker_of (take count queue))) (All-map (λ a. key r l a ≡ Some top) ask_in (map asker_of (take count queue)) (All-map (λ x. key r l x.1 ≡ Some top) asker_of (take count queue) front_keys)) in
      record {
        split = ap (map asker_of) (sym (take-append-drop count queue)) ∙ map-append asker_of (take count queue) (drop count queue);
        some = some_key r l top (map ask_in (map asker_of (take count queue)))
            (let size : length (map ask_in (map asker_of (take count queue))) ≡ count = length-map (map asker_of (take count queue)) ask_in ∙ length-map (take count queue) asker_of ∙ length-take-le count queue run.within in let s = run.some in omega arith) keys;
        keys = keys;
        none = list_any_none (has_key r l top) (map ask_in (map asker_of (drop count queue)))
            (All-map (λ a. has_key r l top a ≡ false) ask_in (map asker_of (drop count queue)) (All-map (λ x. has_key r l top x.1 ≡ false) asker_of (drop count queue) rest_keys));
      }

-- what is left of asks that stand side by side
together_drop : (r : Rates) (l start : ℕ) (queue : List Queued) → AreTogether r l queue → AreTogether r l (drop start queue)
together_drop r l start queue together = record {
  named = All-drop (λ x. x.name ≡ key r l x.asker.1) start queue together.named;
  contiguous = λ i j k d le more lt same.
      let at : (m : ℕ) → (get_or (drop start queue) m d).name ≡ (get_or queue (start + m) d).name = λ m. ap name_of (get_or-drop start queue m d) in
      let size : length (drop start queue) ≡ length queue - start = length-drop start queue in
      at i ∙ together.contiguous (start + i) (start + j) (start + k) d (omega arith) (omega arith) (omega arith) (sym (at i) ∙ same ∙ at k) ∙ sym (at j);
}

-- the next ask has its name
pub key_here : (r : Rates) (l start : ℕ) (old queue : List Queued) (d : Queued) → AreTogether r l old → drop start queue ≡ drop start old → start < length queue → key r l (get_or queue start d).asker.1 ≡ (get_or queue start d).name
key_here r l start old queue d together left lt =
    let here : get_or (drop start queue) 0 d ≡ get_or queue start d = get_or-drop start queue 0 d ∙ ap (λ (m : ℕ). get_or queue m d) (let e : start + 0 ≡ start = omega arith in e) in
    let named = (subst (AreTogether r l) (sym left) (together_drop r l start old together)).named 0 d (omega (arith, length-drop start queue)) in
    ap (λ x. key r l x.asker.1) (sym here) ∙ sym named ∙ ap name_of here

-- a level with a name is one of the upper five
pub low_here : (r : Rates) (l start : ℕ) (old queue : List Queued) (d : Queued) (top : Name) → AreTogether r l old → drop start queue ≡ drop start old → start < length queue → (get_or queue start d).name ≡ Some top → l ≤ 4
low_here r l start old queue d top together left lt named = key_low r l top (get_or queue start d).asker.1 (key_here r l start old queue d together left lt ∙ named)

pub record IsNextStart (r : Rates) (tick l start next : ℕ) (all : List Asker) (old queue new : List Queued) (ps : List Place) : Type 0 where
  pub so_far : SoFar r tick l all (map asker_of (take next new)) (map asker_of (drop next new)) ps
  pub size : length new ≡ length queue
  pub within : next ≤ length queue
  pub more : length new - next < length queue - start
  pub rest : drop next new ≡ drop next old

pub branch_next : {A : Type 0} (r : Rates) (tick l start n count : ℕ) (all : List Asker) (old queue part more : List Queued) (d : Queued) (top : Name) (limit : Option ℕ) (kids new_kids below : List (Node A)) (kid : Node A)
    → SoFar r tick l all (map asker_of (take start queue)) (map asker_of (drop start queue)) (places_of_all kids) → start < length queue → drop start queue ≡ drop start old → AreTogether r l old
    → IsRun (mid_of start (length queue - start) queue) count → (get_or queue start d).name ≡ Some top → n ≡ count → IsPermutation (map asker_of (mid_of start n queue)) (map asker_of part)
    → IsGrownFrom r tick (l + 1) (map asker_of part) (map asker_of more) (places_of_all below)
    → limit ≡ rate_limit (rate_of r top) tick → places kid ≡ branch_over limit (length below) (places_of_all below) ∷ map deeper (places_of_all below) → new_kids ≡ kids ++ kid ∷ []
    → IsNextStart r tick l start (start + count) all old queue (put_mid start n queue more) (places_of_all new_kids)
branch_next r tick l start n count all old queue part more d top limit kids new_kids below kid s lt left together ran named is_n moved grown limited branch nodes =
    let rest : List Queued = drop start queue in
    let here : start ≡ length (take start queue) = sym (length-take-le start queue (omega arith)) in
    let size : length (drop start queue) ≡ length queue - start = length-drop start queue in
    let run : IsRun rest count = subst (λ us. IsRun us count) (take_all (length queue - start) rest (omega arith)) ran in
    let many : count ≡ length (take count rest) = sym (length-take-le count rest run.within) in
    let whole : queue ≡ take start queue ++ (take count rest ++ drop count rest) = sym (ap (λ us. take start queue ++ us) (take-append-drop count rest) ∙ take-append-drop start queue) in
    let new : List Queued = put_mid start n queue more in
    let is_new : new ≡ take start queue ++ (more ++ drop count rest) = put_at (take start queue) (take count rest) (drop count rest) queue more start n whole here (is_n ∙ many) in
    let first : (get_or rest 0 d).name ≡ Some top = ap name_of (get_or-drop start queue 0 d) ∙ ap (λ (m : ℕ). (get_or queue m d).name) (let e : start + 0 ≡ start = omega arith in e) ∙ named in
    let front = run_front r l count top rest d (subst (AreTogether r l) (sym left) (together_drop r l start old together)) run first in
    let moved_on : IsPermutation (map asker_of (take count rest)) (map asker_of part) = subst (λ (m : ℕ). IsPermutation (map asker_of (take m rest)) (map asker_of part)) is_n moved in
    let trees = grown_before r tick (l + 1) (map asker_of (take count rest)) (map asker_of part) (map asker_of more) (places_of_all below) moved_on grown in
    let sizes : length more ≡ count = sym (length-map more asker_of) ∙ length_permutation (map asker_of (take count rest)) (map asker_of more) trees.all ∙ length-map (take count rest) asker_of ∙ sym many in
    let joined : new ≡ take start queue ++ more ++ drop count rest = is_new ∙ sym (append_assoc (take start queue) more (drop count rest)) in
    let reached : start + count ≡ length (take start queue ++ more) = omega (arith, here, sizes, length-append (take start queue) more) in
    let before : take (start + count) new ≡ take start queue ++ more = take_at (take start queue ++ more) (drop count rest) new (start + count) joined reached in
    let after : drop (start + count) new ≡ drop count rest = drop_at (take start queue ++ more) (drop count rest) new (start + count) joined reached in
    let new_size : length new ≡ length queue = ap length joined ∙ length-append (take start queue ++ more) (drop count rest) ∙ (let w = run.within in omega (arith, reached, length-drop count rest)) in
    record {
      so_far = branch_step r tick l (l + 1) all (map asker_of (take start queue)) (map asker_of rest) (map asker_of (take count rest)) (map asker_of (drop count rest))
          (map asker_of (take (start + count) new)) (map asker_of (drop (start + count) new)) (map asker_of more) top limit kids new_kids below kid s front (let e : l + 1 ≡ suc l = omega arith in e) (ap (map asker_of) after)
          trees limited branch (ap (map asker_of) before ∙ map-append asker_of (take start queue) more) nodes;
      size = new_size;
      within = let w = run.within in omega arith;
      more = let w = run.within in let s = run.some in omega arith;
      rest = after ∙ ap (drop count) left ∙ drop-drop count start old;
    }

pub whole_grown : (r : Rates) (tick l start : ℕ) (all : List Asker) (queue : List Queued) (ps : List Place) → SoFar r tick l all (map asker_of (take start queue)) (map asker_of (drop start queue)) ps → length queue ≤ start
    → IsGrownFrom r tick l all (map asker_of queue) ps
whole_grown r tick l start all queue ps s le =
    subst (λ (us : List Queued). IsGrownFrom r tick l all (map asker_of us) ps) (take_all start queue le)
    (all_grown r tick l all (map asker_of (take start queue)) (map asker_of (drop start queue)) ps s (length-map (drop start queue) asker_of ∙ omega (arith, length-drop start queue)))
