-- The order of alike asks while the trees of a queue are grown.
use Rattle.std.proofs.Common.{◌≡◌, Bool, ℕ, zero, suc, ◌+◌, ◌-◌, ◌<◌, ◌≤◌, List, [], ◌∷◌, ◌++◌, length, map, get_or, Some, refl, sym, ap, ◌∙◌, subst, arith, take, drop, All, IsPermutation, cond}
use Rattle.std.proofs.lemmas.List.{map-append, take_all, length-take-le, length-drop, take-append-drop, take_more}
use Rattle.std.proofs.lemmas.List.Elements.{All-same, All-push}
use Rattle.std.proofs.lemmas.Option.{slice_get-get_or}
use Rattle.std.proofs.lemmas.List.Sorted.{All-permutation, IsPermutation-refl, IsPermutation-trans, IsPermutation-map, IsPermutation-append, sum_by-IsPermutation}
use borrow.Rule.Slice.PartMut.{put_mid, mid_of}
use Rattle.limit_tree.specs.Sharing.{LimitTree}
use Rattle.line_rates.specs.declared.ask.Ask.{Ask}
use Rattle.line_rates.specs.declared.queue.Queued.{Queued}
use Rattle.line_rates.specs.Alike.{Numbered, number_in, asker_in, AreAlike, AreInOrder, IsNumberOf, IsOrderedPlan}
use Rattle.line_rates.specs.Names.{bears}
use Rattle.line_rates.specs.Queue.{asker_of, numbered_of, AreAmong, IsRun}
use Rattle.line_rates.specs.Rates.{Rates}
use Rattle.line_rates.specs.TickTree.{Asker, ask_in, IsPlan}
use Rattle.line_rates.proofs.OrderLemmas.{passing, passing-cons}
use Rattle.line_rates.proofs.PairLemmas.{pairs_from, pairs_at, pairs_moved}
use Rattle.line_rates.proofs.PartLemmas.{put_at}

-- alike asks are in the order of their numbers
abbrev Comes : Rates → List Ask → Numbered → Numbered → Type 0
Comes r asks x y = AreAlike r asks (ask_in (asker_in x)) (ask_in (asker_in y)) → number_in x ≤ number_in y

passing-take : (p : Ask → Bool) (n : ℕ) (xs : List Queued) → passing p (take n xs) ≤ passing p xs
passing-take p zero xs = omega arith
passing-take p (suc n) [] = omega arith
passing-take p (suc n) (x ∷ xs) = omega (arith, passing-take p n xs, passing-cons p x (take n xs), passing-cons p x xs)

passing-drop : (p : Ask → Bool) (n : ℕ) (xs : List Queued) → passing p (drop n xs) ≤ passing p xs
passing-drop p zero xs = omega arith
passing-drop p (suc n) [] = omega arith
passing-drop p (suc n) (x ∷ xs) = omega (arith, passing-drop p n xs, passing-cons p x xs)

-- the asks of a part
among_part : (r : Rates) (asks : List Ask) (start count : ℕ) (old queue : List Queued) → drop start queue ≡ drop start old → AreAmong r asks (map ask_in (map asker_of old)) → AreAmong r asks (map ask_in (map asker_of (take count (drop start queue))))
among_part r asks start count old queue left among n =
    omega (arith, among n, passing-drop (bears r n) start old, passing-take (bears r n) count (drop start queue), ap (passing (bears r n)) left)

-- the same asks in another order
among_moved : (r : Rates) (asks : List Ask) (xs ys : List Queued) → IsPermutation (map asker_of xs) (map asker_of ys) → AreAmong r asks (map ask_in (map asker_of xs)) → AreAmong r asks (map ask_in (map asker_of ys))
among_moved r asks xs ys moved among n =
    omega (arith, among n, sum_by-IsPermutation (λ a. cond (bears r n a) 1 0) (map ask_in (map asker_of xs)) (map ask_in (map asker_of ys)) (IsPermutation-map ask_in (map asker_of xs) (map asker_of ys) moved))

-- a queue in which a part was put into another order
pub record IsMovedOn (r : Rates) (old queue new : List Queued) : Type 0 where
  pub numbers : IsPermutation (map numbered_of queue) (map numbered_of new)
  pub in_order : (asks : List Ask) → AreAmong r asks (map ask_in (map asker_of old)) → AreInOrder r asks (map numbered_of queue) → AreInOrder r asks (map numbered_of new)

pub branch_order : (r : Rates) (start n count : ℕ) (old queue part more : List Queued) → start < length queue → drop start queue ≡ drop start old
    → IsRun (mid_of start (length queue - start) queue) count → n ≡ count
    → IsPermutation (map asker_of (mid_of start n queue)) (map asker_of part) → IsPermutation (map numbered_of (mid_of start n queue)) (map numbered_of part)
    → ((asks : List Ask) → AreAmong r asks (map ask_in (map asker_of (mid_of start n queue))) → AreInOrder r asks (map numbered_of part))
    → IsPermutation (map numbered_of part) (map numbered_of more)
    → ((asks : List Ask) → AreAmong r asks (map ask_in (map asker_of part)) → AreInOrder r asks (map numbered_of part) → AreInOrder r asks (map numbered_of more))
    → IsMovedOn r old queue (put_mid start n queue more)
branch_order r start n count old queue part more lt left ran is_n moved numbers arranged again grown =
    let rest : List Queued = drop start queue in
    let here : start ≡ length (take start queue) = sym (length-take-le start queue (omega arith)) in
    let run : IsRun rest count = subst (λ us. IsRun us count) (take_all (length queue - start) rest (omega (arith, length-drop start queue))) ran in
    let many : count ≡ length (take count rest) = sym (length-take-le count rest run.within) in
    let whole : queue ≡ take start queue ++ (take count rest ++ drop count rest) = sym (ap (λ us. take start queue ++ us) (take-append-drop count rest) ∙ take-append-drop start queue) in
    let new : List Queued = put_mid start n queue more in
    let is_new : new ≡ take start queue ++ (more ++ drop count rest) = put_at (take start queue) (take count rest) (drop count rest) queue more start n whole here (is_n ∙ many) in
    let parts : (ys : List Queued) → map numbered_of (take start queue ++ (ys ++ drop count rest)) ≡ map numbered_of (take start queue) ++ (map numbered_of ys ++ map numbered_of (drop count rest)) =
    λ ys. map-append numbered_of (take start queue) (ys ++ drop count rest) ∙ ap (λ us. map numbered_of (take start queue) ++ us) (map-append numbered_of ys (drop count rest)) in
    let before : map numbered_of queue ≡ map numbered_of (take start queue) ++ (map numbered_of (take count rest) ++ map numbered_of (drop count rest)) = ap (map numbered_of) whole ∙ parts (take count rest) in
    let after : map numbered_of new ≡ map numbered_of (take start queue) ++ (map numbered_of more ++ map numbered_of (drop count rest)) = ap (map numbered_of) is_new ∙ parts more in
    let all : IsPermutation (map numbered_of (take count rest)) (map numbered_of more) =
    IsPermutation-trans (map numbered_of (take count rest)) (map numbered_of part) (map numbered_of more) (subst (λ (m : ℕ). IsPermutation (map numbered_of (take m rest)) (map numbered_of part)) is_n numbers) again in
    record {
      numbers = subst (λ us. IsPermutation us (map numbered_of new)) (sym before) (subst (IsPermutation (map numbered_of (take start queue) ++ (map numbered_of (take count rest) ++ map numbered_of (drop count rest)))) (sym after)
          (IsPermutation-append (map numbered_of (take start queue)) (map numbered_of (take start queue)) (map numbered_of (take count rest) ++ map numbered_of (drop count rest)) (map numbered_of more ++ map numbered_of (drop count rest)) (IsPermutation-refl (map numbered_of (take start queue)))
          (IsPermutation-append (map numbered_of (take count rest)) (map numbered_of more) (map numbered_of (drop count rest)) (map numbered_of (drop count rest)) all (IsPermutation-refl (map numbered_of (drop count rest))))));
      in_order = λ asks among was.
          let here = among_part r asks start n old queue left among in
          let own = grown asks (among_moved r asks (mid_of start n queue) part moved here) (arranged asks here) in
          subst (AreInOrder r asks) (sym after)
          (pairs_at (Comes r asks) (map numbered_of (take start queue) ++ (map numbered_of more ++ map numbered_of (drop count rest)))
          (pairs_moved (Comes r asks) (map numbered_of (take start queue)) (map numbered_of (take count rest)) (map numbered_of (drop count rest)) (map numbered_of more) all (pairs_from (Comes r asks) (map numbered_of more) own)
          (pairs_from (Comes r asks) (map numbered_of (take start queue) ++ (map numbered_of (take count rest) ++ map numbered_of (drop count rest))) (subst (AreInOrder r asks) before was))));
    }

asker_numbered : (xs : List Queued) → map asker_in (map numbered_of xs) ≡ map asker_of xs
asker_numbered [] = refl
asker_numbered (x ∷ xs) = ap (λ us. x.asker ∷ us) (asker_numbered xs)

-- no more asks than there are
pub all_among : (r : Rates) (asks : List Ask) → AreAmong r asks asks
all_among r asks n = omega arith

-- the plan with its order
pub plan_order : (r : Rates) (tick : ℕ) (old arranged grown : List Queued) (t : LimitTree) (lanes : List ℕ) (plan : IsPlan r tick (map asker_of old) t lanes) → plan.order ≡ map asker_of grown
    → IsPermutation (map asker_of old) (map asker_of arranged) → IsPermutation (map numbered_of old) (map numbered_of arranged) → ((asks : List Ask) → AreAmong r asks (map ask_in (map asker_of old)) → AreInOrder r asks (map numbered_of arranged))
    → IsPermutation (map numbered_of arranged) (map numbered_of grown) → ((asks : List Ask) → AreAmong r asks (map ask_in (map asker_of arranged)) → AreInOrder r asks (map numbered_of arranged) → AreInOrder r asks (map numbered_of grown))
    → All (IsNumberOf (map asker_of old)) (map numbered_of old) → IsOrderedPlan r tick (map asker_of old) t lanes
plan_order r tick old arranged grown t lanes plan order moved numbers first again then all =
    let asks = map ask_in (map asker_of old) in
    record {
      plan = plan;
      leaves = map numbered_of grown;
      are = asker_numbered grown ∙ sym order;
      of = All-permutation (IsNumberOf (map asker_of old)) (map numbered_of old) (map numbered_of grown) (IsPermutation-trans (map numbered_of old) (map numbered_of arranged) (map numbered_of grown) numbers again) all;
      in_order = then asks (among_moved r asks old arranged moved (all_among r asks)) (first asks (all_among r asks));
    }

-- the queue of asks, one longer
pub numbered_more : (asks : List Asker) (old new : List Queued) (x : Queued) → new ≡ old ++ x ∷ [] → All (IsNumberOf asks) (map numbered_of old) → x.number < length asks → ((d : Asker) → x.asker ≡ get_or asks x.number d) → All (IsNumberOf asks) (map numbered_of new)
numbered_more asks old new x is all inside at =
    All-same (IsNumberOf asks) (map numbered_of new) (map numbered_of old ++ numbered_of x ∷ []) (ap (map numbered_of) is ∙ map-append numbered_of old (x ∷ []))
    (All-push (IsNumberOf asks) (map numbered_of old) (numbered_of x) all (slice_get-get_or asks x.number x.asker inside ∙ ap (λ y. Some y) (sym (at x.asker))))

pub askers_more : (asks : List Asker) (n : ℕ) (old new : List Queued) (x : Queued) → new ≡ old ++ x ∷ [] → map asker_of old ≡ take n asks → n < length asks → ((d : Asker) → x.asker ≡ get_or asks n d) → map asker_of new ≡ take (n + 1) asks
askers_more asks n old new x is all inside at =
    ap (map asker_of) is ∙ (map-append asker_of old (x ∷ []) ∙ (ap (λ us. us ++ x.asker ∷ []) all ∙ (ap (λ y. take n asks ++ y ∷ []) (at x.asker) ∙ sym (take_more asks n x.asker inside))))
