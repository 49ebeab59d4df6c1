-- Each step of a board keeps its rule.
use Rattle.std.proofs.Common.{◌≡◌, ◌≢◌, ℕ, zero, suc, ◌+◌, ◌<◌, ◌≤◌, ◌==◌, List, [], ◌∷◌, ◌++◌, length, set, sym, refl, ap, ◌∙◌, subst, ◌⊎◌, inl, inr, ⊎_elim, append_assoc, append-nil, arith, length-append, if◌then◌else◌, true, false, Bool}
use mathlib.Core.Option.{some, some-injective, some-ne-none}
use lib.ListN.{get_elem?}
use Rattle.std.proofs.lemmas.Bool.{ne_eqb}
use Rattle.std.proofs.lemmas.Bool.Decides.{eqb_tells}
use Rattle.std.proofs.lemmas.List.{map-append, length-set}
use Rattle.crossbeam_queue.specs.Fifo.{Pushes, Pops, Forks, Learns}
use Rattle.crossbeam_queue.proofs.Lists.{at_set, set_here}
use Rattle.transfer_worker.specs.declared.order.Hand.{Hand}
use Rattle.transfer_worker.specs.Order.{hand, jobs, by, Kept, Shows, Pushed, Popped}

module _ {J : Type 0} where
  by_append : (i : ℕ) (xs ys : List (ℕ × J)) → by i (xs ++ ys) ≡ by i xs ++ by i ys
  by_append i [] ys = refl
  by_append i (e ∷ xs) ys = go (e.0 == i) (by i (xs ++ ys)) (by i xs) (by_append i xs ys)
    where
      go : (b : Bool) (l k : List J) → l ≡ k ++ by i ys → (if b then e.1 ∷ l else l) ≡ (if b then e.1 ∷ k else k) ++ by i ys
      go true l k is = ap (λ (m : List J). e.1 ∷ m) is
      go false l k is = is

  by_own : (i : ℕ) (x : J) → by i ((i, x) ∷ []) ≡ x ∷ []
  by_own i x = ⊎_elim (λ t. ap (λ (b : Bool). if b then x ∷ [] else []) t.0) (λ t. absurd (t.1 refl)) (eqb_tells i i)

  by_else : (i j : ℕ) (x : J) → j ≢ i → by j ((i, x) ∷ []) ≡ []
  by_else i j x n = ap (λ (b : Bool). if b then x ∷ [] else []) (ne_eqb i j (λ e. n (sym e)))

  more_own : (i : ℕ) (x : J) (xs : List (ℕ × J)) → by i (xs ++ (i, x) ∷ []) ≡ by i xs ++ x ∷ []
  more_own i x xs = by_append i xs ((i, x) ∷ []) ∙ ap (λ (l : List J). by i xs ++ l) (by_own i x)

  more_else : (i j : ℕ) (x : J) (xs : List (ℕ × J)) → j ≢ i → by j (xs ++ (i, x) ∷ []) ≡ by j xs
  more_else i j x xs n = by_append j xs ((i, x) ∷ []) ∙ ap (λ (l : List J). by j xs ++ l) (by_else i j x n) ∙ append-nil (by j xs)

  at_within : (l : List (Hand J)) (i : ℕ) (v : Hand J) → get_elem? l i ≡ some v → i < length l
  at_within [] zero v e = absurd (some-ne-none v (sym e))
  at_within [] (suc i) v e = absurd (some-ne-none v (sym e))
  at_within (x ∷ l) zero v e = omega arith
  at_within (x ∷ l) (suc i) v e = let h = at_within l i v e in omega (arith, h)

  -- a step of one pass, which adds what it did to the lists
  kept_step : (items items' : List J) (views : List (Hand J)) (port : ℕ) (v w : Hand J) (h : Kept items views) (made given : List (ℕ × J)) → get_elem? views port ≡ some v
      → jobs made ≡ jobs given ++ items' → (by port made ≡ w.pushed) × (by port given ≡ w.popped)
      → ((j : ℕ) → j ≢ port → (by j made ≡ by j h.made) × (by j given ≡ by j h.given))
      → Kept items' (set views port w)
  kept_step items items' views port v w h made given at order mine others = record {
    made = made;
    given = given;
    in_order = order;
    each = λ j u e. ⊎_elim (λ (x : (j ≡ port) × (w ≡ u)). subst (λ (y : ℕ × Hand J). (by y.0 made ≡ y.1.pushed) × (by y.0 given ≡ y.1.popped)) (λ i. (sym x.0 i, x.1 i)) mine)
        (λ (x : (j ≢ port) × (get_elem? views j ≡ some u)). ((others j x.0).0 ∙ (h.each j u x.1).0, (others j x.0).1 ∙ (h.each j u x.1).1)) (at_set views port j w u e);
    no_other = λ j far. let near = at_within views port v at in let same = length-set views port w in
        let apart : j ≢ port = λ e. absurd (omega (arith, far, near, same, e)) in let out : length views ≤ j = omega (arith, far, same) in
        ((others j apart).0 ∙ (h.no_other j out).0, (others j apart).1 ∙ (h.no_other j out).1);
  }

  at_new : (l : List (Hand J)) (a b : Hand J) (j : ℕ) → get_elem? (l ++ a ∷ []) j ≡ some b → (get_elem? l j ≡ some b) ⊎ ((length l ≤ j) × (a ≡ b))
  at_new [] a b zero e = inr (omega arith, some-injective a b e)
  at_new [] a b (suc j) e = absurd (some-ne-none b (sym e))
  at_new (x ∷ l) a b zero e = inl e
  at_new (x ∷ l) a b (suc j) e = ⊎_elim (λ h. inl h) (λ h. inr (let far = h.0 in omega (arith, far), h.1)) (at_new l a b j e)

  shows_step : (items : List J) (views : List (Hand J)) (port : ℕ) (v w : Hand J) → get_elem? views port ≡ some v → Kept items (set views port w) → Shows w items
  shows_step items views port v w at k = (set views port w, port, set_here views port w (at_within views port v at), k)

  pub begins : Kept {J = J} [] (hand [] [] ∷ [])
  begins = record { made = []; given = []; in_order = refl; each = λ i v e. each i v e; no_other = λ i _. (refl, refl) }
    where
      each : (i : ℕ) (v : Hand J) → get_elem? (hand [] [] ∷ []) i ≡ some v → ([] ≡ v.pushed) × ([] ≡ v.popped)
      each zero v e = let is = some-injective (hand [] []) v e in (ap (λ (x : Hand J). x.pushed) is, ap (λ (x : Hand J). x.popped) is)
      each (suc i) v e = absurd (some-ne-none v (sym e))

  pub pushes : (n port : ℕ) (v : Hand J) (x : J) → Pushes (Kept {J = J}) n port v x (Pushed v x)
  pushes n port v x items views room h at = let w : Hand J = hand (v.pushed ++ x ∷ []) v.popped in let made : List (ℕ × J) = h.made ++ (port, x) ∷ [] in
      let mine = h.each port v at in
      let k : Kept (items ++ x ∷ []) (set views port w) = kept_step items (items ++ x ∷ []) views port v w h made h.given at
      (map-append (λ (e : ℕ × J). e.1) h.made ((port, x) ∷ []) ∙ ap (λ (l : List J). l ++ x ∷ []) h.in_order ∙ append_assoc (jobs h.given) items (x ∷ []))
      (more_own port x h.made ∙ ap (λ (l : List J). l ++ x ∷ []) mine.0, mine.1)
      (λ j apart. (more_else port j x h.made apart, refl)) in
      (w, k, (refl, (items, (views, port, at, h), shows_step (items ++ x ∷ []) views port v w at k)))

  pub pops : (port : ℕ) (v : Hand J) → Pops (Kept {J = J}) port v (Popped v)
  pops port v x items views h at = let w : Hand J = hand v.pushed (v.popped ++ x ∷ []) in let given : List (ℕ × J) = h.given ++ (port, x) ∷ [] in
      let mine = h.each port v at in
      let k : Kept items (set views port w) = kept_step (x ∷ items) items views port v w h h.made given at
      (h.in_order ∙ sym (append_assoc (jobs h.given) (x ∷ []) items) ∙ ap (λ (l : List J). l ++ items) (sym (map-append (λ (e : ℕ × J). e.1) h.given ((port, x) ∷ []))))
      (mine.0, more_own port x h.given ∙ ap (λ (l : List J). l ++ x ∷ []) mine.1)
      (λ j apart. (refl, more_else port j x h.given apart)) in
      (w, k, (refl, (items, (views, port, at, h), shows_step items views port v w at k)))

  pub shows : (port : ℕ) (v : Hand J) → Learns (Kept {J = J}) port v (Shows v)
  shows port v items views h at = (views, port, at, h)

  -- a new pass, of which the lists have nothing yet
  pub forks : (port : ℕ) (v : Hand J) → Forks (Kept {J = J}) port v v (hand [] [])
  unfolding kept_step
  forks port v items views h at = let vs : List (Hand J) = set views port v in let same = length-set views port v in
      let k : Kept items vs = kept_step items items views port v v h h.made h.given at h.in_order (h.each port v at) (λ j apart. (refl, refl)) in
      record {
        made = h.made;
        given = h.given;
        in_order = h.in_order;
        each = λ j u e. ⊎_elim (λ old. k.each j u old)
            (λ (is : (length vs ≤ j) × (hand [] [] ≡ u)). let none = k.no_other j is.0 in (none.0 ∙ ap (λ (x : Hand J). x.pushed) is.1, none.1 ∙ ap (λ (x : Hand J). x.popped) is.1)) (at_new vs (hand [] []) u j e);
        no_other = λ j far. h.no_other j (let out : length vs + 1 ≤ j = subst (λ n. n ≤ j) (length-append vs (hand [] [] ∷ [])) far in omega (arith, out, same));
      }
