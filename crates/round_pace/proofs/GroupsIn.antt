-- The groups that a round is handed are those of the rows.
use Rattle.std.proofs.Common.{◌≡◌, ℕ, suc, ◌+◌, ◌<◌, Bool, true, false, cond, List, [], ◌∷◌, length, map, get_or, sym, refl, ap, ◌∙◌, subst, arith, Option, Some, None}
use Rattle.std.specs.Prelude.{nat_eq}
use Rattle.std.specs.FinMap as finite
use Rattle.std.specs.FinMap.{get-insert, same_map, nat_cmp-IsAntisymmetric}
use Rattle.std.specs.Option.{is_some}
use Rattle.std.specs.Ordering.{nat_cmp}
use Rattle.std.proofs.lemmas.Bool.{eqb-true, ne_eqb}
use Rattle.std.proofs.lemmas.Cmp.{nat_cmp_total}
use Rattle.line_rates.specs.declared.row.GroupRate.{GroupRate}
use Rattle.line_rates.specs.Put.{put_over, with_group}
use Rattle.line_rates.specs.Rates.{Rates, Groups}
use Rattle.line_rates.specs.Stated.{by_number, group_number, IsRising}
use Rattle.line_rates.proofs.RowLemmas.{first_row, get-by_number, same_test, rising_below}
use Rattle.round_pace.specs.declared.paced.GroupPace.{GroupPace}
use Rattle.round_pace.specs.Offered.{offer_group, put_groups}
use Rattle.round_pace.specs.Paced.{group_key, AreTheGroups}

none_above : (q : ℕ) (us : List GroupPace) → ((k : ℕ) (d : GroupPace) → k < length us → q < group_key (get_or us k d)) → first_row group_key q us ≡ None
none_above q [] h = refl
none_above q (u ∷ us) h =
    let more : q < group_key u = h 0 u (omega arith) in
    let other : nat_eq (group_key u) q ≡ false = ne_eqb (group_key u) q (λ e. let f : group_key u ≡ q = e in omega arith) in
    ap (λ (b : Bool). cond b (Some u) (first_row group_key q us)) other ∙ none_above q us (λ k d lt. h (suc k) d (omega arith))

tail_rises : (u : GroupPace) (us : List GroupPace) → IsRising group_key (u ∷ us) → IsRising group_key us
tail_rises u us up k d lt =
    let next : group_key (get_or (u ∷ us) (suc k) d) < group_key (get_or (u ∷ us) (suc k + 1) d) = up (suc k) d (omega arith) in
    let at : group_key (get_or (u ∷ us) (suc k + 1) d) ≡ group_key (get_or (u ∷ us) (suc (k + 1)) d) = ap (λ (n : ℕ). group_key (get_or (u ∷ us) n d)) (let e : suc k + 1 ≡ suc (k + 1) = omega arith in e) in
    subst (λ (x : ℕ). group_key (get_or us k d) < x) at next

module _ (unused : ℕ) where
  -- what is found after a row was put over what was found before
  over : Option GroupPace → Option GroupRate → Option GroupRate
  over None o = o
  over (Some u) None = None
  over (Some u) (Some old) = Some (offer_group u)

  put_here : (o : Option GroupRate) (m : Groups) (u : GroupPace) (q : ℕ) → finite.get m (group_key u) ≡ o → finite.get (put_over o m (group_key u) (offer_group u)) q ≡ cond (nat_eq (group_key u) q) (over (Some u) o) (finite.get m q)
  unfolding over
  put_here None m u q e = none (nat_eq (group_key u) q) refl
    where
      none : (b : Bool) → nat_eq (group_key u) q ≡ b → finite.get m q ≡ cond b None (finite.get m q)
      none true t = ap (finite.get m) (sym (eqb-true (group_key u) q t)) ∙ e
      none false t = refl
  put_here (Some old) m u q e =
      get-insert nat_cmp_total m (group_key u) (offer_group u) q
      ∙ ap (λ b. cond b (Some (offer_group u)) (finite.get m q)) (same_test q (group_key u) (nat_cmp q (group_key u)) refl)

  groups_after : (r : Rates) (u : GroupPace) (q : ℕ) → finite.get (with_group r (offer_group u)).groups q ≡ cond (nat_eq (group_key u) q) (over (Some u) (finite.get r.groups (group_key u))) (finite.get r.groups q)
  groups_after r u q = put_here (finite.get r.groups (group_key u)) r.groups u q refl

  all_put : (r : Rates) (us : List GroupPace) → IsRising group_key us → (q : ℕ) → finite.get (put_groups r us).groups q ≡ over (first_row group_key q us) (finite.get r.groups q)
  unfolding over
  all_put r [] up q = refl
  all_put r (u ∷ us) up q =
      all_put (with_group r (offer_group u)) us (tail_rises u us up) q
      ∙ (ap (over (first_row group_key q us)) (groups_after r u q) ∙ go (nat_eq (group_key u) q) refl)
    where
      go : (b : Bool) → nat_eq (group_key u) q ≡ b → over (first_row group_key q us) (cond b (over (Some u) (finite.get r.groups (group_key u))) (finite.get r.groups q)) ≡ over (cond b (Some u) (first_row group_key q us)) (finite.get r.groups q)
      go false t = refl
      go true t =
          let same : group_key u ≡ q = eqb-true (group_key u) q t in
          let gone : first_row group_key q us ≡ None = none_above q us (λ k d lt. let less : group_key u < group_key (get_or us k d) = rising_below group_key (u ∷ us) up 0 (suc k) d (omega arith) (omega arith) in omega arith) in
          ap (λ o. over o (over (Some u) (finite.get r.groups (group_key u)))) gone ∙ ap (λ (n : ℕ). over (Some u) (finite.get r.groups n)) same

  offered_first : (us : List GroupPace) (q : ℕ) (o : Option GroupRate) → is_some o ≡ is_some (first_row group_key q us) → over (first_row group_key q us) o ≡ first_row group_number q (map offer_group us)
  unfolding over
  offered_first [] q None e = refl
  offered_first [] q (Some x) e = absurd (cc)
  offered_first (u ∷ us) q o e = go (λ f. offered_first us q o f) (nat_eq (group_key u) q) e
    where
      go : (is_some o ≡ is_some (first_row group_key q us) → over (first_row group_key q us) o ≡ first_row group_number q (map offer_group us)) → (b : Bool) → is_some o ≡ is_some (cond b (Some u) (first_row group_key q us)) → over (cond b (Some u) (first_row group_key q us)) o ≡ cond b (Some (offer_group u)) (first_row group_number q (map offer_group us))
      go more false f = more f
      go more true f = some o f
        where
          some : (o : Option GroupRate) → is_some o ≡ true → over (Some u) o ≡ Some (offer_group u)
          some None g = absurd (cc)
          some (Some x) g = refl

pub hands_groups_in : (r : Rates) (us : List GroupPace) → IsRising group_key us → AreTheGroups r us → (put_groups r us).groups ≡ by_number group_number (map offer_group us)
hands_groups_in r us up keys =
    same_map nat_cmp_total nat_cmp-IsAntisymmetric (put_groups r us).groups (by_number group_number (map offer_group us))
    (λ q. all_put 0 r us up q
    ∙ (offered_first 0 us q (finite.get r.groups q) (keys q ∙ ap is_some (get-by_number group_key q us))
    ∙ sym (get-by_number group_number q (map offer_group us))))

-- nothing else is changed
pub other_rates : (r : Rates) (us : List GroupPace) → ((put_groups r us).server ≡ r.server) × ((put_groups r us).down ≡ r.down) × ((put_groups r us).up ≡ r.up) × ((put_groups r us).users ≡ r.users) × ((put_groups r us).share_by ≡ r.share_by)
other_rates r [] = (refl, refl, refl, refl, refl)
other_rates r (u ∷ us) = other_rates (with_group r (offer_group u)) us
