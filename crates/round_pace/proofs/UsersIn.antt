-- The users that a round is handed are those of the rows.
use Rattle.std.proofs.Common.{◌≡◌, ℕ, suc, ◌+◌, ◌<◌, Bool, true, false, cond, List, [], ◌∷◌, length, map, get_or, sym, refl, ap, ◌∙◌, subst, arith, Option, Some, None}
use Rattle.std.specs.Prelude.{nat_eq}
use Rattle.std.specs.FinMap as finite
use Rattle.std.specs.FinMap.{get-insert, same_map, nat_cmp-IsAntisymmetric}
use Rattle.std.specs.Option.{is_some}
use Rattle.std.specs.Ordering.{nat_cmp}
use Rattle.std.proofs.lemmas.Bool.{eqb-true, ne_eqb}
use Rattle.std.proofs.lemmas.Cmp.{nat_cmp_total}
use Rattle.line_rates.specs.declared.row.UserRate.{UserRate}
use Rattle.line_rates.specs.Put.{put_over, with_user}
use Rattle.line_rates.specs.Rates.{Rates, Users}
use Rattle.line_rates.specs.Stated.{by_number, user_number, IsRising}
use Rattle.line_rates.proofs.RowLemmas.{first_row, get-by_number, same_test, rising_below}
use Rattle.round_pace.specs.declared.paced.GroupPace.{GroupPace}
use Rattle.round_pace.specs.declared.paced.UserPace.{UserPace}
use Rattle.round_pace.specs.Offered.{handed_user, put_users}
use Rattle.round_pace.specs.Paced.{pace_number, AreTheUsers}

none_above : (q : ℕ) (us : List UserPace) → ((k : ℕ) (d : UserPace) → k < length us → q < pace_number (get_or us k d)) → first_row pace_number q us ≡ None
none_above q [] h = refl
none_above q (u ∷ us) h =
    let more : q < pace_number u = h 0 u (omega arith) in
    let other : nat_eq (pace_number u) q ≡ false = ne_eqb (pace_number u) q (λ e. let f : pace_number u ≡ q = e in omega arith) in
    ap (λ (b : Bool). cond b (Some u) (first_row pace_number q us)) other ∙ none_above q us (λ k d lt. h (suc k) d (omega arith))

tail_rises : (u : UserPace) (us : List UserPace) → IsRising pace_number (u ∷ us) → IsRising pace_number us
tail_rises u us up k d lt =
    let next : pace_number (get_or (u ∷ us) (suc k) d) < pace_number (get_or (u ∷ us) (suc k + 1) d) = up (suc k) d (omega arith) in
    let at : pace_number (get_or (u ∷ us) (suc k + 1) d) ≡ pace_number (get_or (u ∷ us) (suc (k + 1)) d) = ap (λ (n : ℕ). pace_number (get_or (u ∷ us) n d)) (let e : suc k + 1 ≡ suc (k + 1) = omega arith in e) in
    subst (λ (x : ℕ). pace_number (get_or us k d) < x) at next

module _ (down up : ℕ) (groups : List GroupPace) where
  -- what is found after a row was put over what was found before
  over : Option UserPace → Option UserRate → Option UserRate
  over None o = o
  over (Some u) None = None
  over (Some u) (Some old) = Some (handed_user down up groups u)

  put_here : (o : Option UserRate) (m : Users) (u : UserPace) (q : ℕ) → finite.get m (pace_number u) ≡ o → finite.get (put_over o m (pace_number u) (handed_user down up groups u)) q ≡ cond (nat_eq (pace_number u) q) (over (Some u) o) (finite.get m q)
  unfolding over
  put_here None m u q e = none (nat_eq (pace_number u) q) refl
    where
      none : (b : Bool) → nat_eq (pace_number u) q ≡ b → finite.get m q ≡ cond b None (finite.get m q)
      none true t = ap (finite.get m) (sym (eqb-true (pace_number u) q t)) ∙ e
      none false t = refl
  put_here (Some old) m u q e =
      get-insert nat_cmp_total m (pace_number u) (handed_user down up groups u) q
      ∙ ap (λ b. cond b (Some (handed_user down up groups u)) (finite.get m q)) (same_test q (pace_number u) (nat_cmp q (pace_number u)) refl)

  users_after : (r : Rates) (u : UserPace) (q : ℕ) → finite.get (with_user r (handed_user down up groups u)).users q ≡ cond (nat_eq (pace_number u) q) (over (Some u) (finite.get r.users (pace_number u))) (finite.get r.users q)
  users_after r u q = put_here (finite.get r.users (pace_number u)) r.users u q refl

  all_put : (r : Rates) (us : List UserPace) → IsRising pace_number us → (q : ℕ) → finite.get (put_users down up groups r us).users q ≡ over (first_row pace_number q us) (finite.get r.users q)
  unfolding over
  all_put r [] rising q = refl
  all_put r (u ∷ us) rising q =
      all_put (with_user r (handed_user down up groups u)) us (tail_rises u us rising) q
      ∙ (ap (over (first_row pace_number q us)) (users_after r u q) ∙ go (nat_eq (pace_number u) q) refl)
    where
      go : (b : Bool) → nat_eq (pace_number u) q ≡ b → over (first_row pace_number q us) (cond b (over (Some u) (finite.get r.users (pace_number u))) (finite.get r.users q)) ≡ over (cond b (Some u) (first_row pace_number q us)) (finite.get r.users q)
      go false t = refl
      go true t =
          let same : pace_number u ≡ q = eqb-true (pace_number u) q t in
          let gone : first_row pace_number q us ≡ None = none_above q us (λ k d lt. let less : pace_number u < pace_number (get_or us k d) = rising_below pace_number (u ∷ us) rising 0 (suc k) d (omega arith) (omega arith) in omega arith) in
          ap (λ o. over o (over (Some u) (finite.get r.users (pace_number u)))) gone ∙ ap (λ (n : ℕ). over (Some u) (finite.get r.users n)) same

  offered_first : (us : List UserPace) (q : ℕ) (o : Option UserRate) → is_some o ≡ is_some (first_row pace_number q us) → over (first_row pace_number q us) o ≡ first_row user_number q (map (handed_user down up groups) us)
  unfolding over
  offered_first [] q None e = refl
  offered_first [] q (Some x) e = absurd (cc)
  offered_first (u ∷ us) q o e = go (λ f. offered_first us q o f) (nat_eq (pace_number u) q) e
    where
      go : (is_some o ≡ is_some (first_row pace_number q us) → over (first_row pace_number q us) o ≡ first_row user_number q (map (handed_user down up groups) us)) → (b : Bool) → is_some o ≡ is_some (cond b (Some u) (first_row pace_number q us)) → over (cond b (Some u) (first_row pace_number q us)) o ≡ cond b (Some (handed_user down up groups u)) (first_row user_number q (map (handed_user down up groups) us))
      go more false f = more f
      go more true f = some o f
        where
          some : (o : Option UserRate) → is_some o ≡ true → over (Some u) o ≡ Some (handed_user down up groups u)
          some None g = absurd (cc)
          some (Some x) g = refl

pub hands_users_in : (down up : ℕ) (groups : List GroupPace) (r : Rates) (us : List UserPace) → IsRising pace_number us → AreTheUsers r us → (put_users down up groups r us).users ≡ by_number user_number (map (handed_user down up groups) us)
hands_users_in down up groups r us rising keys =
    same_map nat_cmp_total nat_cmp-IsAntisymmetric (put_users down up groups r us).users (by_number user_number (map (handed_user down up groups) us))
    (λ q. all_put down up groups r us rising q
    ∙ (offered_first down up groups us q (finite.get r.users q) (keys q ∙ ap is_some (get-by_number pace_number q us))
    ∙ sym (get-by_number user_number q (map (handed_user down up groups) us))))

-- nothing else is changed
pub other_rates : (down up : ℕ) (groups : List GroupPace) (r : Rates) (us : List UserPace) → ((put_users down up groups r us).server ≡ r.server) × ((put_users down up groups r us).down ≡ r.down) × ((put_users down up groups r us).up ≡ r.up) × ((put_users down up groups r us).groups ≡ r.groups) × ((put_users down up groups r us).share_by ≡ r.share_by)
other_rates down up groups r [] = (refl, refl, refl, refl, refl)
other_rates down up groups r (u ∷ us) = other_rates down up groups (with_user r (handed_user down up groups u)) us
