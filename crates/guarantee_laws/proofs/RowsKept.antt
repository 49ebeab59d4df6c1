-- Rounds that take nothing from the rates of a session leave it what they earn.
use Rattle.std.proofs.Common.{◌≡◌, ℕ, ◌+◌, ◌-◌, ◌/◌, ◌<◌, ◌≤◌, ◌⊎◌, Bool, true, false, cond, List, [], ◌∷◌, ◌++◌, inl, inr, sym, refl, ap, ◌∙◌, subst, arith, Option, Some, None}
use Rattle.std.specs.FinMap as finite
use Rattle.std.specs.List.{list_any}
use Rattle.std.specs.Prelude.{nat_eq, nat_le, ◌&&◌, ◌||◌, not}
use Rattle.std.proofs.lemmas.Bool.{eqb-true, eq-eqb, leb-true, leb-false}
use Rattle.std.proofs.lemmas.List.Sums.{sum_by-cons}
use Rattle.line_rates.specs.declared.ask.Name.TheVariants.{Server, Direction, Group, User}
use Rattle.line_rates.specs.declared.ask.Way.{Way}
use Rattle.line_rates.specs.declared.ask.Way.TheVariants.{Down, Up}
use Rattle.line_rates.specs.Granted.{Granted}
use Rattle.line_rates.specs.Names.{same_way, is_number, bears}
use Rattle.line_rates.specs.Rates.{Rates, way_of, group_rate, group_of as group_stated}
use Rattle.line_rates.proofs.RowLemmas.{first_row, first_contains, get-by_number}
use Rattle.round_pace.specs.declared.credit.Credit.{Credit}
use Rattle.round_pace.specs.declared.paced.GroupPace.{GroupPace}
use Rattle.round_pace.specs.declared.paced.UserPace.{UserPace}
use Rattle.round_pace.specs.Credits.{refill_row, take_row}
use Rattle.round_pace.specs.Histories.{take_one, take_more}
use Rattle.round_pace.specs.Offered.{refill_group, refill_user, offer_round}
use Rattle.round_pace.specs.OwnParts.{session_octets, own_part}
use Rattle.round_pace.specs.Paced.{Paced, group_key, pace_number, no_credit}
use Rattle.round_pace.specs.Rows.{group_row_credit, user_row_credit, session_row_credit}
use Rattle.round_pace.specs.Spent.{credit_of}
use Rattle.round_pace.specs.Taken.{take_if_down, take_if_up, take_group, take_user, take_groups, group_of, group_in}
use Rattle.guarantee_laws.specs.SessionRounds.{SessionWay}
use Rattle.guarantee_laws.specs.Sure.{is_limited, is_limited_in, shares_rate, takes}
use Rattle.guarantee_laws.proofs.Debts.{over, first_over, user_row, all_refilled, change, turned}
use Rattle.guarantee_laws.proofs.Earning.{Has, has_none, has_no_rate, has_refilled}
use Rattle.guarantee_laws.proofs.Rated.{Rated, group_row, rated_one, user_over, group_over, user_changed, change_group, same_key}

-- a grant takes nothing from a rate
abbrev Untaken : ℕ → ℕ → Type 0
Untaken k rate = (rate ≡ 0) ⊎ (k ≡ 0)

four_false : (a b c d : Bool) → (a || b || c || d) ≡ false → (a ≡ false) × (b ≡ false) × (c ≡ false) × (d ≡ false)
four_false false false false d e = (refl, refl, refl, e)
four_false false false true d e = absurd (cc)
four_false false true c d e = absurd (cc)
four_false true b c d e = absurd (cc)

both_false : (a b : Bool) → (a && not b) ≡ false → (a ≡ false) ⊎ (b ≡ true)
both_false false b e = inl refl
both_false true true e = inr refl
both_false true false e = absurd (cc)

-- a rate that is no limit
no_limit : (rate : ℕ) (b : Bool) → (not (nat_eq rate 0) && b) ≡ false → b ≡ true → rate ≡ 0
no_limit rate b e hit = go (nat_eq rate 0) refl (ap (λ (x : Bool). not (nat_eq rate 0) && x) (sym hit) ∙ e)
  where
    go : (x : Bool) → nat_eq rate 0 ≡ x → (not x && true) ≡ false → rate ≡ 0
    go true is f = eqb-true rate 0 is
    go false is f = absurd (cc)

module _ (second last begun : ℕ) where
  abbrev pub HasLeft : Credit → Type 0
  HasLeft c = Has second last begun c.rate c.left

  none_left : (c : Credit) → c.rate ≡ 0 → HasLeft c
  none_left c e = subst (λ (r : ℕ). Has second last begun r c.left) (sym e) (has_no_rate second last begun c.left)

  taken : (c : Credit) (k : ℕ) → Untaken k c.rate → HasLeft c → HasLeft (take_row k c)
  taken c k (inl none) has = none_left (take_row k c) none
  taken c k (inr none) has = subst (λ (x : ℕ). Has second last begun c.rate x) (plain c.left k none) has
    where
      plain : (a k : ℕ) → k ≡ 0 → a ≡ a - k
      plain a k e = omega (arith, e)

  way_kept : (v w : Way) (k : ℕ) (x y : Credit) → (same_way v w ≡ true → Untaken k (credit_of w x y).rate) → HasLeft (credit_of w x y) → HasLeft (credit_of w (take_if_down v k x) (take_if_up v k y))
  way_kept Down Down k x y un has = taken x k (un refl) has
  way_kept Up Up k x y un has = taken y k (un refl) has
  way_kept Down Up k x y un has = has
  way_kept Up Down k x y un has = has

  -- what a session has left of the rates of its rows
  pub record Keeps (rates : Rates) (w : Way) (u : ℕ) (q : Paced) : Type 0 where
    pub server : HasLeft q.server
    pub way : HasLeft (credit_of w q.down q.up)
    pub group : (g : ℕ) → group_stated rates u ≡ Some g → HasLeft (group_row_credit w (group_row q g))
    pub user : HasLeft (user_row_credit w (user_row q u))
    pub session : HasLeft (session_row_credit w (user_row q u))

-- Nothing was earned since.
pub keeps_none : (second last begun : ℕ) (rates : Rates) (w : Way) (u : ℕ) (q : Paced) → begun ≤ last → Keeps second last begun rates w u q
keeps_none second last begun rates w u q h =
    let none : (c : Credit) → HasLeft second last begun c = λ c. has_none second last begun c.rate c.left h in
    record {
      server = none q.server;
      way = none (credit_of w q.down q.up);
      group = λ g e. none (group_row_credit w (group_row q g));
      user = none (user_row_credit w (user_row q u));
      session = none (session_row_credit w (user_row q u));
    }

-- as a tick begins
module _ (second last begun tick : ℕ) (among : tick / 500 ≡ second) (new : begun ≤ tick) where
  abbrev Before : Credit → Type 0
  Before c = HasLeft second last begun c

  abbrev Now : Credit → Type 0
  Now c = HasLeft second last (tick + 1) c

  one_now : (c : Credit) → Before c → Now (refill_row begun tick c)
  one_now c has = has_refilled second last begun tick c.rate c.left among new has

  way_now : (w : Way) (x y : Credit) → Before (credit_of w x y) → Now (credit_of w (refill_row begun tick x) (refill_row begun tick y))
  way_now Down x y has = one_now x has
  way_now Up x y has = one_now y has

  group_now : (w : Way) (o : Option GroupPace) → Before (group_row_credit w o) → Now (group_row_credit w (over (refill_group begun tick) o))
  group_now w None has = none_left second last (tick + 1) (no_credit 0) refl
  group_now w (Some g) has = way_now w g.down g.up has

  user_now : (w : Way) (o : Option UserPace) → Before (user_row_credit w o) → Now (user_row_credit w (over (refill_user begun tick) o))
  user_now w None has = none_left second last (tick + 1) (no_credit 0) refl
  user_now w (Some x) has = way_now w x.down x.up has

  session_now : (w : Way) (o : Option UserPace) → Before (session_row_credit w o) → Now (session_row_credit w (over (refill_user begun tick) o))
  session_now w None has = none_left second last (tick + 1) (no_credit 0) refl
  session_now w (Some x) has = way_now w x.session_down x.session_up has

keeps_offer : (second last : ℕ) (rates : Rates) (w : Way) (u : ℕ) (p : Paced) (tick : ℕ) → tick / 500 ≡ second → p.begun ≤ tick + 1 → Keeps second last p.begun rates w u p → (b : Bool) → nat_le p.begun tick ≡ b
    → Keeps second last (tick + 1) rates w u (cond b (all_refilled tick p) p)
keeps_offer second last rates w u p tick among near keeps true is =
    let new : p.begun ≤ tick = leb-true p.begun tick is in
    record {
      server = one_now second last p.begun tick among new p.server keeps.server;
      way = way_now second last p.begun tick among new w p.down p.up keeps.way;
      group = λ g e. subst (λ (o : Option GroupPace). HasLeft second last (tick + 1) (group_row_credit w o)) (sym (group_over p.begun tick p g)) (group_now second last p.begun tick among new w (group_row p g) (keeps.group g e));
      user = subst (λ (o : Option UserPace). HasLeft second last (tick + 1) (user_row_credit w o)) (sym (user_over p.begun tick p u)) (user_now second last p.begun tick among new w (user_row p u) keeps.user);
      session = subst (λ (o : Option UserPace). HasLeft second last (tick + 1) (session_row_credit w o)) (sym (user_over p.begun tick p u)) (session_now second last p.begun tick among new w (user_row p u) keeps.session);
    }
keeps_offer second last rates w u p tick among near keeps false is =
    let later : tick < p.begun = leb-false p.begun tick is in
    let e : p.begun ≡ tick + 1 = omega (arith, later, near) in
    subst (λ (b : ℕ). Keeps second last b rates w u p) e keeps

pub keeps_offered : (second last : ℕ) (rates : Rates) (w : Way) (u : ℕ) (p : Paced) (tick : ℕ) → tick / 500 ≡ second → p.begun ≤ tick + 1 → Keeps second last p.begun rates w u p → Keeps second last (tick + 1) rates w u (offer_round tick p)
keeps_offered second last rates w u p tick among near keeps =
    let k = keeps_offer second last rates w u p tick among near keeps (nat_le p.begun tick) refl in
    record { server = k.server; way = k.way; group = k.group; user = k.user; session = k.session }

-- a grant that takes nothing
module _ (second last begun : ℕ) (rates : Rates) (s : SessionWay) where
  abbrev Apart : Granted → Type 0
  Apart g = (shares_rate rates s g.ask ≡ false) ⊎ (g.octets ≡ 0)

  own_least : (before : List Granted) (g : Granted) → g.octets ≡ 0 → own_part before g ≡ 0
  own_least before g none = go g.octets (own_part before g) (least before g) none
    where
      least : (before : List Granted) (g : Granted) → own_part before g ≤ g.octets
      least before g = omega arith

      go : (o k : ℕ) → k ≤ o → o ≡ 0 → k ≡ 0
      go o k h e = omega (arith, h, e)

  tests : (g : Granted) → shares_rate rates s g.ask ≡ false
      → (bears rates (User s.way s.user) g.ask ≡ false) × (is_limited rates Server g.ask ≡ false) × (is_limited rates (Direction s.way) g.ask ≡ false) × (is_limited_in rates s.way (group_stated rates s.user) g.ask ≡ false)
  tests g apart = four_false (bears rates (User s.way s.user) g.ask) (is_limited rates Server g.ask) (is_limited rates (Direction s.way) g.ask) (is_limited_in rates s.way (group_stated rates s.user) g.ask) apart

  server_un : (g : Granted) → Apart g → Untaken g.octets rates.server
  server_un g (inr none) = inr none
  server_un g (inl apart) =
      let parts = tests g apart in
      inl (no_limit rates.server true parts.1 refl)

  way_un : (g : Granted) → Apart g → same_way g.ask.way s.way ≡ true → Untaken g.octets (way_of rates.down rates.up s.way)
  way_un g (inr none) same = inr none
  way_un g (inl apart) same =
      let parts = tests g apart in
      inl (no_limit (way_of rates.down rates.up s.way) (same_way g.ask.way s.way) parts.2 same)

  group_un : (g : Granted) → Apart g → (k : ℕ) → group_stated rates s.user ≡ Some k → same_way g.ask.way s.way ≡ true → group_stated rates g.ask.user ≡ Some k → Untaken g.octets (group_rate (finite.get rates.groups k) s.way)
  group_un g (inr none) k mine same theirs = inr none
  group_un g (inl apart) k mine same theirs =
      let parts = tests g apart in
      let none : is_limited rates (Group s.way k) g.ask ≡ false = ap (λ (o : Option ℕ). is_limited_in rates s.way o g.ask) (sym mine) ∙ parts.3 in
      inl (no_limit (group_rate (finite.get rates.groups k) s.way) (same_way g.ask.way s.way && is_number (group_stated rates g.ask.user) k) none (both (same_way g.ask.way s.way) (is_number (group_stated rates g.ask.user) k) same (ap (λ (o : Option ℕ). is_number o k) theirs ∙ eq-eqb k k refl)))
    where
      both : (a b : Bool) → a ≡ true → b ≡ true → (a && b) ≡ true
      both true true e f = refl
      both true false e f = absurd (cc)
      both false b e f = absurd (cc)

  -- a grant to the user
  user_un : (g : Granted) → Apart g → same_way g.ask.way s.way ≡ true → nat_eq g.ask.user s.user ≡ true → g.octets ≡ 0
  user_un g (inr none) same user = none
  user_un g (inl apart) same user =
      let parts = tests g apart in
      absurd (never (same_way g.ask.way s.way) (nat_eq g.ask.user s.user) same user parts.0)
    where
      never : (a b : Bool) → a ≡ true → b ≡ true → (a && b) ≡ false → ⊥
      never true true e f g = cc
      never true false e f g = cc
      never false b e f g = cc

  module _ (before : List Granted) (g : Granted) (q : Paced) (rated : Rated rates s.way s.user q) (apart : Apart g) where
    abbrev Left : Credit → Type 0
    Left c = HasLeft second last begun c

    -- the row of a group
    group_one : (k y : ℕ) → group_stated rates s.user ≡ Some k → group_of q.users g.ask.user ≡ Some y → (r : Option GroupPace) → group_row q k ≡ r → Left (group_row_credit s.way r) → Left (group_row_credit s.way (over (change_group g.ask.way y g.octets) r))
    group_one k y mine theirs None at has = has
    group_one k y mine theirs (Some x) at has = go (nat_eq (group_key x) y) refl
      where
        rate : (group_row_credit s.way (Some x)).rate ≡ group_rate (finite.get rates.groups k) s.way
        rate = ap (λ (o : Option GroupPace). (group_row_credit s.way o).rate) (sym at) ∙ rated.group k

        go : (b : Bool) → nat_eq (group_key x) y ≡ b → Left (group_row_credit s.way (Some (cond b (take_group g.ask.way g.octets x) x)))
        go true is =
            let key : group_key x ≡ k = (first_contains group_key k q.groups x at).1 in
            let same : y ≡ k = sym (eqb-true (group_key x) y is) ∙ key in
            let stated : group_stated rates g.ask.user ≡ Some k = sym (rated.in_group g.ask.user) ∙ sym (ap group_in (get-by_number pace_number g.ask.user q.users)) ∙ theirs ∙ ap Some same in
            way_kept second last begun g.ask.way s.way g.octets x.down x.up (λ way. subst (Untaken g.octets) (sym rate) (group_un g apart k mine way stated)) has
        go false is = has

    group_kept : (k : ℕ) → group_stated rates s.user ≡ Some k → (o : Option ℕ) → group_of q.users g.ask.user ≡ o → Left (group_row_credit s.way (group_row q k)) → Left (group_row_credit s.way (first_row group_key k (take_groups g.ask.way o g.octets q.groups)))
    group_kept k mine None theirs has = has
    group_kept k mine (Some y) theirs has =
        subst (λ (o : Option GroupPace). Left (group_row_credit s.way o)) (sym (first_over group_key group_key (change_group g.ask.way y g.octets) (same_key g.ask.way y g.octets) k q.groups))
        (group_one k y mine theirs (group_row q k) refl has)

    -- the rows of the user
    mine_is : (x : UserPace) → user_row q s.user ≡ Some x → nat_eq (pace_number x) g.ask.user ≡ true → nat_eq g.ask.user s.user ≡ true
    mine_is x at is = ap (nat_eq g.ask.user) (sym (first_contains pace_number s.user q.users x at).1) ∙ turned g.ask.user (pace_number x) ∙ is

    user_one : (r : Option UserPace) → user_row q s.user ≡ r → Left (user_row_credit s.way r) → Left (user_row_credit s.way (over (change before g) r))
    user_one None at has = has
    user_one (Some x) at has = go (nat_eq (pace_number x) g.ask.user) refl
      where
        go : (b : Bool) → nat_eq (pace_number x) g.ask.user ≡ b → Left (user_row_credit s.way (Some (cond b (take_user g.ask.way g.octets (own_part before g) x) x)))
        go true is = way_kept second last begun g.ask.way s.way g.octets x.down x.up (λ way. inr (user_un g apart way (mine_is x at is))) has
        go false is = has

    session_one : (r : Option UserPace) → user_row q s.user ≡ r → Left (session_row_credit s.way r) → Left (session_row_credit s.way (over (change before g) r))
    session_one None at has = has
    session_one (Some x) at has = go (nat_eq (pace_number x) g.ask.user) refl
      where
        go : (b : Bool) → nat_eq (pace_number x) g.ask.user ≡ b → Left (session_row_credit s.way (Some (cond b (take_user g.ask.way g.octets (own_part before g) x) x)))
        go true is = way_kept second last begun g.ask.way s.way (own_part before g) x.session_down x.session_up (λ way. inr (own_least before g (user_un g apart way (mine_is x at is)))) has
        go false is = has

    keeps_one : Keeps second last begun rates s.way s.user q → Keeps second last begun rates s.way s.user (take_one before q g)
    keeps_one keeps = record {
      server = taken second last begun q.server g.octets (subst (Untaken g.octets) (sym rated.server) (server_un g apart)) keeps.server;
      way = way_kept second last begun g.ask.way s.way g.octets q.down q.up (λ way. subst (Untaken g.octets) (sym rated.way) (way_un g apart way)) keeps.way;
      group = λ k mine. group_kept k mine (group_of q.users g.ask.user) refl (keeps.group k mine);
      user = subst (λ (o : Option UserPace). Left (user_row_credit s.way o)) (sym (user_changed before g q s.user)) (user_one (user_row q s.user) refl keeps.user);
      session = subst (λ (o : Option UserPace). Left (session_row_credit s.way o)) (sym (user_changed before g q s.user)) (session_one (user_row q s.user) refl keeps.session);
    }

  takes_none : (g : Granted) → takes rates s g ≡ false → Apart g
  takes_none g e = go (both_false (shares_rate rates s g.ask) (nat_eq g.octets 0) e)
    where
      go : (shares_rate rates s g.ask ≡ false) ⊎ (nat_eq g.octets 0 ≡ true) → Apart g
      go (inl apart) = inl apart
      go (inr none) = inr (eqb-true g.octets 0 none)

  two_false : (a b : Bool) → (a || b) ≡ false → (a ≡ false) × (b ≡ false)
  two_false false b e = (refl, e)
  two_false true b e = absurd (cc)

  pub keeps_more : (before gs : List Granted) (q : Paced) → list_any (takes rates s) gs ≡ false → Rated rates s.way s.user q → Keeps second last begun rates s.way s.user q → Keeps second last begun rates s.way s.user (take_more before gs q)
  keeps_more before [] q none rated keeps = keeps
  keeps_more before (g ∷ gs) q none rated keeps =
      let parts = two_false (takes rates s g) (list_any (takes rates s) gs) none in
      keeps_more (before ++ g ∷ []) gs (take_one before q g) parts.1 (rated_one rates s.way s.user before q g rated) (keeps_one before g q rated (takes_none g parts.0) keeps)

  -- nothing is granted to the user
  pub octets_none : (k : ℕ) (gs : List Granted) → list_any (takes rates s) gs ≡ false → session_octets s.way s.user k gs ≡ 0
  octets_none k [] none = refl
  octets_none k (g ∷ gs) none =
      let parts = two_false (takes rates s g) (list_any (takes rates s) gs) none in
      sum (session_octets s.way s.user k (g ∷ gs)) (cond (same_way g.ask.way s.way && (nat_eq g.ask.user s.user && nat_eq g.ask.session k)) g.octets 0) (session_octets s.way s.user k gs)
      (sum_by-cons (λ (x : Granted). cond (same_way x.ask.way s.way && (nat_eq x.ask.user s.user && nat_eq x.ask.session k)) x.octets 0) g gs)
      (one (takes_none g parts.0) (same_way g.ask.way s.way) refl (nat_eq g.ask.user s.user) refl (nat_eq g.ask.session k)) (octets_none k gs parts.1)
    where
      sum : (a b c : ℕ) → a ≡ b + c → b ≡ 0 → c ≡ 0 → a ≡ 0
      sum a b c e f h = omega (arith, e, f, h)

      one : Apart g → (a : Bool) → same_way g.ask.way s.way ≡ a → (b : Bool) → nat_eq g.ask.user s.user ≡ b → (c : Bool) → cond (a && (b && c)) g.octets 0 ≡ 0
      one apart true way true user true = user_un g apart way user
      one apart true way true user false = refl
      one apart true way false user c = refl
      one apart false way b user c = refl
