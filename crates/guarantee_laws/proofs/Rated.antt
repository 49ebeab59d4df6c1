-- The rows of a session have the rates that are in force.
use Rattle.std.proofs.Common.{◌≡◌, ℕ, Bool, true, false, cond, List, [], ◌∷◌, ◌++◌, map, sym, refl, ap, ◌∙◌, subst, Option, Some, None}
use Rattle.std.specs.FinMap as finite
use Rattle.std.specs.Prelude.{nat_eq, nat_le}
use Rattle.line_rates.specs.declared.ask.Way.{Way}
use Rattle.line_rates.specs.declared.ask.Way.TheVariants.{Down, Up}
use Rattle.line_rates.specs.declared.row.GroupRate.{GroupRate}
use Rattle.line_rates.specs.declared.row.UserRate.{UserRate}
use Rattle.line_rates.specs.Granted.{Granted}
use Rattle.line_rates.specs.Rates.{Rates, way_of, group_rate, user_rate, session_rate, group_of as group_stated, group_in as group_in_stated}
use Rattle.line_rates.specs.Stated.{group_number, user_number}
use Rattle.line_rates.proofs.RowLemmas.{first_row, get-by_number}
use Rattle.round_pace.specs.declared.credit.Credit.{Credit}
use Rattle.round_pace.specs.declared.paced.GroupPace.{GroupPace}
use Rattle.round_pace.specs.declared.paced.UserPace.{UserPace}
use Rattle.round_pace.specs.Changed.{IsChangedTo, changed_group, changed_user, changed_credit, idle}
use Rattle.round_pace.specs.Credits.{refill_row}
use Rattle.round_pace.specs.Earned.{tick_of}
use Rattle.round_pace.specs.Histories.{Held, after, after_all, take_one, take_more}
use Rattle.round_pace.specs.Offered.{refill_group, refill_user, offer_round}
use Rattle.round_pace.specs.OwnParts.{own_part}
use Rattle.round_pace.specs.Paced.{Paced, group_key, pace_number}
use Rattle.round_pace.specs.Rows.{group_row_credit, user_row_credit, session_row_credit}
use Rattle.round_pace.specs.Spent.{credit_of}
use Rattle.round_pace.specs.Taken.{take_if_down, take_if_up, take_group, take_user, take_groups, group_of, group_in}
use Rattle.guarantee_laws.specs.Reached.{IsReached}
use Rattle.guarantee_laws.proofs.Debts.{over, first_over, user_row, all_refilled, change, same_number}
use Rattle.guarantee_laws.proofs.Reaching.{last_begins}

abbrev pub group_row : Paced → ℕ → Option GroupPace
group_row p g = first_row group_key g p.groups

pub record Rated (rates : Rates) (w : Way) (u : ℕ) (q : Paced) : Type 0 where
  pub server : q.server.rate ≡ rates.server
  pub way : (credit_of w q.down q.up).rate ≡ way_of rates.down rates.up w
  pub in_group : (x : ℕ) → group_in (user_row q x) ≡ group_stated rates x
  pub group : (g : ℕ) → (group_row_credit w (group_row q g)).rate ≡ group_rate (finite.get rates.groups g) w
  pub user : (user_row_credit w (user_row q u)).rate ≡ user_rate (finite.get rates.users u) w
  pub session : (session_row_credit w (user_row q u)).rate ≡ session_rate (finite.get rates.users u) w

-- what a refill leaves as it was
way_refilled : (w : Way) (b t : ℕ) (x y : Credit) → (credit_of w (refill_row b t x) (refill_row b t y)).rate ≡ (credit_of w x y).rate
way_refilled Down b t x y = refl
way_refilled Up b t x y = refl

group_refilled : (w : Way) (b t : ℕ) (o : Option GroupPace) → (group_row_credit w (over (refill_group b t) o)).rate ≡ (group_row_credit w o).rate
group_refilled w b t None = refl
group_refilled w b t (Some g) = way_refilled w b t g.down g.up

user_refilled : (w : Way) (b t : ℕ) (o : Option UserPace) → (user_row_credit w (over (refill_user b t) o)).rate ≡ (user_row_credit w o).rate
user_refilled w b t None = refl
user_refilled w b t (Some x) = way_refilled w b t x.down x.up

session_refilled : (w : Way) (b t : ℕ) (o : Option UserPace) → (session_row_credit w (over (refill_user b t) o)).rate ≡ (session_row_credit w o).rate
session_refilled w b t None = refl
session_refilled w b t (Some x) = way_refilled w b t x.session_down x.session_up

in_refilled : (b t : ℕ) (o : Option UserPace) → group_in (over (refill_user b t) o) ≡ group_in o
in_refilled b t None = refl
in_refilled b t (Some x) = refl

pub user_over : (b t : ℕ) (p : Paced) (u : ℕ) → first_row pace_number u (map (refill_user b t) p.users) ≡ over (refill_user b t) (user_row p u)
user_over b t p u = first_over pace_number pace_number (refill_user b t) (λ x. refl) u p.users

pub group_over : (b t : ℕ) (p : Paced) (g : ℕ) → first_row group_key g (map (refill_group b t) p.groups) ≡ over (refill_group b t) (group_row p g)
group_over b t p g = first_over group_key group_key (refill_group b t) (λ x. refl) g p.groups

module _ (rates : Rates) (w : Way) (u : ℕ) where
  refilled : (t : ℕ) (p : Paced) → Rated rates w u p → (b : Bool) → Rated rates w u (cond b (all_refilled t p) p)
  refilled t p rated false = record { server = rated.server; way = rated.way; in_group = rated.in_group; group = rated.group; user = rated.user; session = rated.session }
  refilled t p rated true = record {
    server = rated.server;
    way = way_refilled w p.begun t p.down p.up ∙ rated.way;
    in_group = λ x. ap group_in (user_over p.begun t p x) ∙ in_refilled p.begun t (user_row p x) ∙ rated.in_group x;
    group = λ g. ap (λ (o : Option GroupPace). (group_row_credit w o).rate) (group_over p.begun t p g) ∙ group_refilled w p.begun t (group_row p g) ∙ rated.group g;
    user = ap (λ (o : Option UserPace). (user_row_credit w o).rate) (user_over p.begun t p u) ∙ user_refilled w p.begun t (user_row p u) ∙ rated.user;
    session = ap (λ (o : Option UserPace). (session_row_credit w o).rate) (user_over p.begun t p u) ∙ session_refilled w p.begun t (user_row p u) ∙ rated.session;
  }

  pub rated_offered : (t : ℕ) (p : Paced) → Rated rates w u p → Rated rates w u (offer_round t p)
  rated_offered t p rated =
      let r = refilled t p rated (nat_le p.begun t) in
      record { server = r.server; way = r.way; in_group = r.in_group; group = r.group; user = r.user; session = r.session }

-- what a grant leaves as it was
pub way_taken : (v w : Way) (k : ℕ) (x y : Credit) → (credit_of w (take_if_down v k x) (take_if_up v k y)).rate ≡ (credit_of w x y).rate
way_taken Down Down k x y = refl
way_taken Down Up k x y = refl
way_taken Up Down k x y = refl
way_taken Up Up k x y = refl

abbrev pub change_group : Way → ℕ → ℕ → GroupPace → GroupPace
change_group v y k x = cond (nat_eq (group_key x) y) (take_group v k x) x

pub same_key : (v : Way) (y k : ℕ) (x : GroupPace) → group_key (change_group v y k x) ≡ group_key x
same_key v y k x = keeps (nat_eq (group_key x) y)
  where
    keeps : (b : Bool) → group_key (cond b (take_group v k x) x) ≡ group_key x
    keeps true = refl
    keeps false = refl

group_taken : (w v : Way) (y k : ℕ) (o : Option GroupPace) → (group_row_credit w (over (change_group v y k) o)).rate ≡ (group_row_credit w o).rate
group_taken w v y k None = refl
group_taken w v y k (Some x) = go (nat_eq (group_key x) y)
  where
    go : (b : Bool) → (group_row_credit w (Some (cond b (take_group v k x) x))).rate ≡ (group_row_credit w (Some x)).rate
    go true = way_taken v w k x.down x.up
    go false = refl

groups_taken : (w v : Way) (p : Paced) (k g : ℕ) (o : Option ℕ) → (group_row_credit w (first_row group_key g (take_groups v o k p.groups))).rate ≡ (group_row_credit w (group_row p g)).rate
groups_taken w v p k g None = refl
groups_taken w v p k g (Some y) = ap (λ (o : Option GroupPace). (group_row_credit w o).rate) (first_over group_key group_key (change_group v y k) (same_key v y k) g p.groups) ∙ group_taken w v y k (group_row p g)

user_taken : (w : Way) (before : List Granted) (g : Granted) (o : Option UserPace) → (user_row_credit w (over (change before g) o)).rate ≡ (user_row_credit w o).rate
user_taken w before g None = refl
user_taken w before g (Some x) = go (nat_eq (pace_number x) g.ask.user)
  where
    go : (b : Bool) → (user_row_credit w (Some (cond b (take_user g.ask.way g.octets (own_part before g) x) x))).rate ≡ (user_row_credit w (Some x)).rate
    go true = way_taken g.ask.way w g.octets x.down x.up
    go false = refl

session_taken : (w : Way) (before : List Granted) (g : Granted) (o : Option UserPace) → (session_row_credit w (over (change before g) o)).rate ≡ (session_row_credit w o).rate
session_taken w before g None = refl
session_taken w before g (Some x) = go (nat_eq (pace_number x) g.ask.user)
  where
    go : (b : Bool) → (session_row_credit w (Some (cond b (take_user g.ask.way g.octets (own_part before g) x) x))).rate ≡ (session_row_credit w (Some x)).rate
    go true = way_taken g.ask.way w (own_part before g) x.session_down x.session_up
    go false = refl

in_taken : (before : List Granted) (g : Granted) (o : Option UserPace) → group_in (over (change before g) o) ≡ group_in o
in_taken before g None = refl
in_taken before g (Some x) = go (nat_eq (pace_number x) g.ask.user)
  where
    go : (b : Bool) → group_in (Some (cond b (take_user g.ask.way g.octets (own_part before g) x) x)) ≡ group_in (Some x)
    go true = refl
    go false = refl

pub user_changed : (before : List Granted) (g : Granted) (p : Paced) (u : ℕ) → user_row (take_one before p g) u ≡ over (change before g) (user_row p u)
user_changed before g p u = first_over pace_number pace_number (change before g) (same_number before g) u p.users

module _ (rates : Rates) (w : Way) (u : ℕ) where
  pub rated_one : (before : List Granted) (p : Paced) (g : Granted) → Rated rates w u p → Rated rates w u (take_one before p g)
  rated_one before p g rated = record {
    server = rated.server;
    way = way_taken g.ask.way w g.octets p.down p.up ∙ rated.way;
    in_group = λ x. ap group_in (user_changed before g p x) ∙ in_taken before g (user_row p x) ∙ rated.in_group x;
    group = λ k. groups_taken w g.ask.way p g.octets k (group_of p.users g.ask.user) ∙ rated.group k;
    user = ap (λ (o : Option UserPace). (user_row_credit w o).rate) (user_changed before g p u) ∙ user_taken w before g (user_row p u) ∙ rated.user;
    session = ap (λ (o : Option UserPace). (session_row_credit w o).rate) (user_changed before g p u) ∙ session_taken w before g (user_row p u) ∙ rated.session;
  }

  rated_more : (before gs : List Granted) (p : Paced) → Rated rates w u p → Rated rates w u (take_more before gs p)
  rated_more before [] p rated = rated
  rated_more before (g ∷ gs) p rated = rated_more (before ++ g ∷ []) gs (take_one before p g) (rated_one before p g rated)

  pub rated_after : (p : Paced) (h : Held) → Rated rates w u p → Rated rates w u (after p h)
  rated_after p h rated = rated_more [] h.leaves (offer_round (tick_of h.now) p) (rated_offered rates w u (tick_of h.now) p rated)

  rated_all : (p : Paced) (hs : List Held) → Rated rates w u p → Rated rates w u (after_all p hs)
  rated_all p [] rated = rated
  rated_all p (h ∷ hs) rated = rated_all (after p h) hs (rated_after p h rated)

  -- rows that were changed to some rates
  rated_changed : (old p : Paced) → IsChangedTo rates old p → Rated rates w u p
  rated_changed old p c = subst (Rated rates w u) (sym c.is) (record {
    server = refl;
    way = ways w rates.down rates.up old.down old.up;
    in_group = λ x. ap group_in (users x) ∙ in_group (first_row user_number x c.user_rows) ∙ ap group_in_stated (stated_user x);
    group = λ g.
        ap (λ (o : Option GroupPace). (group_row_credit w o).rate) (first_over group_number group_key (changed_group old.groups) (λ x. refl) g c.group_rows)
        ∙ group w (first_row group_number g c.group_rows) ∙ ap (λ (o : Option GroupRate). group_rate o w) (sym (get-by_number group_number g c.group_rows) ∙ ap (λ m. finite.get m g) c.groups_are);
    user = ap (λ (o : Option UserPace). (user_row_credit w o).rate) (users u) ∙ user w (first_row user_number u c.user_rows) ∙ ap (λ (o : Option UserRate). user_rate o w) (stated_user u);
    session = ap (λ (o : Option UserPace). (session_row_credit w o).rate) (users u) ∙ session w (first_row user_number u c.user_rows) ∙ ap (λ (o : Option UserRate). session_rate o w) (stated_user u);
  })
    where
      users : (x : ℕ) → first_row pace_number x (map (changed_user old.users) c.user_rows) ≡ over (changed_user old.users) (first_row user_number x c.user_rows)
      users x = first_over user_number pace_number (changed_user old.users) (λ y. refl) x c.user_rows

      stated_user : (x : ℕ) → first_row user_number x c.user_rows ≡ finite.get rates.users x
      stated_user x = sym (get-by_number user_number x c.user_rows) ∙ ap (λ m. finite.get m x) c.users_are

      ways : (w : Way) (a b : ℕ) (x y : Credit) → (credit_of w (changed_credit a x) (changed_credit b y)).rate ≡ way_of a b w
      ways Down a b x y = refl
      ways Up a b x y = refl

      in_group : (o : Option UserRate) → group_in (over (changed_user old.users) o) ≡ group_in_stated o
      in_group None = refl
      in_group (Some x) = refl

      group : (w : Way) (o : Option GroupRate) → (group_row_credit w (over (changed_group old.groups) o)).rate ≡ group_rate o w
      group w None = refl
      group Down (Some x) = refl
      group Up (Some x) = refl

      user : (w : Way) (o : Option UserRate) → (user_row_credit w (over (changed_user old.users) o)).rate ≡ user_rate o w
      user w None = refl
      user Down (Some x) = refl
      user Up (Some x) = refl

      session : (w : Way) (o : Option UserRate) → (session_row_credit w (over (changed_user old.users) o)).rate ≡ session_rate o w
      session w None = refl
      session Down (Some x) = refl
      session Up (Some x) = refl

  pub rated_reached : (p : Paced) → IsReached rates p → Rated rates w u p
  rated_reached p at =
      let last = last_begins (idle at.begun) at.stretches rates at.rounds p at.lead in
      subst (Rated rates w u) last.3 (rated_all last.1 at.rounds (rated_changed last.0 last.1 last.2))
