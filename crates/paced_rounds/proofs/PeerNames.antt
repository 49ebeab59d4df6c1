-- Sessions of a user, and users without rates, as peers.
use Rattle.std.proofs.Common.{◌≡◌, ℕ, ◌≤◌, Bool, true, false, ◌&&◌, cond, nat_eq, List, [], ◌∷◌, sym, refl, ap, ◌∙◌, subst, arith, ◌⊎◌, inl, inr, count_by}
use Rattle.std.specs.FinMap as finite
use Rattle.std.proofs.lemmas.Bool.{cases_Bool, and_parts, and_from, eqb-true, eq-eqb, false≢true}
use Rattle.std.proofs.lemmas.List.Sums.{sum_by-cons}
use Rattle.line_rates.specs.declared.ask.Ask.{Ask}
use Rattle.line_rates.specs.declared.ask.Way.{Way}
use Rattle.line_rates.specs.declared.ask.Way.TheVariants.{Down, Up}
use Rattle.line_rates.specs.declared.ask.Name.{Name}
use Rattle.line_rates.specs.declared.ask.Name.TheVariants.{Server, Direction, Group, User, Session}
use Rattle.line_rates.specs.Names.{same_way, is_number, bears}
use Rattle.line_rates.specs.Rates.{Rates, group_of, rate_of, floor_rate}
use Rattle.lane_desk.specs.Peers.{HasRatesOf}
use Rattle.paced_rounds.specs.PeerKinds.{IsOfOne, IsUnrated, SessionsArePeers, UsersArePeers}

way_is : (w v : Way) → same_way w v ≡ true → w ≡ v
way_is Down Down e = refl
way_is Up Up e = refl
way_is Down Up e = absurd (false≢true e)
way_is Up Down e = absurd (false≢true e)

way_same : (w : Way) → same_way w w ≡ true
way_same Down = refl
way_same Up = refl

-- names that an ask counts under
user_is : (r : Rates) (w : Way) (u : ℕ) (a : Ask) → bears r (User w u) a ≡ true → User a.way a.user ≡ User w u
user_is r w u a is =
    let both = and_parts (same_way a.way w) (nat_eq a.user u) is in
    ap (λ (x : Way). User x a.user) (way_is a.way w both.0) ∙ ap (λ (x : ℕ). User w x) (eqb-true a.user u both.1)

session_is : (r : Rates) (w : Way) (u s : ℕ) (a : Ask) → bears r (Session w u s) a ≡ true → Session a.way a.user a.session ≡ Session w u s
session_is r w u s a is =
    let both = and_parts (same_way a.way w) (nat_eq a.user u && nat_eq a.session s) is in
    let rest = and_parts (nat_eq a.user u) (nat_eq a.session s) both.1 in
    ap (λ (x : Way). Session x a.user a.session) (way_is a.way w both.0) ∙ (ap (λ (x : ℕ). Session w x a.session) (eqb-true a.user u rest.0) ∙ ap (λ (x : ℕ). Session w u x) (eqb-true a.session s rest.1))

user_above : (r : Rates) (w : Way) (u s : ℕ) (a : Ask) → bears r (Session w u s) a ≡ true → bears r (User w u) a ≡ true
user_above r w u s a is =
    let both = and_parts (same_way a.way w) (nat_eq a.user u && nat_eq a.session s) is in
    and_from (same_way a.way w) (nat_eq a.user u) both.0 (and_parts (nat_eq a.user u) (nat_eq a.session s) both.1).0

own_user : (r : Rates) (a : Ask) → bears r (User a.way a.user) a ≡ true
own_user r a = and_from (same_way a.way a.way) (nat_eq a.user a.user) (way_same a.way) (eq-eqb a.user a.user refl)

own_session : (r : Rates) (a : Ask) → bears r (Session a.way a.user a.session) a ≡ true
own_session r a = and_from (same_way a.way a.way) (nat_eq a.user a.user && nat_eq a.session a.session) (way_same a.way) (and_from (nat_eq a.user a.user) (nat_eq a.session a.session) (eq-eqb a.user a.user refl) (eq-eqb a.session a.session refl))

-- fewer asks count under a session than under its user
weight_le : (x y : Bool) → (x ≡ true → y ≡ true) → cond x 1 0 ≤ cond y 1 0
weight_le false y up = omega arith
weight_le true true up = omega arith
weight_le true false up = absurd (false≢true (up refl))

count_le : (p q : Ask → Bool) → ((a : Ask) → p a ≡ true → q a ≡ true) → (asks : List Ask) → count_by p asks ≤ count_by q asks
count_le p q up [] = omega arith
count_le p q up (a ∷ asks) = omega (arith, weight_le (p a) (q a) (up a), count_le p q up asks, sum_by-cons (λ x. cond (p x) 1 0) a asks, sum_by-cons (λ x. cond (q x) 1 0) a asks)

-- a name is of both asks, of neither, or of no two
either : (r : Rates) (asks : List Ask) (n : Name) (a b : Ask) → (bears r n a ≡ true → IsOfOne r asks n) → (bears r n b ≡ true → IsOfOne r asks n) → (bears r n a ≡ bears r n b) ⊎ (count_by (bears r n) asks ≤ 1)
either r asks n a b one other = elim (cases_Bool (bears r n a)) [
  | inl is ↦ inr (one is)
  | inr not_a ↦ elim (cases_Bool (bears r n b)) [
    | inl is ↦ inr (other is)
    | inr not_b ↦ inl (not_a ∙ sym not_b)
  ]
]

-- the names above users are the same
above : (r : Rates) (a b : Ask) → a.way ≡ b.way → group_of r a.user ≡ group_of r b.user → (w : Way) (g : ℕ) → bears r (Group w g) a ≡ bears r (Group w g) b
above r a b ways groups w g = λ k. same_way (ways k) w && is_number (groups k) g

direction : (r : Rates) (a b : Ask) → a.way ≡ b.way → (w : Way) → bears r (Direction w) a ≡ bears r (Direction w) b
direction r a b ways w = ap (λ (x : Way). same_way x w) ways

users_same : (r : Rates) (a b : Ask) → a.way ≡ b.way → a.user ≡ b.user → (w : Way) (u : ℕ) → bears r (User w u) a ≡ bears r (User w u) b
users_same r a b ways users w u = λ k. same_way (ways k) w && nat_eq (users k) u

session_rates : (r : Rates) (a b : Ask) → a.way ≡ b.way → a.user ≡ b.user → HasRatesOf r a b
session_rates r a b ways users Server in_b not_a = absurd (false≢true (sym not_a))
session_rates r a b ways users (Direction w) in_b not_a = absurd (false≢true (sym not_a ∙ (direction r a b ways w ∙ in_b)))
session_rates r a b ways users (Group w g) in_b not_a = absurd (false≢true (sym not_a ∙ (above r a b ways (ap (group_of r) users) w g ∙ in_b)))
session_rates r a b ways users (User w u) in_b not_a = absurd (false≢true (sym not_a ∙ (users_same r a b ways users w u ∙ in_b)))
session_rates r a b ways users (Session w u s) in_b not_a = (
  Session a.way a.user a.session,
  own_session r a,
  (λ k. rate_of r (Session (ways k) (users k) a.session)) ∙ ap (rate_of r) (session_is r w u s b in_b),
)

pub sessions_are_peers : SessionsArePeers
sessions_are_peers r asks a b ways users one other = record {
  alike = record { group = ap (group_of r) users; names = names };
  one = session_rates r a b ways users;
  other = session_rates r b a (sym ways) (sym users);
  guarantees = λ k. floor_rate (finite.get r.users (users k)) (ways k);
}
  where
    names : (n : Name) → (bears r n a ≡ bears r n b) ⊎ (count_by (bears r n) asks ≤ 1)
    names Server = inl refl
    names (Direction w) = inl (direction r a b ways w)
    names (Group w g) = inl (above r a b ways (ap (group_of r) users) w g)
    names (User w u) = inl (users_same r a b ways users w u)
    names (Session w u s) = either r asks (Session w u s) a b (λ is. subst (IsOfOne r asks) (session_is r w u s a is) one) (λ is. subst (IsOfOne r asks) (session_is r w u s b is) other)

user_rates : (r : Rates) (a b : Ask) → a.way ≡ b.way → group_of r a.user ≡ group_of r b.user → IsUnrated r a → IsUnrated r b → HasRatesOf r a b
user_rates r a b ways groups free_a free_b Server in_b not_a = absurd (false≢true (sym not_a))
user_rates r a b ways groups free_a free_b (Direction w) in_b not_a = absurd (false≢true (sym not_a ∙ (direction r a b ways w ∙ in_b)))
user_rates r a b ways groups free_a free_b (Group w g) in_b not_a = absurd (false≢true (sym not_a ∙ (above r a b ways groups w g ∙ in_b)))
user_rates r a b ways groups free_a free_b (User w u) in_b not_a = (User a.way a.user, own_user r a, free_a.user ∙ (sym free_b.user ∙ ap (rate_of r) (user_is r w u b in_b)))
user_rates r a b ways groups free_a free_b (Session w u s) in_b not_a = (User a.way a.user, own_user r a, free_a.user ∙ (sym free_b.session ∙ ap (rate_of r) (session_is r w u s b in_b)))

pub users_are_peers : UsersArePeers
users_are_peers r asks a b ways groups free_a free_b one other = record {
  alike = record { group = groups; names = names };
  one = user_rates r a b ways groups free_a free_b;
  other = user_rates r b a (sym ways) (sym groups) free_b free_a;
  guarantees = free_a.guarantee ∙ sym free_b.guarantee;
}
  where
    of_user : (w : Way) (u s : ℕ) → IsOfOne r asks (User w u) → IsOfOne r asks (Session w u s)
    of_user w u s few = omega (arith, few, count_le (bears r (Session w u s)) (bears r (User w u)) (user_above r w u s) asks)

    names : (n : Name) → (bears r n a ≡ bears r n b) ⊎ (count_by (bears r n) asks ≤ 1)
    names Server = inl refl
    names (Direction w) = inl (direction r a b ways w)
    names (Group w g) = inl (above r a b ways groups w g)
    names (User w u) = either r asks (User w u) a b (λ is. subst (IsOfOne r asks) (user_is r w u a is) one) (λ is. subst (IsOfOne r asks) (user_is r w u b is) other)
    names (Session w u s) = either r asks (Session w u s) a b
        (λ is. of_user w u s (subst (IsOfOne r asks) (user_is r w u a (user_above r w u s a is)) one))
        (λ is. of_user w u s (subst (IsOfOne r asks) (user_is r w u b (user_above r w u s b is)) other))
