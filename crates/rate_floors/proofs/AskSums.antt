-- Sums over asks: bounded one by one, in parts, of one number, and of a user's sessions in one way.
use Rattle.std.proofs.Common.{◌≡◌, ℕ, zero, suc, ◌+◌, ◌*◌, ◌≤◌, Bool, true, false, ◌&&◌, ◌||◌, cond, List, [], ◌∷◌, length, map, sum_by, sym, refl, ap, ◌∙◌, arith}
use Rattle.std.specs.List.{Contains, list_any}
use Rattle.std.specs.Prelude.{nat_eq, count_by}
use Rattle.std.proofs.lemmas.Bool.{and_parts, eqb-true, eq-eqb, or_right}
use Rattle.std.proofs.lemmas.List.Sums.{sum_by-cons, sum_by-le-sum_by}
use Rattle.line_rates.specs.declared.ask.Way.{Way}
use Rattle.line_rates.specs.declared.ask.Way.TheVariants.{Down, Up}
use Rattle.line_rates.specs.declared.ask.Ask.{Ask}
use Rattle.line_rates.specs.declared.ask.Name.TheVariants.{User, Session}
use Rattle.line_rates.specs.Names.{same_way, bears}
use Rattle.line_rates.specs.Rates.{Rates}

abbrev pub one_if : Bool → ℕ
one_if b = cond b 1 0

-- the sum of what one list has in two parts
pub sum_of_both : {X : Type 0} (f g : X → ℕ) (xs : List X) → sum_by (λ x. f x + g x) xs ≡ sum_by f xs + sum_by g xs
sum_of_both f g [] = refl
sum_of_both f g (x ∷ xs) = omega (arith, sum_by-cons (λ x. f x + g x) x xs, sum_by-cons f x xs, sum_by-cons g x xs, sum_of_both f g xs)

pub sum_of_times : {X : Type 0} (k : ℕ) (f : X → ℕ) (xs : List X) → sum_by (λ x. k * f x) xs ≡ k * sum_by f xs
sum_of_times k f [] = omega arith
sum_of_times k f (x ∷ xs) = sum_by-cons (λ y. k * f y) x xs ∙ ap (λ (n : ℕ). k * f x + n) (sum_of_times k f xs) ∙ spread k (f x) (sum_by f xs) ∙ ap (λ (n : ℕ). k * n) (sym (sum_by-cons f x xs))
  where
    spread : (k m n : ℕ) → k * m + k * n ≡ k * (m + n)
    spread k m n = omega arith

-- where it holds of each element
pub sum_of_each : {X : Type 0} (f g : X → ℕ) (xs : List X) → ((x : X) → Contains xs x → f x ≤ g x) → sum_by f xs ≤ sum_by g xs
sum_of_each f g [] h = omega arith
sum_of_each f g (x ∷ xs) h =
    let first : f x ≤ g x = h x (0, omega arith, refl) in
    let rest : sum_by f xs ≤ sum_by g xs = sum_of_each f g xs (λ y c. h y (suc c.0, (let lt = c.1 in omega arith), c.2)) in
    omega (arith, sum_by-cons f x xs, sum_by-cons g x xs)

pub sum_of_none : {X : Type 0} (f : X → ℕ) (xs : List X) → ((x : X) → f x ≡ 0) → sum_by f xs ≡ 0
sum_of_none f [] h = refl
sum_of_none f (x ∷ xs) h = omega (arith, sum_by-cons f x xs, h x, sum_of_none f xs h)

pub sum_of_mapped : {X : Type 0} (f : X → ℕ) (g : X → X) (xs : List X) → ((x : X) → f (g x) ≤ f x) → sum_by f (map g xs) ≤ sum_by f xs
sum_of_mapped f g [] h = omega arith
sum_of_mapped f g (x ∷ xs) h = omega (arith, sum_by-cons f (g x) (map g xs), sum_by-cons f x xs, h x, sum_of_mapped f g xs h)

abbrev part : (Ask → ℕ) → (Ask → Bool) → Ask → ℕ
part f q a = cond (q a) (f a) 0

abbrev one : (Ask → Bool) → Ask → ℕ
one q a = cond (q a) 1 0

times_more : (k n : ℕ) → k * (n + 1) ≡ k * n + k
times_more k n = omega arith

-- of as many asks as pass a test, each of which has the same
pub sum_of_same : (f : Ask → ℕ) (q : Ask → Bool) (k : ℕ) → ((a : Ask) → q a ≡ true → f a ≡ k) → (asks : List Ask) → sum_by (λ a. cond (q a) (f a) 0) asks ≡ k * count_by q asks
sum_of_same f q k h [] = omega arith
sum_of_same f q k h (a ∷ asks) = go (sum_of_same f q k h asks) (q a) refl
  where
    go : sum_by (part f q) asks ≡ k * count_by q asks → (b : Bool) → q a ≡ b → sum_by (part f q) (a ∷ asks) ≡ k * count_by q (a ∷ asks)
    go rest true e =
        let has : part f q a ≡ k = ap (λ c. cond c (f a) 0) e ∙ h a e in
        let unit : one q a ≡ 1 = ap one_if e in
        let more : count_by q (a ∷ asks) ≡ count_by q asks + 1 = omega (arith, sum_by-cons (one q) a asks) in
        omega (arith, sum_by-cons (part f q) a asks, rest, has, ap (λ (n : ℕ). k * n) more, times_more k (count_by q asks))
    go rest false e =
        let has : part f q a ≡ 0 = ap (λ c. cond c (f a) 0) e in
        let unit : one q a ≡ 0 = ap one_if e in
        let same : count_by q (a ∷ asks) ≡ count_by q asks = omega (arith, sum_by-cons (one q) a asks) in
        omega (arith, sum_by-cons (part f q) a asks, rest, has, ap (λ (n : ℕ). k * n) same)

-- fewer pass a test that says more
pub count_less : (p q : Ask → Bool) (asks : List Ask) → ((a : Ask) → one_if (p a) ≤ one_if (q a)) → count_by p asks ≤ count_by q asks
count_less p q asks h = sum_by-le-sum_by (one p) (one q) asks h

pub way_is : (v w : Way) → same_way v w ≡ true → v ≡ w
way_is Down Down e = refl
way_is Up Up e = refl
way_is Down Up e = absurd (cc)
way_is Up Down e = absurd (cc)

contains_any : (n : ℕ) (ns : List ℕ) → Contains ns n → list_any (nat_eq n) ns ≡ true
contains_any n [] c = absurd (let lt = c.1 in omega arith)
contains_any n (m ∷ ns) (zero, lt, is) = ap (λ b. b || list_any (nat_eq n) ns) (eq-eqb n m (sym is))
contains_any n (m ∷ ns) (suc k, lt, is) = or_right (nat_eq n m) (list_any (nat_eq n) ns) (contains_any n ns (k, omega arith, is))

module _ (r : Rates) (asks : List Ask) (once : (way : Way) (user session : ℕ) → count_by (bears r (Session way user session)) asks ≤ 1) (w : Way) (u : ℕ) where
  abbrev among : List ℕ → Ask → Bool
  among ns a = bears r (User w u) a && list_any (nat_eq a.session) ns

  three : (x y z t : Bool) → one_if ((x && y) && (z || t)) ≤ one_if (x && (y && z)) + one_if ((x && y) && t)
  three false y z t = omega arith
  three true false z t = omega arith
  three true true true t = omega arith
  three true true false t = omega arith

  nothing : (x : Bool) → one_if (x && false) ≡ 0
  nothing true = refl
  nothing false = refl

  few_among : (ns : List ℕ) → count_by (among ns) asks ≤ length ns
  few_among [] = omega (arith, sum_of_none (one (among [])) asks (λ a. nothing (bears r (User w u) a)))
  few_among (n ∷ ns) =
      let each : sum_by (one (among (n ∷ ns))) asks ≤ sum_by (λ a. one (bears r (Session w u n)) a + one (among ns) a) asks =
      sum_by-le-sum_by (one (among (n ∷ ns))) (λ a. one (bears r (Session w u n)) a + one (among ns) a) asks (λ a. three (same_way a.way w) (nat_eq a.user u) (nat_eq a.session n) (list_any (nat_eq a.session) ns)) in
      omega (arith, sum_of_both (one (bears r (Session w u n))) (one (among ns)) asks, once w u n, few_among ns)

  -- the asks of a user in one way are no more than their sessions
  pub few_of_user : (ns : List ℕ) → ((a : Ask) → Contains asks a → a.user ≡ u → Contains ns a.session) → count_by (bears r (User w u)) asks ≤ length ns
  few_of_user ns each =
      let less : count_by (bears r (User w u)) asks ≤ count_by (among ns) asks = sum_of_each (one (bears r (User w u))) (one (among ns)) asks (λ a c. go a c (bears r (User w u) a) refl) in
      omega (arith, few_among ns)
    where
      go : (a : Ask) → Contains asks a → (b : Bool) → bears r (User w u) a ≡ b → one (bears r (User w u)) a ≤ one (among ns) a
      go a c false e = let none : one (bears r (User w u)) a ≡ 0 = ap one_if e in omega arith
      go a c true e =
          let is : a.user ≡ u = eqb-true a.user u (and_parts (same_way a.way w) (nat_eq a.user u) e).1 in
          let any : list_any (nat_eq a.session) ns ≡ true = contains_any a.session ns (each a c is) in
          let has : one (among ns) a ≡ 1 = ap one_if (ap (λ b. b && list_any (nat_eq a.session) ns) e ∙ any) in
          let unit : one (bears r (User w u)) a ≡ 1 = ap one_if e in
          omega arith

  -- and those of one session no more than those of the user
  pub few_of_session : (s : ℕ) → count_by (bears r (Session w u s)) asks ≤ count_by (bears r (User w u)) asks
  few_of_session s = count_less (bears r (Session w u s)) (bears r (User w u)) asks (λ a. fewer (same_way a.way w) (nat_eq a.user u) (nat_eq a.session s))
    where
      fewer : (x y z : Bool) → one_if (x && (y && z)) ≤ one_if (x && y)
      fewer false y z = omega arith
      fewer true false z = omega arith
      fewer true true true = omega arith
      fewer true true false = omega arith
