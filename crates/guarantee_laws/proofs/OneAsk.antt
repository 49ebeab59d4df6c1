-- The tree of one ask under a rate of the server, and its best grant.
use Rattle.std.proofs.Common.{◌≡◌, ℕ, zero, suc, ◌+◌, ◌/◌, ◌<◌, ◌≤◌, ◌⊎◌, Bool, true, false, cond, List, [], ◌∷◌, length, get_or, map, inl, inr, sym, refl, ap, ◌∙◌, subst, arith, Option, Some, None}
use Rattle.std.specs.FinMap as finite
use Rattle.std.specs.List.{All}
use Rattle.std.specs.Prelude.{nat_eq, min, ◌&&◌, ◌||◌, IsTrue, slice_index}
use Rattle.std.proofs.lemmas.Bool.{eqb-true}
use Rattle.std.proofs.lemmas.List.Sorted.{All-permutation}
use Rattle.limit_tree.specs.Sharing.{Branch, LimitTree, IsWithin, IsBest, sum_over}
use Rattle.line_rates.specs.declared.ask.Name.{Name}
use Rattle.line_rates.specs.declared.ask.Name.TheVariants.{Server, Direction, Group, User, Session}
use Rattle.line_rates.specs.declared.ask.Way.{Way}
use Rattle.line_rates.specs.declared.ask.Way.TheVariants.{Down, Up}
use Rattle.line_rates.specs.declared.row.GroupRate.{GroupRate}
use Rattle.line_rates.specs.declared.row.UserRate.{UserRate}
use Rattle.line_rates.specs.Names.{floor_of, is_number}
use Rattle.line_rates.specs.Rates.{rate_of, group_rate, user_rate, session_rate, group_in, floor_rate}
use Rattle.line_rates.specs.Stated.{group_number, user_number}
use Rattle.line_rates.specs.Ticks.{rate_limit}
use Rattle.line_rates.specs.TickTree.{is_name, bears_at, AreNamed, IsTickTree}
use Rattle.line_rates.proofs.RowLemmas.{get-by_number}
use Rattle.guarantee_laws.specs.Example.{row_with, rates_with, ask}

module _ (x f tick : ℕ) where
  -- the rows
  pub the_row : (u : ℕ) → finite.get (rates_with x f).users u ≡ cond (nat_eq 7 u) (Some (row_with f)) None
  the_row u = get-by_number user_number u (row_with f ∷ [])

  pub no_group : (g : ℕ) → finite.get (rates_with x f).groups g ≡ None
  no_group g = get-by_number group_number g []

  -- no name but the server's has a rate
  pub no_rate : (n : Name) → (n ≡ Server) ⊎ (rate_of (rates_with x f) n ≡ 0)
  no_rate Server = inl refl
  no_rate (Direction Down) = inr refl
  no_rate (Direction Up) = inr refl
  no_rate (Group w g) = inr (ap (λ (o : Option GroupRate). group_rate o w) (no_group g))
  no_rate (User w u) = inr (ap (λ (o : Option UserRate). user_rate o w) (the_row u) ∙ go w (nat_eq 7 u))
    where
      go : (w : Way) (b : Bool) → user_rate (cond b (Some (row_with f)) None) w ≡ 0
      go Down true = refl
      go Up true = refl
      go w false = refl
  no_rate (Session w u s) = inr (ap (λ (o : Option UserRate). session_rate o w) (the_row u) ∙ go w (nat_eq 7 u))
    where
      go : (w : Way) (b : Bool) → session_rate (cond b (Some (row_with f)) None) w ≡ 0
      go Down true = refl
      go Up true = refl
      go w false = refl

  floor_is : floor_of (rates_with x f) ask ≡ min 65536 (f / 10)
  floor_is = ap (λ (o : Option UserRate). min 65536 (floor_rate o Down / 10)) (the_row 7)

  -- the names of the branches
  abbrev name : ℕ → Option Name
  name zero = Some Server
  name (suc zero) = Some (Direction Down)
  name (suc (suc zero)) = Some (User Down 7)
  name (suc (suc (suc zero))) = Some (Session Down 7 0)
  name (suc (suc (suc (suc k)))) = None

  abbrev index : Name → ℕ
  index Server = zero
  index (Direction w) = suc zero
  index (User w u) = suc (suc zero)
  index (Session w u s) = suc (suc (suc zero))
  index (Group w g) = zero

  abbrev branch_of : Option Name → Option Branch
  branch_of None = None
  branch_of (Some n) = Some (record { limit = rate_limit (rate_of (rates_with x f) n) tick; holds = bears_at (rates_with x f) n (ask ∷ []) })

  abbrev pub tree : LimitTree
  tree = record { wants = 65536 ∷ []; floors = map (floor_of (rates_with x f)) (ask ∷ []); branch = λ k. branch_of (name k) }

  some_name : (a b : Name) → Some a ≡ Some b → a ≡ b
  some_name a b e = cc

  named : (o : Option Name) → AreNamed (rates_with x f) tick (ask ∷ []) o (branch_of o)
  named None = tt
  named (Some n) = record { limit = refl; holds = λ i. refl }

  no_other : (k : ℕ) (n : Name) → name k ≡ Some n → IsTrue (is_name (rates_with x f) (ask ∷ []) n)
  no_other zero n e = subst (λ (m : Name). IsTrue (is_name (rates_with x f) (ask ∷ []) m)) (some_name Server n e) refl
  no_other (suc zero) n e = subst (λ (m : Name). IsTrue (is_name (rates_with x f) (ask ∷ []) m)) (some_name (Direction Down) n e) refl
  no_other (suc (suc zero)) n e = subst (λ (m : Name). IsTrue (is_name (rates_with x f) (ask ∷ []) m)) (some_name (User Down 7) n e) refl
  no_other (suc (suc (suc zero))) n e = subst (λ (m : Name). IsTrue (is_name (rates_with x f) (ask ∷ []) m)) (some_name (Session Down 7 0) n e) refl
  no_other (suc (suc (suc (suc k)))) n e = absurd (cc)

  each_name : (n : Name) → IsTrue (is_name (rates_with x f) (ask ∷ []) n) → (k : ℕ) × (name k ≡ Some n)
  each_name Server is = (zero, refl)
  each_name (Direction Down) is = (suc zero, refl)
  each_name (Direction Up) is = absurd (cc)
  each_name (Group Down g) is = never (subst (λ (o : Option UserRate). IsTrue (is_number (group_in o) g || false)) (the_row 7) is)
    where
      never : {A : Type 0} → false ≡ true → A
      never e = absurd (cc)
  each_name (Group Up g) is = absurd (cc)
  each_name (User Up u) is = absurd (cc)
  each_name (User Down u) is = go (nat_eq 7 u) refl is
    where
      go : (b : Bool) → nat_eq 7 u ≡ b → IsTrue (b || false) → (k : ℕ) × (name k ≡ Some (User Down u))
      go true e is = (suc (suc zero), ap (λ (v : ℕ). Some (User Down v)) (eqb-true 7 u e))
      go false e is = absurd (cc)
  each_name (Session Up u s) is = absurd (cc)
  each_name (Session Down u s) is = go (nat_eq 7 u) (nat_eq 0 s) refl refl is
    where
      go : (b c : Bool) → nat_eq 7 u ≡ b → nat_eq 0 s ≡ c → IsTrue ((b && c) || false) → (k : ℕ) × (name k ≡ Some (Session Down u s))
      go true true e g is = (suc (suc (suc zero)), λ i. Some (Session Down (eqb-true 7 u e i) (eqb-true 0 s g i)))
      go true false e g is = absurd (cc)
      go false c e g is = absurd (cc)

  at_index : (k : ℕ) (n : Name) → name k ≡ Some n → k ≡ index n
  at_index zero n e = ap index (some_name Server n e)
  at_index (suc zero) n e = ap index (some_name (Direction Down) n e)
  at_index (suc (suc zero)) n e = ap index (some_name (User Down 7) n e)
  at_index (suc (suc (suc zero))) n e = ap index (some_name (Session Down 7 0) n e)
  at_index (suc (suc (suc (suc k)))) n e = absurd (cc)

  pub is_tree : IsTickTree (rates_with x f) tick (ask ∷ []) tree
  is_tree = record {
    wants = refl;
    floors = refl;
    name = name;
    named = λ k. named (name k);
    no_other = no_other;
    each_name = each_name;
    once = λ j k n e g. at_index j n e ∙ sym (at_index k n g);
  }

  -- the best grant is what the server's rate allows
  module _ (octets : ℕ) (limit : rate_limit x tick ≡ Some octets) (few : octets ≤ 65536) (floor : min 65536 (f / 10) ≤ octets) where
    some_limit : (a b : ℕ) → Some a ≡ Some b → a ≡ b
    some_limit a b e = cc

    no_limit : (rate most : ℕ) → rate ≡ 0 → rate_limit rate tick ≡ Some most → ⊥
    no_limit rate most e is = never (sym (ap (λ (r : ℕ). rate_limit r tick) e) ∙ is)
      where
        never : None ≡ Some most → ⊥
        never e = cc

    some_branch : (a b : Branch) → Some a ≡ Some b → a ≡ b
    some_branch a b e = cc

    limits : (o : Option Name) (most : ℕ) (b : Branch) → branch_of o ≡ Some b → b.limit ≡ Some most → sum_over b.holds (octets ∷ []) ≤ most
    limits None most b at is = absurd (cc)
    limits (Some n) most b at is =
        subst (λ (c : Branch). c.limit ≡ Some most → sum_over c.holds (octets ∷ []) ≤ most)
        (some_branch (record { limit = rate_limit (rate_of (rates_with x f) n) tick; holds = bears_at (rates_with x f) n (ask ∷ []) }) b at) (own n (no_rate n)) is
      where
        one : (o m : ℕ) → o ≡ m → 0 + o ≤ m
        one o m e = omega (arith, e)

        own : (n : Name) → (n ≡ Server) ⊎ (rate_of (rates_with x f) n ≡ 0) → rate_limit (rate_of (rates_with x f) n) tick ≡ Some most → sum_over (bears_at (rates_with x f) n (ask ∷ [])) (octets ∷ []) ≤ most
        own n (inr none) is = absurd (no_limit (rate_of (rates_with x f) n) most none is)
        own n (inl server) is =
            subst (λ (m : Name). rate_limit (rate_of (rates_with x f) m) tick ≡ Some most → sum_over (bears_at (rates_with x f) m (ask ∷ [])) (octets ∷ []) ≤ most) (sym server)
            (λ e. one octets most (some_limit octets most (sym limit ∙ e))) is

    first : (i : ℕ) → i < 1 → i ≡ 0
    first i lt = omega (arith, lt)

    within : IsWithin tree (octets ∷ [])
    within = record {
      wanted = record { leaves = refl; wants = λ i lt. subst (λ (k : ℕ). slice_index (octets ∷ []) k ≤ slice_index (65536 ∷ []) k) (sym (first i lt)) few };
      floors = λ i lt. subst (λ (k : ℕ). slice_index (map (floor_of (rates_with x f)) (ask ∷ [])) k ≤ slice_index (octets ∷ []) k) (sym (first i lt)) (subst (λ (k : ℕ). k ≤ octets) (sym floor_is) floor);
      limits = λ k most b at is. limits (name k) most b at is;
    }

    most_one : (h : List ℕ) → length h ≡ 1 → sum_over (bears_at (rates_with x f) Server (ask ∷ [])) h ≤ octets → All (λ (k : ℕ). k ≤ octets) h
    most_one [] e sum k d lt = absurd (omega (arith, e))
    most_one (y ∷ []) e sum k d lt = subst (λ (j : ℕ). get_or (y ∷ []) j d ≤ octets) (sym (first k lt)) (plain y octets sum)
      where
        plain : (y o : ℕ) → 0 + y ≤ o → y ≤ o
        plain y o h = omega (arith, h)
    most_one (y ∷ z ∷ h) e sum k d lt = absurd (omega (arith, e))

    pub best : IsBest tree (octets ∷ [])
    best = record {
      within = within;
      greatest = λ h sorted_g sorted_h is g_sorted h_sorted greater.
          let all_h : All (λ (k : ℕ). k ≤ octets) sorted_h = All-permutation (λ (k : ℕ). k ≤ octets) h sorted_h h_sorted.0 (most_one h is.wanted.leaves (is.limits zero octets _ refl limit)) in
          let all_g : All (λ (k : ℕ). octets ≤ k) sorted_g = All-permutation (λ (k : ℕ). octets ≤ k) (octets ∷ []) sorted_g g_sorted.0 (λ k d lt. subst (λ (j : ℕ). octets ≤ get_or (octets ∷ []) j d) (sym (first k lt)) (same octets)) in
          never _ _ (all_g greater.place 0 greater.within) (all_h greater.place 0 (long _ _ _ greater.lengths greater.within)) greater.larger;
    }
      where
        same : (a : ℕ) → a ≤ a
        same a = omega arith

        long : (p a b : ℕ) → b ≡ a → p < a → p < b
        long p a b e h = omega (arith, e, h)

        never : (a b : ℕ) → octets ≤ a → b ≤ octets → a < b → ⊥
        never a b h k l = omega (arith, h, k, l)
