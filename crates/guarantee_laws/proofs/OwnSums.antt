-- What the grants of a round take from the credit of a user's sessions is the most that it grants to one of them.
use Rattle.std.proofs.Common.{◌≡◌, ℕ, ◌+◌, ◌-◌, ◌≤◌, Bool, true, false, cond, List, [], ◌∷◌, ◌++◌, inl, inr, ◌⊎◌, sym, refl, ap, ◌∙◌, subst, arith}
use Rattle.std.specs.Prelude.{nat_eq, min, max, ◌&&◌}
use Rattle.std.proofs.lemmas.Bool.{eqb-true, eq-eqb}
use Rattle.std.proofs.lemmas.List.Sums.{sum_by-cons, sum_by-append}
use Rattle.line_rates.specs.declared.ask.Way.{Way}
use Rattle.line_rates.specs.declared.ask.Way.TheVariants.{Down, Up}
use Rattle.line_rates.specs.Granted.{Granted}
use Rattle.line_rates.specs.Names.{same_way}
use Rattle.round_pace.specs.OwnParts.{session_octets, most_to, own_part}

pub way_is : (v w : Way) → same_way v w ≡ true → v ≡ w
way_is Down Down e = refl
way_is Up Up e = refl
way_is Down Up e = absurd (cc)
way_is Up Down e = absurd (cc)

pub both_true : (a b : Bool) → (a && b) ≡ true → (a ≡ true) × (b ≡ true)
both_true true true e = (refl, refl)
both_true true false e = absurd (cc)
both_true false b e = absurd (cc)

max-first : (a b c : ℕ) → a ≤ b → a ≤ max b c
max-first a b c h = omega (arith, h)

module _ (w : Way) (u : ℕ) where
  -- a grant to a session of the user
  abbrev matches : Granted → Bool
  matches g = same_way g.ask.way w && nat_eq g.ask.user u

  abbrev one : ℕ → Granted → ℕ
  one k g = cond (same_way g.ask.way w && (nat_eq g.ask.user u && nat_eq g.ask.session k)) g.octets 0

  -- one grant more
  module _ (before : List Granted) (g : Granted) where
    session_more : (k : ℕ) → session_octets w u k (before ++ g ∷ []) ≡ session_octets w u k before + one k g
    session_more k =
        sum_by-append (one k) before (g ∷ [])
        ∙ last (session_octets w u k before) (session_octets w u k (g ∷ [])) (one k g) (sum_by-cons (one k) g [])
      where
        last : (a b c : ℕ) → b ≡ c + 0 → a + b ≡ a + c
        last a b c e = omega (arith, e)

    abbrev whole : ℕ
    whole = session_octets w u g.ask.session before + g.octets

    upper : (k : ℕ) → session_octets w u k (before ++ g ∷ []) ≤ max (session_octets w u k before) (cond (matches g) whole 0)
    upper k = subst (λ (x : ℕ). x ≤ max (session_octets w u k before) (cond (matches g) whole 0)) (sym (session_more k)) (go (same_way g.ask.way w) (nat_eq g.ask.user u) (nat_eq g.ask.session k) refl)
      where
        none : (a c : ℕ) → a + 0 ≤ max a c
        none a c = omega arith

        some : (a b o : ℕ) → a ≡ b → a + o ≤ max a (b + o)
        some a b o e = omega (arith, e)

        go : (a b c : Bool) → nat_eq g.ask.session k ≡ c → session_octets w u k before + cond (a && (b && c)) g.octets 0 ≤ max (session_octets w u k before) (cond (a && b) whole 0)
        go true true true e = some (session_octets w u k before) (session_octets w u g.ask.session before) g.octets (λ i. session_octets w u (sym (eqb-true g.ask.session k e) i) before)
        go true true false e = none (session_octets w u k before) whole
        go true false c e = none (session_octets w u k before) 0
        go false b c e = none (session_octets w u k before) 0

    lower : (k : ℕ) → session_octets w u k before ≤ session_octets w u k (before ++ g ∷ [])
    lower k = plain (session_octets w u k (before ++ g ∷ [])) (session_octets w u k before) (one k g) (session_more k)
      where
        plain : (x a o : ℕ) → x ≡ a + o → a ≤ x
        plain x a o e = omega (arith, e)

    most_upper : (gs : List Granted) → most_to w u (before ++ g ∷ []) gs ≤ max (most_to w u before gs) (cond (matches g) whole 0)
    most_upper [] = omega arith
    most_upper (x ∷ gs) = go (matches x) (upper x.ask.session) (most_upper gs)
      where
        plain : (a b c m n : ℕ) → a ≤ max b c → m ≤ max n c → max a m ≤ max (max b n) c
        plain a b c m n h k = omega (arith, h, k)

        go : (b : Bool) → session_octets w u x.ask.session (before ++ g ∷ []) ≤ max (session_octets w u x.ask.session before) (cond (matches g) whole 0)
            → most_to w u (before ++ g ∷ []) gs ≤ max (most_to w u before gs) (cond (matches g) whole 0)
            → max (cond b (session_octets w u x.ask.session (before ++ g ∷ [])) 0) (most_to w u (before ++ g ∷ []) gs)
            ≤ max (max (cond b (session_octets w u x.ask.session before) 0) (most_to w u before gs)) (cond (matches g) whole 0)
        go true h k = plain (session_octets w u x.ask.session (before ++ g ∷ [])) (session_octets w u x.ask.session before) (cond (matches g) whole 0) (most_to w u (before ++ g ∷ []) gs) (most_to w u before gs) h k
        go false h k = plain 0 0 (cond (matches g) whole 0) (most_to w u (before ++ g ∷ []) gs) (most_to w u before gs) (omega arith) k

    most_lower : (gs : List Granted) → most_to w u before gs ≤ most_to w u (before ++ g ∷ []) gs
    most_lower [] = omega arith
    most_lower (x ∷ gs) = go (matches x) (lower x.ask.session) (most_lower gs)
      where
        plain : (a b m n : ℕ) → a ≤ b → m ≤ n → max a m ≤ max b n
        plain a b m n h k = omega (arith, h, k)

        go : (b : Bool) → session_octets w u x.ask.session before ≤ session_octets w u x.ask.session (before ++ g ∷ []) → most_to w u before gs ≤ most_to w u (before ++ g ∷ []) gs
            → max (cond b (session_octets w u x.ask.session before) 0) (most_to w u before gs) ≤ max (cond b (session_octets w u x.ask.session (before ++ g ∷ [])) 0) (most_to w u (before ++ g ∷ []) gs)
        go true h k = plain (session_octets w u x.ask.session before) (session_octets w u x.ask.session (before ++ g ∷ [])) (most_to w u before gs) (most_to w u (before ++ g ∷ []) gs) h k
        go false h k = plain 0 0 (most_to w u before gs) (most_to w u (before ++ g ∷ []) gs) (omega arith) k

  most_append : (all gs : List Granted) (g : Granted) → most_to w u all (gs ++ g ∷ []) ≡ max (most_to w u all gs) (cond (matches g) (session_octets w u g.ask.session all) 0)
  most_append all [] g = plain (cond (matches g) (session_octets w u g.ask.session all) 0)
    where
      plain : (a : ℕ) → max a 0 ≡ max 0 a
      plain a = omega arith
  most_append all (x ∷ gs) g =
      ap (max (cond (matches x) (session_octets w u x.ask.session all) 0)) (most_append all gs g)
      ∙ plain (cond (matches x) (session_octets w u x.ask.session all) 0) (most_to w u all gs) (cond (matches g) (session_octets w u g.ask.session all) 0)
    where
      plain : (a b c : ℕ) → max a (max b c) ≡ max (max a b) c
      plain a b c = omega arith

  -- a session has nothing, or the most is at least as much
  session_within : (k : ℕ) (all gs : List Granted) → (session_octets w u k gs ≡ 0) ⊎ (session_octets w u k all ≤ most_to w u all gs)
  session_within k all [] = inl refl
  session_within k all (g ∷ gs) = go (same_way g.ask.way w) (nat_eq g.ask.user u) (nat_eq g.ask.session k) refl (session_within k all gs) (sum_by-cons (one k) g gs)
    where
      less : (a b c : ℕ) → a ≤ c → a ≤ max b c
      less a b c h = omega (arith, h)

      equal : (a b c : ℕ) → a ≡ b → a ≤ max b c
      equal a b c e = omega (arith, e)

      nothing : (x y : ℕ) → x ≡ 0 + y → y ≡ 0 → x ≡ 0
      nothing x y e h = omega (arith, e, h)

      rest : (b : Bool) → (session_octets w u k gs ≡ 0) ⊎ (session_octets w u k all ≤ most_to w u all gs) → session_octets w u k (g ∷ gs) ≡ 0 + session_octets w u k gs
          → (session_octets w u k (g ∷ gs) ≡ 0) ⊎ (session_octets w u k all ≤ max (cond b (session_octets w u g.ask.session all) 0) (most_to w u all gs))
      rest b (inl none) sum = inl (nothing (session_octets w u k (g ∷ gs)) (session_octets w u k gs) sum none)
      rest b (inr some) sum = inr (less (session_octets w u k all) (cond b (session_octets w u g.ask.session all) 0) (most_to w u all gs) some)

      go : (a b c : Bool) → nat_eq g.ask.session k ≡ c → (session_octets w u k gs ≡ 0) ⊎ (session_octets w u k all ≤ most_to w u all gs) → session_octets w u k (g ∷ gs) ≡ cond (a && (b && c)) g.octets 0 + session_octets w u k gs
          → (session_octets w u k (g ∷ gs) ≡ 0) ⊎ (session_octets w u k all ≤ max (cond (a && b) (session_octets w u g.ask.session all) 0) (most_to w u all gs))
      go true true true e more sum = inr (equal (session_octets w u k all) (session_octets w u g.ask.session all) (most_to w u all gs) (λ i. session_octets w u (sym (eqb-true g.ask.session k e) i) all))
      go true true false e more sum = rest true more sum
      go true false c e more sum = rest false more sum
      go false b c e more sum = rest false more sum

  pub session_most : (k : ℕ) (all : List Granted) → session_octets w u k all ≤ most_to w u all all
  session_most k all = go (session_within k all all)
    where
      none : (x m : ℕ) → x ≡ 0 → x ≤ m
      none x m e = omega (arith, e)

      go : (session_octets w u k all ≡ 0) ⊎ (session_octets w u k all ≤ most_to w u all all) → session_octets w u k all ≤ most_to w u all all
      go (inl nothing) = none (session_octets w u k all) (most_to w u all all) nothing
      go (inr some) = some

  -- what a grant takes from each session is by how much the most grows
  pub most_more : (before : List Granted) (g : Granted) → most_to w u (before ++ g ∷ []) (before ++ g ∷ []) ≡ most_to w u before before + cond (matches g) (own_part before g) 0
  most_more before g = go (matches g) refl (most_append (before ++ g ∷ []) before g) (most_upper before g before) (most_lower before g before) (session_more before g g.ask.session)
    where
      all : List Granted
      all = before ++ g ∷ []

      same_own : matches g ≡ true → own_part before g ≡ min g.octets (session_octets w u g.ask.session before + g.octets - most_to w u before before)
      same_own hit =
          let both = both_true (same_way g.ask.way w) (nat_eq g.ask.user u) hit in
          let v : g.ask.way ≡ w = way_is g.ask.way w both.0 in
          let q : g.ask.user ≡ u = eqb-true g.ask.user u both.1 in
          λ i. min g.octets (session_octets (v i) (q i) g.ask.session before + g.octets - most_to (v i) (q i) before before)

      -- a: the session with its grant, s: before, m: the most before, n: the most of the sessions before
      some : (r a s m n o w : ℕ) → r ≡ max n a → n ≤ max m (s + o) → m ≤ n → a ≡ s + o → s ≤ m → w ≡ min o (s + o - m) → r ≡ m + w
      some r a s m n o w e h k b c d = omega (arith, e, h, k, b, c, d)

      none : (r m n : ℕ) → r ≡ max n 0 → n ≤ max m 0 → m ≤ n → r ≡ m + 0
      none r m n e h k = omega (arith, e, h, k)

      yes_one : matches g ≡ true → one g.ask.session g ≡ g.octets
      yes_one hit = let both = both_true (same_way g.ask.way w) (nat_eq g.ask.user u) hit in three (same_way g.ask.way w) (nat_eq g.ask.user u) (nat_eq g.ask.session g.ask.session) both.0 both.1 (same g.ask.session)
        where
          three : (a b c : Bool) → a ≡ true → b ≡ true → c ≡ true → cond (a && (b && c)) g.octets 0 ≡ g.octets
          three true true true x y z = refl
          three true true false x y z = absurd (cc)
          three true false c x y z = absurd (cc)
          three false b c x y z = absurd (cc)

          same : (n : ℕ) → nat_eq n n ≡ true
          same n = eq-eqb n n refl

      go : (b : Bool) → matches g ≡ b
          → most_to w u (before ++ g ∷ []) (before ++ g ∷ []) ≡ max (most_to w u (before ++ g ∷ []) before) (cond b (session_octets w u g.ask.session (before ++ g ∷ [])) 0)
          → most_to w u (before ++ g ∷ []) before ≤ max (most_to w u before before) (cond b (session_octets w u g.ask.session before + g.octets) 0)
          → most_to w u before before ≤ most_to w u (before ++ g ∷ []) before
          → session_octets w u g.ask.session (before ++ g ∷ []) ≡ session_octets w u g.ask.session before + one g.ask.session g
          → most_to w u (before ++ g ∷ []) (before ++ g ∷ []) ≡ most_to w u before before + cond b (own_part before g) 0
      go true hit is up low more =
          some (most_to w u (before ++ g ∷ []) (before ++ g ∷ [])) (session_octets w u g.ask.session (before ++ g ∷ [])) (session_octets w u g.ask.session before) (most_to w u before before)
          (most_to w u (before ++ g ∷ []) before) g.octets (own_part before g) is up low (more ∙ ap (λ (x : ℕ). session_octets w u g.ask.session before + x) (yes_one hit)) (session_most g.ask.session before) (same_own hit)
      go false miss is up low more = none (most_to w u (before ++ g ∷ []) (before ++ g ∷ [])) (most_to w u before before) (most_to w u (before ++ g ∷ []) before) is up low

  -- no session was granted more than each was
  most_within : (all gs : List Granted) (t : ℕ) → ((k : ℕ) → session_octets w u k all ≤ t) → most_to w u all gs ≤ t
  most_within all [] t h = omega arith
  most_within all (g ∷ gs) t h = go (matches g) (h g.ask.session) (most_within all gs t h)
    where
      plain : (a b t : ℕ) → a ≤ t → b ≤ t → max a b ≤ t
      plain a b t h k = omega (arith, h, k)

      go : (b : Bool) → session_octets w u g.ask.session all ≤ t → most_to w u all gs ≤ t → max (cond b (session_octets w u g.ask.session all) 0) (most_to w u all gs) ≤ t
      go true h k = plain (session_octets w u g.ask.session all) (most_to w u all gs) t h k
      go false h k = plain 0 (most_to w u all gs) t (omega arith) k

  pub most_is : (k : ℕ) (all : List Granted) → ((j : ℕ) → session_octets w u j all ≤ session_octets w u k all) → most_to w u all all ≡ session_octets w u k all
  most_is k all h = plain (most_to w u all all) (session_octets w u k all) (most_within all all (session_octets w u k all) h) (session_most k all)
    where
      plain : (a b : ℕ) → a ≤ b → b ≤ a → a ≡ b
      plain a b h k = omega (arith, h, k)
