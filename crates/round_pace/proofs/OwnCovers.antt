-- What the grants of a round take from the credit of a name covers what is granted under it.
use Rattle.std.proofs.Common.{◌≡◌, ℕ, ◌+◌, ◌-◌, ◌≤◌, Bool, true, false, cond, List, [], ◌∷◌, ◌++◌, sym, refl, ◌∙◌, subst, arith}
use Rattle.std.specs.Prelude.{nat_eq, min, max, ◌&&◌}
use Rattle.std.proofs.lemmas.Bool.{eqb-true}
use Rattle.std.proofs.lemmas.List.Sums.{sum_by-cons, sum_by-append}
use Rattle.line_rates.specs.declared.ask.Way.{Way}
use Rattle.line_rates.specs.declared.ask.Way.TheVariants.{Down, Up}
use Rattle.line_rates.specs.declared.ask.Name.{Name}
use Rattle.line_rates.specs.declared.ask.Name.TheVariants.{Server, Direction, Group, User, Session}
use Rattle.line_rates.specs.Granted.{Granted, granted_under}
use Rattle.line_rates.specs.Names.{same_way, bears}
use Rattle.line_rates.specs.Rates.{Rates}
use Rattle.round_pace.specs.OwnParts.{session_octets, most_to, own_part}
use Rattle.round_pace.proofs.Credited.{charged, amount}

-- the same name, of another session of its user if it is a session's
abbrev pub of_session : Name → ℕ → Name
of_session Server s = Server
of_session (Direction w) s = Direction w
of_session (Group w g) s = Group w g
of_session (User w u) s = User w u
of_session (Session w u t) s = Session w u s

-- the grants under a name, and those under each session of its user, are within what was taken
abbrev pub Covers : Rates → Name → List Granted → ℕ → Type 0
Covers rates n before taken = (s : ℕ) → granted_under rates (of_session n s) before ≤ taken

pub covers_none : (rates : Rates) (n : Name) → Covers rates n [] 0
covers_none rates n s = omega arith

pub covers_own : (rates : Rates) (n : Name) (before : List Granted) (taken : ℕ) → Covers rates n before taken → granted_under rates n before ≤ taken
covers_own rates Server before taken covers = covers 0
covers_own rates (Direction w) before taken covers = covers 0
covers_own rates (Group w g) before taken covers = covers 0
covers_own rates (User w u) before taken covers = covers 0
covers_own rates (Session w u s) before taken covers = covers s

way_is : (v w : Way) → same_way v w ≡ true → v ≡ w
way_is Down Down e = refl
way_is Up Up e = refl
way_is Down Up e = absurd (cc)
way_is Up Down e = absurd (cc)

-- no session of a user was granted more than each was
most_within : (w : Way) (u taken : ℕ) (all gs : List Granted) → ((s : ℕ) → session_octets w u s all ≤ taken) → most_to w u all gs ≤ taken
most_within w u taken all [] h = omega arith
most_within w u taken all (g ∷ gs) h = both (same_way g.ask.way w && nat_eq g.ask.user u) (most_within w u taken all gs h)
  where
    plain : (x m t : ℕ) → x ≤ t → m ≤ t → max x m ≤ t
    plain x m t a b = omega (arith, a, b)

    none : (m t : ℕ) → m ≤ t → max 0 m ≤ t
    none m t a = omega (arith, a)

    both : (b : Bool) → most_to w u all gs ≤ taken → max (cond b (session_octets w u g.ask.session all) 0) (most_to w u all gs) ≤ taken
    both true rest = plain (session_octets w u g.ask.session all) (most_to w u all gs) taken (h g.ask.session) rest
    both false rest = none (most_to w u all gs) taken rest

-- one grant more under a name
one_more : (rates : Rates) (n : Name) (before : List Granted) (g : Granted) → granted_under rates n (before ++ g ∷ []) ≡ granted_under rates n before + cond (bears rates n g.ask) g.octets 0
one_more rates n before g =
    sum_by-append (λ (x : Granted). cond (bears rates n x.ask) x.octets 0) before (g ∷ [])
    ∙ last (granted_under rates n before) (granted_under rates n (g ∷ [])) (cond (bears rates n g.ask) g.octets 0) (sum_by-cons (λ (x : Granted). cond (bears rates n x.ask) x.octets 0) g [])
  where
    last : (a b c : ℕ) → b ≡ c + 0 → a + b ≡ a + c
    last a b c e = omega (arith, e)

module _ (rates : Rates) (before : List Granted) (g : Granted) (taken : ℕ) where
  -- a name whose grants are taken whole
  whole : (n : Name) (b : Bool) → granted_under rates n before ≤ taken → granted_under rates n (before ++ g ∷ []) ≡ granted_under rates n before + cond b g.octets 0 → granted_under rates n (before ++ g ∷ []) ≤ taken + cond b g.octets 0
  whole n b less is = plain (granted_under rates n (before ++ g ∷ [])) (granted_under rates n before) taken (cond b g.octets 0) is less
    where
      plain : (x y t a : ℕ) → x ≡ y + a → y ≤ t → x ≤ t + a
      plain x y t a e f = omega (arith, e, f)

  -- a session's
  own_covers : (w : Way) (u s : ℕ) → Covers rates (Session w u 0) before taken → same_way g.ask.way w ≡ true → nat_eq g.ask.user u ≡ true → granted_under rates (Session w u s) before + cond (nat_eq g.ask.session s) g.octets 0 ≤ taken + own_part before g
  own_covers w u s covers way user =
      let v : g.ask.way ≡ w = way_is g.ask.way w way in
      let q : g.ask.user ≡ u = eqb-true g.ask.user u user in
      let covered : (t : ℕ) → session_octets g.ask.way g.ask.user t before ≤ taken = λ t. subst (λ (z : Way × ℕ). session_octets z.0 z.1 t before ≤ taken) (λ i. (sym v i, sym q i)) (covers t) in
      let most : most_to g.ask.way g.ask.user before before ≤ taken = most_within g.ask.way g.ask.user taken before before covered in
      go (nat_eq g.ask.session s) refl v q covered most
    where
      plain : (x t k m o : ℕ) → x ≤ t → k ≤ t → m ≤ t → x ≡ k → x + o ≤ t + min o (k + o - m)
      plain x t k m o a b c e = omega (arith, a, b, c, e)

      rest : (x t p : ℕ) → x ≤ t → x + 0 ≤ t + p
      rest x t p a = omega (arith, a)

      go : (b : Bool) → nat_eq g.ask.session s ≡ b → g.ask.way ≡ w → g.ask.user ≡ u → ((t : ℕ) → session_octets g.ask.way g.ask.user t before ≤ taken) → most_to g.ask.way g.ask.user before before ≤ taken
          → granted_under rates (Session w u s) before + cond b g.octets 0 ≤ taken + own_part before g
      go true same v q covered most =
          plain (granted_under rates (Session w u s) before) taken (session_octets g.ask.way g.ask.user g.ask.session before) (most_to g.ask.way g.ask.user before before) g.octets
          (covers s) (covered g.ask.session) most
          (λ i. session_octets (sym v i) (sym q i) (sym (eqb-true g.ask.session s same) i) before)
      go false same v q covered most = rest (granted_under rates (Session w u s) before) taken (own_part before g) (covers s)

  session_more : (w : Way) (u s : ℕ) (a b : Bool) → same_way g.ask.way w ≡ a → nat_eq g.ask.user u ≡ b → Covers rates (Session w u 0) before taken
      → granted_under rates (Session w u s) before + cond (a && (b && nat_eq g.ask.session s)) g.octets 0 ≤ taken + cond (a && b) (own_part before g) 0
  session_more w u s true true way user covers = own_covers w u s covers way user
  session_more w u s true false way user covers = none (granted_under rates (Session w u s) before) taken (covers s)
    where
      none : (x t : ℕ) → x ≤ t → x + 0 ≤ t + 0
      none x t a = omega (arith, a)
  session_more w u s false b way user covers = none (granted_under rates (Session w u s) before) taken (covers s)
    where
      none : (x t : ℕ) → x ≤ t → x + 0 ≤ t + 0
      none x t a = omega (arith, a)

pub covers_more : (rates : Rates) (n : Name) (before : List Granted) (g : Granted) (taken : ℕ) → Covers rates n before taken → Covers rates n (before ++ g ∷ []) (taken + cond (bears rates (charged n) g.ask) (amount before g n) 0)
covers_more rates Server before g taken covers s = whole rates before g taken Server true (covers 0) (one_more rates Server before g)
covers_more rates (Direction w) before g taken covers s = whole rates before g taken (Direction w) (bears rates (Direction w) g.ask) (covers 0) (one_more rates (Direction w) before g)
covers_more rates (Group w k) before g taken covers s = whole rates before g taken (Group w k) (bears rates (Group w k) g.ask) (covers 0) (one_more rates (Group w k) before g)
covers_more rates (User w u) before g taken covers s = whole rates before g taken (User w u) (bears rates (User w u) g.ask) (covers 0) (one_more rates (User w u) before g)
covers_more rates (Session w u t) before g taken covers s =
    subst (λ (x : ℕ). x ≤ taken + cond (same_way g.ask.way w && nat_eq g.ask.user u) (own_part before g) 0) (sym (one_more rates (Session w u s) before g))
    (session_more rates before g taken w u s (same_way g.ask.way w) (nat_eq g.ask.user u) refl refl covers)
