-- Without groups and floors the tree of a tick is the plain one.
use Rattle.std.proofs.Common.{◌≡◌, ℕ, ◌/◌, Bool, true, false, ◌||◌, ◌&&◌, List, [], ◌∷◌, map, sym, refl, ap, ◌∙◌, subst, arith, Option, Some, None}
use Rattle.std.specs.FinMap as finite
use Rattle.std.specs.List.{list_any}
use Rattle.std.specs.Option.{option_map, option_and_then}
use Rattle.std.specs.Prelude.{slice_get}
use Rattle.std.proofs.Math.Nat.{min-le_right}
use Rattle.limit_tree.specs.Sharing.{Branch, LimitTree}
use Rattle.line_rates.specs.declared.ask.Way.{Way}
use Rattle.line_rates.specs.declared.ask.Ask.{Ask}
use Rattle.line_rates.specs.declared.ask.Name.{Name}
use Rattle.line_rates.specs.declared.ask.Name.TheVariants.{Server, Direction, Group, User, Session}
use Rattle.line_rates.specs.Names.{same_way, is_number, bears, floor_of}
use Rattle.line_rates.specs.Plain.{PlainName, bears_plain, bears_plain_in, is_plain_name, is_plain_server, ArePlainNamed, IsPlainTickTree, IsPlainRates, zero_of}
use Rattle.line_rates.specs.Plain.PlainName.{PlainServer, PlainWay, PlainUser, PlainSession}
use Rattle.line_rates.specs.Rates.{Rates, floor_rate}
use Rattle.line_rates.specs.TickTree.{bears_in, is_server, is_name, AreNamed, IsTickTree}
use Rattle.line_rates.proofs.WholeLemmas.{any_same}

abbrev full : PlainName → Name
full PlainServer = Server
full (PlainWay w) = Direction w
full (PlainUser w u) = User w u
full (PlainSession w u s) = Session w u s

abbrev plain_of : Name → Option PlainName
plain_of Server = Some PlainServer
plain_of (Direction w) = Some (PlainWay w)
plain_of (Group w g) = None
plain_of (User w u) = Some (PlainUser w u)
plain_of (Session w u s) = Some (PlainSession w u s)

some_is : {X : Type 0} (x y : X) → Some x ≡ Some y → x ≡ y
some_is x y e = cc

plain_full : (n : PlainName) → plain_of (full n) ≡ Some n
plain_full PlainServer = refl
plain_full (PlainWay w) = refl
plain_full (PlainUser w u) = refl
plain_full (PlainSession w u s) = refl

full_plain : (m : Name) (n : PlainName) → plain_of m ≡ Some n → m ≡ full n
full_plain Server n e = ap full (some_is PlainServer n e)
full_plain (Direction w) n e = ap full (some_is (PlainWay w) n e)
full_plain (Group w g) n e = absurd (cc)
full_plain (User w u) n e = ap full (some_is (PlainUser w u) n e)
full_plain (Session w u s) n e = ap full (some_is (PlainSession w u s) n e)

full_in : (o : Option Name) (n : PlainName) → option_and_then plain_of o ≡ Some n → o ≡ Some (full n)
full_in None n e = absurd (cc)
full_in (Some m) n e = ap (λ x. Some x) (full_plain m n e)

plain_in : (o : Option PlainName) → option_and_then plain_of (option_map full o) ≡ o
plain_in None = refl
plain_in (Some n) = plain_full n

same_map : (f g : Ask → ℕ) → ((a : Ask) → f a ≡ g a) → (asks : List Ask) → map f asks ≡ map g asks
same_map f g h [] = refl
same_map f g h (a ∷ asks) = ap (λ (x : ℕ). x ∷ map f asks) (h a) ∙ ap (λ xs. g a ∷ xs) (same_map f g h asks)

module _ (r : Rates) (tick : ℕ) (asks : List Ask) (plain : IsPlainRates r) where
  same_ask : (n : PlainName) (a : Ask) → bears r (full n) a ≡ bears_plain n a
  same_ask PlainServer a = refl
  same_ask (PlainWay w) a = refl
  same_ask (PlainUser w u) a = refl
  same_ask (PlainSession w u s) a = refl

  same_in : (n : PlainName) (o : Option Ask) → bears_in r (full n) o ≡ bears_plain_in n o
  same_in n None = refl
  same_in n (Some a) = same_ask n a

  same_server : (n : PlainName) → is_server (full n) ≡ is_plain_server n
  same_server PlainServer = refl
  same_server (PlainWay w) = refl
  same_server (PlainUser w u) = refl
  same_server (PlainSession w u s) = refl

  same_name : (n : PlainName) → is_name r asks (full n) ≡ is_plain_name asks n
  same_name n = ap (λ (b : Bool). b || list_any (bears r (full n)) asks) (same_server n) ∙ ap (λ (b : Bool). is_plain_server n || b) (any_same (bears r (full n)) (bears_plain n) (same_ask n) asks)

  -- no ask bears the name of a group
  no_group : (w : Way) (g : ℕ) (a : Ask) → bears r (Group w g) a ≡ false
  no_group w g a = ap (λ o. same_way a.way w && is_number o g) (plain.groups a.user) ∙ never (same_way a.way w)
    where
      never : (b : Bool) → (b && false) ≡ false
      never true = refl
      never false = refl

  nobody : (p : Ask → Bool) → ((a : Ask) → p a ≡ false) → (xs : List Ask) → list_any p xs ≡ false
  nobody p h [] = refl
  nobody p h (a ∷ xs) = ap (λ (b : Bool). b || list_any p xs) (h a) ∙ nobody p h xs

  no_group_name : (w : Way) (g : ℕ) → is_name r asks (Group w g) ≡ true → ⊥
  no_group_name w g e = let none = nobody (bears r (Group w g)) (no_group w g) asks in absurd (cc)

  no_floor : (a : Ask) → floor_of r a ≡ zero_of a
  no_floor a =
      let none : floor_rate (finite.get r.users a.user) a.way ≡ 0 = plain.floors a.user a.way in
      let le = min-le_right a.want (floor_rate (finite.get r.users a.user) a.way / 10) in
      omega arith

  pub plain_tree : (t : LimitTree) → IsTickTree r tick asks t → IsPlainTickTree r tick asks t × (t.floors ≡ map zero_of asks)
  plain_tree t tree = (
    record {
      wants = tree.wants;
      name = λ k. option_and_then plain_of (tree.name k);
      named = λ k. named k (tree.name k) refl (t.branch k) (tree.named k);
      no_other = λ k n e. sym (same_name n) ∙ tree.no_other k (full n) (full_in (tree.name k) n e);
      each_name = λ n h. let x = tree.each_name (full n) (same_name n ∙ h) in (x.0, ap (option_and_then plain_of) x.1 ∙ plain_full n);
      once = λ j k n e f. tree.once j k (full n) (full_in (tree.name j) n e) (full_in (tree.name k) n f);
    },
    tree.floors ∙ same_map (floor_of r) zero_of no_floor asks,
  )
    where
      of_plain : (n : PlainName) (b : Option Branch) → AreNamed r tick asks (Some (full n)) b → ArePlainNamed r tick asks (Some n) b
      of_plain n None h = absurd h
      of_plain PlainServer (Some b) h = record { limit = h.limit; holds = λ i. h.holds i ∙ same_in PlainServer (slice_get asks i) }
      of_plain (PlainWay w) (Some b) h = record { limit = h.limit; holds = λ i. h.holds i ∙ same_in (PlainWay w) (slice_get asks i) }
      of_plain (PlainUser w u) (Some b) h = record { limit = h.limit; holds = λ i. h.holds i ∙ same_in (PlainUser w u) (slice_get asks i) }
      of_plain (PlainSession w u s) (Some b) h = record { limit = h.limit; holds = λ i. h.holds i ∙ same_in (PlainSession w u s) (slice_get asks i) }

      named : (k : ℕ) (o : Option Name) → tree.name k ≡ o → (b : Option Branch) → AreNamed r tick asks o b → ArePlainNamed r tick asks (option_and_then plain_of o) b
      named k None e None h = tt
      named k None e (Some b) h = absurd h
      named k (Some Server) e b h = of_plain PlainServer b h
      named k (Some (Direction w)) e b h = of_plain (PlainWay w) b h
      named k (Some (Group w g)) e b h = absurd (no_group_name w g (tree.no_other k (Group w g) e))
      named k (Some (User w u)) e b h = of_plain (PlainUser w u) b h
      named k (Some (Session w u s)) e b h = of_plain (PlainSession w u s) b h

  pub full_tree : (t : LimitTree) → IsPlainTickTree r tick asks t × (t.floors ≡ map zero_of asks) → IsTickTree r tick asks t
  full_tree t both = record {
    wants = both.0.wants;
    floors = both.1 ∙ sym (same_map (floor_of r) zero_of no_floor asks);
    name = λ k. option_map full (both.0.name k);
    named = λ k. named (both.0.name k) (t.branch k) (both.0.named k);
    no_other = λ k m e. no_other k m (both.0.name k) refl e;
    each_name = each;
    once = λ j k m e f. once j k m (both.0.name j) refl e f;
  }
    where
      of_plain : (n : PlainName) (b : Option Branch) → ArePlainNamed r tick asks (Some n) b → AreNamed r tick asks (Some (full n)) b
      of_plain n None h = absurd h
      of_plain PlainServer (Some b) h = record { limit = h.limit; holds = λ i. h.holds i ∙ sym (same_in PlainServer (slice_get asks i)) }
      of_plain (PlainWay w) (Some b) h = record { limit = h.limit; holds = λ i. h.holds i ∙ sym (same_in (PlainWay w) (slice_get asks i)) }
      of_plain (PlainUser w u) (Some b) h = record { limit = h.limit; holds = λ i. h.holds i ∙ sym (same_in (PlainUser w u) (slice_get asks i)) }
      of_plain (PlainSession w u s) (Some b) h = record { limit = h.limit; holds = λ i. h.holds i ∙ sym (same_in (PlainSession w u s) (slice_get asks i)) }

      named : (o : Option PlainName) (b : Option Branch) → ArePlainNamed r tick asks o b → AreNamed r tick asks (option_map full o) b
      named None None h = tt
      named None (Some b) h = absurd h
      named (Some n) b h = of_plain n b h

      no_other : (k : ℕ) (m : Name) (o : Option PlainName) → both.0.name k ≡ o → option_map full o ≡ Some m → is_name r asks m ≡ true
      no_other k m None e f = absurd (cc)
      no_other k m (Some n) e f = subst (λ x. is_name r asks x ≡ true) (some_is (full n) m f) (same_name n ∙ both.0.no_other k n e)

      of_name : (n : PlainName) → is_name r asks (full n) ≡ true → (k : ℕ) × (option_map full (both.0.name k) ≡ Some (full n))
      of_name n h = let x = both.0.each_name n (sym (same_name n) ∙ h) in (x.0, ap (option_map full) x.1)

      each : (m : Name) → is_name r asks m ≡ true → (k : ℕ) × (option_map full (both.0.name k) ≡ Some m)
      each Server h = of_name PlainServer h
      each (Direction w) h = of_name (PlainWay w) h
      each (Group w g) h = absurd (no_group_name w g h)
      each (User w u) h = of_name (PlainUser w u) h
      each (Session w u s) h = of_name (PlainSession w u s) h

      once : (j k : ℕ) (m : Name) (o : Option PlainName) → both.0.name j ≡ o → option_map full (both.0.name j) ≡ Some m → option_map full (both.0.name k) ≡ Some m → j ≡ k
      once j k m None at e f = let none : option_map full (both.0.name j) ≡ None = ap (option_map full) at in absurd (cc)
      once j k m (Some n) at e f =
          let same : both.0.name k ≡ both.0.name j = sym (plain_in (both.0.name k)) ∙ ap (option_and_then plain_of) (f ∙ sym e) ∙ plain_in (both.0.name j) in
          both.0.once j k n at (same ∙ at)
