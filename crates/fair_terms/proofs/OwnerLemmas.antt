-- The branches of the tree of a tick lie within users, around them, or apart from them.
use Rattle.std.proofs.Common.{◌≡◌, ℕ, zero, suc, ◌<◌, true, ◌&&◌, nat_eq, [], ◌∷◌, List, length, map, refl, sym, ap, subst, ◌∙◌, arith, inl, inr, Option, Some, None}
use Rattle.std.specs.Prelude.{IsTrue, nat_lt, slice_get, slice_index}
use Rattle.std.proofs.lemmas.Bool.{and_parts, and_from, cases_lt, cases_Bool, eqb-true, eq-eqb, ltb-true, lt-ltb, false≢true}
use Rattle.std.proofs.lemmas.Option.{slice_get_within}
use Rattle.limit_tree.specs.Sharing.{Branch, LimitTree, IsNested}
use Rattle.line_rates.specs.declared.ask.Way.{Way}
use Rattle.line_rates.specs.declared.ask.Way.TheVariants.{Down, Up}
use Rattle.line_rates.specs.declared.ask.Ask.{Ask}
use Rattle.line_rates.specs.declared.ask.Name.{Name}
use Rattle.line_rates.specs.declared.ask.Name.TheVariants.{Server, Direction, Group, User, Session}
use Rattle.line_rates.specs.Names.{same_way, is_number, bears, want_of}
use Rattle.line_rates.specs.Rates.{Rates, group_of}
use Rattle.line_rates.specs.TickTree.{bears_at, bears_in, IsNamed, AreNamed, IsTickTree}
use Rattle.grant_certificate.specs.Users.{leaves_of, HasUsers}
use Rattle.fair_terms.specs.Owners.{AreOwners}

same_way-is : (w v : Way) → same_way w v ≡ true → w ≡ v
same_way-is Down Down e = refl
same_way-is Up Up e = refl
same_way-is Down Up e = absurd (false≢true e)
same_way-is Up Down e = absurd (false≢true e)

same_way-refl : (w : Way) → same_way w w ≡ true
same_way-refl Down = refl
same_way-refl Up = refl

-- the ask of a leaf
pub ask_at : (asks : List Ask) (i : ℕ) → i < length asks → (a : Ask) × (slice_get asks i ≡ Some a)
ask_at [] i low = absurd (omega arith)
ask_at (a ∷ asks) zero low = (a, refl)
ask_at (a ∷ asks) (suc i) low = ask_at asks i (omega arith)

-- a leaf of a name has an ask that counts under it
bearer : (r : Rates) (n : Name) (asks : List Ask) (i : ℕ) → bears_at r n asks i ≡ true → (a : Ask) × (slice_get asks i ≡ Some a) × (bears r n a ≡ true)
bearer r n asks i held = go (slice_get asks i) refl held
  where
    go : (o : Option Ask) → slice_get asks i ≡ o → bears_in r n o ≡ true → (a : Ask) × (slice_get asks i ≡ Some a) × (bears r n a ≡ true)
    go None at e = absurd (false≢true e)
    go (Some a) at e = (a, at, e)

-- the name is that of a session of a user, or all asks of a way and user count under it alike
abbrev IsAlike : Rates → Name → Type 0
IsAlike r n = (a b : Ask) → a.way ≡ b.way → a.user ≡ b.user → bears r n a ≡ bears r n b

server_alike : (r : Rates) → IsAlike r Server
server_alike r a b w u = refl

direction_alike : (r : Rates) (v : Way) → IsAlike r (Direction v)
direction_alike r v a b w u = ap (λ (x : Way). same_way x v) w

group_alike : (r : Rates) (v : Way) (g : ℕ) → IsAlike r (Group v g)
group_alike r v g a b w u =
    ap (λ (x : Way). same_way x v && is_number (group_of r a.user) g) w ∙
    ap (λ (x : ℕ). same_way b.way v && is_number (group_of r x) g) u

user_alike : (r : Rates) (v : Way) (m : ℕ) → IsAlike r (User v m)
user_alike r v m a b w u =
    ap (λ (x : Way). same_way x v && nat_eq a.user m) w ∙
    ap (λ (x : ℕ). same_way b.way v && nat_eq x m) u

pub has_users : (r : Rates) (tick : ℕ) (asks : List Ask) (t : LimitTree) (users : ℕ) (owners : List ℕ) → IsTickTree r tick asks t → AreOwners asks users owners → HasUsers t users owners
has_users r tick asks t users owners tree own = record {
  each = own.each ∙ (sym (lengths asks) ∙ ap (λ (xs : List ℕ). length xs) (sym tree.wants));
  few = own.few;
  nested = λ k user b is.
      let x = named (tree.name k) b (subst (AreNamed r tick asks (tree.name k)) is (tree.named k)) in
      by_name user b x.0 x.1;
}
  where
    lengths : (xs : List Ask) → length (map want_of xs) ≡ length xs
    lengths [] = refl
    lengths (x ∷ xs) = ap suc (lengths xs)

    named : (o : Option Name) (b : Branch) → AreNamed r tick asks o (Some b) → (n : Name) × IsNamed r tick asks n b
    named None b h = absurd h
    named (Some n) b h = (n, h)

    inside : (user i : ℕ) → IsTrue (leaves_of owners user i) → i < length owners
    inside user i held = ltb-true i (length owners) (and_parts (nat_lt i (length owners)) (nat_eq (slice_index owners i) user) held).0

    owner : (user i : ℕ) → IsTrue (leaves_of owners user i) → slice_index owners i ≡ user
    owner user i held = eqb-true (slice_index owners i) user (and_parts (nat_lt i (length owners)) (nat_eq (slice_index owners i) user) held).1

    ask_of : (user i : ℕ) → IsTrue (leaves_of owners user i) → (a : Ask) × (slice_get asks i ≡ Some a)
    ask_of user i held = ask_at asks i (omega (arith, inside user i held, own.each))

    -- all or none of a user's leaves, by an ask of one of them
    alike : (user : ℕ) (b : Branch) (n : Name) → IsNamed r tick asks n b → IsAlike r n → (i : ℕ) → IsTrue (leaves_of owners user i) → IsNested b.holds (leaves_of owners user)
    alike user b n is same i held =
        let a = ask_of user i held in
        let one : (j : ℕ) → IsTrue (leaves_of owners user j) → b.holds j ≡ bears r n a.0 =
        λ j mine.
        let c = ask_of user j mine in
        let both = (own.same j i c.0 a.0 c.1 a.1).0 (owner user j mine ∙ sym (owner user i held)) in
        is.holds j ∙ (ap (bears_in r n) c.1 ∙ same c.0 a.0 both.0 both.1) in
        elim (cases_Bool (bears r n a.0)) [
          | inl counts ↦ inr (inl (λ j mine. one j mine ∙ counts))
          | inr not_counts ↦ inr (inr (λ j in_b mine. false≢true (sym not_counts ∙ (sym (one j mine) ∙ in_b))))
        ]

    -- a session's leaves are those of one user
    session : (user : ℕ) (b : Branch) (v : Way) (m s : ℕ) → IsNamed r tick asks (Session v m s) b → (i : ℕ) → IsTrue (leaves_of owners user i) → IsNested b.holds (leaves_of owners user)
    session user b v m s is i held =
        let a = ask_of user i held in
        let of_b : (j : ℕ) → IsTrue (b.holds j) → (c : Ask) × (slice_get asks j ≡ Some c) × (c.way ≡ v) × (c.user ≡ m) =
        λ j in_b.
        let c = bearer r (Session v m s) asks j (sym (is.holds j) ∙ in_b) in
        let two = and_parts (same_way c.0.way v) (nat_eq c.0.user m && nat_eq c.0.session s) c.2 in
        (c.0, c.1, same_way-is c.0.way v two.0, eqb-true c.0.user m (and_parts (nat_eq c.0.user m) (nat_eq c.0.session s) two.1).0) in
        elim (cases_Bool (same_way a.0.way v && nat_eq a.0.user m)) [
          | inl is_theirs ↦
              let two = and_parts (same_way a.0.way v) (nat_eq a.0.user m) is_theirs in
              let way : a.0.way ≡ v = same_way-is a.0.way v two.0 in
              let number : a.0.user ≡ m = eqb-true a.0.user m two.1 in
              inl (λ j in_b.
              let c = of_b j in_b in
              let same : slice_index owners j ≡ slice_index owners i = (own.same j i c.0 a.0 c.1 a.1).1 (c.2 ∙ sym way, c.3 ∙ sym number) in
              and_from (nat_lt j (length owners)) (nat_eq (slice_index owners j) user) (lt-ltb j (length owners) (omega (arith, own.each, slice_get_within asks j c.0 c.1))) (eq-eqb (slice_index owners j) user (same ∙ owner user i held)))
          | inr is_other ↦ inr (inr (λ j in_b mine.
              let c = of_b j in_b in
              let both = (own.same i j a.0 c.0 a.1 c.1).0 (owner user i held ∙ sym (owner user j mine)) in
              let way : same_way a.0.way v ≡ true = ap (λ (x : Way). same_way x v) (both.0 ∙ c.2) ∙ way_refl v in
              let number : nat_eq a.0.user m ≡ true = eq-eqb a.0.user m (both.1 ∙ c.3) in
              false≢true (sym is_other ∙ and_from (same_way a.0.way v) (nat_eq a.0.user m) way number)))
        ]
      where
        way_refl : (w : Way) → same_way w w ≡ true
        way_refl = same_way-refl

    by_name_of : (user : ℕ) (b : Branch) (i : ℕ) → IsTrue (leaves_of owners user i) → (n : Name) → IsNamed r tick asks n b → IsNested b.holds (leaves_of owners user)
    by_name_of user b i held Server is = alike user b Server is (server_alike r) i held
    by_name_of user b i held (Direction v) is = alike user b (Direction v) is (direction_alike r v) i held
    by_name_of user b i held (Group v g) is = alike user b (Group v g) is (group_alike r v g) i held
    by_name_of user b i held (User v m) is = alike user b (User v m) is (user_alike r v m) i held
    by_name_of user b i held (Session v m s) is = session user b v m s is i held

    by_name : (user : ℕ) (b : Branch) (n : Name) → IsNamed r tick asks n b → IsNested b.holds (leaves_of owners user)
    by_name user b n is = elim (cases_lt user users) [
      | inl less ↦ let leaf = own.some user less in by_name_of user b leaf.0 leaf.1 n is
      | inr past ↦ inr (inl (λ i held. absurd (omega (arith, own.few i (inside user i held), owner user i held, past))))
    ]
