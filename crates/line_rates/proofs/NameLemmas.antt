-- A name that two asks bear: they bear the same names above it.
use Rattle.std.proofs.Common.{◌≡◌, ℕ, zero, suc, ◌+◌, ◌<◌, ◌≤◌, Bool, true, false, ◌||◌, sym, refl, ap, ◌∙◌, subst, arith, Option, Some, None, ◌⊎◌, inl, inr}
use Rattle.std.specs.Prelude.{slice_get, nat_le, nat_eq, ◌&&◌}
use Rattle.std.proofs.lemmas.Bool.{and_parts, and_from, leb-true, le-leb, eqb-true, eq-eqb}
use Rattle.line_rates.specs.declared.ask.Way.{Way}
use Rattle.line_rates.specs.declared.ask.Way.TheVariants.{Down, Up}
use Rattle.line_rates.specs.declared.ask.Ask.{Ask}
use Rattle.line_rates.specs.declared.ask.Name.{Name}
use Rattle.line_rates.specs.declared.ask.Name.TheVariants.{Server, Direction, Group, User, Session}
use Rattle.line_rates.specs.Names.{same_way, is_number, bears}
use Rattle.line_rates.specs.Rates.{Rates, group_of}
use Rattle.line_rates.specs.Grown.{same_name, path_by, key, is_some, level_of, bears_from}
use Rattle.line_rates.proofs.MarkLemmas.{bool_same, second_true}

same_way-is : (w v : Way) → same_way w v ≡ true → w ≡ v
same_way-is Down Down e = refl
same_way-is Up Up e = refl
same_way-is Down Up e = absurd (cc)
same_way-is Up Down e = absurd (cc)

same_way-refl : (w : Way) → same_way w w ≡ true
same_way-refl Down = refl
same_way-refl Up = refl

eq_itself : (n : ℕ) → nat_eq n n ≡ true
eq_itself n = eq-eqb n n refl

pub same_name-is : (n m : Name) → same_name n m ≡ true → n ≡ m
same_name-is Server Server e = refl
same_name-is (Direction w) (Direction v) e = ap Direction (same_way-is w v e)
same_name-is (Group w g) (Group v h) e = let p = and_parts (same_way w v) (nat_eq g h) e in ap (λ x. Group x g) (same_way-is w v p.0) ∙ ap (λ x. Group v x) (eqb-true g h p.1)
same_name-is (User w g) (User v h) e = let p = and_parts (same_way w v) (nat_eq g h) e in ap (λ x. User x g) (same_way-is w v p.0) ∙ ap (λ x. User v x) (eqb-true g h p.1)
same_name-is (Session w g s) (Session v h t) e =
    let p = and_parts (same_way w v) (nat_eq g h && nat_eq s t) e in
    let q = and_parts (nat_eq g h) (nat_eq s t) p.1 in
    ap (λ x. Session x g s) (same_way-is w v p.0) ∙ ap (λ x. Session v x s) (eqb-true g h q.0) ∙ ap (λ x. Session v h x) (eqb-true s t q.1)
same_name-is n m e = absurd (cc)

pub same_name-refl : (n : Name) → same_name n n ≡ true
same_name-refl Server = refl
same_name-refl (Direction w) = same_way-refl w
same_name-refl (Group w g) = and_from (same_way w w) (nat_eq g g) (same_way-refl w) (eq_itself g)
same_name-refl (User w g) = and_from (same_way w w) (nat_eq g g) (same_way-refl w) (eq_itself g)
same_name-refl (Session w g s) = and_from (same_way w w) (nat_eq g g && nat_eq s s) (same_way-refl w) (and_from (nat_eq g g) (nat_eq s s) (eq_itself g) (eq_itself s))

-- an ask by its way, its user's group, its user and its session bears the name
abbrev bears_by : Way → Option ℕ → ℕ → ℕ → Name → Bool
bears_by v group m t Server = true
bears_by v group m t (Direction w) = same_way v w
bears_by v group m t (Group w g) = same_way v w && is_number group g
bears_by v group m t (User w u) = same_way v w && nat_eq m u
bears_by v group m t (Session w u s) = same_way v w && (nat_eq m u && nat_eq t s)

bears_parts : (r : Rates) (n : Name) (a : Ask) → bears_by a.way (group_of r a.user) a.user a.session n ≡ bears r n a
bears_parts r Server a = refl
bears_parts r (Direction w) a = refl
bears_parts r (Group w g) a = refl
bears_parts r (User w u) a = refl
bears_parts r (Session w u s) a = refl

in_group : (group : Option ℕ) (g : ℕ) → is_number group g ≡ true → group ≡ Some g
in_group None g e = absurd (cc)
in_group (Some h) g e = ap (λ x. Some x) (eqb-true h g e)

down_to_group : (w : Way) (g u s m t l : ℕ) → l ≤ 2 → slice_get (path_by w (Some g) u s) l ≡ slice_get (path_by w (Some g) m t) l
down_to_group w g u s m t zero h = refl
down_to_group w g u s m t (suc zero) h = refl
down_to_group w g u s m t (suc (suc zero)) h = refl
down_to_group w g u s m t (suc (suc (suc l))) h = absurd (omega arith)

down_to_user : (w : Way) (group : Option ℕ) (u s t l : ℕ) → l ≤ 2 + is_some group → slice_get (path_by w group u s) l ≡ slice_get (path_by w group u t) l
down_to_user w group u s t zero h = refl
down_to_user w group u s t (suc zero) h = refl
down_to_user w None u s t (suc (suc zero)) h = refl
down_to_user w (Some g) u s t (suc (suc zero)) h = refl
down_to_user w (Some g) u s t (suc (suc (suc zero))) h = refl
down_to_user w None u s t (suc (suc (suc l))) h = absurd (omega arith)
down_to_user w (Some g) u s t (suc (suc (suc (suc l)))) h = absurd (omega arith)

-- Two asks that bear a name have the same names down to it.
same_above : (v w : Way) (gv gw : Option ℕ) (m u t s l : ℕ) (n : Name) → (m ≡ u → gv ≡ gw) → bears_by v gv m t n ≡ true → bears_by w gw u s n ≡ true → l ≤ level_of gv n
    → slice_get (path_by v gv m t) l ≡ slice_get (path_by w gw u s) l
same_above v w gv gw m u t s zero Server gs a b h = refl
same_above v w gv gw m u t s (suc l) Server gs a b h = absurd (omega arith)
same_above v w gv gw m u t s zero (Direction x) gs a b h = refl
same_above v w gv gw m u t s (suc zero) (Direction x) gs a b h = ap (λ y. Some (Direction y)) (same_way-is v x a ∙ sym (same_way-is w x b))
same_above v w gv gw m u t s (suc (suc l)) (Direction x) gs a b h = absurd (omega arith)
same_above v w gv gw m u t s l (Group x g) gs a b h =
    let p = and_parts (same_way v x) (is_number gv g) a in
    let q = and_parts (same_way w x) (is_number gw g) b in
    ap (λ y. slice_get (path_by y gv m t) l) (same_way-is v x p.0) ∙ ap (λ y. slice_get (path_by x y m t) l) (in_group gv g p.1) ∙ down_to_group x g m t u s l h
    ∙ sym (ap (λ y. slice_get (path_by y gw u s) l) (same_way-is w x q.0) ∙ ap (λ y. slice_get (path_by x y u s) l) (in_group gw g q.1))
same_above v w gv gw m u t s l (User x k) gs a b h =
    let p = and_parts (same_way v x) (nat_eq m k) a in
    let q = and_parts (same_way w x) (nat_eq u k) b in
    let users : m ≡ u = eqb-true m k p.1 ∙ sym (eqb-true u k q.1) in
    down_to_user v gv m t s l h ∙ ap (λ y. slice_get (path_by y gv m s) l) (same_way-is v x p.0 ∙ sym (same_way-is w x q.0)) ∙ ap (λ y. slice_get (path_by w y m s) l) (gs users) ∙ ap (λ y. slice_get (path_by w gw y s) l) users
same_above v w gv gw m u t s l (Session x k j) gs a b h =
    let p = and_parts (same_way v x) (nat_eq m k && nat_eq t j) a in
    let q = and_parts (same_way w x) (nat_eq u k && nat_eq s j) b in
    let i = and_parts (nat_eq m k) (nat_eq t j) p.1 in
    let o = and_parts (nat_eq u k) (nat_eq s j) q.1 in
    let users : m ≡ u = eqb-true m k i.0 ∙ sym (eqb-true u k o.0) in
    let sessions : t ≡ s = eqb-true t j i.1 ∙ sym (eqb-true s j o.1) in
    ap (λ y. slice_get (path_by y gv m t) l) (same_way-is v x p.0 ∙ sym (same_way-is w x q.0)) ∙ ap (λ y. slice_get (path_by w y m t) l) (gs users) ∙ ap (λ y. slice_get (path_by w gw y t) l) users ∙ ap (λ y. slice_get (path_by w gw u y) l) sessions

pub key_same : (r : Rates) (l : ℕ) (n : Name) (a b : Ask) → bears r n a ≡ true → bears r n b ≡ true → l ≤ level_of (group_of r a.user) n → key r l a ≡ key r l b
key_same r l n a b in_a in_b h = same_above a.way b.way (group_of r a.user) (group_of r b.user) a.user b.user a.session b.session l n (λ e. ap (group_of r) e) (bears_parts r n a ∙ in_a) (bears_parts r n b ∙ in_b) h

-- the name at a level is borne, at that level
abbrev AtLevel : Way → Option ℕ → ℕ → ℕ → ℕ → Option Name → Type 0
AtLevel w group u s l None = 4 + is_some group ≤ l
AtLevel w group u s l (Some n) = (bears_by w group u s n ≡ true) × (level_of group n ≡ l)

at_level : (w : Way) (group : Option ℕ) (u s l : ℕ) → AtLevel w group u s l (slice_get (path_by w group u s) l)
at_level w group u s zero = (refl, refl)
at_level w group u s (suc zero) = (same_way-refl w, refl)
at_level w None u s (suc (suc zero)) = (and_from (same_way w w) (nat_eq u u) (same_way-refl w) (eq_itself u), refl)
at_level w None u s (suc (suc (suc zero))) = (and_from (same_way w w) (nat_eq u u && nat_eq s s) (same_way-refl w) (and_from (nat_eq u u) (nat_eq s s) (eq_itself u) (eq_itself s)), refl)
at_level w None u s (suc (suc (suc (suc l)))) = omega arith
at_level w (Some g) u s (suc (suc zero)) = (and_from (same_way w w) (nat_eq g g) (same_way-refl w) (eq_itself g), refl)
at_level w (Some g) u s (suc (suc (suc zero))) = (and_from (same_way w w) (nat_eq u u) (same_way-refl w) (eq_itself u), refl)
at_level w (Some g) u s (suc (suc (suc (suc zero)))) = (and_from (same_way w w) (nat_eq u u && nat_eq s s) (same_way-refl w) (and_from (nat_eq u u) (nat_eq s s) (eq_itself u) (eq_itself s)), refl)
at_level w (Some g) u s (suc (suc (suc (suc (suc l))))) = omega arith

pub key_level : (r : Rates) (l : ℕ) (n : Name) (a : Ask) → key r l a ≡ Some n → (bears r n a ≡ true) × (level_of (group_of r a.user) n ≡ l)
key_level r l n a e =
    let h : AtLevel a.way (group_of r a.user) a.user a.session l (Some n) = subst (AtLevel a.way (group_of r a.user) a.user a.session l) e (at_level a.way (group_of r a.user) a.user a.session l) in
    (sym (bears_parts r n a) ∙ h.0, h.1)

at_most : (group : Option ℕ) (n : Name) → level_of group n ≤ 3 + is_some group
at_most group Server = omega arith
at_most group (Direction w) = omega arith
at_most group (Group w g) = omega arith
at_most group (User w u) = omega arith
at_most group (Session w u s) = omega arith

pub key_low : (r : Rates) (l : ℕ) (n : Name) (a : Ask) → key r l a ≡ Some n → l ≤ 4
key_low r l n a e =
    let here : level_of (group_of r a.user) n ≡ l = (key_level r l n a e).1 in
    let most = at_most (group_of r a.user) n in
    let one = at_most_one (group_of r a.user) in
    omega arith
  where
    at_most_one : (group : Option ℕ) → is_some group ≤ 1
    at_most_one None = omega arith
    at_most_one (Some g) = omega arith

pub key_none : (r : Rates) (l : ℕ) (n : Name) (a : Ask) → key r l a ≡ None → level_of (group_of r a.user) n < l
key_none r l n a e =
    let h : AtLevel a.way (group_of r a.user) a.user a.session l None = subst (AtLevel a.way (group_of r a.user) a.user a.session l) e (at_level a.way (group_of r a.user) a.user a.session l) in
    let m = at_most (group_of r a.user) n in
    omega arith

key_of : (w : Way) (group : Option ℕ) (u s : ℕ) (n : Name) → bears_by w group u s n ≡ true → slice_get (path_by w group u s) (level_of group n) ≡ Some n
key_of w group u s Server e = refl
key_of w group u s (Direction v) e = ap (λ y. Some (Direction y)) (same_way-is w v e)
key_of w None u s (Group v g) e = let p = and_parts (same_way w v) false e in absurd (cc)
key_of w (Some h) u s (Group v g) e = let p = and_parts (same_way w v) (nat_eq h g) e in ap (λ y. Some (Group y h)) (same_way-is w v p.0) ∙ ap (λ y. Some (Group v y)) (eqb-true h g p.1)
key_of w None u s (User v m) e = let p = and_parts (same_way w v) (nat_eq u m) e in ap (λ y. Some (User y u)) (same_way-is w v p.0) ∙ ap (λ y. Some (User v y)) (eqb-true u m p.1)
key_of w (Some h) u s (User v m) e = let p = and_parts (same_way w v) (nat_eq u m) e in ap (λ y. Some (User y u)) (same_way-is w v p.0) ∙ ap (λ y. Some (User v y)) (eqb-true u m p.1)
key_of w None u s (Session v m t) e =
    let p = and_parts (same_way w v) (nat_eq u m && nat_eq s t) e in
    let q = and_parts (nat_eq u m) (nat_eq s t) p.1 in
    ap (λ y. Some (Session y u s)) (same_way-is w v p.0) ∙ ap (λ y. Some (Session v y s)) (eqb-true u m q.0) ∙ ap (λ y. Some (Session v m y)) (eqb-true s t q.1)
key_of w (Some h) u s (Session v m t) e =
    let p = and_parts (same_way w v) (nat_eq u m && nat_eq s t) e in
    let q = and_parts (nat_eq u m) (nat_eq s t) p.1 in
    ap (λ y. Some (Session y u s)) (same_way-is w v p.0) ∙ ap (λ y. Some (Session v y s)) (eqb-true u m q.0) ∙ ap (λ y. Some (Session v m y)) (eqb-true s t q.1)

pub key_at : (r : Rates) (n : Name) (a : Ask) → bears r n a ≡ true → key r (level_of (group_of r a.user) n) a ≡ Some n
key_at r n a e = key_of a.way (group_of r a.user) a.user a.session n (bears_parts r n a ∙ e)

some_same : (n m : Name) → Some n ≡ Some m → n ≡ m
some_same n m e = cc

first_true : (x y : Bool) → x ≡ true → (x || y) ≡ true
first_true true y e = refl
first_true false y e = absurd (cc)

either_true : (x y : Bool) → (x || y) ≡ true → (x ≡ true) ⊎ (y ≡ true)
either_true true y e = inl refl
either_true false y e = inr e

-- the names from a level on: that at the level, and those below it
pub from_next : (r : Rates) (l : ℕ) (top n : Name) (a : Ask) → key r l a ≡ Some top → bears_from r l n a ≡ (same_name n top || bears_from r (suc l) n a)
from_next r l top n a e = bool_same (bears_from r l n a) (same_name n top || bears_from r (suc l) n a) on off
  where
    level : ℕ
    level = level_of (group_of r a.user) n

    on : bears_from r l n a ≡ true → (same_name n top || bears_from r (suc l) n a) ≡ true
    on h =
        let p = and_parts (bears r n a) (nat_le l (level_of (group_of r a.user) n)) h in
        let le = leb-true l (level_of (group_of r a.user) n) p.1 in
        split p.0 le (nat_eq l (level_of (group_of r a.user) n)) refl
      where
        split : bears r n a ≡ true → l ≤ level_of (group_of r a.user) n → (b : Bool) → nat_eq l (level_of (group_of r a.user) n) ≡ b → (same_name n top || bears_from r (suc l) n a) ≡ true
        split in_a le true is =
            let here : Some n ≡ Some top = sym (key_at r n a in_a) ∙ ap (λ k. key r k a) (sym (eqb-true l (level_of (group_of r a.user) n) is)) ∙ e in
            first_true (same_name n top) (bears_from r (suc l) n a) (ap (λ k. same_name n k) (sym (some_same n top here)) ∙ same_name-refl n)
        split in_a le false is =
            second_true (same_name n top) (bears_from r (suc l) n a) (and_from (bears r n a) (nat_le (suc l) (level_of (group_of r a.user) n)) in_a (le-leb (suc l) (level_of (group_of r a.user) n) (grind (arith))))

    off : (same_name n top || bears_from r (suc l) n a) ≡ true → bears_from r l n a ≡ true
    off h = elim (either_true (same_name n top) (bears_from r (suc l) n a) h) [
      | inl s ↦ let k = key_level r l top a e in subst (λ m. bears_from r l m a ≡ true) (sym (same_name-is n top s)) (and_from (bears r top a) (nat_le l (level_of (group_of r a.user) top)) k.0 (le-leb l (level_of (group_of r a.user) top) (let same : level_of (group_of r a.user) top ≡ l = k.1 in omega arith)))
      | inr b ↦ let p = and_parts (bears r n a) (nat_le (suc l) (level_of (group_of r a.user) n)) b in and_from (bears r n a) (nat_le l (level_of (group_of r a.user) n)) p.0 (le-leb l (level_of (group_of r a.user) n) (let le = leb-true (suc l) (level_of (group_of r a.user) n) p.1 in omega arith))
    ]

-- the name at a level stands at no other
pub not_below : (r : Rates) (l : ℕ) (top : Name) (a : Ask) → key r l a ≡ Some top → bears_from r (suc l) top a ≡ false
not_below r l top a e = bool_same (bears_from r (suc l) top a) false
    (λ h. let p = and_parts (bears r top a) (nat_le (suc l) (level_of (group_of r a.user) top)) h in let le = leb-true (suc l) (level_of (group_of r a.user) top) p.1 in let same : level_of (group_of r a.user) top ≡ l = (key_level r l top a e).1 in absurd (omega arith)) (λ h. absurd (cc))

pub none_from : (r : Rates) (l : ℕ) (n : Name) (a : Ask) → key r l a ≡ None → bears_from r l n a ≡ false
none_from r l n a e = bool_same (bears_from r l n a) false
    (λ h. let p = and_parts (bears r n a) (nat_le l (level_of (group_of r a.user) n)) h in let le = leb-true l (level_of (group_of r a.user) n) p.1 in let less = key_none r l n a e in absurd (omega arith)) (λ h. absurd (cc))

-- a name from a level on has one at the level
pub some_from : (r : Rates) (l : ℕ) (n : Name) (a : Ask) → bears_from r l n a ≡ true → (o : Option Name) → key r l a ≡ o → (top : Name) × (key r l a ≡ Some top)
some_from r l n a h None e = let no = none_from r l n a e in absurd (cc)
some_from r l n a h (Some top) e = (top, e)
