-- Asks of the same user.
use Rattle.std.proofs.Common.{◌≡◌, ℕ, zero, suc, ◌<◌, true, nat_eq, [], ◌∷◌, List, length, refl, sym, ap, subst, ◌∙◌, arith, Option, Some, None}
use Rattle.std.specs.Prelude.{IsTrue, slice_get}
use Rattle.std.proofs.lemmas.Bool.{and_parts, and_from, eqb-true, eq-eqb, false≢true}
use Rattle.line_rates.specs.declared.ask.Way.{Way}
use Rattle.line_rates.specs.declared.ask.Way.TheVariants.{Down, Up}
use Rattle.line_rates.specs.declared.ask.Ask.{Ask}
use Rattle.line_rates.specs.Names.{same_way}
use Rattle.fair_terms.specs.Wants.{is_same_user}
use Rattle.fair_shares.specs.Users.{is_of, is_of_user}

same_way-is : (w v : Way) → same_way w v ≡ true → w ≡ v
same_way-is Down Down e = refl
same_way-is Up Up e = refl
same_way-is Down Up e = absurd (false≢true e)
same_way-is Up Down e = absurd (false≢true e)

same_way-refl : (w : Way) → same_way w w ≡ true
same_way-refl Down = refl
same_way-refl Up = refl

pub same-parts : (a b : Ask) → IsTrue (is_same_user a b) → (b.way ≡ a.way) × (b.user ≡ a.user)
same-parts a b h =
    let both = and_parts (same_way b.way a.way) (nat_eq b.user a.user) h in
    (same_way-is b.way a.way both.0, eqb-true b.user a.user both.1)

pub same-from : (a b : Ask) → b.way ≡ a.way → b.user ≡ a.user → IsTrue (is_same_user a b)
same-from a b way user =
    and_from (same_way b.way a.way) (nat_eq b.user a.user)
    (subst (λ (w : Way). same_way w a.way ≡ true) (sym way) (same_way-refl a.way))
    (eq-eqb b.user a.user user)

-- an ask is of its own user
pub same-self : (a : Ask) → IsTrue (is_same_user a a)
same-self a = same-from a a refl refl

-- the users of two asks are the same if a third is of both
pub same-through : (a b c : Ask) → IsTrue (is_same_user a c) → IsTrue (is_same_user b c) → IsTrue (is_same_user a b)
same-through a b c one two =
    let x = same-parts a c one in
    let y = same-parts b c two in
    same-from a b (sym y.0 ∙ x.0) (sym y.1 ∙ x.1)

-- the ask at a leaf
pub at_leaf : (asks : List Ask) (a b : Ask) (i : ℕ) → slice_get asks i ≡ Some b → is_of_user asks a i ≡ is_same_user a b
at_leaf asks a b i at = ap (is_of a) at

pub ask_at : (asks : List Ask) (i : ℕ) → i < length asks → (a : Ask) × (slice_get asks i ≡ Some a)
ask_at [] i low = absurd (omega arith)
ask_at (a ∷ asks) zero low = (a, refl)
ask_at (a ∷ asks) (suc i) low = ask_at asks i (omega arith)

-- a leaf of a user has an ask
pub ask_of : (asks : List Ask) (a : Ask) (i : ℕ) → IsTrue (is_of_user asks a i) → (b : Ask) × (slice_get asks i ≡ Some b) × IsTrue (is_same_user a b)
ask_of asks a i h = go (slice_get asks i) refl h
  where
    go : (o : Option Ask) → slice_get asks i ≡ o → IsTrue (is_of a o) → (b : Ask) × (slice_get asks i ≡ Some b) × IsTrue (is_same_user a b)
    go None at e = absurd (false≢true e)
    go (Some b) at e = (b, at, e)
