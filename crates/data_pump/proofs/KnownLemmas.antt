-- Octets that are known, before and after.
use Rattle.std.proofs.Common.{◌≡◌, ◌++◌, ℕ, List, [], ◌∷◌, length, take, Option, Some, None, refl, ap, ◌∙◌, subst, append-nil}
use Rattle.std.specs.Io.KnownBytes.{Keeps, Appends, Consumes, IsAtEnd}

pub known-appended : (a b : Option (List ℕ)) (xs more : List ℕ) → a ≡ Some xs → Appends a b more → b ≡ Some (xs ++ more)
known-appended a None xs more e h = absurd (subst (λ o. Appends o None more) e h)
known-appended a (Some ys) xs more e h = ap Some (subst (λ o. Appends o (Some ys) more) e h)

-- what is left of known octets once some were consumed
pub record IsLeft (b : Option (List ℕ)) (xs gone : List ℕ) : Type 0 where
  pub rest : List ℕ
  pub known : b ≡ Some rest
  pub whole : xs ≡ gone ++ rest

pub known-consumed : (a b : Option (List ℕ)) (xs gone : List ℕ) → a ≡ Some xs → Consumes a b gone → IsLeft b xs gone
known-consumed a None xs gone e h = absurd (subst (λ o. Consumes o None gone) e h)
known-consumed a (Some ys) xs gone e h = record { rest = ys; known = refl; whole = subst (λ o. Consumes o (Some ys) gone) e h }

pub known-kept : (a b : Option (List ℕ)) (xs : List ℕ) → a ≡ Some xs → Keeps a b → b ≡ Some xs
known-kept a None xs e h = absurd (subst (λ o. Keeps o None) e h)
known-kept a (Some ys) xs e h = ap Some (subst (λ o. Keeps o (Some ys)) e h)

pub known-at_end : (a : Option (List ℕ)) (xs : List ℕ) → a ≡ Some xs → IsAtEnd a → xs ≡ []
known-at_end a xs e h = subst IsAtEnd e h

pub no_octets : (xs : List ℕ) (n : ℕ) → length xs ≡ n → n ≡ 0 → xs ≡ []
no_octets [] n e z = refl
no_octets (x ∷ xs) n e z = absurd (let h : length (x ∷ xs) ≡ 0 = cc in cc)

-- a write that took nothing
pub appended_none : (a b c : Option (List ℕ)) (xs octets : List ℕ) (n : ℕ) → n ≡ 0 → Appends a b xs → Appends b c (take n octets) → Appends a c xs
appended_none None b c xs octets n none h k = tt
appended_none (Some x) None c xs octets n none h k = absurd h
appended_none (Some x) (Some y) None xs octets n none h k = absurd k
appended_none (Some x) (Some y) (Some z) xs octets n none h k = k ∙ (ap (λ m. y ++ take m octets) none ∙ (append-nil y ∙ h))
