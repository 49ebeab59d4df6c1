-- By turns, two transfers stay within an octet of each other.
use Rattle.std.proofs.Common.{◌≡◌, ℕ, ◌+◌, ◌<◌, ◌≤◌, [], ◌∷◌, inl, inr, arith}
use Rattle.std.proofs.lemmas.Bool.{cases_lt}
use Rattle.std.proofs.lemmas.List.Sums.{sum_by-cons}
use Rattle.std.specs.List.{sum_by}
use Rattle.paced_rounds.specs.Evenness.{one_of, other_of, IsEven, EvenByTurns}

-- one side of a round
pub side : (c d a b : ℕ) → c ≤ d + 1 → a ≤ b + 1 → (d < c → a ≤ b) → c + a ≤ d + b + 1
side c d a b near most back = elim (cases_lt d c) [
  | inl above ↦ let less : a ≤ b = back above in omega (arith, near, less)
  | inr below ↦ omega (arith, below, most)
]

moved : (c d a b x y s t : ℕ) → s ≡ a + x → t ≡ b + y → c + a + x ≤ d + b + y + 1 → c + s ≤ d + t + 1
moved c d a b x y s t e f h = omega (arith, e, f, h)

pub even_by_turns : EvenByTurns
even_by_turns c d [] near are = record { one = none c d near.one; other = none d c near.other }
  where
    none : (c d : ℕ) → c ≤ d + 1 → c + 0 ≤ d + 0 + 1
    none c d h = omega (arith, h)
even_by_turns c d (r ∷ rs) near are =
    let after : IsEven (c + r.one) (d + r.other) = record {
      one = side c d r.one r.other near.one are.0 are.3;
      other = side d c r.other r.one near.other are.1 are.2;
    } in
    let rest : IsEven (c + r.one + sum_by one_of rs) (d + r.other + sum_by other_of rs) = even_by_turns (c + r.one) (d + r.other) rs after are.4 in
    record {
      one = moved c d r.one r.other (sum_by one_of rs) (sum_by other_of rs) (sum_by one_of (r ∷ rs)) (sum_by other_of (r ∷ rs)) (sum_by-cons one_of r rs) (sum_by-cons other_of r rs) rest.one;
      other = moved d c r.other r.one (sum_by other_of rs) (sum_by one_of rs) (sum_by other_of (r ∷ rs)) (sum_by one_of (r ∷ rs)) (sum_by-cons other_of r rs) (sum_by-cons one_of r rs) rest.other;
    }
