-- The least interval that earns enough.
use Rattle.std.proofs.Common.{◌≡◌, ℕ, zero, suc, ◌^◌, ◌<◌, ◌≤◌, Bool, true, false, cond, refl, arith}
use Rattle.std.proofs.Math.Nat.{pow-le-pow_right}
use Rattle.round_cadence.specs.Intervals.{earns, interval_of, IsInterval}

pow_five : (k : ℕ) → 32 ≤ 2 ^ suc (suc (suc (suc (suc k))))
pow_five k = pow-le-pow_right {n = 2} (omega arith) {i = 5} {j = suc (suc (suc (suc (suc k))))} (omega arith)

least_by : (r s t : ℕ) → t ≤ 32 → (1 < t → earns r s 1 ≡ false) → (2 < t → earns r s 2 ≡ false) → (4 < t → earns r s 4 ≡ false) → (8 < t → earns r s 8 ≡ false) → (16 < t → earns r s 16 ≡ false) → (k : ℕ) → 2 ^ k < t → earns r s (2 ^ k) ≡ false
least_by r s t m a b c d e zero lt = a lt
least_by r s t m a b c d e (suc zero) lt = b lt
least_by r s t m a b c d e (suc (suc zero)) lt = c lt
least_by r s t m a b c d e (suc (suc (suc zero))) lt = d lt
least_by r s t m a b c d e (suc (suc (suc (suc zero)))) lt = e lt
least_by r s t m a b c d e (suc (suc (suc (suc (suc k))))) lt = absurd (let f : 32 ≤ 2 ^ suc (suc (suc (suc (suc k)))) = pow_five k in omega arith)

at_last : (r s : ℕ) → earns r s 1 ≡ false → earns r s 2 ≡ false → earns r s 4 ≡ false → earns r s 8 ≡ false → earns r s 16 ≡ false → IsInterval r s 32
at_last r s a b c d e = record {
  power = (5, refl);
  most = omega arith;
  enough = λ lt. absurd (omega arith);
  least = least_by r s 32 (omega arith) (λ _. a) (λ _. b) (λ _. c) (λ _. d) (λ _. e);
}

at_16 : (r s : ℕ) (x : Bool) → earns r s 16 ≡ x → earns r s 1 ≡ false → earns r s 2 ≡ false → earns r s 4 ≡ false → earns r s 8 ≡ false → IsInterval r s (cond x 16 32)
at_16 r s true e a b c d = record {
  power = (4, refl);
  most = omega arith;
  enough = λ _. e;
  least = least_by r s 16 (omega arith) (λ _. a) (λ _. b) (λ _. c) (λ _. d) (λ lt. absurd (omega arith));
}
at_16 r s false e a b c d = at_last r s a b c d e

at_8 : (r s : ℕ) (x : Bool) → earns r s 8 ≡ x → earns r s 1 ≡ false → earns r s 2 ≡ false → earns r s 4 ≡ false → IsInterval r s (cond x 8 (cond (earns r s 16) 16 32))
at_8 r s true e a b c = record {
  power = (3, refl);
  most = omega arith;
  enough = λ _. e;
  least = least_by r s 8 (omega arith) (λ _. a) (λ _. b) (λ _. c) (λ lt. absurd (omega arith)) (λ lt. absurd (omega arith));
}
at_8 r s false e a b c = at_16 r s (earns r s 16) refl a b c e

at_4 : (r s : ℕ) (x : Bool) → earns r s 4 ≡ x → earns r s 1 ≡ false → earns r s 2 ≡ false → IsInterval r s (cond x 4 (cond (earns r s 8) 8 (cond (earns r s 16) 16 32)))
at_4 r s true e a b = record {
  power = (2, refl);
  most = omega arith;
  enough = λ _. e;
  least = least_by r s 4 (omega arith) (λ _. a) (λ _. b) (λ lt. absurd (omega arith)) (λ lt. absurd (omega arith)) (λ lt. absurd (omega arith));
}
at_4 r s false e a b = at_8 r s (earns r s 8) refl a b e

at_2 : (r s : ℕ) (x : Bool) → earns r s 2 ≡ x → earns r s 1 ≡ false → IsInterval r s (cond x 2 (cond (earns r s 4) 4 (cond (earns r s 8) 8 (cond (earns r s 16) 16 32))))
at_2 r s true e a = record {
  power = (1, refl);
  most = omega arith;
  enough = λ _. e;
  least = least_by r s 2 (omega arith) (λ _. a) (λ lt. absurd (omega arith)) (λ lt. absurd (omega arith)) (λ lt. absurd (omega arith)) (λ lt. absurd (omega arith));
}
at_2 r s false e a = at_4 r s (earns r s 4) refl a e

at_1 : (r s : ℕ) (x : Bool) → earns r s 1 ≡ x → IsInterval r s (cond x 1 (cond (earns r s 2) 2 (cond (earns r s 4) 4 (cond (earns r s 8) 8 (cond (earns r s 16) 16 32)))))
at_1 r s true e = record {
  power = (0, refl);
  most = omega arith;
  enough = λ _. e;
  least = least_by r s 1 (omega arith) (λ lt. absurd (omega arith)) (λ lt. absurd (omega arith)) (λ lt. absurd (omega arith)) (λ lt. absurd (omega arith)) (λ lt. absurd (omega arith));
}
at_1 r s false e = at_2 r s (earns r s 2) refl e

pub is_interval : (r s : ℕ) → IsInterval r s (interval_of r s)
is_interval r s = at_1 r s (earns r s 1) refl

pub is_interval_at : (r s t : ℕ) → t ≡ interval_of r s → IsInterval r s t
is_interval_at r s t e = rw e (is_interval r s)
