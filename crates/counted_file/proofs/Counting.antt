-- Counts modulo 2^64.
use Rattle.std.proofs.Common.{◌≡◌, ◌+◌, inl, inr, ℕ, arith}
use Rattle.counted_file.specs.Calls.{IsRaised, next}

pub raised_once : (steps old now new : ℕ) → IsRaised steps old now → new ≡ next now → IsRaised (steps + 1) old new
unfolding next
raised_once steps old now new (inl h) e = inr (omega (arith, h.0, h.1, e))
raised_once steps old now new (inr h) e = inr (omega (arith, h, e))
