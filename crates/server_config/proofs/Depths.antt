-- How the depth of a list is that of its parts.
use Rattle.std.proofs.Common.{◌≡◌, ℕ, true, max, arith}
use Rattle.std.specs.Prelude.{nat_le}
use Rattle.std.proofs.lemmas.Grind.{common_steps}

-- what is within passes the rest on, and what is not lets nothing be
pub within_max : (a b levels : ℕ) → nat_le a levels ≡ true → nat_le (max a b) levels ≡ nat_le b levels
within_max a b levels is = grind (arith, common_steps)
