-- Room for seats.
use Rattle.std.specs.Prelude.{◌≡◌, ℕ, ◌≤◌, [], vec_capacity}
use Rattle.lent_parts.specs.declared.name.PartsName.{Ghosts}
use Rattle.lent_parts.specs.declared.seats.LentSeats.{LentSeats}

module _ {B N : Type 0} {names : Ghosts B} where
  -- no seat is lent yet, and as many as these can be
  abbrev pub HasRoom : ℕ → LentSeats B N names → Type 0
  HasRoom lanes s =
      (s.seats.items ≡ []) × (lanes ≤ vec_capacity s.seats)
