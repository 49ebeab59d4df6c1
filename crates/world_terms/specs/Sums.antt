-- Sums of the amounts in a world.
use Rattle.std.specs.Prelude.{ℕ, ◌+◌, ◌-◌, sum, sum_by}
use Rattle.world_terms.specs.Decisions.{decided_of}
use Rattle.world_terms.specs.Lanes.{Lane, World, amount}

-- octets decided and not posted, posted and not taken, and in hand
abbrev pub pending : Lane → ℕ
pending l = decided_of l + (sum l.shown.posted - sum l.shown.taken) + amount l.hidden.hand

-- the shares of a lane: these, and the octets moved and given back
abbrev pub shares : Lane → ℕ
shares l = pending l + l.hidden.moved + l.hidden.back

-- the shares of a world
abbrev pub shares_in : World → ℕ
shares_in w = sum_by shares w.lanes
