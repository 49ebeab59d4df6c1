use Rattle.std.proofs.Common.{ℕ}
use Rattle.round_allocator.proofs.named.allot.Given as goal

abbrev pub ghosts-allot_anew : goal.ghosts-allot_anew
ghosts-allot_anew g a = record { name = a.blank.name; parts = a.blank.parts }
