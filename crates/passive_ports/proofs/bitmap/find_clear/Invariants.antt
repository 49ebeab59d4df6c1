use Rattle.std.proofs.Common.{◌≡◌, ℕ, ◌^◌, ◌-◌, ◌<◌, get_or}
use Rattle.passive_ports.proofs.bitmap.find_clear.Given as goal

abbrev pub invariant-loop-index : goal.invariant-loop-index
invariant-loop-index l = (w : ℕ) → w < l.index → get_or l.words w 0 ≡ 2 ^ 64 - 1
