use Rattle.std.proofs.Common.{◌≡◌, ◌<◌, ℕ, None, take, get_or, nat_eq, vec_len}
use Rattle.std.specs.List.{position_from}
use Rattle.sheet_text.proofs.numbering.number_places.Given as goal

abbrev pub invariant-loop-number : goal.invariant-loop-number
invariant-loop-number g l = record {
  length : vec_len l.numbers ≡ l.count;
  numbers : (place : ℕ) → place < l.count → get_or l.numbers.items place None ≡ position_from (nat_eq place) 0 (take l.number l.order);
}
