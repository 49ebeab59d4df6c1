use Rattle.std.proofs.Common.{◌≡◌, drop, map, option_map, slice_index_or, string_bytes}
use Rattle.authorizer.specs.Stored.{map_of, user_of}
use Rattle.authorizer.proofs.Renumbering.{change_each}
use Rattle.authorizer.proofs.renumber.regroup.Given as goal

abbrev pub invariant-loop-name : goal.invariant-loop-name
invariant-loop-name g l =
    change_each (λ name user. record user { group = option_map (λ k. slice_index_or l.numbers k k) user.group }) (map string_bytes (drop l.name-index l.names)) (map_of user_of l.accounts)
    ≡ change_each (λ name user. record user { group = option_map (λ k. slice_index_or l.numbers k k) user.group }) (map string_bytes l.names) (map_of user_of l.initial.accounts)
