use Rattle.std.proofs.Common.{◌≡◌, ◌++◌}
use Rattle.authorizer.specs.Stored.{map_of, user_of}
use Rattle.authorizer.proofs.Renumbering.{listed}
use Rattle.authorizer.proofs.renumber.listed_numbers.Given as goal

abbrev pub invariant-loop-name : goal.invariant-loop-name
invariant-loop-name g l =
    l.numbers.items ++ listed (map_of user_of l.earlier) l.name-iterator ≡ listed (map_of user_of l.earlier) l.accounts.entries
