use Rattle.std.proofs.Common.{◌≡◌, drop, map}
use Rattle.authorizer.specs.Renumbered.{numbered_item}
use Rattle.authorizer.specs.Stored.{map_of, user_of}
use Rattle.authorizer.proofs.Renumbering.{set_numbers}
use Rattle.authorizer.proofs.renumber.renumber.Given as goal

abbrev pub invariant-loop-entry : goal.invariant-loop-entry
invariant-loop-entry g l =
    set_numbers (map numbered_item (drop l.entry-index l.plan)) (map_of user_of l.accounts)
    ≡ set_numbers (map numbered_item l.plan) (map_of user_of l.initial.accounts)
