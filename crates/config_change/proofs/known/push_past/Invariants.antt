use Rattle.std.proofs.Common.{◌≡◌, ◌++◌, drop, map}
use Rattle.config_change.specs.Past.{named_item, past_names}
use Rattle.config_change.proofs.known.push_past.Given as goal

abbrev pub invariant-loop-item : goal.invariant-loop-item
invariant-loop-item l =
    map named_item l.known.items ++ past_names l.users (map named_item (drop l.item-index l.earlier))
    ≡ map named_item l.initial.known.items ++ past_names l.users (map named_item l.earlier)
