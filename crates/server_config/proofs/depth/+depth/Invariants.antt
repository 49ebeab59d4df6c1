use Rattle.std.proofs.Common.{◌≡◌, drop}
use Rattle.std.specs.Prelude.{nat_le}
use Rattle.toml.specs.Data.{items_depth, members_depth}
use Rattle.toml.specs.View.{items_view, members_view}
use Rattle.server_config.proofs.depth.+depth.Given as goal

abbrev pub invariant-are_within-items : goal.invariant-are_within-items
invariant-are_within-items l =
    nat_le (items_depth (items_view (drop l.item-index l.item-items))) l.levels ≡ nat_le (items_depth (items_view l.item-items)) l.levels

abbrev pub invariant-table_within-members : goal.invariant-table_within-members
invariant-table_within-members l =
    (goal.iterator-table_within-members).can_next l._key-iterator ×
    (goal.iterator-table_within-members).is_finite l._key-iterator ×
    (nat_le (members_depth (members_view l._key-iterator)) l.levels ≡ nat_le (members_depth (members_view l.table.entries)) l.levels)
