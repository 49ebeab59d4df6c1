use Rattle.std.proofs.Common.{◌≡◌, true, get_or, ◌∷◌, sym, ◌∙◌, arith}
use Rattle.std.specs.Prelude.{nat_le}
use Rattle.std.proofs.lemmas.Grind.{common_steps}
use Rattle.toml.specs.Data.{depth}
use Rattle.toml.specs.View.{view}
use Rattle.toml.proofs.Views.{Entry, items_view-drop}
use Rattle.server_config.proofs.Depths.{within_max}
use Rattle.server_config.proofs.depth.+depth.Goals as goal

pub are_within-items-preserved : goal.are_within-items-preserved
are_within-items-preserved c c' =
    let xs = c'.deref-item-items.result.now in
    let i = c'.items.item-index in
    let item = c'.item-item.result in
    let good : nat_le (depth (view item)) c'.args.levels ≡ true = grind (arith, common_steps) in
    let at : get_or xs i item ≡ item = grind (arith, common_steps) in
    let step = items_view-drop xs i item c'.items-test.true in
    sym (within_max _ _ _ good) ∙ rw (step, at) at c'.items.invariant

pub table_within-members-preserved : goal.table_within-members-preserved
table_within-members-preserved c c' =
    let (can, finite, same) = c'.members.invariant in
    let e : Entry = (c'.in-Some._key.now, c'.in-Some.member.now) in
    let iter : c'.members._key-iterator ≡ e ∷ c'.next.new.self = grind (arith, common_steps) in
    let good : nat_le (depth (view e.1)) c'.args.levels ≡ true = grind (arith, common_steps) in
    (tt, tt, sym (within_max _ _ _ good) ∙ rw iter at same)
