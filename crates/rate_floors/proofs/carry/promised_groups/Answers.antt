use Rattle.std.proofs.Common.{◌∙◌, ◌+◌, sym, ap, subst, map, take, get_or, []}
use Rattle.std.specs.List.{All}
use Rattle.std.proofs.lemmas.List.{get_or_default}
use Rattle.rate_floors.specs.Promises.{group_row, with_floors, added, HasRoom, IsPromised}
use Rattle.rate_floors.proofs.CarryLemmas.{no_entry, rising_rows, kept_rows, reported_more, bundle_room, none_reported, rows_of_none}
use Rattle.rate_floors.proofs.carry.promised_groups.Goals as goal

pub loop-entry-init : goal.loop-entry-init
loop-entry-init g c = record {
  rows = ap (map group_row) c.in_ok-groups.ensures.none ∙ rows_of_none c.args.rows.now;
  reported = subst (All (IsPromised [])) (sym c.in_ok-groups.ensures.none) (none_reported c.args.rows.now);
}

pub add-requires-clause-rising : goal.add-requires-clause-rising
add-requires-clause-rising g c = rising_rows c.loop-entry.groups.items c.args.rows.now c.loop-entry.invariant.rows c.requires.rising

pub add-requires-clause-room : goal.add-requires-clause-room
add-requires-clause-room g c =
    let i = c.loop-entry.entry-index in
    subst (HasRoom c.loop-entry.groups.items) (sym c.bundled.ensures.bundled)
    (bundle_room c.args.users.now i (get_or c.args.users.now i no_entry) c.loop-entry-test.true
    (get_or_default c.args.users.now i no_entry (get_or c.args.users.now i no_entry) c.loop-entry-test.true)
    c.requires.small c.loop-entry.groups.items c.loop-entry.invariant.reported)

pub loop-entry-preserved : goal.loop-entry-preserved
loop-entry-preserved g c =
    let i = c.loop-entry.entry-index in
    record {
      rows = ap (map group_row) c.add.ensures.added ∙ kept_rows c.bundled.result c.loop-entry.groups.items ∙ c.loop-entry.invariant.rows;
      reported = subst (All (IsPromised (take (i + 1) c.args.users.now))) (sym (c.add.ensures.added ∙ ap (λ row. map (with_floors added row) c.loop-entry.groups.items) c.bundled.ensures.bundled))
          (reported_more c.args.users.now i (get_or c.args.users.now i no_entry) c.loop-entry-test.true
          (get_or_default c.args.users.now i no_entry (get_or c.args.users.now i no_entry) c.loop-entry-test.true)
          c.loop-entry.groups.items c.loop-entry.invariant.reported);
    }
