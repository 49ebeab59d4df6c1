use Rattle.std.proofs.Common.{◌∙◌, ◌+◌, ◌++◌, sym, ap, drop, get_or}
use Rattle.std.proofs.lemmas.List.{at_drop_more}
use Rattle.config_change.specs.Named.{group_after, group_rows}
use Rattle.config_change.proofs.rows.group_rows.Goals as goal

pub loop-index-preserved-in_default : goal.loop-index-preserved-in_default
loop-index-preserved-in_default c =
    let i = c.loop-index.index in
    let numbers = c.args.numbers.now in
    ap (λ rows. c.loop-index.rows.items ++ rows)
    (sym (at_drop_more (group_rows c.args.limits.now i) numbers i 0 c.loop-index-test.true
    ∙ ap (λ row. group_after (get_or numbers i 0) row ++ group_rows c.args.limits.now (i + 1) (drop (i + 1) numbers)) (sym c.in_default.ensures.row)))
    ∙ c.loop-index.invariant
