use Rattle.std.proofs.lemmas.Bool.{iff_false}
use Rattle.round_allocator.proofs.Marks.{mark-stays, mark-full}
use Rattle.round_allocator.proofs.named.mark_full.Goals as goal

pub returns-then-is_full-clause-marked : goal.returns-then-is_full-clause-marked
returns-then-is_full-clause-marked g c = λ i l. mark-full c.args.flat.now c.args.grants.now c.args.node i c.place-place.result c.args.marks.now c.mark.new.marks c.place-place.ensures.place (c.is_full.ensures.full.0 c.if-is_full.true) c.mark.ensures.marked c.mark.ensures.others (c.requires.marked i l)

pub returns-else-is_full-clause-marked : goal.returns-else-is_full-clause-marked
returns-else-is_full-clause-marked g c = λ i l. mark-stays c.args.flat.now c.args.grants.now c.args.node i c.args.marks.now (iff_false c.is_full.ensures.full c.if-is_full.false) (c.requires.marked i l)
