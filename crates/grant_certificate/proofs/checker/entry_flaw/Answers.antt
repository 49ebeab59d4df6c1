use Rattle.std.proofs.Common.{sym, ◌∙◌}
use Rattle.std.proofs.lemmas.Bool.{iff_false}
use Rattle.grant_certificate.proofs.Entries.{named_at, not_above-here, not_full-here, too_great-here, held-here}
use Rattle.grant_certificate.proofs.checker.entry_flaw.Goals as goal

pub returns-then-not-holds : goal.returns-then-not-holds
returns-then-not-holds g c =
    let got = named_at c.args.entries.now c.args.leaf c.in-Some.named c.in-Some.is in
    record { flaw = not_above-here c.args.tree.now c.args.grants.now c.args.entries.now c.args.leaf c.in-Some.named c.place-place.result c.in-Branch.limit got c.place-place.ensures.place c.in-Branch.is (sym c.holds.ensures.holds ∙ c.if-not-holds.true) }

pub returns-then-not-is_full : goal.returns-then-not-is_full
returns-then-not-is_full g c =
    let got = named_at c.args.entries.now c.args.leaf c.in-Some.named c.in-Some.is in
    record { flaw = not_full-here c.args.tree.now c.args.grants.now c.args.entries.now c.args.leaf c.in-Some.named c.place-place.result c.in-Branch.limit got c.place-place.ensures.place c.in-Branch.is (sym c.holds.ensures.holds ∙ c.if-not-holds.false) (iff_false c.is_full.ensures.full c.if-not-is_full.true) }

pub returns : goal.returns
returns g c =
    let got = named_at c.args.entries.now c.args.leaf c.in-Some.named c.in-Some.is in
    record { flaw = too_great-here c.args.tree.now c.args.grants.now c.args.floors.now c.args.entries.now c.args.leaf c.in-Some.named c.in-Some-first_greater.other c.place-place.result c.in-Branch.limit c.requires.floors got c.place-place.ensures.place c.in-Branch.is (sym c.holds.ensures.holds ∙ c.if-not-holds.false) (c.is_full.ensures.full.0 c.if-not-is_full.false) c.in-Some-first_greater.ensures.greater }

pub unreachable-requires : goal.unreachable-requires
unreachable-requires g c =
    let got = named_at c.args.entries.now c.args.leaf c.in-Some.named c.in-Some.is in
    c.requires.unheld (held-here c.args.tree.now c.args.grants.now c.args.floors.now c.args.entries.now c.args.leaf c.in-Some.named c.place-place.result c.in-Branch.limit got c.place-place.ensures.place c.in-Branch.is (sym c.holds.ensures.holds ∙ c.if-not-holds.false) (c.is_full.ensures.full.0 c.if-not-is_full.false) c.in-None.ensures.greater)
