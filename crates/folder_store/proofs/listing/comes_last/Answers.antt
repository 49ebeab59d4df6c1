use Rattle.std.proofs.Common.{rules, ◌≡◌, ◌-◌, length, Some, ap, sym, ◌∙◌}
use Rattle.std.specs.Prelude.{slice_get}
use Rattle.std.specs.Cmp.Lexicographic.{slice_cmp}
use Rattle.std.specs.Ordering.{is_lt, nat_cmp}
use Rattle.folder_store.proofs.Entries.{listed_before, not_less}
use Rattle.folder_store.proofs.listing.comes_last.Goals as goal

pub returns-in-Some-clause-before : goal.returns-in-Some-clause-before
returns-in-Some-clause-before g c = λ no.
    let last : slice_get c.args.listed.now (length c.args.listed.now - 1) ≡ Some c.in-Some.entry.now = search rules in
    let compared : c.is_lt.result ≡ is_lt (slice_cmp nat_cmp c.as_str.result.now c.args.name.now) = c.is_lt.ensures ∙ ap is_lt c.cmp.ensures in
    listed_before c.args.listed.now c.in-Some.entry.now c.args.name.now last
    (not_less _ c.args.name.now (ap (λ x. is_lt (slice_cmp nat_cmp x c.args.name.now)) (sym c.as_str.ensures.value) ∙ (sym compared ∙ no)))
