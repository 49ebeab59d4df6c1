use Rattle.std.proofs.Common.{subst}
use Rattle.line_rates.specs.Put.{IsAt}
use Rattle.line_rates.specs.Stated.{group_number}
use Rattle.line_rates.proofs.PutLemmas.{put_at}
use Rattle.line_rates.proofs.rows.replace_group.Goals as goal

pub returns-in-Some-clause-put : goal.returns-in-Some-clause-put
returns-in-Some-clause-put g c =
    let at : IsAt group_number c.args.groups.now.items c.args.row.group c.in-Some.place = subst (λ rows. IsAt group_number rows c.args.row.group c.in-Some.place) c.deref.ensures.value c.in-Some.ensures.place in
    put_at group_number c.args.groups.now.items c.in-Some.place c.args.row c.requires.rising at
