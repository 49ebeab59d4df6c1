use Rattle.std.proofs.Common.{subst}
use Rattle.line_rates.specs.Put.{IsAt}
use Rattle.line_rates.specs.Stated.{user_number}
use Rattle.line_rates.proofs.PutLemmas.{put_at}
use Rattle.line_rates.proofs.rows.replace_user.Goals as goal

pub returns-in-Some-clause-put : goal.returns-in-Some-clause-put
returns-in-Some-clause-put g c =
    let at : IsAt user_number c.args.users.now.items c.args.row.user c.in-Some.place = subst (λ rows. IsAt user_number rows c.args.row.user c.in-Some.place) c.deref.ensures.value c.in-Some.ensures.place in
    put_at user_number c.args.users.now.items c.in-Some.place c.args.row c.requires.rising at
