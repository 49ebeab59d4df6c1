use Rattle.std.proofs.lemmas.Bool.{MatchBool-at_true, MatchBool-at_false}
use Rattle.grant_certificate.proofs.UserChecks.{inner-exact, outer-exact}
use Rattle.grant_certificate.proofs.by_users.holds_back.Goals as goal

pub returns-then-are_of : goal.returns-then-are_of
returns-then-are_of c =
    let p = c.args.place in
    let exact = inner-exact c.args.of.owners.now c.args.of.grants.now c.args.of.floors.now p.first p.leaves c.args.leaf c.requires.leaf c.requires.inside (MatchBool-at_true _ _ c.if-are_of.true c.are_of.ensures.all) in
    record { holds = (λ told. exact.0 (c.holds_inside.ensures.holds.0 told), λ back. c.holds_inside.ensures.holds.1 (exact.1 back)) }

pub returns : goal.returns
returns c =
    let p = c.args.place in
    let exact = outer-exact c.args.of.owners.now c.args.of.grants.now c.args.of.floors.now p.first p.leaves c.args.leaf (MatchBool-at_false _ _ c.if-are_of.false c.are_of.ensures.all) in
    record { holds = (λ told. exact.0 (c.holds_among.ensures.holds.0 told), λ back. c.holds_among.ensures.holds.1 (exact.1 back)) }
