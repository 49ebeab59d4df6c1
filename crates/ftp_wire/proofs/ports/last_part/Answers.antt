use Rattle.std.proofs.Common.{ap, ◌∙◌, ◌==◌, ◌∷◌}
use Rattle.ftp_wire.proofs.Parts.{some_part}
use Rattle.ftp_wire.proofs.ports.last_part.Goals as goal

pub returns-in-Some : goal.returns-in-Some
returns-in-Some c =
    let found = c.in-Some.field-0 in
    let (next, more, is) = some_part (λ octet. octet == c.args.wanted) found.1.now in
    record { part = (found.0.now, next, more, c.in-Some.ensures.parts ∙ ap (λ t. found.0.now ∷ t) is) }
