use Rattle.std.proofs.Common.{arith, get_or, ◌<◌}
use Rattle.std.proofs.lemmas.Str.{IsCharBoundary-after_ascii}
use Rattle.ftp_wire.proofs.arguments.after_space.Goals as goal

pub range_from-requires : goal.range_from-requires
range_from-requires c =
    let text = c.args.text.now in
    let at = c.in-Some.at in
    let found = rw c.as_bytes.ensures.value at c.in-Some.ensures.found in
    let space : get_or text at 0 < 128 = omega (arith, found.1) in
    λ _. IsCharBoundary-after_ascii text at c.utf8.text found.0 space
