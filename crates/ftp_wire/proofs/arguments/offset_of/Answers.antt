use Rattle.std.proofs.Common.{arith, refl, rules, ◌≤◌, length}
use Rattle.ftp_wire.specs.Arguments.{offset_of}
use Rattle.ftp_wire.proofs.Numbers.{offset_exact}
use Rattle.std.proofs.lemmas.Bool.{le-leb}
use Rattle.ftp_wire.proofs.arguments.offset_of.Goals as goal

pub returns-in-Some : goal.returns-in-Some
unfolding offset_of
returns-in-Some c =
    let text = c.args.text.now in
    let short : length text ≤ 19 = search (rules, arith) in
    record { offset = rw (le-leb _ _ short, offset_exact text c.in-Some.offset _ refl short (rw c.as_bytes.ensures.value at c.in-Some.ensures.number)) refl }
