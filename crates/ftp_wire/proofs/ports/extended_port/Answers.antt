use Rattle.std.proofs.Common.{sym, ap, ◌∙◌, ◌≡◌, ◌==◌, ◌∷◌, false, not, true, Bool}
use Rattle.ftp_wire.specs.Arguments.{extended_parts}
use Rattle.ftp_wire.proofs.Parts.{not_last}
use Rattle.ftp_wire.proofs.ports.extended_port.Goals as goal

not_true : (b : Bool) → not b ≡ true → b ≡ false
not_true true e = cc
not_true false e = cc

pub returns-then-not-is_empty : goal.returns-then-not-is_empty
returns-then-not-is_empty c =
    let protocol = c.in_ok-protocol.protocol.now in
    let address = c.in_ok-address.address.now in
    let port = c.in_ok-port.port.now in
    let whole = c.in_ok-protocol.ensures.parts ∙ ap (λ t. protocol ∷ t) (c.in_ok-address.ensures.parts ∙ ap (λ t. address ∷ t) c.in_ok-port.ensures.parts) in
    let some = sym c.is_empty.ensures ∙ c.if-not-is_empty.true in
    record { port = sym (ap extended_parts whole ∙ not_last protocol address port (λ octet. octet == c.args.delimiter) c.in_ok-port.rest.now some) }
