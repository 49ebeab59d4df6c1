-- Ports and facts stand on one line.
use Rattle.std.proofs.Common.{ℕ, ◌/◌, ◌%◌, Bool, true, false, List, [], ◌∷◌, refl, codes}
use Rattle.std.specs.Prelude.{slice_index}
use Rattle.ftp_terms.specs.declared.facts.Facts.{Facts}
use Rattle.ftp_terms.specs.Lines.{IsLine}
use Rattle.ftp_terms.proofs.LineLemmas.{IsPlain, both, either, plain, plain_decimal}
use Rattle.ftp_wire.specs.declared.commands.HostPort.{HostPort}
use Rattle.ftp_wire.specs.Written.{facts_text, fact_text, port_text, starred_fact, starred_facts_text}

comma_then : {text : List ℕ} → IsPlain text → IsPlain (44 ∷ text)
comma_then line = both (plain (codes ",") refl) line

pub line_port : (port : HostPort) → IsLine (port_text port)
unfolding port_text
line_port port =
    let address = port.address in
    let ports = both (plain_decimal (port.port / 256)) (comma_then (plain_decimal (port.port % 256))) in
    let fourth = both (plain_decimal (slice_index address 3)) (comma_then ports) in
    let third = both (plain_decimal (slice_index address 2)) (comma_then fourth) in
    let second = both (plain_decimal (slice_index address 1)) (comma_then third) in
    (both (plain_decimal (slice_index address 0)) (comma_then second)).is

plain_fact : (named : Bool) {name : List ℕ} → IsPlain name → IsPlain (fact_text named name)
plain_fact true name = name
plain_fact false name = plain [] refl

pub line_facts : (facts : Facts) → IsLine (facts_text facts)
unfolding facts_text
line_facts facts =
    (both (plain_fact facts.kind (plain (codes "type;") refl))
    (both (plain_fact facts.size (plain (codes "size;") refl))
    (both (plain_fact facts.modify (plain (codes "modify;") refl))
    (plain_fact facts.perm (plain (codes "perm;") refl))))).is

plain_starred : (in_force : Bool) {name : List ℕ} → IsPlain name → IsPlain (starred_fact in_force name)
plain_starred in_force name = both name (either in_force (plain (codes "*;") refl) (plain (codes ";") refl))

pub line_starred : (facts : Facts) → IsLine (starred_facts_text facts)
unfolding starred_facts_text
line_starred facts =
    (both (plain_starred facts.kind (plain (codes "type") refl))
    (both (plain_starred facts.size (plain (codes "size") refl))
    (both (plain_starred facts.modify (plain (codes "modify") refl))
    (plain_starred facts.perm (plain (codes "perm") refl))))).is
