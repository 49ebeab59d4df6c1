use Rattle.std.proofs.Common.{rules}
use Rattle.std.specs.Prelude.{option_map, string_bytes}
use Rattle.machine_parts.proofs.Reloading.{hindered, is-next, keeps-names, past-fault, unnumbered}
use Rattle.machine_parts.specs.Reloads.{IsNotTaken}
use Rattle.machine_parts.proofs.following.next_config.Goals as goal

pub returns-in-Some-clause-refused : goal.returns-in-Some-clause-refused
returns-in-Some-clause-refused c =
    hindered c.args.path.now c.args.octets.now c.args.at_start.now c.args.known.now c.in_ok-read.read c.in_ok-read.ensures.config
    (option_map string_bytes c.in-Some.reason) c.in-Some.ensures.hindrance

pub returns-in_err-config-clause-refused : goal.returns-in_err-config-clause-refused
returns-in_err-config-clause-refused c =
    let not : IsNotTaken c.args.path.now c.args.octets.now c.args.at_start.now c.args.known.now (option_map string_bytes c.in_err-config.field-0.0) =
    unnumbered c.args.path.now c.args.octets.now c.args.at_start.now c.args.known.now c.in_ok-read.read c.in_ok-read.ensures.config c.in_default.ensures.hindrance
    (option_map string_bytes c.in_err-config.field-0.0) c.in_err-config.ensures.refused in
    search (rules, not)

pub returns-in_err-limits-clause-refused : goal.returns-in_err-limits-clause-refused
returns-in_err-limits-clause-refused c =
    let not : IsNotTaken c.args.path.now c.args.octets.now c.args.at_start.now c.args.known.now (option_map string_bytes c.in_err-limits.field-0.0) =
    past-fault c.args.path.now c.args.octets.now c.args.at_start.now c.args.known.now c.in_ok-read.read c.in_ok-read.ensures.config c.in_default.ensures.hindrance
    c.in_ok-config.config c.in_ok-config.ensures.numbered (option_map string_bytes c.in_err-limits.field-0.0) c.in_err-limits.ensures.refused in
    search (rules, not)

pub returns-clause-next : goal.returns-clause-next
returns-clause-next c =
    is-next c.args.octets.now c.args.at_start.now c.args.known.now c.in_ok-read.read c.in_ok-config.config c.in_ok-limits.limits c.in_ok-read.ensures.config
    c.in_default.ensures.hindrance c.in_ok-config.ensures.numbered c.in_ok-limits.ensures.limits c.parts_of.result c.facts_of-facts.result
    c.parts_of.ensures.parts c.parts_of.ensures.facts c.facts_of-facts.ensures.facts

pub returns-clause-keeps : goal.returns-clause-keeps
returns-clause-keeps c =
    keeps-names c.args.octets.now c.args.at_start.now c.args.known.now c.in_ok-read.read c.in_ok-config.config c.in_ok-limits.limits c.in_ok-read.ensures.config
    c.in_default.ensures.hindrance c.in_ok-config.ensures.numbered c.in_ok-limits.ensures.limits c.parts_of.result c.parts_of.ensures.parts
