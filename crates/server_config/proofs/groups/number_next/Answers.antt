use Rattle.std.proofs.Common.{◌≡◌, rules}
use Rattle.server_config.proofs.Numbering.{number-inserted}
use Rattle.server_config.proofs.groups.number_next.Goals as goal

pub returns-clause-next : goal.returns-clause-next
returns-clause-next c =
    let same : c.in-Ok.number ≡ c.args.index = search rules in
    number-inserted c.in_ok-name.name c.args.group.now.name.now c.in-Ok.number c.args.index c.args.numbers.now c.insert.new.self c.in_ok-name.ensures.ok same c.in_ok-insert.ensures.updates
