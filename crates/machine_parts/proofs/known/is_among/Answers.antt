use Rattle.std.proofs.Common.{◌∙◌}
use Rattle.machine_parts.proofs.Searching.{is-among}
use Rattle.machine_parts.proofs.known.is_among.Goals as goal

pub returns : goal.returns
returns c = record {
  among = c.is_ok.ensures.value ∙ is-among c.args.numbers.now c.args.number c.binary_search.result c.binary_search.ensures.position c.requires.rising;
}
