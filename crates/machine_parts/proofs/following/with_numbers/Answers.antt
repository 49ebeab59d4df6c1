use Rattle.std.proofs.Common.{map, rules}
use Rattle.std.specs.Prelude.{option_map, string_bytes}
use Rattle.machine_parts.proofs.Taking.{numbered-by, unnumbered-by}
use Rattle.machine_parts.proofs.following.with_numbers.Goals as goal

pub returns-in-Ok-renumbered-clause-numbered : goal.returns-in-Ok-renumbered-clause-numbered
returns-in-Ok-renumbered-clause-numbered c =
    numbered-by c.args.config c.args.known.now c.in-Ok-renumbered.config c.in-Ok.earlier (map string_bytes c.deref.result.now)
    c.in-Ok.ensures.numbers c.in-Ok-renumbered.ensures.renumbered (cc)

pub returns : goal.returns
returns c = record {
  numbered = tt;
  refused = unnumbered-by c.args.config c.args.known.now c.in-Ok.earlier (map string_bytes c.deref.result.now) c.in-Err.fault (option_map string_bytes c.words.result)
      c.in-Ok.ensures.numbers c.in-Err.ensures.refused (cc) (search rules);
}
