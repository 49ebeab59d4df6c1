use Rattle.std.proofs.Common.{ap, rules}
use Rattle.std.specs.Prelude.{string_bytes}
use Rattle.machine_parts.specs.Answers.{owner_mode}
use Rattle.machine_parts.proofs.Files.{file-if}
use Rattle.machine_parts.proofs.starting.running_at.Goals as goal

pub returns-in-Some : goal.returns-in-Some
returns-in-Some c = record {
  file = file-if owner_mode c.args.paths c.in-Some.path c.in-Some.beside c.new-file.result (first_of (cc, search rules))
      (ap string_bytes c.new-file.ensures.path) (ap string_bytes c.new-file.ensures.beside) c.new-file.ensures.mode;
}
