use Rattle.std.proofs.Common.{ap, rules, ◌∙◌}
use Rattle.std.specs.Prelude.{string_bytes}
use Rattle.machine_parts.specs.Answers.{group_mode}
use Rattle.machine_parts.proofs.Files.{file-if}
use Rattle.machine_parts.proofs.starting.status_at.Goals as goal

pub returns-in-Ok-clause-file : goal.returns-in-Ok-clause-file
returns-in-Ok-clause-file c =
    file-if group_mode c.args.paths c.in-Some.path c.in-Some.beside c.try_out.new.self (first_of (cc, search rules))
    (ap string_bytes (c.try_out.ensures.path ∙ (c.new-file.ensures.path ∙ c.in_ok-path.ensures.path))) (ap string_bytes (c.try_out.ensures.beside ∙ c.new-file.ensures.beside))
    (c.try_out.ensures.mode ∙ c.new-file.ensures.mode)
