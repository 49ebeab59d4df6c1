use Rattle.std.proofs.Common.{ap, ◌∙◌, ◌++◌}
use Rattle.std.specs.Prelude.{string_bytes}
use Rattle.ftp_wire.specs.Commands.{with_texts}
use Rattle.ftp_wire.specs.Written.{written}
use Rattle.ftp_wire.proofs.ReadsBack.{written_back}
use Rattle.ftp_wire.proofs.writer.write_command.Goals as goal

pub returns-clause-line : goal.returns-clause-line
returns-clause-line g c =
    ap (λ v. v.items) c.into_bytes.ensures.value ∙ c.in_ok-push_command.ensures.appended
    ∙ ap (λ t. t ++ written (with_texts string_bytes c.args.command.now)) c.new-out.ensures.bytes

pub returns-clause-read_back : goal.returns-clause-read_back
returns-clause-read_back g c can = written_back (with_texts string_bytes c.args.command.now) _ can (returns-clause-line g c)
