use Rattle.std.proofs.Common.{◌≡◌, arith}
use Rattle.std.proofs.lemmas.Grind.{common_steps}
use Rattle.std.specs.String.{string_bytes}
use Rattle.ftp_reply.specs.Quoting.{quoted}
use Rattle.ftp_reply.proofs.LineLemmas.{line_quoted}
use Rattle.ftp_reply.proofs.quoting.quoted_path.Goals as goal

pub made-requires : goal.made-requires
made-requires g c =
    let reported : string_bytes c.push_str-2.new.self ≡ quoted c.args.path.now = grind (arith, common_steps) in
    record { line = line_quoted c.args.path.now (string_bytes c.push_str-2.new.self) reported c.requires.line }
