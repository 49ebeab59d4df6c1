use Rattle.std.proofs.Common.{◌≡◌, ◌++◌, map, take}
use Rattle.std.specs.List.{flat_map}
use Rattle.ftp_terms.specs.LineText.{text_of}
use Rattle.ftp_reply.specs.Replies.{inner_line}
use Rattle.ftp_reply.proofs.replies.push_inner_lines.Given as goal

abbrev pub invariant-loop-text : goal.invariant-loop-text
invariant-loop-text g l =
    l.buffer.items ≡ l.initial.buffer.items ++ flat_map inner_line (map text_of (take l.text-index l.inner))
