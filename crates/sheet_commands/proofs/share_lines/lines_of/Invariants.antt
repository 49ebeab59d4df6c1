use Rattle.std.proofs.Common.{◌≡◌, take}
use Rattle.std.specs.Prelude.{string_bytes}
use Rattle.std.specs.List.{flat_map}
use Rattle.sheet_commands.specs.ShareLines.{share_line}
use Rattle.sheet_commands.proofs.share_lines.lines_of.Given as goal

abbrev pub invariant-loop-share : goal.invariant-loop-share
invariant-loop-share g l = string_bytes l.text ≡ flat_map share_line (take l.share-index l.shares)
