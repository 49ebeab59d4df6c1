use Rattle.std.proofs.Common.{ℕ, List}
use Rattle.std.specs.Io.KnownBytes.{Appends}
use Rattle.ftpd_program.specs.Watching.{AreScreens, one_text}
use Rattle.ftpd_program.proofs.watching.watch.Given as goal

-- what was written is screens
abbrev pub invariant-looks : goal.invariant-looks
invariant-looks g l =
    (screens : List (List ℕ)) × AreScreens l.rows screens × Appends (g.W.TextWriter.contents l.fn.output) (g.W.TextWriter.contents l.output) (one_text screens)
