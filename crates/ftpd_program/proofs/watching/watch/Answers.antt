use Rattle.std.proofs.Common.{◌++◌, ◌∷◌, []}
use Rattle.ftpd_program.proofs.Shown.{screens_more, texts_more}
use Rattle.ftpd_program.proofs.watching.watch.Goals as goal

pub looks-preserved : goal.looks-preserved
looks-preserved g c =
    let before = c.looks.invariant in
    let one = c.in_ok-write_screen.ensures.screen in
    (before.0 ++ one.0 ∷ [], screens_more c.args.rows before.0 one.0 before.1 one.1, texts_more _ _ _ before.0 one.0 before.2 one.2)
