use Rattle.std.proofs.Common.{◌++◌, ◌∷◌, [], take, sym, ap, ◌∙◌, arith, append_assoc}
use Rattle.data_pump.specs.WireText.{sent_text}
use Rattle.data_pump.proofs.RunLemmas.{sent-run, sent-line}
use Rattle.data_pump.proofs.runs.send_line.Goals as goal

pub returns-then-run-piece-clause-sent : goal.returns-then-run-piece-clause-sent
returns-then-run-piece-clause-sent c =
    c.put_run-end.ensures.put
    ∙ ap (λ l. take c.args.count c.args.wire.now ++ l) (sym (sent-run (take c.run_before-run.result c.args.piece.now) c.run_before-run.ensures.run))

pub returns-clause-sent : goal.returns-clause-sent
returns-clause-sent c =
    let before = take c.args.count c.args.wire.now in
    let run = take c.run_before-run.result c.args.piece.now in
    let cut = c.run_before-run.ensures.next (omega (arith, c.if-run-piece.false, c.run_before-run.ensures.within)) in
    c.put_line_end.ensures.put
    ∙ (ap (λ l. l ++ 13 ∷ 10 ∷ []) c.put_run-end.ensures.put
    ∙ (append_assoc before run (13 ∷ 10 ∷ [])
    ∙ ap (λ l. before ++ l) (sym (ap sent_text cut ∙ sent-line run c.run_before-run.ensures.run))))
