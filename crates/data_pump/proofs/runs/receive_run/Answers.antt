use Rattle.std.proofs.Common.{◌≡◌, ◌<◌, ◌++◌, ℕ, List, length, take, get_or, sym, ap, ◌∙◌, subst, arith, append_assoc, take_all, false}
use Rattle.ftp_terms.specs.declared.data_type.DataType.TheVariants.{Ascii}
use Rattle.data_pump.specs.WireText.{cr_if, ReceivesOctets}
use Rattle.data_pump.specs.Runs.{HoldsNo, held_cr}
use Rattle.data_pump.proofs.RunLemmas.{receives-rest, receives-cut}
use Rattle.data_pump.proofs.runs.receive_run.Goals as goal

pub returns-then-run-piece-clause-received : goal.returns-then-run-piece-clause-received
returns-then-run-piece-clause-received c =
    let all = c.args.piece.now in
    let held = held_cr c.args.holds_cr (get_or all 0 0) in
    let run = take c.run_before-run.result all in
    let whole : run ≡ all = take_all _ all (omega (arith, c.if-run-piece.true)) in
    record {
      text = held ++ run;
      put =
          c.put_run-end.ensures.put
          ∙ (ap (λ l. l ++ run) c.put_held_cr-start.ensures.put ∙ append_assoc (take c.args.count c.args.text.now) held run);
      meant =
          subst (λ (xs : List ℕ). ReceivesOctets Ascii (cr_if c.args.holds_cr) xs (held ++ xs) (cr_if false)) (sym whole)
          (receives-rest c.args.holds_cr all c.requires.some (subst (HoldsNo 13) whole c.run_before-run.ensures.run));
    }

pub returns-clause-received : goal.returns-clause-received
returns-clause-received c =
    let all = c.args.piece.now in
    let held = held_cr c.args.holds_cr (get_or all 0 0) in
    let run = take c.run_before-run.result all in
    let some : c.run_before-run.result < length all = omega (arith, c.if-run-piece.false, c.run_before-run.ensures.within) in
    record {
      text = held ++ run;
      put =
          c.put_run-end.ensures.put
          ∙ (ap (λ l. l ++ run) c.put_held_cr-start.ensures.put ∙ append_assoc (take c.args.count c.args.text.now) held run);
      meant = receives-cut c.args.holds_cr all c.run_before-run.result some c.run_before-run.ensures.run (c.run_before-run.ensures.next some);
    }
