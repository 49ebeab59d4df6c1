use Rattle.std.proofs.Common.{ℕ, List, take, drop, sym, subst, arith}
use Rattle.std.proofs.lemmas.List.{take_rest}
use Rattle.std.proofs.Math.Seq.{take-add}
use Rattle.ftp_terms.specs.declared.data_type.DataType.TheVariants.{Ascii}
use Rattle.data_pump.specs.WireText.{cr_if, ReceivesOctets}
use Rattle.data_pump.specs.Runs.{PutsRun}
use Rattle.data_pump.proofs.RunLemmas.{receives-more}
use Rattle.data_pump.proofs.runs.receive_text.Goals as goal

pub runs-preserved : goal.runs-preserved
runs-preserved c =
    let all = c.args.piece.now in
    let from = c.runs.from in
    let run = c.receive_run-received.ensures in
    let taken = c.receive_run-received.result.0 in
    let next = c.receive_run-received.result.2 in
    let before = take c.runs.count c.runs.text in
    let after = take c.receive_run-received.result.1 c.receive_run-received.new.text in
    let puts : PutsRun c.runs.held (take taken (drop from all)) before after next =
    subst (λ (xs : List ℕ). PutsRun c.runs.held (take taken xs) before after next) (take_rest all from) run.received in
    record {
      within = omega (arith, run.within);
      few = omega (arith, run.most, c.runs.invariant.few);
      received =
          subst (λ (xs : List ℕ). ReceivesOctets Ascii (cr_if c.args.holds_cr) xs after (cr_if next)) (sym (take-add from taken all))
          (receives-more c.args.holds_cr c.runs.held next (take from all) (take taken (drop from all)) before after c.runs.invariant.received puts);
    }
