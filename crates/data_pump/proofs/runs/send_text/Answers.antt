use Rattle.std.proofs.Common.{◌≡◌, ◌++◌, ℕ, List, take, drop, sym, ap, ◌∙◌, subst, arith}
use Rattle.std.proofs.lemmas.List.{take_rest}
use Rattle.std.proofs.Math.Seq.{take-add}
use Rattle.ftp_terms.specs.declared.data_type.DataType.TheVariants.{Ascii}
use Rattle.data_pump.specs.WireText.{sent_text}
use Rattle.data_pump.proofs.WireLemmas.{sent-append}
use Rattle.data_pump.proofs.runs.send_text.Goals as goal

pub lines-preserved : goal.lines-preserved
lines-preserved c =
    let all = c.args.piece.now in
    let from = c.lines.from in
    let taken = c.send_line-sent.result.0 in
    let line = c.send_line-sent.ensures in
    let before = take c.lines.count c.lines.wire in
    let after = take c.send_line-sent.result.1 c.send_line-sent.new.wire in
    let put : after ≡ before ++ sent_text (take taken (drop from all)) =
    subst (λ (xs : List ℕ). after ≡ before ++ sent_text (take taken xs)) (take_rest all from) line.sent in
    record {
      within = omega (arith, line.within);
      most = omega (arith, line.most, c.lines.invariant.most);
      least = omega (arith, line.least, c.lines.invariant.least);
      sent =
          put
          ∙ (ap (λ l. l ++ sent_text (take taken (drop from all))) c.lines.invariant.sent
          ∙ sym (ap sent_text (take-add from taken all) ∙ sent-append Ascii (take from all) (take taken (drop from all))));
    }
