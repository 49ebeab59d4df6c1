use Rattle.std.proofs.Common.{ℕ, List, take, drop, sym, subst, arith}
use Rattle.std.proofs.lemmas.List.{take-append-drop, take_rest}
use Rattle.std.specs.Io.KnownBytes.{Appends}
use Rattle.text_io.specs.Parts.{AppendsPart}
use Rattle.text_io.proofs.Writing.{appends_keeps, appends_more, on_err, take_both}
use Rattle.text_io.proofs.ends.write_through.Goals as goal

pub returns-in_err-count-clause-part : goal.returns-in_err-count-clause-part
returns-in_err-count-clause-part g c = on_err _ {P = AppendsPart (g.W.Write.contents c.args.writer.now) (g.W.Write.contents c.write_once.new.writer) c.args.text.now} (
  take c.loop-done.done c.args.text.now,
  drop c.loop-done.done c.args.text.now,
  sym (take-append-drop c.loop-done.done c.args.text.now),
  appends_keeps _ _ _ _ c.loop-done.invariant.taken c.in_err-count.ensures.kept,
)

pub loop-done-preserved : goal.loop-done-preserved
loop-done-preserved g c = record {
  within = omega (arith, c.loop-done.invariant.within, c.in_ok-count.ensures.bound, c.loop-done-test.true);
  taken = subst (λ (x : List ℕ). Appends (g.W.Write.contents c.args.writer.now) (g.W.Write.contents c.write_once.new.writer) x)
      (take_both c.loop-done.done c.in_ok-count.count c.args.text.now)
      (appends_more _ _ _ _ _ c.loop-done.invariant.taken
      (subst (λ (x : List ℕ). Appends (g.W.Write.contents c.loop-done.writer) (g.W.Write.contents c.write_once.new.writer) (take c.in_ok-count.count x))
      (take_rest c.args.text.now c.loop-done.done) c.in_ok-count.ensures.octets));
}
