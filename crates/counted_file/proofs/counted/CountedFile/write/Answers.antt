use Rattle.std.proofs.Common.{ℕ, List, take, subst, arith, ◌∙◌}
use Rattle.std.proofs.lemmas.List.{take_rest}
use Rattle.std.specs.Io.KnownBytes.{Appends}
use Rattle.counted_file.proofs.Writing.{appends_more, take_both}
use Rattle.counted_file.proofs.counted.CountedFile.write.Goals as goal

pub loop-done-preserved : goal.loop-done-preserved
loop-done-preserved g c = record {
  within = omega (arith, c.loop-done.invariant.within, c.in_ok-count.ensures.bound, c.loop-done-test.true);
  taken = subst (λ (x : List ℕ). Appends (g.F.Write.contents c.args.self.now.file) (g.F.Write.contents c.write_some.new.self.file) x)
      (take_both c.loop-done.done c.in_ok-count.count c.args.octets.now)
      (appends_more _ _ _ _ _ c.loop-done.invariant.taken
      (subst (λ (x : List ℕ). Appends (g.F.Write.contents c.loop-done.self.file) (g.F.Write.contents c.write_some.new.self.file) (take c.in_ok-count.count x))
      (take_rest c.args.octets.now c.loop-done.done) c.in_ok-count.ensures.octets));
  failed = c.in_ok-count.ensures.counted.1 ∙ c.loop-done.invariant.failed;
}
