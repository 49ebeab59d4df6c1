use Rattle.std.proofs.Common.{◌<◌, rules, arith, ap, take, drop, subst, sym, ◌∙◌}
use Rattle.std.proofs.lemmas.List.{take_rest}
use Rattle.std.proofs.Math.Seq.{take-add}
use Rattle.std.specs.Io.KnownBytes.{Appends}
use Rattle.std.proofs.KnownBytes.{Appends-trans}
use Rattle.data_pump.specs.Counts.{CallCounts, next}
use Rattle.data_pump.proofs.KnownLemmas.{appended_none}
use Rattle.data_pump.proofs.writing.write_some.Goals as goal

pub writes-preserved : goal.writes-preserved
writes-preserved g c =
    let all = c.args.octets.now in
    let old = g.K.Write.contents c.args.connection.now.end in
    let mid = g.K.Write.contents c.writes.connection.end in
    let new = g.K.Write.contents c.write-count.new.self.end in
    let before = c.writes.invariant in
    let some : 0 < c.write-count.result = omega (arith, c.if-count-eq0.false) in
    let now : Appends mid new (take c.write-count.result (drop c.writes.moved all)) =
    subst (λ xs. Appends mid new (take c.write-count.result xs)) (take_rest all c.writes.moved) c.write-count.ensures.bytes in
    record {
      within = search (arith, rules);
      written = subst (Appends old new) (sym (take-add c.writes.moved c.write-count.result all)) (Appends-trans old mid new _ _ before.written now);
      passed = ap (λ (calls : CallCounts). calls.failed) (c.write-count.ensures.passed some) ∙ before.passed;
    }

pub returns-then-count-eq0-clause-written : goal.returns-then-count-eq0-clause-written
returns-then-count-eq0-clause-written g c =
    let all = c.args.octets.now in
    let old = g.K.Write.contents c.args.connection.now.end in
    let mid = g.K.Write.contents c.writes.connection.end in
    let new = g.K.Write.contents c.write-count.new.self.end in
    appended_none old mid new (take c.writes.moved all) _ c.write-count.result c.if-count-eq0.true c.writes.invariant.written
    c.write-count.ensures.bytes

pub returns-then-count-eq0-clause-failed : goal.returns-then-count-eq0-clause-failed
returns-then-count-eq0-clause-failed g c = λ few.
    ap (λ (calls : CallCounts). calls.failed) (c.write-count.ensures.failed c.if-count-eq0.true) ∙ ap next c.writes.invariant.passed
