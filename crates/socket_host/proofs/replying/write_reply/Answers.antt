use Rattle.std.proofs.Common.{ℕ, ◌+◌, List, take, drop, sym, subst, arith}
use Rattle.std.proofs.lemmas.List.{take-append-drop, take_rest}
use Rattle.std.specs.Io.KnownBytes.{Appends}
use Rattle.socket_host.specs.Replied.{AppendsPart}
use Rattle.socket_host.proofs.Writing.{appends_keeps, appends_more, on_err, take_both}
use Rattle.socket_host.proofs.replying.write_reply.Goals as goal

pub returns-in_err-count-clause-part : goal.returns-in_err-count-clause-part
returns-in_err-count-clause-part g c = on_err _ {P = AppendsPart (g.W.Write.contents c.args.to.now) (g.W.Write.contents c.write_some.new.to) c.args.octets.now} (
  take c.loop-done.done c.args.octets.now,
  drop c.loop-done.done c.args.octets.now,
  sym (take-append-drop c.loop-done.done c.args.octets.now),
  appends_keeps _ _ _ _ c.loop-done.invariant.taken c.in_err-count.ensures.kept,
)

pub returns-then-has_waited-clause-part : goal.returns-then-has_waited-clause-part
returns-then-has_waited-clause-part g c = (
  take (c.loop-done.done + c.in_ok-count.count) c.args.octets.now,
  drop (c.loop-done.done + c.in_ok-count.count) c.args.octets.now,
  sym (take-append-drop (c.loop-done.done + c.in_ok-count.count) c.args.octets.now),
  subst (λ (x : List ℕ). Appends (g.W.Write.contents c.args.to.now) (g.W.Write.contents c.write_some.new.to) x)
      (take_both c.loop-done.done c.in_ok-count.count c.args.octets.now)
      (appends_more _ _ _ _ _ c.loop-done.invariant.taken
      (subst (λ (x : List ℕ). Appends (g.W.Write.contents c.loop-done.to) (g.W.Write.contents c.write_some.new.to) (take c.in_ok-count.count x))
      (take_rest c.args.octets.now c.loop-done.done) c.in_ok-count.ensures.octets)),
)

pub loop-done-preserved : goal.loop-done-preserved
loop-done-preserved g c = record {
  within = omega (arith, c.loop-done.invariant.within, c.in_ok-count.ensures.bound, c.loop-done-test.true);
  taken = subst (λ (x : List ℕ). Appends (g.W.Write.contents c.args.to.now) (g.W.Write.contents c.write_some.new.to) x)
      (take_both c.loop-done.done c.in_ok-count.count c.args.octets.now)
      (appends_more _ _ _ _ _ c.loop-done.invariant.taken
      (subst (λ (x : List ℕ). Appends (g.W.Write.contents c.loop-done.to) (g.W.Write.contents c.write_some.new.to) (take c.in_ok-count.count x))
      (take_rest c.args.octets.now c.loop-done.done) c.in_ok-count.ensures.octets));
}
