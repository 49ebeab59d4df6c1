use Rattle.std.proofs.Common.{◌≡◌, ap, ◌∙◌, arith}
use Rattle.grant_ledger.specs.Books.{GrantView}
use Rattle.lane_desk.specs.Traces.{traces}
use Rattle.lane_desk.proofs.PostedLemmas.{refuse_step}
use Rattle.lane_desk.proofs.post.refuse_all.Goals as goal

pub loop-i-preserved : goal.loop-i-preserved
loop-i-preserved g c =
    let k = c.loop-i.invariant in
    let none : c.none.result.octets ≡ 0 = ap (λ (q : GrantView). q.octets) c.none.ensures.grant in
    let s = refuse_step c.args.asks.now _ (traces c.loop-i.round) (traces c.post.new.self) c.loop-i.i c.none.result.octets c.loop-i-test.true k.due c.post.ensures.posted none in
    record {
      same = (c.post.ensures.same.0 ∙ k.same.0, c.post.ensures.same.1 ∙ k.same.1, c.post.ensures.same.2 ∙ k.same.2);
      few = omega (arith, k.few, s.0);
      due = s.1;
      rest = s.2 ∙ k.rest;
    }
