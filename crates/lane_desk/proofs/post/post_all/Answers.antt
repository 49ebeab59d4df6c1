use Rattle.std.proofs.Common.{rules, ◌≡◌, ◌<◌, length, ℕ, ◌-◌, get_or, set, ap, ◌∙◌, arith}
use Rattle.grant_ledger.specs.Books.{PurseView, GrantView}
use Rattle.desk_rule.specs.Lanes.{has_posted}
use Rattle.lane_desk.specs.Traces.{traces}
use Rattle.lane_desk.specs.Posted.{trace_at}
use Rattle.lane_desk.proofs.PostedLemmas.{due_here, due_next, rest_next, sum_next, posted_next}
use Rattle.lane_desk.proofs.post.post_all.Goals as goal

pub loop-i-preserved : goal.loop-i-preserved
loop-i-preserved g c =
    let l = c.loop-i in
    let k = l.invariant in
    let ls = c.args.lanes.now in
    let ns = c.args.grants.now in
    let ts = traces l.round in
    let us = traces c.post.new.self in
    let near : l.i < length ls = search rules in
    let lane : ℕ = get_or ls l.i 0 in
    let amount : c.split-grant.result.octets ≡ get_or ns l.i 0 = ap (λ (q : GrantView). q.octets) c.split-grant.ensures.grant in
    let left : c.split-grant.new.self.left ≡ l.purse.left - get_or ns l.i 0 = ap (λ (p : PurseView). p.left) c.split-grant.ensures.left in
    let here = due_here ls ts l.i near k.due in
    let is : us ≡ set ts lane (has_posted (get_or ns l.i 0) (trace_at ts lane)) = c.post.ensures.posted ∙ ap (λ (n : ℕ). set ts lane (has_posted n (trace_at ts lane))) amount in
    let next = sum_next ns l.i (omega (arith, near, c.requires.each)) in
    record {
      same = (c.post.ensures.same.0 ∙ k.same.0, c.post.ensures.same.1 ∙ k.same.1, c.post.ensures.same.2 ∙ k.same.2);
      left = omega (arith, left, k.left, next);
      few = omega (arith, posted_next ts us lane (get_or ns l.i 0) here.0 is, k.few, next);
      due = due_next ls ts us (has_posted (get_or ns l.i 0) (trace_at ts lane)) l.i near k.due is;
      rest = rest_next ls ns ts us l.i near c.requires.each is ∙ k.rest;
    }
