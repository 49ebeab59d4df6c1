use Rattle.std.proofs.Common.{rules, ap, ◌∙◌, sym, refl, arith, ℕ, ◌+◌, ◌-◌, ◌<◌, false, set}
use Rattle.desk_rule.specs.Lanes.{has_posted, trace_in, is_due}
use Rattle.lane_desk.specs.Held.{stack, round_in}
use Rattle.lane_desk.proofs.RoundCalls.{all_in, posting_front, posts_front, posts_then, left_slot, knows_posted, answering_of, posted_not_due, trace_is, trace_answered}
use Rattle.desk_rule.proofs.Keeps.{sum_more}
use Rattle.lane_desk.proofs.round.RoundDesk.post.Goals as goal

pub rotate_down-requires : goal.rotate_down-requires
rotate_down-requires g c = let n : ℕ = c.args.self.now.lanes in let i : ℕ = c.args.lane in let near : i < n = c.requires.lane in
    (omega arith, search rules, c.args.self.now.few, all_in c.args.self.now.held n (n - n) _ (omega arith) c.args.self.now.knows.slots_are)

pub store-requires : goal.store-requires
store-requires g c =
    let n : ℕ = c.args.self.now.lanes in
    let i : ℕ = c.args.lane in
    let near : i < n = c.requires.lane in
    let k = c.args.self.now.knows in
    let f = posting_front _ _ _ n c.args.self.now.held i (n - (i + 1)) c.args.grant k near c.requires.due c.rotate_down.ensures.2 c.exchange.ensures.3 in
    (search rules, search rules, posts_front _ _ _ _ n c.args.self.now.held i c.args.grant _ k near c.requires.due c.requires.grant c.requires.most f)

pub rotate_down-requires-2 : goal.rotate_down-requires-2
rotate_down-requires-2 g c =
    let n : ℕ = c.args.self.now.lanes in
    let i : ℕ = c.args.lane in
    let near : i < n = c.requires.lane in
    let k = c.args.self.now.knows in
    let f = posting_front _ _ _ n c.args.self.now.held i (n - (i + 1)) c.args.grant k near c.requires.due c.rotate_down.ensures.2 c.exchange.ensures.3 in
    let t = posts_then _ _ _ _ i c.args.grant f c.store.ensures.2 in
    (search rules, omega arith, c.args.self.now.few, left_slot c.args.self.now.held i (n - i) (n - (i + 1)) _ (omega (arith, near, k.room)) (ap (λ m. m.1) t) (omega arith))

pub invariant_of-self : goal.invariant_of-self
invariant_of-self g c =
    let n : ℕ = c.args.self.now.lanes in
    let i : ℕ = c.args.lane in
    let near : i < n = c.requires.lane in
    let k = c.args.self.now.knows in
    let m0 = c.args.self.now.seat.me in
    let f = posting_front _ _ _ n c.args.self.now.held i (n - (i + 1)) c.args.grant k near c.requires.due c.rotate_down.ensures.2 c.exchange.ensures.3 in
    let t = posts_then _ _ _ _ i c.args.grant f c.store.ensures.2 in
    record {
      few = c.args.self.now.few;
      knows = knows_posted m0 _ n (n - 0) c.args.self.now.held i (has_posted c.args.grant.octets (trace_in i m0.0)) false k near (omega arith) (omega (arith, c.requires.most, sum_more (trace_in i m0.0).posted c.args.grant.octets)) (posted_not_due c.args.grant.octets (trace_in i m0.0) (ap is_due (trace_is m0.0 i k.view_is) ∙ c.requires.due))
          (c.rotate_down-2.ensures.2 ∙ ap (λ m. (m.0, stack (set c.args.self.now.held i false) 0 (n - 0))) t);
      answers = λ e. sym (answering_of m0 _ i (has_posted c.args.grant.octets (trace_in i m0.0)) _ k.view_is (c.rotate_down-2.ensures.2 ∙ ap (λ m. (m.0, stack (set c.args.self.now.held i false) 0 (n - 0))) t)) ∙ e;
    }

pub returns-clause-same : goal.returns-clause-same
returns-clause-same g c =
    let n : ℕ = c.args.self.now.lanes in
    let i : ℕ = c.args.lane in
    let k = c.args.self.now.knows in
    let m0 = c.args.self.now.seat.me in
    let f = posting_front _ _ _ n c.args.self.now.held i (n - (i + 1)) c.args.grant k c.requires.lane c.requires.due c.rotate_down.ensures.2 c.exchange.ensures.3 in
    let t = posts_then _ _ _ _ i c.args.grant f c.store.ensures.2 in
    (search rules, refl, ap (λ m. (round_in m.0).back) c.rotate_down-2.ensures.2 ∙ ap (λ m. (round_in m.0).back) t ∙ ap (λ s. s.back) (trace_answered m0.0 i (has_posted c.args.grant.octets (trace_in i m0.0)) k.view_is))

pub returns-clause-posted : goal.returns-clause-posted
returns-clause-posted g c =
    let n : ℕ = c.args.self.now.lanes in
    let i : ℕ = c.args.lane in
    let k = c.args.self.now.knows in
    let m0 = c.args.self.now.seat.me in
    let f = posting_front _ _ _ n c.args.self.now.held i (n - (i + 1)) c.args.grant k c.requires.lane c.requires.due c.rotate_down.ensures.2 c.exchange.ensures.3 in
    let t = posts_then _ _ _ _ i c.args.grant f c.store.ensures.2 in
    ap (λ m. (round_in m.0).traces) c.rotate_down-2.ensures.2 ∙ ap (λ m. (round_in m.0).traces) t ∙ ap (λ s. s.traces) (trace_answered m0.0 i (has_posted c.args.grant.octets (trace_in i m0.0)) k.view_is)
    ∙ ap (λ u. set (round_in m0.0).traces i (has_posted c.args.grant.octets u)) (trace_is m0.0 i k.view_is)

pub returns-clause-answering : goal.returns-clause-answering
returns-clause-answering g c =
    let n : ℕ = c.args.self.now.lanes in
    let i : ℕ = c.args.lane in
    let k = c.args.self.now.knows in
    let m0 = c.args.self.now.seat.me in
    let f = posting_front _ _ _ n c.args.self.now.held i (n - (i + 1)) c.args.grant k c.requires.lane c.requires.due c.rotate_down.ensures.2 c.exchange.ensures.3 in
    let t = posts_then _ _ _ _ i c.args.grant f c.store.ensures.2 in
    answering_of m0 _ i (has_posted c.args.grant.octets (trace_in i m0.0)) _ k.view_is (c.rotate_down-2.ensures.2 ∙ ap (λ m. (m.0, stack (set c.args.self.now.held i false) 0 (n - 0))) t)
