use Rattle.std.proofs.Common.{rules, ap, ◌∙◌, sym, ◌∷◌, arith, ℕ, ◌+◌, ◌-◌, ◌<◌, true}
use Rattle.atomic_table.specs.Table.{rest}
use Rattle.desk_rule.specs.declared.view.LaneSlot.TheVariants.{WithAsk}
use Rattle.desk_rule.specs.Lanes.{has_collected, trace_in}
use Rattle.lane_desk.specs.Held.{stack}
use Rattle.lane_desk.proofs.RoundCalls.{all_in, collects_of, collected_front, knows_after, knows_missed, missed_then, quiet_after, quiet_missed, quiet_then}
use Rattle.lane_desk.proofs.round.RoundDesk.collect.Goals as goal

pub rotate_down-requires : goal.rotate_down-requires
rotate_down-requires g c = let n : ℕ = c.args.self.now.lanes in
    (search rules, search rules, c.args.self.now.few, all_in c.args.self.now.held n (n - n) _ (omega arith) c.args.self.now.knows.slots_are)

pub compare_exchange-requires : goal.compare_exchange-requires
compare_exchange-requires g c = (search rules, search rules, collects_of _ _ _ _ _ _ _ _ c.args.self.now.knows c.requires.lane c.requires.quiet c.rotate_down.ensures.2)

pub exchange-slot-requires : goal.exchange-slot-requires
exchange-slot-requires g c = let t = c.compare_exchange.ensures.2.0 c.if-compare_exchange-ne2.false in
    (search rules, (WithAsk t.0, ap (λ m. m.1) t.2 ∙ sym (ap (λ m. (c.args.lane, WithAsk t.0) ∷ rest m.1) t.2)))

pub rotate_down-requires-2 : goal.rotate_down-requires-2
rotate_down-requires-2 g c =
    let n : ℕ = c.args.self.now.lanes in
    let i : ℕ = c.args.lane in
    let near : i < n = c.requires.lane in
    let f = collected_front _ _ _ _ n c.args.self.now.held i (n - i) (n - (i + 1)) c.args.self.now.knows near (omega arith) c.rotate_down.ensures.2 (c.compare_exchange.ensures.2.0 c.if-compare_exchange-ne2.false) c.exchange-slot.ensures.3 in
    (omega arith, omega arith, c.args.self.now.few, ap (λ m. m.1) f.2)

pub invariant_of-self-2 : goal.invariant_of-self-2
invariant_of-self-2 g c =
    let n : ℕ = c.args.self.now.lanes in
    let i : ℕ = c.args.lane in
    let near : i < n = c.requires.lane in
    let f = collected_front _ _ _ _ n c.args.self.now.held i (n - i) (n - (i + 1)) c.args.self.now.knows near (omega arith) c.rotate_down.ensures.2 (c.compare_exchange.ensures.2.0 c.if-compare_exchange-ne2.false) c.exchange-slot.ensures.3 in
    record {
      few = c.args.self.now.few;
      knows = knows_after c.args.self.now.seat.me _ n (n - 0) c.args.self.now.held i (has_collected f.0 (trace_in i c.args.self.now.seat.me.0)) true c.args.self.now.knows near (omega arith) (omega (arith, c.args.self.now.knows.within)) f.1 (c.rotate_down-2.ensures.2 ∙ ap (λ m. (m.0, stack (Rattle.std.proofs.Common.set c.args.self.now.held i true) 0 (n - 0))) f.2);
      answers = quiet_then c.args.self.now.seat.me _ i (has_collected f.0 (trace_in i c.args.self.now.seat.me.0)) _ c.args.self.now.knows.view_is c.requires.quiet (c.rotate_down-2.ensures.2 ∙ ap (λ m. (m.0, stack (Rattle.std.proofs.Common.set c.args.self.now.held i true) 0 (n - 0))) f.2);
    }

pub invariant_of-self : goal.invariant_of-self
invariant_of-self g c =
    let n : ℕ = c.args.self.now.lanes in
    record {
      few = c.args.self.now.few;
      knows = knows_missed _ _ _ _ n (n - 0) _ c.args.self.now.held c.args.lane c.args.self.now.knows c.requires.lane (omega arith) c.rotate_down.ensures.2 (c.compare_exchange.ensures.2.1 c.if-compare_exchange-ne2.true) c.rotate_down-then-compare_exchange-ne2.ensures.2;
      answers = missed_then c.args.self.now.seat.me _ _ _ c.args.lane _ _ c.args.self.now.knows.view_is c.requires.quiet c.rotate_down.ensures.2 (c.compare_exchange.ensures.2.1 c.if-compare_exchange-ne2.true) c.rotate_down-then-compare_exchange-ne2.ensures.2;
    }

pub returns-clause-quiet : goal.returns-clause-quiet
returns-clause-quiet g c =
    let n : ℕ = c.args.self.now.lanes in
    let i : ℕ = c.args.lane in
    let near : i < n = c.requires.lane in
    let f = collected_front _ _ _ _ n c.args.self.now.held i (n - i) (n - (i + 1)) c.args.self.now.knows near (omega arith) c.rotate_down.ensures.2 (c.compare_exchange.ensures.2.0 c.if-compare_exchange-ne2.false) c.exchange-slot.ensures.3 in
    quiet_after c.args.self.now.seat.me _ i (has_collected f.0 (trace_in i c.args.self.now.seat.me.0)) _ c.args.self.now.knows.view_is c.requires.quiet (c.rotate_down-2.ensures.2 ∙ ap (λ m. (m.0, stack (Rattle.std.proofs.Common.set c.args.self.now.held i true) 0 (n - 0))) f.2)

pub returns-then-compare_exchange-ne2-clause-quiet : goal.returns-then-compare_exchange-ne2-clause-quiet
returns-then-compare_exchange-ne2-clause-quiet g c =
    quiet_missed c.args.self.now.seat.me _ _ _ c.args.lane _ _ c.args.self.now.knows.view_is c.requires.quiet c.rotate_down.ensures.2 (c.compare_exchange.ensures.2.1 c.if-compare_exchange-ne2.true) c.rotate_down-then-compare_exchange-ne2.ensures.2
