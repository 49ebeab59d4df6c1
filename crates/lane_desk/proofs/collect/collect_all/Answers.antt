use Rattle.std.proofs.Common.{◌<◌, ℕ, Bool, List, Some, None, ◌+◌, length, [], ◌∷◌, ◌++◌, ap, ◌∙◌, sym, arith, length-append}
use Rattle.std.specs.Int.{bit_at}
use Rattle.line_rates.specs.TickTree.{Asker}
use Rattle.lane_desk.specs.Traces.{traces}
use Rattle.lane_desk.specs.Collected.{AsksView}
use Rattle.lane_desk.specs.Tried.{is_given}
use Rattle.lane_desk.proofs.TriedLemmas.{tried_more, asks_more, none_more, given_missed, given_found, marks_missed, marks_found}
use Rattle.lane_desk.proofs.collect.collect_all.Goals as goal
use Rattle.lane_desk.proofs.collect.collect_all.Goals.{in-Some, in-None}

pub loop-lane-preserved : goal.loop-lane-preserved
loop-lane-preserved g c =
    let l = c.loop-lane in
    let k = l.invariant in
    let ts = traces c.args.round.now in
    let given : ℕ → Bool = is_given c.args.given.now in
    let near : l.lane < length ts = omega (arith, c.loop-lane-test.true, c.lanes-lane-end.ensures.traces) in
    elim c.match-collect_if.branch [
      | in-Some w ↦ (
          let a = w.in-Some.ask in
          record {
            found = k.found ++ Some a ∷ [];
            count = omega (arith, length-append k.found (Some a ∷ []), k.count);
            quiet = c.collect_if.ensures.quiet;
            same = (c.collect_if.ensures.same.0 ∙ k.same.0, c.collect_if.ensures.same.1 ∙ k.same.1, c.collect_if.ensures.same.2 ∙ k.same.2);
            only = given_found given k.found a l.lane k.count w.in-Some.ensures.only k.only;
            turned = tried_more given k.found (Some a) ts (traces l.round) (traces c.collect_if.new.round) l.lane k.count near k.turned w.in-Some.ensures.some;
            room = omega (arith, ap (λ (q : AsksView). length q.asks) w.asks-is, ap length w.push.ensures.asks, length-append l.asks.asks ((l.lane, a) ∷ []), k.room);
            asks_are = ap (λ (q : AsksView). q.asks) w.asks-is ∙ w.push.ensures.asks ∙ ap (λ (xs : List Asker). xs ++ (l.lane, a) ∷ []) k.asks_are ∙ sym (asks_more k.found (Some a) l.lane k.count);
            marks = marks_found k.found a l.asks.answered c.match-collect_if.asks.answered l.lane k.count k.marks (ap (λ (q : AsksView). q.answered) w.asks-is ∙ w.push.ensures.answered);
          })
      | in-None w ↦ record {
        found = k.found ++ None ∷ [];
        count = omega (arith, length-append k.found (None ∷ []), k.count);
        same = (c.collect_if.ensures.same.0 ∙ k.same.0, c.collect_if.ensures.same.1 ∙ k.same.1, c.collect_if.ensures.same.2 ∙ k.same.2);
        quiet = c.collect_if.ensures.quiet;
        only = given_missed given k.found k.only;
        turned = tried_more given k.found None ts (traces l.round) (traces c.collect_if.new.round) l.lane k.count near k.turned w.in-None.ensures.none;
        room = omega (arith, ap (λ (q : AsksView). length q.asks) w.asks-is, k.room);
        asks_are = ap (λ (q : AsksView). q.asks) w.asks-is ∙ k.asks_are ∙ sym (none_more k.found l.lane k.count);
        marks = λ i. ap (λ (q : AsksView). bit_at q.answered i) w.asks-is ∙ marks_missed k.found l.asks.answered k.marks i;
      }
    ]
