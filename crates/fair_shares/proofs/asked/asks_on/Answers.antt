use Rattle.std.proofs.Common.{◌<◌, length, ap, ◌∙◌, sym, arith, append-nil, Some, None}
use Rattle.fair_shares.proofs.AskedLemmas.{asked_more}
use Rattle.fair_shares.proofs.asked.asks_on.Goals as goal
use Rattle.fair_shares.proofs.asked.asks_on.Goals.{in-Some+in_ok-push-in-Some, in-None}

pub loop-lane-preserved : goal.loop-lane-preserved
loop-lane-preserved g c =
    let l = c.loop-lane in
    let near : l.lane-index < length c.args.lanes.now = omega arith in
    elim c.match-ask_on.branch [
      | in-Some+in_ok-push-in-Some w ↦ asked_more c.args.asks.now c.args.lanes.now l.lane-index 0 (Some w.in-Some.ask) l.found.items c.match-ask_on.found.items near l.invariant (sym w.in-Some.is ∙ c.ask_on.ensures.ask)
          (ap (λ v. v.items) w.found-is ∙ w.in_ok-push-in-Some.ensures.items)
      | in-None w ↦ asked_more c.args.asks.now c.args.lanes.now l.lane-index 0 None l.found.items c.match-ask_on.found.items near l.invariant (sym w.in-None.is ∙ c.ask_on.ensures.ask)
          (ap (λ v. v.items) w.found-is ∙ sym (append-nil l.found.items))
    ]
