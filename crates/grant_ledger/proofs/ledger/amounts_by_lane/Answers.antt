use Rattle.std.proofs.Common.{◌≡◌, ◌-◌, ℕ, refl, ap, ◌∙◌, arith, length, rules, drop}
use Rattle.grant_ledger.specs.Books.{by_lane}
use Rattle.std.proofs.lemmas.List.{drop_all}
use Rattle.grant_ledger.proofs.LaneLemmas.{lanes_below, by_lane_step}
use Rattle.grant_ledger.proofs.ledger.amounts_by_lane.Goals as goal

pub loop-i-init : goal.loop-i-init
loop-i-init c = rw (drop_all (length c.args.lanes.now) c.args.lanes.now (omega arith)) refl

pub bounds-undrawn-lanes : goal.bounds-undrawn-lanes
bounds-undrawn-lanes c = lanes_below c.args.lanes.now (c.loop-i.i - 1) c.requires.lanes (search rules)

pub loop-i-preserved : goal.loop-i-preserved
loop-i-preserved c =
    rw c.loop-i.invariant (by_lane_step c.args.lanes.now c.args.amounts.now c.loop-i.i (c.loop-i.i - 1) (search rules) (search rules) c.requires.one_each)

pub returns : goal.returns
returns c =
    let e : c.loop-i.i ≡ 0 = omega (arith, c.loop-i-test.false) in
    record { amounts = c.loop-i.invariant ∙ ap (λ (n : ℕ). by_lane (drop n c.args.lanes.now) (drop n c.args.amounts.now)) e }
