use Rattle.std.proofs.Common.{◌≡◌, ◌∙◌, ap, sym, ℕ}
use Rattle.line_rates.specs.Ticks.{rate_limit}
use Rattle.round_tally.proofs.NameLemmas.{is_name, not_name}
use Rattle.round_tally.proofs.names.is_name_of.Goals as goal

pub returns-then-is_limit-clause-yes : goal.returns-then-is_limit-clause-yes
returns-then-is_limit-clause-yes g c reported =
    is_name c.args.limits.now c.args.tick c.args.asks.now c.args.tree.now c.args.node c.place-place.result c.in-Branch.limit c.args.name c.place-place.ensures.place c.in-Branch.is c.place-place.ensures.inside c.requires.leaves
    (c.is_limit.ensures.same.0 c.if-is_limit.true ∙ (c.rate_limit.ensures.limit ∙ ap (λ (r : ℕ). rate_limit r c.args.tick) c.rate.ensures.rate)) (c.holds_alike.ensures.alike.0 reported)

pub returns-then-is_limit-clause-no : goal.returns-then-is_limit-clause-no
returns-then-is_limit-clause-no g c is = c.holds_alike.ensures.alike.1 ((not_name c.args.limits.now c.args.tick c.args.asks.now c.args.tree.now c.args.node c.place-place.result c.in-Branch.limit c.args.name c.place-place.ensures.place c.in-Branch.is is).1)

pub returns-else-is_limit-clause-no : goal.returns-else-is_limit-clause-no
returns-else-is_limit-clause-no g c is = c.is_limit.ensures.same.1 ((not_name c.args.limits.now c.args.tick c.args.asks.now c.args.tree.now c.args.node c.place-place.result c.in-Branch.limit c.args.name c.place-place.ensures.place c.in-Branch.is is).0
    ∙ sym (c.rate_limit.ensures.limit ∙ ap (λ (r : ℕ). rate_limit r c.args.tick) c.rate.ensures.rate))
