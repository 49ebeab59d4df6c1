use Rattle.std.proofs.Common.{List, map, ◌∙◌, sym, subst}
use Rattle.limit_tree.specs.Outline.{limits as seen}
use Rattle.line_rates.specs.TickTree.{ask_in}
use Rattle.line_rates.specs.declared.ask.Ask.{Ask}
use Rattle.fair_shares.specs.Users.{IsTreeOf}
use Rattle.rate_plan.proofs.shares.granted_shares.Goals as goal

pub share_tree-requires : goal.share_tree-requires
share_tree-requires g c =
    let tree : IsTreeOf (map ask_in c.args.order.now) (seen c.args.tree) = (c.args.limits.now, 0, c.requires.tree) in
    record { asks = subst (λ (asks : List Ask). IsTreeOf asks (seen c.args.tree)) (sym (c.deref.ensures.value ∙ c.in_ok-asks.ensures.asks)) tree }
