use Rattle.std.proofs.Common.{List, ℕ, sym, subst}
use Rattle.limit_tree.specs.Outline.{limits as seen}
use Rattle.round_allocator.specs.Order.{GivesInOrder}
use Rattle.fair_shares.proofs.share.share_among_sessions.Goals as goal

pub returns-clause-order : goal.returns-clause-order
returns-clause-order g c = subst (λ (xs : List ℕ). GivesInOrder (seen c.args.tree) xs) (sym c.in-Ok.ensures.sealed.2) c.in_ok-grants.ensures.order
