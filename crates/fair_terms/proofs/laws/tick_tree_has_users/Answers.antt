use Rattle.fair_terms.proofs.OwnerLemmas.{has_users}
use Rattle.fair_terms.proofs.laws.tick_tree_has_users.Goals as goal

pub returns : goal.returns
returns c = record { users = has_users }
