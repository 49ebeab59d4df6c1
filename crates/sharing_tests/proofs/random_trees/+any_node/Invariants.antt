use Rattle.sharing_tests.proofs.random_trees.+any_node.Given as goal

abbrev pub decreases-any_node : goal.decreases-any_node
decreases-any_node g l = l.levels
