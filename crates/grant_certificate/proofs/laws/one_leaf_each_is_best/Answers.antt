use Rattle.grant_certificate.proofs.OneLeaf.{one-leaf-each}
use Rattle.grant_certificate.proofs.laws.one_leaf_each_is_best.Goals as goal

pub returns : goal.returns
returns c = record { best = one-leaf-each }
