use Rattle.std.proofs.Common.{arith, rules}
use Rattle.passive_ports.proofs.BitLemmas.{full_word, lowest_in_word}
use Rattle.passive_ports.proofs.bitmap.find_clear.Goals as goal

pub returns-then-word : goal.returns-then-word
returns-then-word c = record {
  lowest = rw c.trailing_ones.ensures (lowest_in_word c.args.words.now c.loop-index.index c.loop-index-test.true (search rules) c.if-word.true c.loop-index.invariant);
}

pub returns : goal.returns
returns c = record { lowest = λ k within. full_word c.args.words.now k (c.loop-index.invariant _ (omega arith)) }
