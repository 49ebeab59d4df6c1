use Rattle.std.proofs.Common.{◌≡◌, ◌∙◌, ℕ, inl, inr, sym, subst, arith}
use Rattle.std.proofs.lemmas.Bool.{cases_lt}
use Rattle.limit_tree.specs.Outline.{leaf_range}
use Rattle.line_rates.specs.TickTree.{bears_at}
use Rattle.round_tally.proofs.NameLemmas.{alike_at}
use Rattle.round_tally.proofs.names.holds_alike.Goals as goal

pub loop-leaf-preserved : goal.loop-leaf-preserved
loop-leaf-preserved g c = λ i less. elim (cases_lt i c.loop-leaf.leaf) [
  | inl before ↦ c.loop-leaf.invariant i before
  | inr here ↦
      let same : i ≡ c.loop-leaf.leaf = omega arith in
      subst (λ (k : ℕ). leaf_range c.args.place.first c.args.place.leaves k ≡ bears_at c.args.limits.now c.args.name c.args.asks.now k) (sym same)
      (sym c.holds.ensures.holds ∙ (c.is_same.ensures.same.0 c.if-not-is_same.false ∙ (c.bears.ensures.bears ∙ sym (alike_at c.args.limits.now c.args.name c.args.asks.now c.loop-leaf.leaf _ c.loop-leaf-test.true))))
]
