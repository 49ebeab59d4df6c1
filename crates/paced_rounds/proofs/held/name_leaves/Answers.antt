use Rattle.std.proofs.Common.{◌≡◌, ◌≢◌, ◌<◌, ◌∙◌, ℕ, inl, inr, List, None, sym, subst, arith}
use Rattle.std.proofs.lemmas.Bool.{cases_lt}
use Rattle.std.proofs.lemmas.List.{get_or-set_other, length-set}
use Rattle.std.proofs.lemmas.Grind.{get_or-set_at}
use Rattle.fair_terms.specs.Fair.{IsBackedFair}
use Rattle.limit_tree.specs.Outline.{limits}
use Rattle.round_tally.specs.Held.{IsHeldBy}
use Rattle.paced_rounds.proofs.held.name_leaves.Goals as goal

other : (i k : ℕ) → i < k → i ≢ k
other i k less same = omega (arith, less, same)

pub held_by-requires-clause-backed : goal.held_by-requires-clause-backed
held_by-requires-clause-backed g c =
    let by = c.args.limits.now.share_by in
    let asks = c.args.asks.now in
    let s = c.args.sealed.now in
    let fair = c.sealed_is_fair.ensures.fair c.args.limits.now c.args.tick by asks (limits s.tree) s.owners s.grants c.requires.tree c.requires.owners c.certificate.ensures.best in
    subst (λ t. IsBackedFair by asks (limits t) c.grants-grants.result.now c.entries-entries.result.now) (sym c.tree-tree.ensures.tree)
    (subst (λ gs. IsBackedFair by asks (limits s.tree) gs c.entries-entries.result.now) (sym c.grants-grants.ensures.grants)
    (subst (λ es. IsBackedFair by asks (limits s.tree) s.grants es) (sym (c.entries-entries.ensures.entries ∙ c.certificate.ensures.certificate))
    (fair.1 s.certificate c.certificate.ensures.backed)))

pub loop-leaf-preserved : goal.loop-leaf-preserved
loop-leaf-preserved g c =
    let r = c.args.limits.now in
    let t = limits c.args.sealed.now.tree in
    let gs = c.args.sealed.now.grants in
    record {
      size = length-set c.loop-leaf.names c.loop-leaf.leaf c.held_by.result ∙ c.loop-leaf.invariant.size;
      held = λ i less. elim (cases_lt i c.loop-leaf.leaf) [
        | inl before ↦ subst (IsHeldBy r c.args.tick c.args.asks.now t gs i) (sym (get_or-set_other c.loop-leaf.names c.loop-leaf.leaf i c.held_by.result None (other i c.loop-leaf.leaf before))) (c.loop-leaf.invariant.held i before)
        | inr here ↦
            let same : i ≡ c.loop-leaf.leaf = omega arith in
            subst (IsHeldBy r c.args.tick c.args.asks.now t gs i) (sym (get_or-set_at c.loop-leaf.names c.loop-leaf.leaf i c.held_by.result None same (omega (arith, c.loop-leaf.invariant.size, c.loop-leaf-test.true, c.min-leaf-end.ensures))))
            (subst (λ (k : ℕ). IsHeldBy r c.args.tick c.args.asks.now t gs k c.held_by.result) (sym same)
            (subst (λ (x : List ℕ). IsHeldBy r c.args.tick c.args.asks.now t x c.loop-leaf.leaf c.held_by.result) c.grants-grants.ensures.grants
            (subst (λ x. IsHeldBy r c.args.tick c.args.asks.now (limits x) c.grants-grants.result.now c.loop-leaf.leaf c.held_by.result) c.tree-tree.ensures.tree c.held_by.ensures.held)))
      ];
    }
