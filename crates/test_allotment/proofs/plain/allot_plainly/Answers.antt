use Rattle.std.proofs.Common.{arith, sym, refl, ◌≡◌, ◌+◌, ◌-◌, ◌<◌, ℕ, suc, subst, get_or, List, sum}
use Rattle.std.proofs.Math.ListN.{set}
use Rattle.std.proofs.lemmas.List.{get_or_read}
use Rattle.limit_tree.specs.Outline.{limits}
use Rattle.round_allocator.specs.Rounds.{IsExhausted}
use Rattle.test_allotment.specs.Rule.{IsNext, IsGiven, give}
use Rattle.test_allotment.proofs.Steps.{IsEven, floors-even, even-step, even-end, give-smaller}
use Rattle.test_allotment.proofs.Rooms.{want-le-sum}
use Rattle.test_allotment.proofs.plain.allot_plainly.Goals as goal

pub loop-leaf-init : goal.loop-leaf-init
loop-leaf-init g c = (
  subst (λ (grants : List ℕ). IsEven (limits c.args.tree.now) grants) (sym c.in_ok-grants.ensures.floors) (floors-even (limits c.args.tree.now) c.in_ok-grants.ensures.limit_tree),
  0,
  c.in_ok-grants.ensures.floors,
)

pub overflow_add-index_mut : goal.overflow_add-index_mut
overflow_add-index_mut g c =
    let t = limits c.args.tree.now in
    let next = subst (λ (g : List ℕ). IsNext t g c.in-Some.leaf) c.deref.ensures.value c.in-Some.ensures.next in
    let value : c.index_mut.result.now ≡ get_or c.loop-leaf.grants.items c.in-Some.leaf 0 = get_or_read c.loop-leaf.grants.items c.in-Some.leaf _ next.inside c.index_mut.ensures.value 0 in
    omega (arith, value, next.room.0, want-le-sum t.wants c.in-Some.leaf, c.in_ok-grants.ensures.octets)

pub loop-leaf-smaller : goal.loop-leaf-smaller
loop-leaf-smaller g c =
    let t = limits c.args.tree.now in
    let grants = c.loop-leaf.grants.items in
    let next = subst (λ (g : List ℕ). IsNext t g c.in-Some.leaf) c.deref.ensures.value c.in-Some.ensures.next in
    let value : c.index_mut.result.now ≡ get_or grants c.in-Some.leaf 0 = get_or_read grants c.in-Some.leaf _ next.inside c.index_mut.ensures.value 0 in
    let after = even-step t grants c.in-Some.leaf c.in_ok-grants.ensures.limit_tree.branches c.loop-leaf.invariant.0 next.room next.inside next.least in
    let less : sum t.wants - sum (give grants c.in-Some.leaf) < sum t.wants - sum grants = give-smaller t grants c.in-Some.leaf after.within.wanted next.inside in
    subst (λ (v : ℕ). sum t.wants - sum (set grants c.in-Some.leaf (v + 1)) < sum t.wants - sum grants) (sym value) less

pub loop-leaf-preserved : goal.loop-leaf-preserved
loop-leaf-preserved g c =
    let t = limits c.args.tree.now in
    let grants = c.loop-leaf.grants.items in
    let next = subst (λ (g : List ℕ). IsNext t g c.in-Some.leaf) c.deref.ensures.value c.in-Some.ensures.next in
    let value : c.index_mut.result.now ≡ get_or grants c.in-Some.leaf 0 = get_or_read grants c.in-Some.leaf _ next.inside c.index_mut.ensures.value 0 in
    let even = even-step t grants c.in-Some.leaf c.in_ok-grants.ensures.limit_tree.branches c.loop-leaf.invariant.0 next.room next.inside next.least in
    let given : IsGiven t (suc c.loop-leaf.invariant.1) (give grants c.in-Some.leaf) = (grants, c.in-Some.leaf, c.loop-leaf.invariant.2, next, refl) in
    subst (λ (v : ℕ). IsEven t (set grants c.in-Some.leaf (v + 1)) × (n : ℕ) × IsGiven t n (set grants c.in-Some.leaf (v + 1))) (sym value) (even, suc c.loop-leaf.invariant.1, given)

pub returns-clause-run : goal.returns-clause-run
returns-clause-run g c = record {
  octets = c.loop-leaf.invariant.1;
  given = c.loop-leaf.invariant.2;
  exhausted = subst (λ (g : List ℕ). IsExhausted (limits c.args.tree.now) g) c.deref.ensures.value c.in_default.ensures.next;
}

pub returns-clause-bottlenecks : goal.returns-clause-bottlenecks
returns-clause-bottlenecks g c = even-end (limits c.args.tree.now) c.loop-leaf.grants.items c.loop-leaf.invariant.0 (subst (λ (g : List ℕ). IsExhausted (limits c.args.tree.now) g) c.deref.ensures.value c.in_default.ensures.next)
