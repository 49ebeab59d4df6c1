use Rattle.std.proofs.Common.{arith, ap}
use Rattle.limit_tree.specs.declared.size.Size.{Size}
use Rattle.limit_tree.proofs.Places.{length_places_of_all-drop, leaf_count_of_all-drop, floor_sum_of_all-drop}
use Rattle.limit_tree.proofs.size.+size_of_tree.Goals.{in-Some, in-None}
use Rattle.limit_tree.proofs.size.+size_of_tree.Goals as goal

pub overflow_add-total : goal.overflow_add-total
overflow_add-total g t c = elim c.match-size_of_one.branch [
  | in-Some w ↦ omega (arith, length_places_of_all-drop c.deref-kid-items.result.now c.loop-kid.kid-index c.kid-item.result c.loop-kid-test.true c.kid-item.is, ap (λ (s : Size). s.nodes) w.more-is, w.in-Some.ensures.nodes)
  | in-None w ↦ omega (arith, length_places_of_all-drop c.deref-kid-items.result.now c.loop-kid.kid-index c.kid-item.result c.loop-kid-test.true c.kid-item.is, ap (λ (s : Size). s.nodes) w.more-is, w.size_of_tree-more.ensures.nodes)
]

pub overflow_add-total-in-loop-kid : goal.overflow_add-total-in-loop-kid
overflow_add-total-in-loop-kid g t c = elim c.match-size_of_one.branch [
  | in-Some w ↦ omega (arith, leaf_count_of_all-drop c.deref-kid-items.result.now c.loop-kid.kid-index c.kid-item.result c.loop-kid-test.true c.kid-item.is, ap (λ (s : Size). s.leaves) w.more-is, w.in-Some.ensures.leaves)
  | in-None w ↦ omega (arith, leaf_count_of_all-drop c.deref-kid-items.result.now c.loop-kid.kid-index c.kid-item.result c.loop-kid-test.true c.kid-item.is, ap (λ (s : Size). s.leaves) w.more-is, w.size_of_tree-more.ensures.leaves)
]

pub overflow_add-total-in-loop-kid-2 : goal.overflow_add-total-in-loop-kid-2
overflow_add-total-in-loop-kid-2 g t c = elim c.match-size_of_one.branch [
  | in-Some w ↦ omega (arith, floor_sum_of_all-drop c.deref-kid-items.result.now c.loop-kid.kid-index c.kid-item.result c.loop-kid-test.true c.kid-item.is, ap (λ (s : Size). s.floors) w.more-is, w.in-Some.ensures.floors)
  | in-None w ↦ omega (arith, floor_sum_of_all-drop c.deref-kid-items.result.now c.loop-kid.kid-index c.kid-item.result c.loop-kid-test.true c.kid-item.is, ap (λ (s : Size). s.floors) w.more-is, w.size_of_tree-more.ensures.floors)
]

pub loop-kid-preserved : goal.loop-kid-preserved
loop-kid-preserved g t c = elim c.match-size_of_one.branch [
  | in-Some w ↦ record {
    nodes = omega (arith, length_places_of_all-drop c.deref-kid-items.result.now c.loop-kid.kid-index c.kid-item.result c.loop-kid-test.true c.kid-item.is, ap (λ (s : Size). s.nodes) w.more-is, w.in-Some.ensures.nodes);
    leaves = omega (arith, leaf_count_of_all-drop c.deref-kid-items.result.now c.loop-kid.kid-index c.kid-item.result c.loop-kid-test.true c.kid-item.is, ap (λ (s : Size). s.leaves) w.more-is, w.in-Some.ensures.leaves);
    floors = omega (arith, floor_sum_of_all-drop c.deref-kid-items.result.now c.loop-kid.kid-index c.kid-item.result c.loop-kid-test.true c.kid-item.is, ap (λ (s : Size). s.floors) w.more-is, w.in-Some.ensures.floors);
  }
  | in-None w ↦ record {
    nodes = omega (arith, length_places_of_all-drop c.deref-kid-items.result.now c.loop-kid.kid-index c.kid-item.result c.loop-kid-test.true c.kid-item.is, ap (λ (s : Size). s.nodes) w.more-is, w.size_of_tree-more.ensures.nodes);
    leaves = omega (arith, leaf_count_of_all-drop c.deref-kid-items.result.now c.loop-kid.kid-index c.kid-item.result c.loop-kid-test.true c.kid-item.is, ap (λ (s : Size). s.leaves) w.more-is, w.size_of_tree-more.ensures.leaves);
    floors = omega (arith, floor_sum_of_all-drop c.deref-kid-items.result.now c.loop-kid.kid-index c.kid-item.result c.loop-kid-test.true c.kid-item.is, ap (λ (s : Size). s.floors) w.more-is, w.size_of_tree-more.ensures.floors);
  }
]
