use Rattle.std.proofs.Common.{rules, arith, sym, refl, ap, ◌∙◌, ◌≤◌, drop, drop-drop, map}
use Rattle.std.proofs.lemmas.List.Sorted.{IsPermutation-refl, IsPermutation-trans}
use Rattle.limit_tree.proofs.Places.{places_of_all}
use Rattle.line_rates.specs.Queue.{asker_of, numbered_of}
use Rattle.line_rates.proofs.OrderSteps.{branch_order}
use Rattle.line_rates.proofs.KidLemmas.{nothing_yet}
use Rattle.line_rates.proofs.QueueSteps.{key_here, low_here, leaf_next, branch_next, whole_grown}
use Rattle.line_rates.proofs.trees.+grow.Goals as goal

pub rows-init : goal.rows-init
rows-init g t c = record { so_far = nothing_yet c.args.limits.now c.args.tick c.args.level (map asker_of c.args.queue.now) c.new-kids.result.items c.new-kids.ensures.items; size = refl; start = omega arith; rest = refl; numbers = IsPermutation-refl (map numbered_of c.args.queue.now); in_order = λ asks among was. was }

pub rows-preserved-in-None : goal.rows-preserved-in-None
rows-preserved-in-None g t c = record {
  so_far = leaf_next c.args.limits.now c.args.tick c.args.level c.rows.start c.floor.result (map asker_of c.args.queue.now) c.rows.queue _ c.rows.kids.items c.push.new.self.items c.leaf.result c.rows.invariant.so_far (omega arith)
      (key_here c.args.limits.now c.args.level c.rows.start c.args.queue.now c.rows.queue _ c.requires.together c.rows.invariant.rest (omega arith) ∙ c.in-None.is)
      c.leaf.ensures.places c.floor.ensures.floor c.in_ok-push-in-None.ensures.items;
  size = c.rows.invariant.size;
  start = omega arith;
  rest = sym (drop-drop 1 c.rows.start c.rows.queue) ∙ ap (drop 1) c.rows.invariant.rest ∙ drop-drop 1 c.rows.start c.args.queue.now;
  numbers = c.rows.invariant.numbers;
  in_order = c.rows.invariant.in_order;
}

pub grow-requires : goal.grow-requires
grow-requires g t c =
    let low : c.args.level ≤ 4 = low_here c.args.limits.now c.args.level c.rows.start c.args.queue.now c.rows.queue _ c.in-Some.name c.requires.together c.rows.invariant.rest (omega arith) c.in-Some.is in
    search rules

pub rows-smaller : goal.rows-smaller
rows-smaller g t c =
    let next = branch_next c.args.limits.now c.args.tick c.args.level c.rows.start _ c.run-count.result (map asker_of c.args.queue.now) c.args.queue.now c.rows.queue c.arrange.new.queue c.grow.new.queue _ c.in-Some.name c.rate_limit.result
    c.rows.kids.items c.push-in-Some.new.self.items c.in_ok-below-in-Some.below.items c.branch-rate_limit.result c.rows.invariant.so_far (omega arith) c.rows.invariant.rest c.requires.together c.run-count.ensures.run c.in-Some.is (omega arith)
    c.arrange.ensures.all c.in_ok-below-in-Some.ensures.grown (search rules) c.branch-rate_limit.ensures.places c.in_ok-push-in-Some.ensures.items in
    next.more

pub rows-preserved : goal.rows-preserved
rows-preserved g t c =
    let next = branch_next c.args.limits.now c.args.tick c.args.level c.rows.start _ c.run-count.result (map asker_of c.args.queue.now) c.args.queue.now c.rows.queue c.arrange.new.queue c.grow.new.queue _ c.in-Some.name c.rate_limit.result
    c.rows.kids.items c.push-in-Some.new.self.items c.in_ok-below-in-Some.below.items c.branch-rate_limit.result c.rows.invariant.so_far (omega arith) c.rows.invariant.rest c.requires.together c.run-count.ensures.run c.in-Some.is (omega arith)
    c.arrange.ensures.all c.in_ok-below-in-Some.ensures.grown (search rules) c.branch-rate_limit.ensures.places c.in_ok-push-in-Some.ensures.items in
    let moved = branch_order c.args.limits.now c.rows.start _ c.run-count.result c.args.queue.now c.rows.queue c.arrange.new.queue c.grow.new.queue (omega arith) c.rows.invariant.rest c.run-count.ensures.run (omega arith)
    c.arrange.ensures.all c.arrange.ensures.numbers c.arrange.ensures.in_order c.in_ok-below-in-Some.ensures.numbers c.in_ok-below-in-Some.ensures.in_order in
    record {
      so_far = next.so_far;
      size = next.size ∙ c.rows.invariant.size;
      start = omega (arith, next.size, next.within);
      rest = next.rest;
      numbers = IsPermutation-trans (map numbered_of c.args.queue.now) (map numbered_of c.rows.queue) _ c.rows.invariant.numbers moved.numbers;
      in_order = λ asks among was. moved.in_order asks among (c.rows.invariant.in_order asks among was);
    }

pub returns : goal.returns
returns g t c = record { grown = whole_grown c.args.limits.now c.args.tick c.args.level c.rows.start (map asker_of c.args.queue.now) c.rows.queue (places_of_all c.rows.kids.items) c.rows.invariant.so_far (omega arith); numbers = c.rows.invariant.numbers; in_order = c.rows.invariant.in_order }
