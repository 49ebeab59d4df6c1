use Rattle.std.proofs.Common.{ap, ◌∙◌, List, map, filter}
use Rattle.std.specs.Map.Iter.{deref_pair}
use Rattle.virtual_tree.specs.Calls.{entries_of}
use Rattle.memory_store.specs.Tree.{PathKey, Node, reported_of, is_named}
use Rattle.memory_store.proofs.Listings.{range_has_children, reported_all}
use Rattle.memory_store.proofs.files.Files.listed_between.Goals as goal

pub returns : goal.returns
returns g c = record {
  entries = λ directory is past.
      reported_all deref_pair (entries_of c.loop-key.listed) _ c.loop-key.key-iterator c.next.new.self c.next.result c.loop-key.invariant c.in-None.is c.next.ensures.steps
      ∙ ap (λ (es : List (PathKey × Node)). map reported_of (filter is_named es))
      (c.into_iter-key-iterator.ensures.into_iter_gives
      ∙ range_has_children directory c.args.first.now c.args.end.now c.args.self.now c.self.inside.nodes.entries c.range-key-items.result
      is past c.range-key-items.ensures.ordered c.self.view_is (c.range-key-items.ensures.between tt));
}
