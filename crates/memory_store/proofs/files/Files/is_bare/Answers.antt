use Rattle.std.proofs.Common.{ap, ◌∙◌, List, length, nat_eq}
use Rattle.std.specs.Map.Iter.{deref_pair}
use Rattle.memory_store.specs.Tree.{PathKey, Node}
use Rattle.memory_store.proofs.Listings.{range_forward, range_has_children, bare_answer}
use Rattle.memory_store.proofs.files.Files.is_bare.Goals as goal

pub range-entries-requires : goal.range-entries-requires
range-entries-requires g c = range_forward c.args.path.now c.in_ok-first.first c.in_ok-end.end c.in_ok-first.ensures c.in_ok-end.ensures

pub returns : goal.returns
returns g c = record {
  bare = bare_answer deref_pair c.range-entries.result c.next.new.self c.next.result c.is_none.result c.next.ensures.steps c.is_none.ensures
      ∙ ap (λ (es : List (PathKey × Node)). nat_eq (length es) 0)
      (range_has_children c.args.path.now c.in_ok-first.first c.in_ok-end.end c.args.self.now c.self.inside.nodes.entries c.range-entries.result
      c.in_ok-first.ensures c.in_ok-end.ensures c.range-entries.ensures.ordered c.self.view_is (c.range-entries.ensures.between tt));
}
