use Rattle.std.proofs.Common.{◌<◌, ◌^◌, sym, ap, ◌∙◌, subst, List, [], map}
use Rattle.std.proofs.lemmas.List.{append-nil}
use Rattle.std.specs.FinMap.{insert, from_entries, entries}
use Rattle.std.specs.Map.Iter.{deref_pair}
use Rattle.memory_store.specs.Tree.{PathKey, Node, path_cmp, moved, moved_entry, total}
use Rattle.memory_store.proofs.Listings.{same_entries}
use Rattle.memory_store.proofs.Trees.{sizes}
use Rattle.memory_store.proofs.Moves.{put_fits, parts_of_all, none_left, whole_sizes}
use Rattle.memory_store.proofs.files.Files.renamed.Goals as goal

pub loop-key-init : goal.loop-key-init
loop-key-init g c = ([], sym (append-nil c.iter-rest.result), c.new-renamed.ensures)

pub put-requires : goal.put-requires
put-requires g c = λ grows.
    let done = c.loop-key.invariant in
    let entry : PathKey × Node = (c.in-Some.key.now, c.in-Some.entry.now) in
    let fits : total (insert c.loop-key.renamed (moved c.args.from.now c.args.to.now c.in-Some.key.now) c.in-Some.entry.now) < 2 ^ 64 =
    put_fits c.args.from.now c.args.to.now c.next_back.new.self done.0 c.iter-rest.result entry c.loop-key.renamed c.self.inside.stored
    (parts_of_all deref_pair c.iter-rest.result c.loop-key.rest c.next_back.new.self done.0 c.next_back.result _ done.1 c.in-Some.is c.next_back.ensures.steps)
    done.2
    (ap sizes c.iter-rest.ensures.rest ∙ whole_sizes c.args.self.now c.self.inside.nodes.entries c.self.inside.stored c.iter-rest.ensures.ordered c.self.view_is c.self.invariant)
    (subst (λ n. n < 2 ^ 64) (c.stored-most.ensures.stored ∙ sym (c.self.invariant ∙ ap total c.self.view_is)) c.stored-most.ensures.small) in
    subst (λ (node : Node). total (insert c.loop-key.renamed c.in_ok-key.key node) < 2 ^ 64) (sym c.in_ok-entry.ensures)
    (subst (λ (key : PathKey). total (insert c.loop-key.renamed key c.in-Some.entry.now) < 2 ^ 64) (sym c.in_ok-key.ensures) fits)

pub returns : goal.returns
returns g c =
    let done = c.loop-key.invariant in
    done.2
    ∙ ap (λ (es : List (PathKey × Node)). from_entries {R = path_cmp} (map (moved_entry c.args.from.now c.args.to.now) es))
    (none_left deref_pair c.iter-rest.result c.loop-key.rest c.next_back.new.self done.0 c.next_back.result done.1 c.in_default.is c.next_back.ensures.steps
    ∙ c.iter-rest.ensures.rest
    ∙ sym (same_entries c.self.inside.nodes.entries c.iter-rest.ensures.ordered)
    ∙ ap entries c.self.view_is)
