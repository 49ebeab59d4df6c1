use Rattle.std.proofs.Common.{◌≡◌, ℕ, ◌<◌, ◌^◌, sym, ap, ◌∙◌, subst, nat_lt, length, List, ◌++◌, take, min}
use Rattle.std.specs.FinMap as map
use borrow.Author.Tests.{lt-ltb, le-ltb}
use Rattle.virtual_tree.specs.declared.fault.StoreFault.TheVariants as fault
use Rattle.memory_store.specs.Tree.{Node, Tree, total}
use Rattle.memory_store.specs.Tree.Node.{File}
use Rattle.memory_store.specs.InMemory.{Memory, Upload, filled, unit_of}
use Rattle.memory_store.proofs.Fills.{refuses, succeeds, decided_full, decided_past, decided_filled, passed_is, held_within, held_whole}
use Rattle.memory_store.proofs.memory.MemStore.fill.Goals as goal

pub is_passed-is_passed-requires-clause-within : goal.is_passed-is_passed-requires-clause-within
is_passed-is_passed-requires-clause-within g c = held_within c.args.self.now.tree c.args.sink.key c.args.octets.now c.requires.file

pub returns-then-is_passed : goal.returns-then-is_passed
returns-then-is_passed g c =
    let upload : Upload = c.args.sink in
    let kept_is : c.sink.inside.kept ≡ upload.kept = ap (λ (seen : Upload). seen.kept) c.sink.view_is in
    let came_is : c.sink.inside.octets.items ≡ upload.octets = held_whole upload _ c.sink.inside.octets.items c.sink.inside.is_cut c.sink.view_is c.sink.invariant c.requires.whole in
    refuses c.args.self.now _ unit_of (λ (tree : Tree). tree) fault.Full
    (decided_full c.args.self.now upload c.args.moment c.args.octets.now
    (ap (nat_lt c.args.self.now.capacity) (sym (passed_is c.args.self.now upload c.args.moment c.args.octets.now c.min-first.result c.len.result c.requires.file (c.min-first.ensures ∙ ap (λ n. min n (length c.args.octets.now)) kept_is) (c.len.ensures ∙ c.sink.inside.octets.ok.0 ∙ ap length came_is)))
    ∙ sym c.is_passed-is_passed.ensures.passed ∙ c.if-is_passed.true))

pub returns-then-octets-kept : goal.returns-then-octets-kept
returns-then-octets-kept g c =
    let upload : Upload = c.args.sink in
    let kept_is : c.sink.inside.kept ≡ upload.kept = ap (λ (seen : Upload). seen.kept) c.sink.view_is in
    let came_is : c.sink.inside.octets.items ≡ upload.octets = held_whole upload _ c.sink.inside.octets.items c.sink.inside.is_cut c.sink.view_is c.sink.invariant c.requires.whole in
    refuses c.args.self.now _ unit_of (λ (tree : Tree). tree) fault.PastEnd
    (decided_past c.args.self.now upload c.args.moment c.args.octets.now
    (ap (nat_lt c.args.self.now.capacity) (sym (passed_is c.args.self.now upload c.args.moment c.args.octets.now c.min-first.result c.len.result c.requires.file (c.min-first.ensures ∙ ap (λ n. min n (length c.args.octets.now)) kept_is) (c.len.ensures ∙ c.sink.inside.octets.ok.0 ∙ ap length came_is)))
    ∙ sym c.is_passed-is_passed.ensures.passed ∙ c.if-is_passed.false)
    (ap (nat_lt (length c.args.octets.now)) (sym kept_is) ∙ lt-ltb (length c.args.octets.now) c.sink.inside.kept c.if-octets-kept.true))

pub put-requires : goal.put-requires
put-requires g c = λ grows.
    let upload : Upload = c.args.sink in
    let kept_is : c.sink.inside.kept ≡ upload.kept = ap (λ (seen : Upload). seen.kept) c.sink.view_is in
    let came_is : c.sink.inside.octets.items ≡ upload.octets = held_whole upload _ c.sink.inside.octets.items c.sink.inside.is_cut c.sink.view_is c.sink.invariant c.requires.whole in
    let tree_is : c.self.inside.files ≡ c.args.self.now.tree = ap (λ (memory : Memory). memory.tree) c.self.view_is in
    let key_is : c.sink.inside.key ≡ upload.key = ap (λ (seen : Upload). seen.key) c.sink.view_is in
    let whole : List ℕ = take upload.kept c.args.octets.now ++ upload.octets in
    let entry_is : c.file.result ≡ File whole c.args.moment =
    c.file.ensures
    ∙ ap (λ (octets : List ℕ). File octets c.args.moment)
    (c.in_ok-filled.ensures ∙ ap (λ n. take n c.args.octets.now ++ c.sink.inside.octets.items) kept_is ∙ ap (λ came. take upload.kept c.args.octets.now ++ came) came_is) in
    subst (λ n. n < 2 ^ 64)
    (passed_is c.args.self.now upload c.args.moment c.args.octets.now c.min-first.result c.len.result c.requires.file (c.min-first.ensures ∙ ap (λ n. min n (length c.args.octets.now)) kept_is) (c.len.ensures ∙ c.sink.inside.octets.ok.0 ∙ ap length came_is)
    ∙ ap (λ (tree : Tree). total (map.insert tree upload.key (File whole c.args.moment))) (sym tree_is)
    ∙ ap (λ key. total (map.insert c.self.inside.files key (File whole c.args.moment))) (sym key_is)
    ∙ ap (λ (node : Node). total (map.insert c.self.inside.files c.sink.inside.key node)) (sym entry_is))
    (c.is_passed-is_passed.ensures.small c.if-is_passed.false)

pub returns : goal.returns
returns g c =
    let upload : Upload = c.args.sink in
    let kept_is : c.sink.inside.kept ≡ upload.kept = ap (λ (seen : Upload). seen.kept) c.sink.view_is in
    let came_is : c.sink.inside.octets.items ≡ upload.octets = held_whole upload _ c.sink.inside.octets.items c.sink.inside.is_cut c.sink.view_is c.sink.invariant c.requires.whole in
    let key_is : c.sink.inside.key ≡ upload.key = ap (λ (seen : Upload). seen.key) c.sink.view_is in
    let whole : List ℕ = take upload.kept c.args.octets.now ++ upload.octets in
    let entry_is : c.file.result ≡ File whole c.args.moment =
    c.file.ensures
    ∙ ap (λ (octets : List ℕ). File octets c.args.moment)
    (c.in_ok-filled.ensures ∙ ap (λ n. take n c.args.octets.now ++ c.sink.inside.octets.items) kept_is ∙ ap (λ came. take upload.kept c.args.octets.now ++ came) came_is) in
    succeeds c.args.self.now _ _ unit_of (λ (tree : Tree). tree) (filled c.args.self.now.tree upload c.args.moment c.args.octets.now)
    (decided_filled c.args.self.now upload c.args.moment c.args.octets.now
    (ap (nat_lt c.args.self.now.capacity) (sym (passed_is c.args.self.now upload c.args.moment c.args.octets.now c.min-first.result c.len.result c.requires.file (c.min-first.ensures ∙ ap (λ n. min n (length c.args.octets.now)) kept_is) (c.len.ensures ∙ c.sink.inside.octets.ok.0 ∙ ap length came_is)))
    ∙ sym c.is_passed-is_passed.ensures.passed ∙ c.if-is_passed.false)
    (ap (nat_lt (length c.args.octets.now)) (sym kept_is) ∙ le-ltb (length c.args.octets.now) c.sink.inside.kept c.if-octets-kept.false))
    (ap (λ (tree : Tree). let memory : Memory = record { tree = tree; capacity = c.self.inside.capacity } in memory)
    (c.in_ok-put.ensures.ok
    ∙ ap (λ (node : Node). map.insert c.self.inside.files c.sink.inside.key node) entry_is
    ∙ ap (λ key. map.insert c.self.inside.files key (File whole c.args.moment)) key_is
    ∙ ap (λ (tree : Tree). map.insert tree upload.key (File whole c.args.moment)) (ap (λ (memory : Memory). memory.tree) c.self.view_is))
    ∙ ap (λ capacity. let memory : Memory = record { tree = filled c.args.self.now.tree upload c.args.moment c.args.octets.now; capacity = capacity } in memory) (ap (λ (memory : Memory). memory.capacity) c.self.view_is))
