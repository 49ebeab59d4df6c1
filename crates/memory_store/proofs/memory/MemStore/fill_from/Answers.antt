use Rattle.std.proofs.Common.{◌≡◌, ◌≤◌, sym, ap, ◌∙◌, subst, nat_lt, length}
use Rattle.virtual_tree.specs.declared.fault.StoreFault.TheVariants as fault
use Rattle.memory_store.specs.Tree.{Tree}
use Rattle.memory_store.specs.InMemory.{Memory, Upload, unit_of}
use Rattle.memory_store.proofs.Fills.{refuses, decided_full, cut_passes}
use Rattle.memory_store.proofs.memory.MemStore.fill_from.Goals as goal

pub returns-clause-step : goal.returns-clause-step
returns-clause-step g c =
    let upload : Upload = c.args.sink in
    let capacity_is : c.self.inside.capacity ≡ c.args.self.now.capacity = ap (λ (memory : Memory). memory.capacity) c.self.view_is in
    let most_is : c.sink.inside.most ≡ upload.most = ap (λ (seen : Upload). seen.most) c.sink.view_is in
    refuses c.args.self.now _ unit_of (λ (tree : Tree). tree) fault.Full
    (decided_full c.args.self.now upload c.args.moment c.args.octets.now
    (cut_passes c.args.self.now upload c.args.moment c.args.octets.now c.requires
    (subst (λ n. n ≤ upload.most) capacity_is (subst (λ n. c.self.inside.capacity ≤ n) most_is c.if-sink-self.false))
    (ap (λ (seen : Upload). nat_lt seen.most (length seen.octets)) (sym c.sink.view_is) ∙ sym c.sink.invariant.cut ∙ c.if-not-sink.false)))
