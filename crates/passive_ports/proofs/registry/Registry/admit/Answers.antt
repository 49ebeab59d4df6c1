use Rattle.std.proofs.Common.{◌≡◌, ◌≢◌, ◌+◌, ◌<◌, None, Some, ap, ◌∙◌, arith}
use Rattle.slab.specs.Slab.{Updates, get, slab_len}
use Rattle.passive_ports.proofs.ConnectionLemmas.{below_limit, updates_reserved, get-reserved, few_of_address, admits, keeps_admitting}
use Rattle.passive_ports.proofs.registry.Registry.admit.Goals as goal

pub overflow_add-count : goal.overflow_add-count
overflow_add-count g c =
    omega (arith, c.count_in-count.ensures.count, few_of_address c.self.inside.max c.self.inside.max_of_address c.self.inside.addresses c.self.inside.counts c.args.address c.self.invariant)

pub invariant_of-self-2 : goal.invariant_of-self-2
invariant_of-self-2 g c =
    let old = c.self.inside.addresses in
    let mid = c.reserve.new.self in
    let new = c.insert_reserved.new.self in
    let key = c.insert_reserved.result in
    let reserved = c.in_ok-reserve.ensures.rest_kept in
    let updates : Updates old new key (Some c.args.address) = updates_reserved old mid new key (Some c.args.address) reserved c.insert_reserved.ensures.updates in
    let absent : get old key ≡ None = get-reserved old mid key reserved c.insert_reserved.ensures.was_vacant in
    let len : slab_len new ≡ slab_len old + 1 = c.insert_reserved.ensures.len ∙ ap (λ s. slab_len s + 1) reserved in
    let below : slab_len old < c.self.inside.max = omega arith in
    let below_of : c.self.inside.max_of_address ≢ 0 → c.count_in-count.result < c.self.inside.max_of_address =
    λ some. below_limit c.count_in-count.result c.self.inside.max_of_address c.if-reaches.ensures some in
    keeps_admitting c.self.inside.max c.self.inside.max_of_address old new key c.args.address c.self.inside.counts c.set_count.new.counts c.count_in-count.result
    c.self.invariant updates absent len below below_of c.count_in-count.ensures.count c.in_ok-set_count.ensures.set

pub returns-clause-admitted : goal.returns-clause-admitted
returns-clause-admitted g c =
    let old = c.self.inside.addresses in
    let mid = c.reserve.new.self in
    let new = c.insert_reserved.new.self in
    let key = c.insert_reserved.result in
    let reserved = c.in_ok-reserve.ensures.rest_kept in
    rw (← c.self.view_is) (admits c.self.inside.max c.self.inside.max_of_address old new key c.args.address
    (updates_reserved old mid new key (Some c.args.address) reserved c.insert_reserved.ensures.updates)
    (get-reserved old mid key reserved c.insert_reserved.ensures.was_vacant))
