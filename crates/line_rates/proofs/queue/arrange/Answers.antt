use Rattle.std.proofs.Common.{rules, List, map, sym, subst}
use Rattle.std.proofs.lemmas.Fn.{always_returns_same}
use Rattle.line_rates.proofs.QueueLemmas.{arranged, all_kept}
use Rattle.line_rates.proofs.OrderLemmas.{arranged_order, numbers_kept}
use Rattle.line_rates.specs.Queue.{AreAmong}
use Rattle.line_rates.specs.TickTree.{Asker, ask_in}
use Rattle.line_rates.proofs.queue.arrange.Goals as goal

pub returns-clause-all : goal.returns-clause-all
returns-clause-all g c =
    all_kept c.args.queue.now c.give_names.new.queue c.sort_unstable_by_key.new.self c.give_firsts.new.queue c.sort_unstable_by_key-2.new.self c.give_names.ensures.same c.sort_unstable_by_key.ensures.permutation
    c.give_firsts.ensures.askers c.sort_unstable_by_key-2.ensures.permutation

pub returns-clause-together : goal.returns-clause-together
returns-clause-together g c =
    arranged c.args.limits.now c.args.level c.give_names.new.queue c.sort_unstable_by_key.new.self c.give_firsts.new.queue c.sort_unstable_by_key-2.new.self c.give_names.ensures.named c.sort_unstable_by_key.ensures.permutation
    (c.sort_unstable_by_key.ensures.sorted (λ x. (x.name, x.number)) (always_returns_same _ _ _ (λ a r q k. search rules)))
    c.give_firsts.ensures.askers c.give_firsts.ensures.names c.give_firsts.ensures.numbered c.sort_unstable_by_key-2.ensures.permutation
    (c.sort_unstable_by_key-2.ensures.sorted (λ x. (x.first, x.name, x.number)) (always_returns_same _ _ _ (λ a r q k. search rules)))

pub returns-clause-numbers : goal.returns-clause-numbers
returns-clause-numbers g c =
    numbers_kept c.args.queue.now c.give_names.new.queue c.sort_unstable_by_key.new.self c.give_firsts.new.queue c.sort_unstable_by_key-2.new.self c.give_names.ensures.numbers c.sort_unstable_by_key.ensures.permutation
    c.give_firsts.ensures.numbers c.sort_unstable_by_key-2.ensures.permutation

pub returns-clause-in_order : goal.returns-clause-in_order
returns-clause-in_order g c = λ asks among.
    arranged_order c.args.limits.now c.args.level asks c.give_names.new.queue c.sort_unstable_by_key.new.self c.give_firsts.new.queue c.sort_unstable_by_key-2.new.self c.give_names.ensures.named c.give_names.ensures.own c.sort_unstable_by_key.ensures.permutation
    (c.sort_unstable_by_key.ensures.sorted (λ x. (x.name, x.number)) (always_returns_same _ _ _ (λ a r q k. search rules)))
    c.give_firsts.ensures.askers c.give_firsts.ensures.names c.give_firsts.ensures.numbered c.give_firsts.ensures.own c.sort_unstable_by_key-2.ensures.permutation
    (c.sort_unstable_by_key-2.ensures.sorted (λ x. (x.first, x.name, x.number)) (always_returns_same _ _ _ (λ a r q k. search rules)))
    (subst (λ (xs : List Asker). AreAmong c.args.limits.now asks (map ask_in xs)) (sym c.give_names.ensures.same) among)
