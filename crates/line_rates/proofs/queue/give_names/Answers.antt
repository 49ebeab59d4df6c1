use Rattle.std.proofs.Common.{◌≡◌, arith, refl, ◌∙◌, subst, take_all}
use Rattle.std.proofs.Math.Seq.{map-set_same}
use Rattle.std.specs.List.{All}
use Rattle.line_rates.specs.Grown.{key}
use Rattle.line_rates.specs.Queue.{asker_of, numbered_of, AreNamedAt, IsOwnFirst}
use Rattle.line_rates.proofs.QueueLemmas.{all_put}
use Rattle.line_rates.proofs.queue.give_names.Goals as goal

pub loop-place-preserved : goal.loop-place-preserved
loop-place-preserved g c = record {
  same = map-set_same asker_of c.loop-place.queue c.loop-place.place _ _ refl ∙ c.loop-place.invariant.same;
  named = all_put (λ x. x.name ≡ key c.args.limits.now c.args.level x.asker.1) c.loop-place.queue c.loop-place.place _ (omega arith) c.loop-place.invariant.named c.name_at-name.ensures.key;
  numbers = map-set_same numbered_of c.loop-place.queue c.loop-place.place _ _ refl ∙ c.loop-place.invariant.numbers;
  own = all_put IsOwnFirst c.loop-place.queue c.loop-place.place _ (omega arith) c.loop-place.invariant.own refl;
}

pub returns-clause-named : goal.returns-clause-named
returns-clause-named g c = subst (AreNamedAt c.args.limits.now c.args.level) (take_all c.loop-place.place c.loop-place.queue (omega arith)) c.loop-place.invariant.named

pub returns-clause-own : goal.returns-clause-own
returns-clause-own g c = subst (All IsOwnFirst) (take_all c.loop-place.place c.loop-place.queue (omega arith)) c.loop-place.invariant.own
