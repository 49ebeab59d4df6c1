use Rattle.std.proofs.Common.{arith, ◌-◌, ap, sym, refl, ◌∙◌, ◌≡◌}
use Rattle.std.proofs.Math.Seq.{map-set_same}
use Rattle.line_rates.specs.Queue.{asker_of, name_of, numbered_of}
use Rattle.line_rates.proofs.OrderLemmas.{own_start, own_put}
use Rattle.line_rates.proofs.RowLemmas.{at_any}
use Rattle.line_rates.proofs.QueueLemmas.{adjacent_put}
use Rattle.line_rates.proofs.queue.give_firsts.Goals as goal

pub loop-place-preserved : goal.loop-place-preserved
loop-place-preserved c = record {
  askers = map-set_same asker_of c.loop-place.queue c.loop-place.place _ _ refl ∙ c.loop-place.invariant.askers;
  names = map-set_same name_of c.loop-place.queue c.loop-place.place _ _ refl ∙ c.loop-place.invariant.names;
  numbered = adjacent_put (λ x y. x.name ≡ y.name → x.first ≡ y.first) c.loop-place.queue c.loop-place.place _ (omega arith) (omega arith) c.loop-place.invariant.numbered (λ d e.
      let same = at_any c.loop-place.queue (c.loop-place.place - 1) d _ (omega arith) in ap (λ x. x.first) same ∙ sym (c.first_of-first.ensures.first (sym e ∙ ap name_of same)));
  numbers = map-set_same numbered_of c.loop-place.queue c.loop-place.place _ _ refl ∙ c.loop-place.invariant.numbers;
  own = λ all. own_put c.loop-place.queue c.loop-place.place _ (omega arith) (omega arith) (λ d. ap name_of (at_any c.loop-place.queue c.loop-place.place _ d (omega arith)))
      (λ d differ. c.first_of-first.ensures.own (λ e. differ (ap name_of (at_any c.loop-place.queue (c.loop-place.place - 1) d _ (omega arith)) ∙ sym e)))
      (c.loop-place.invariant.own all);
}

pub loop-place-init : goal.loop-place-init
loop-place-init c = record {
  askers = refl;
  names = refl;
  numbered = λ k d lt. absurd (omega arith);
  numbers = refl;
  own = own_start c.args.queue.now;
}
