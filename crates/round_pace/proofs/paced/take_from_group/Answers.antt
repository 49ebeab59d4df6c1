use Rattle.std.proofs.Common.{◌≡◌, ap, ◌∙◌, sym, subst, set, List, None}
use Rattle.std.specs.FinMap as finite
use Rattle.line_rates.specs.Put.{IsAt}
use Rattle.line_rates.specs.Stated.{by_number}
use Rattle.round_pace.specs.declared.paced.GroupPace.{GroupPace}
use Rattle.round_pace.specs.Paced.{group_key}
use Rattle.round_pace.specs.Taken.{take_group}
use Rattle.round_pace.proofs.Places.{changed_at, changed_nowhere}
use Rattle.round_pace.proofs.paced.take_from_group.Goals as goal

pub returns-in-Some-clause-taken : goal.returns-in-Some-clause-taken
returns-in-Some-clause-taken g c =
    ap (set c.args.groups.now.items c.in-Some.place) c.take_group-after.ensures.group
    ∙ (ap (λ (x : GroupPace). set c.args.groups.now.items c.in-Some.place (take_group c.args.way c.args.octets x)) c.index.ensures
    ∙ sym (changed_at group_key (take_group c.args.way c.args.octets) c.args.groups.now.items c.args.group c.in-Some.place c.index.result.now c.requires.rising
    (subst (λ (xs : List GroupPace). IsAt group_key xs c.args.group c.in-Some.place) c.deref.ensures.value c.in-Some.ensures.place)))

pub returns-in-None-clause-taken : goal.returns-in-None-clause-taken
returns-in-None-clause-taken g c = sym (changed_nowhere group_key (take_group c.args.way c.args.octets) c.args.groups.now.items c.args.group
    (subst (λ (xs : List GroupPace). finite.get (by_number group_key xs) c.args.group ≡ None) c.deref.ensures.value c.in-None.ensures.place))
