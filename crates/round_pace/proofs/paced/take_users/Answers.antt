use Rattle.std.proofs.Common.{◌≡◌, ap, ◌∙◌, sym, subst, set, List, None}
use Rattle.std.proofs.lemmas.List.Elements.{All-set}
use Rattle.std.specs.FinMap as finite
use Rattle.line_rates.specs.Put.{IsAt}
use Rattle.line_rates.specs.Stated.{by_number}
use Rattle.round_pace.specs.declared.paced.UserPace.{UserPace}
use Rattle.round_pace.specs.Paced.{pace_number, IsUserPace}
use Rattle.round_pace.specs.Taken.{take_user}
use Rattle.round_pace.proofs.Places.{changed_at, changed_nowhere}
use Rattle.round_pace.proofs.paced.take_users.Goals as goal

pub returns-in-Some-clause-taken : goal.returns-in-Some-clause-taken
returns-in-Some-clause-taken g c =
    ap (set c.args.users.now.items c.in-Some.place) c.take_user-after.ensures.user
    ∙ (ap (λ (x : UserPace). set c.args.users.now.items c.in-Some.place (take_user c.args.way c.args.octets c.args.own x)) c.index.ensures
    ∙ sym (changed_at pace_number (take_user c.args.way c.args.octets c.args.own) c.args.users.now.items c.args.user c.in-Some.place c.index.result.now c.requires.rising
    (subst (λ (xs : List UserPace). IsAt pace_number xs c.args.user c.in-Some.place) c.deref.ensures.value c.in-Some.ensures.place)))

pub returns-in-None-clause-taken : goal.returns-in-None-clause-taken
returns-in-None-clause-taken g c = sym (changed_nowhere pace_number (take_user c.args.way c.args.octets c.args.own) c.args.users.now.items c.args.user
    (subst (λ (xs : List UserPace). finite.get (by_number pace_number xs) c.args.user ≡ None) c.deref.ensures.value c.in-None.ensures.place))

pub returns-in-Some-clause-paces : goal.returns-in-Some-clause-paces
returns-in-Some-clause-paces g c = All-set IsUserPace c.args.users.now.items c.in-Some.place c.take_user-after.result c.take_user-after.ensures.fits c.requires.paces
