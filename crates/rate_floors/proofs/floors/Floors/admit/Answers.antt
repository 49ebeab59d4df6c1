use Rattle.std.proofs.Common.{◌≡◌, ◌∙◌, sym, ap, subst, List, None}
use Rattle.std.specs.FinMap as finite
use Rattle.line_rates.specs.Stated.{by_number}
use Rattle.rate_floors.specs.declared.find.UserSessions.{UserSessions}
use Rattle.line_rates.specs.Put.{IsAt}
use Rattle.rate_floors.specs.Promises.{Promises, user_key, admits, one_more, added, changed, PromisesFit}
use Rattle.rate_floors.proofs.FitLemmas.{fit_more}
use Rattle.rate_floors.proofs.FloorLemmas.{unchanged, cond_same, cond_true, entry_key, changed_value, reported_after, has_room}
use Rattle.rate_floors.proofs.floors.Floors.admit.Goals as goal

pub returns-in_default-clause-counted : goal.returns-in_default-clause-counted
returns-in_default-clause-counted g c =
    cond_same (admits c.args.self.now c.args.user) c.args.self.now (changed one_more c.args.self.now c.args.user)
    (unchanged one_more c.args.self.now c.self.inside.users.items c.args.user (ap (λ (p : Promises). p.users) c.self.view_is) (subst (λ (us : List UserSessions). finite.get (by_number user_key us) c.args.user ≡ None) c.deref.ensures.value c.in_default.ensures.place))

pub add-requires-clause-room : goal.add-requires-clause-room
add-requires-clause-room g c =
    let at : IsAt user_key c.self.inside.users.items c.args.user c.in-Some.place = subst (λ (us : List UserSessions). IsAt user_key us c.args.user c.in-Some.place) c.deref.ensures.value c.in-Some.ensures.place in
    has_room c.self.inside.users.items c.args.user c.in-Some.place c.index-entry.result.now at c.index-entry.ensures c.self.inside.promised_down c.self.inside.promised_up c.self.inside.groups.items c.self.inside.groups.items c.self.invariant.reported c.args.self.now (ap (λ (p : Promises). p.users) c.self.view_is)

pub invariant_of-self : goal.invariant_of-self
invariant_of-self g c =
    let at : IsAt user_key c.self.inside.users.items c.args.user c.in-Some.place = subst (λ (us : List UserSessions). IsAt user_key us c.args.user c.in-Some.place) c.deref.ensures.value c.in-Some.ensures.place in
    let key = entry_key c.self.inside.users.items c.args.user c.in-Some.place c.index-entry.result.now at c.index-entry.ensures in
    let admitted = sym c.if-not-fits.ensures.fits in
    record {
      reported = reported_after c.self.inside.users.items c.args.user c.in-Some.place c.index-entry.result.now at c.index-entry.ensures c.self.inside.promised_down c.self.inside.promised_up c.self.inside.groups.items c.add.new.groups.items c.self.invariant.reported c.args.self.now (ap (λ (p : Promises). p.users) c.self.view_is) admitted c.add.ensures.added;
      fit = subst PromisesFit
          (sym (changed_value c.self.inside.users.items c.args.user c.in-Some.place c.index-entry.result.now at c.index-entry.ensures c.self.inside.share_by c.self.inside.server c.self.inside.down c.self.inside.up c.self.inside.groups.items c.add.new.groups.items one_more added c.args.self.now c.self.invariant.reported.users_rise c.self.view_is c.add.ensures.added))
          (fit_more c.args.self.now c.args.user (subst PromisesFit c.self.view_is c.self.invariant.fit) (sym (ap (admits c.args.self.now) key) ∙ admitted));
    }

pub returns-clause-counted : goal.returns-clause-counted
returns-clause-counted g c =
    let at : IsAt user_key c.self.inside.users.items c.args.user c.in-Some.place = subst (λ (us : List UserSessions). IsAt user_key us c.args.user c.in-Some.place) c.deref.ensures.value c.in-Some.ensures.place in
    cond_true (admits c.args.self.now c.args.user) c.args.self.now (changed one_more c.args.self.now c.args.user) _ (sym (c.if-not-fits.ensures.fits ∙ ap (admits c.args.self.now) (entry_key c.self.inside.users.items c.args.user c.in-Some.place c.index-entry.result.now at c.index-entry.ensures)))
    (changed_value c.self.inside.users.items c.args.user c.in-Some.place c.index-entry.result.now at c.index-entry.ensures c.self.inside.share_by c.self.inside.server c.self.inside.down c.self.inside.up c.self.inside.groups.items c.add.new.groups.items one_more added c.args.self.now c.self.invariant.reported.users_rise c.self.view_is c.add.ensures.added)
