use Rattle.std.proofs.Common.{rules, ◌∙◌, sym, ap, subst, List}
use Rattle.std.proofs.lemmas.Bool.{lt-ltb}
use Rattle.rate_floors.specs.declared.find.UserSessions.{UserSessions}
use Rattle.line_rates.specs.Put.{IsAt}
use Rattle.rate_floors.specs.Promises.{Promises, user_of, user_key, has_counted, has_session, one_less, taken, changed, PromisesFit}
use Rattle.rate_floors.proofs.FitLemmas.{fit_less}
use Rattle.rate_floors.proofs.FloorLemmas.{cond_true, entry_key, entry_stands, changed_value, reported_before, has_floors}
use Rattle.rate_floors.proofs.floors.Floors.release.Goals as goal

pub take-requires-clause-floors : goal.take-requires-clause-floors
take-requires-clause-floors g c =
    let at : IsAt user_key c.self.inside.users.items c.args.user c.in-Some.place = subst (λ (us : List UserSessions). IsAt user_key us c.args.user c.in-Some.place) c.deref.ensures.value c.in-Some.ensures.place in
    has_floors c.self.inside.users.items c.args.user c.in-Some.place c.index-entry.result.now at c.index-entry.ensures c.self.inside.promised_down c.self.inside.promised_up c.self.inside.groups.items c.self.inside.groups.items c.self.invariant.reported (search rules)

pub invariant_of-self : goal.invariant_of-self
invariant_of-self g c =
    let at : IsAt user_key c.self.inside.users.items c.args.user c.in-Some.place = subst (λ (us : List UserSessions). IsAt user_key us c.args.user c.in-Some.place) c.deref.ensures.value c.in-Some.ensures.place in
    record {
      reported = reported_before c.self.inside.users.items c.args.user c.in-Some.place c.index-entry.result.now at c.index-entry.ensures c.self.inside.promised_down c.self.inside.promised_up c.self.inside.groups.items c.take.new.groups.items c.self.invariant.reported (search rules) c.take.ensures.taken;
      fit = subst PromisesFit
          (sym (changed_value c.self.inside.users.items c.args.user c.in-Some.place c.index-entry.result.now at c.index-entry.ensures c.self.inside.share_by c.self.inside.server c.self.inside.down c.self.inside.up c.self.inside.groups.items c.take.new.groups.items one_less taken c.args.self.now c.self.invariant.reported.users_rise c.self.view_is c.take.ensures.taken))
          (fit_less c.args.self.now c.args.user (subst PromisesFit c.self.view_is c.self.invariant.fit));
    }

pub returns-clause-released : goal.returns-clause-released
returns-clause-released g c =
    let at : IsAt user_key c.self.inside.users.items c.args.user c.in-Some.place = subst (λ (us : List UserSessions). IsAt user_key us c.args.user c.in-Some.place) c.deref.ensures.value c.in-Some.ensures.place in
    cond_true (has_counted c.args.self.now c.args.user) c.args.self.now (changed one_less c.args.self.now c.args.user) _ (ap has_session (sym (ap (user_of c.args.self.now) (entry_key c.self.inside.users.items c.args.user c.in-Some.place c.index-entry.result.now at c.index-entry.ensures)) ∙ entry_stands c.self.inside.users.items c.args.user c.in-Some.place c.index-entry.result.now at c.index-entry.ensures c.args.self.now (ap (λ (p : Promises). p.users) c.self.view_is)) ∙ lt-ltb 0 c.index-entry.result.now.sessions (search rules))
    (changed_value c.self.inside.users.items c.args.user c.in-Some.place c.index-entry.result.now at c.index-entry.ensures c.self.inside.share_by c.self.inside.server c.self.inside.down c.self.inside.up c.self.inside.groups.items c.take.new.groups.items one_less taken c.args.self.now c.self.invariant.reported.users_rise c.self.view_is c.take.ensures.taken)
