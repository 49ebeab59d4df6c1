use Rattle.std.proofs.Common.{◌≡◌, ◌≤◌, ◌++◌, [], ◌∷◌, ℕ, List, map, sum_by, ap, ◌∙◌, sym, subst, refl, arith, Result, Ok, Err, OnErr}
use Rattle.std.specs.Prelude.{IfOk}
use Rattle.std.proofs.Math.Logic.{∥∥₁_map}
use Rattle.grant_ledger.specs.Books.{BookView}
use Rattle.round_pace.specs.Histories.{rates_of}
use Rattle.paced_rounds.specs.History.{granted_in, round_at, history, octets_of, octets_in, ended_in, stretches}
use Rattle.line_rates.specs.Rates.{Rates}
use Rattle.lane_desk.specs.Peers.{IsTurned}
use Rattle.lane_desk.specs.Traces.{traces}
use Rattle.lane_desk.specs.Tried.{is_given}
use Rattle.paced_rounds.specs.LaneTurns.{TurnRound, turns_in, turns_at, turns_after, IsSecond}
use Rattle.paced_rounds.specs.Turning.{had_at, had_after}
use Rattle.paced_rounds.proofs.LaneLemmas.{second_at, second_after}
use Rattle.paced_rounds.proofs.RunLemmas.{Leads, leads_ok, leads_err, grown, run_more, stretches_more, sum_more, reported_more}
use Rattle.paced_rounds.proofs.SpanLemmas.{span_more}
use Rattle.paced_rounds.proofs.rounds.PacedRounds.hold.Goals as goal
use Rattle.paced_rounds.proofs.rounds.PacedRounds.hold.Goals.{in-Ok, in-Err}

on_err : {A B : Type 0} (old new : BookView) (x : Result A B) → OnErr x (new ≡ old) → OnErr x (new.issued ≡ old.issued)
on_err old new (Ok r) h = h
on_err old new (Err f) h = ap (λ (b : BookView). b.issued) h

pub invariant_of-self : goal.invariant_of-self
invariant_of-self g c =
    let old = c.args.self.now in
    let now : ℕ = c.max-now.result in
    let new = c.round_of-result.new.self in
    let pace = c.match-result.self.1.1.0 in
    let taken = c.match-result.taken.items in
    let out = c.round_of-result.result in
    let leads : Leads old.pace pace now old.rounds.book.issued new.book.issued taken out =
    elim c.match-result.branch [
      | in-Ok w ↦ leads_ok c.grants_keep_names.ensures.kept (is_given c.args.given.now) old.pace c.offer-moment.new.self pace now c.offer-moment.result old.rounds.book.issued new.book.issued c.limits.result.now taken out w.in-Ok.made
          (traces old.rounds.desk) (traces new.desk) w.deref.result.now w.grants.result.now w.in-Ok.is c.offer-moment.ensures.round c.limits.ensures.limits c.offer-moment.ensures.moment
          c.round_of-result.ensures.round c.round_of-result.ensures.best w.deref.ensures.value w.grants.ensures.grants (ap (λ s. s.1.1.0) w.self-is ∙ w.charge-taken.ensures.taken)
          (ap (λ l. map granted_in l.items) w.taken-is ∙ w.charge-taken.ensures.log) c.round_of-result.ensures.issued
      | in-Err w ↦ leads_err old.pace c.offer-moment.new.self pace now old.rounds.book.issued new.book.issued taken out w.in-Err.field-0
          w.in-Err.is c.offer-moment.ensures.round (ap (λ s. s.1.1.0) w.self-is) (ap (λ l. l.items) w.taken-is ∙ w.new-taken.ensures.none) (on_err old.rounds.book new.book out c.round_of-result.ensures.unchanged)
    ] in
    let later : old.latest ≤ now = omega (arith, c.max-now.ensures) in
    let more : history c.and-self.result.items ≡ history old.log.items ++ round_at now out ∷ [] =
    grown old.log.items c.and-self.result.items (now, c.match-result.taken) (round_at now out) c.and-self.ensures.more (λ i. record { now = now; leaves = leads.log i }) in
    let all = stretches_more old.ended.items old.ended.items pace old.log.items c.and-self.result.items (round_at now out) refl more in
    let offered : Rates = c.offer-moment.new.self.offered in
    let is_turns : turns_in c.note.new.turns.items ≡ turns_after offered out (turns_at now old.latest (turns_in old.turns.items)) = c.note.ensures.turns ∙ ap (turns_after offered out) c.begin.ensures.turns in
    let is_had : c.have.new.had ≡ had_after out (had_at now old.latest old.had) = c.have.ensures.had ∙ ap (had_after out) c.had_at-had.ensures.had in
    let by_turns = subst (λ (x : List ℕ × Rates). IfOk out (λ r. IsTurned x.0 x.1 r.lanes.items r.asks.items r.sealed.grants)) (λ k. (c.had_at-had.ensures.had k, c.limits.ensures.limits k)) c.round_of-result.ensures.turns in
    record {
      begun = (let b : old.opened ≤ old.latest = old.begun in omega arith);
      spanned = span_more old.opened old.latest now (ended_in old.ended.items) (stretches old.ended.items pace c.and-self.result.items) old.pace pace (history old.log.items) (round_at now out) later old.begun refl all old.spanned;
      run = run_more c.histories_keep_rates.ensures.begin c.histories_keep_rates.ensures.stay old.pace pace old.latest (ended_in old.ended.items) (stretches old.ended.items pace c.and-self.result.items) (history old.log.items) (round_at now out) later leads.kept leads.best leads.is all old.run;
      turned = ∥∥₁_map old.turned (λ s. subst (λ (x : List ℕ × List TurnRound). IsSecond x.0 x.1) (λ k. (sym is_had k, sym is_turns k))
          (second_after offered out (had_at now old.latest old.had) (turns_at now old.latest (turns_in old.turns.items)) by_turns (second_at now old.latest old.had (turns_in old.turns.items) s)));
      reported = reported_more old.rounds.book.issued new.book.issued old.carried (sum_by octets_in (stretches old.ended.items old.pace old.log.items)) (sum_by octets_in (stretches old.ended.items pace c.and-self.result.items)) (octets_of (round_at now out)) old.reported
          (sum_more (ended_in old.ended.items) (stretches old.ended.items pace c.and-self.result.items) old.pace pace (history old.log.items) (round_at now out) all) leads.issued;
    }

pub returns-clause-rates : goal.returns-clause-rates
returns-clause-rates g c =
    let old = c.args.self.now in
    let now : ℕ = c.max-now.result in
    let new = c.round_of-result.new.self in
    let pace = c.match-result.self.1.1.0 in
    let taken = c.match-result.taken.items in
    let out = c.round_of-result.result in
    let leads : Leads old.pace pace now old.rounds.book.issued new.book.issued taken out =
    elim c.match-result.branch [
      | in-Ok w ↦ leads_ok c.grants_keep_names.ensures.kept (is_given c.args.given.now) old.pace c.offer-moment.new.self pace now c.offer-moment.result old.rounds.book.issued new.book.issued c.limits.result.now taken out w.in-Ok.made
          (traces old.rounds.desk) (traces new.desk) w.deref.result.now w.grants.result.now w.in-Ok.is c.offer-moment.ensures.round c.limits.ensures.limits c.offer-moment.ensures.moment
          c.round_of-result.ensures.round c.round_of-result.ensures.best w.deref.ensures.value w.grants.ensures.grants (ap (λ s. s.1.1.0) w.self-is ∙ w.charge-taken.ensures.taken)
          (ap (λ l. map granted_in l.items) w.taken-is ∙ w.charge-taken.ensures.log) c.round_of-result.ensures.issued
      | in-Err w ↦ leads_err old.pace c.offer-moment.new.self pace now old.rounds.book.issued new.book.issued taken out w.in-Err.field-0
          w.in-Err.is c.offer-moment.ensures.round (ap (λ s. s.1.1.0) w.self-is) (ap (λ l. l.items) w.taken-is ∙ w.new-taken.ensures.none) (on_err old.rounds.book new.book out c.round_of-result.ensures.unchanged)
    ] in
    ap rates_of leads.is ∙ c.histories_keep_rates.ensures.stay old.pace (round_at now out)
