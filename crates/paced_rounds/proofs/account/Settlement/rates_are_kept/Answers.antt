use Rattle.std.proofs.Common.{◌+◌, ℕ, ap, ◌∙◌, sym}
use Rattle.paced_rounds.proofs.SpanLemmas.{kept_by, within_by}
use Rattle.paced_rounds.specs.History.{ended_in}
use Rattle.paced_rounds.proofs.account.Settlement.rates_are_kept.Goals as goal

pub returns-clause-every_second : goal.returns-clause-every_second
returns-clause-every_second g c =
    let s = c.args.self.now in
    kept_by (ended_in s.rounds.items) s.opened s.latest s.spanned

pub returns-clause-kept : goal.returns-clause-kept
returns-clause-kept g c =
    let s = c.args.self.now in
    within_by c.spans_are_kept.ensures.kept (ended_in s.rounds.items) s.opened s.latest s.spanned

pub returns-clause-server : goal.returns-clause-server
returns-clause-server g c =
    let s = c.args.self.now in
    let within = within_by c.spans_are_kept.ensures.kept (ended_in s.rounds.items) s.opened s.latest s.spanned in
    s.granted ∙ ap (λ (n : ℕ). s.carried + n) (sym within.server)
