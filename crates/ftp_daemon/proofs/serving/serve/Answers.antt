use Rattle.std.proofs.Common.{◌≤◌, ◌*◌, ◌+◌, ℕ, ap, ◌∙◌, arith}
use Rattle.line_rates.specs.declared.ask.Name.TheVariants.{Server}
use Rattle.paced_rounds.specs.Settled.{rounds_of}
use Rattle.paced_rounds.specs.Spans.{granted_to, seconds_from}
use Rattle.ftp_daemon.specs.SameRates.{may_hold}
use Rattle.ftp_daemon.proofs.KeptLemmas.{has_rate, issued_by, issued_within, one_server}
use Rattle.ftp_daemon.proofs.serving.serve.Goals as goal

pub returns-clause-issued : goal.returns-clause-issued
returns-clause-issued g c =
    let s = c.serve_booked-settlement.result.0 in
    issued_by s.issued s.carried c.args.book.issued (granted_to Server (rounds_of s)) c.rates_are_kept.ensures.server c.serve_booked-settlement.ensures.carried

pub returns-clause-seconds : goal.returns-clause-seconds
returns-clause-seconds g c some one =
    let s = c.serve_booked-settlement.result.0 in
    let rate = c.args.service.limits.server in
    let all = one_server c.args.service.limits g.P.OwnerSigns.allows one in
    let has = has_rate (may_hold c.args.service.limits g.P.OwnerSigns.allows) rate all (rounds_of s) c.serve_booked-settlement.ensures.rates in
    issued_within s.issued s.carried c.args.book.issued (granted_to Server (rounds_of s)) (seconds_from s.opened s.latest * rate)
    c.rates_are_kept.ensures.server c.serve_booked-settlement.ensures.carried (c.rates_are_kept.ensures.kept.one_rate Server rate some has)
