use Rattle.std.proofs.Common.{◌<◌, length, ap, subst, sym, arith}
use Rattle.std.proofs.lemmas.List.{length-map}
use Rattle.std.proofs.lemmas.Result.{IfOk-weaker}
use Rattle.ftp_wire.specs.Reading.{item_of}
use Rattle.session_table.specs.Steps.{IsTaken, Standing}
use Rattle.session_table.specs.Table.{Taken, most_held}
use Rattle.session_core.proofs.Tables.{holds_few}
use Rattle.session_core.proofs.session.Session.hold.Goals as goal

pub returns-clause-row : goal.returns-clause-row
returns-clause-row g c =
    let items = c.self.inside.held.items in
    let held = ap (λ (s : Standing). s.held) (sym c.self.view_is) in
    let few : length c.args.self.now.held < most_held = omega (arith, ap length held, length-map items item_of, c.len.ensures, c.if-len-ge-MOST_HELD.false) in
    let taken = holds_few {A = g.row.A.Denot} {R = g.row.R.Denot} {K = g.row.K.Denot} c.args.self.now.view c.args.self.now.held (item_of c.args.item) few in
    IfOk-weaker c.keep.result _ _ (λ actions kept.
    subst (λ (t : Taken g.row.A.Denot g.row.R.Denot g.row.K.Denot). IsTaken t c.keep.new.self actions.items) (sym taken) kept) c.keep.ensures.row
