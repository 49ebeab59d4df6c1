use Rattle.std.proofs.Common.{IfOk, sym, subst}
use Rattle.session_table.specs.Rules.{file_row}
use Rattle.session_table.specs.Plans.{RanByStore}
use Rattle.session_core.proofs.rows.file_row.Goals as goal

pub returns-in-Rnfr-clause-row : goal.returns-in-Rnfr-clause-row
returns-in-Rnfr-clause-row g c =
    subst (λ row. IfOk c.rnfr_row.result (λ actions. RanByStore g.S.Store.Step (file_row {A = g.row.A.Denot} {R = g.row.S-Source.Denot} {K = g.row.S-Sink.Denot} c.args.users.now.users c.args.state.now c.args.moment row c.args.location) c.args.store.now c.rnfr_row.new.store c.rnfr_row.new.state actions.items))
    (sym c.in-Rnfr.is) c.rnfr_row.ensures.row

pub returns-in-Size-clause-row : goal.returns-in-Size-clause-row
returns-in-Size-clause-row g c =
    subst (λ row. IfOk c.size_row.result (λ actions. RanByStore g.S.Store.Step (file_row {A = g.row.A.Denot} {R = g.row.S-Source.Denot} {K = g.row.S-Sink.Denot} c.args.users.now.users c.args.state.now c.args.moment row c.args.location) c.args.store.now c.size_row.new.store c.size_row.new.state actions.items))
    (sym c.in-Size.is) c.size_row.ensures.row

pub returns-in-Rmd-clause-row : goal.returns-in-Rmd-clause-row
returns-in-Rmd-clause-row g c =
    subst (λ row. IfOk c.rmd_row.result (λ actions. RanByStore g.S.Store.Step (file_row {A = g.row.A.Denot} {R = g.row.S-Source.Denot} {K = g.row.S-Sink.Denot} c.args.users.now.users c.args.state.now c.args.moment row c.args.location) c.args.store.now c.rmd_row.new.store c.rmd_row.new.state actions.items))
    (sym c.in-Rmd.is) c.rmd_row.ensures.row
