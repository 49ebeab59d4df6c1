use Rattle.std.proofs.Common.{subst, List, Vec}
use Rattle.std.specs.declared.alloc.Global.{Global}
use Rattle.config_file.specs.declared.stated.OverrideTable.{OverrideTable}
use Rattle.config_file.specs.declared.stated.UserTable.{UserTable}
use Rattle.config_report.specs.Looks.{AreRows}
use Rattle.config_report.proofs.seen.seen_of.Goals as goal

pub returns-clause-seen : goal.returns-clause-seen
returns-clause-seen g c = (
  c.root_seen-root.ensures.root,
  subst (λ (t : List UserTable × List (Vec OverrideTable Global)). AreRows (g.L.Lookout.Shows c.args.lookout.now) c.args.store.now t.0 t.1 c.in_ok-users.users.items)
      (λ q. (c.as_slice-users.ensures.value q, c.as_slice-overrides.ensures.value q)) c.in_ok-users.ensures.rows,
  c.mode.ensures.shows,
)
