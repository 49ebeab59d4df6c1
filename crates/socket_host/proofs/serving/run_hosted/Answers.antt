use Rattle.std.proofs.Common.{inr}
use Rattle.socket_host.proofs.serving.run_hosted.Goals as goal

pub returns-in-Ok : goal.returns-in-Ok
returns-in-Ok g c = record {
  served = inr (
    c.in-Ok.settings,
    c.run_control.result,
    c.run_control.ensures.charges g.T.SessionHost.kept g.T.SessionHost.user g.T.SessionHost.charged g.met.T.SessionHost.keeps g.met.T.SessionHost.charges,
  );
}
