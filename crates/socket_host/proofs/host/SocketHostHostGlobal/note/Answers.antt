use Rattle.std.proofs.Common.{ap}
use Rattle.socket_host.proofs.Doing.{followed}
use Rattle.socket_host.proofs.host.SocketHostHostGlobal.note.Goals as goal

pub returns : goal.returns
returns g c = (followed _ _ c.args.call.now c.follow.ensures.follows, ap (λ s. s.run.payer) c.follow.ensures.side)
