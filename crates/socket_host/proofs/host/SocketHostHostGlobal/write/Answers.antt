use Rattle.std.proofs.Common.{ap}
use Rattle.socket_host.proofs.Doing.{stays, wrote_does}
use Rattle.socket_host.proofs.host.SocketHostHostGlobal.write.Goals as goal

pub returns : goal.returns
returns g c = wrote_does _ _ _ _ c.write.result c.args.reply.now _ _ _ _ (stays _ _ c.take_delay-seconds.ensures.standing) (ap (λ s. s.run.payer) c.take_delay-seconds.ensures.side)
