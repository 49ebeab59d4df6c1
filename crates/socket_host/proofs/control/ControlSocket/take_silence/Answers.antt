use Rattle.std.proofs.Common.{◌∙◌, [], ◌∷◌, sym}
use Rattle.line_mender.specs.Mended.{is_cut}
use Rattle.socket_host.proofs.Front.{chosen, front}
use Rattle.socket_host.proofs.control.ControlSocket.take_silence.Goals as goal

pub returns-then-silence-clause-kept : goal.returns-then-silence-clause-kept
returns-then-silence-clause-kept c = front c.args.buffer.now 10 c.requires.room ∙ chosen (is_cut c.args.self.now.mender) (10 ∷ []) (sym c.if-silence.ensures.cut)
