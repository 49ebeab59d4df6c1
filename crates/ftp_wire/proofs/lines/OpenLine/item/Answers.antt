use Rattle.std.proofs.Common.{sym, ap, ◌∙◌}
use Rattle.ftp_wire.specs.Items.{line_item}
use Rattle.ftp_wire.proofs.Holding.{known_rest, long_item}
use Rattle.ftp_wire.proofs.lines.OpenLine.item.Goals as goal

pub returns-then-self : goal.returns-then-self
returns-then-self g c = record { item = λ rest holds. sym (long_item _ _ rest c.if-self.true holds) }

pub returns : goal.returns
returns g c = record { item = λ rest holds. c.in_ok-item.ensures.item ∙ ap line_item (c.as_slice.ensures.value ∙ known_rest _ _ rest c.if-self.false holds) }
