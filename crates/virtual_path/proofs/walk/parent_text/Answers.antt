use Rattle.std.proofs.Common.{sym}
use Rattle.virtual_path.specs.Path.{parent_of}
use Rattle.virtual_path.proofs.Parts.{cut_shown, root_shown, slash_shown}
use Rattle.virtual_path.proofs.walk.parent_text.Goals as goal

pub returns-in_err-front : goal.returns-in_err-front
returns-in_err-front c = rw c.from_residual.ensures (record { parent = λ path names text. slash_shown _ path text c.in_err-front.ensures.parts })

pub returns-then-is_empty : goal.returns-then-is_empty
returns-then-is_empty c =
    let parts = c.in_ok-front.ensures.parts in
    record { parent = λ path names text. root_shown _ path _ _ names text parts.0 parts.1 (sym c.if-is_empty.ensures) }

pub returns : goal.returns
returns c =
    let parts = c.in_ok-front.ensures.parts in
    record {
      parent = λ path names text.
          let at = cut_shown _ path _ _ names text parts.0 parts.1 (sym c.if-is_empty.ensures) in
          (at.full, c.shown.ensures.shown (parent_of path) at.front_is);
    }
