use Rattle.virtual_path.specs.Path.{parent_of}
use Rattle.virtual_path.proofs.Parts.{is_text_of, root_of, cut}
use Rattle.virtual_path.proofs.path.VPath.parent_text.Goals as goal

pub returns-in_err-front : goal.returns-in_err-front
returns-in_err-front g c =
    let is = is_text_of c.as_str.result.now _ c.args.self.now c.self.invariant c.self.view_is c.as_str.ensures.value in
    rw c.from_residual.ensures (record { parent = root_of _ _ is c.in_err-front.ensures.parts })

pub returns : goal.returns
returns g c =
    let is = is_text_of c.as_str.result.now _ c.args.self.now c.self.invariant c.self.view_is c.as_str.ensures.value in
    let parts = c.in_ok-front.ensures.parts in
    let at = cut _ _ _ _ is parts.0 parts.1 in
    record { parent = (at.full, c.shown.ensures.shown (parent_of c.args.self.now) at.front_is) }
