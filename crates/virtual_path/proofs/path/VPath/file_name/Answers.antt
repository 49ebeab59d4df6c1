use Rattle.virtual_path.proofs.Lines.{last_is_line}
use Rattle.virtual_path.proofs.Parts.{is_text_of, root_of, cut}
use Rattle.virtual_path.proofs.path.VPath.file_name.Goals as goal

pub returns-in_err-name : goal.returns-in_err-name
returns-in_err-name g c =
    let is = is_text_of c.as_str.result.now _ c.args.self.now c.self.invariant c.self.view_is c.as_str.ensures.value in
    rw c.from_residual.ensures (record { line = tt; name = root_of _ _ is c.in_err-name.ensures.parts })

pub returns : goal.returns
returns g c =
    let is = is_text_of c.as_str.result.now _ c.args.self.now c.self.invariant c.self.view_is c.as_str.ensures.value in
    let parts = c.in_ok-name.ensures.parts in
    let names = (cut _ _ _ _ is parts.0 parts.1).names in
    record { line = last_is_line _ _ is.names names; name = names }
