use Rattle.virtual_path.proofs.Parts.{is_text_of, no_slash_of}
use Rattle.virtual_path.proofs.path.VPath.starts_with.Goals as goal

pub returns : goal.returns
returns g c =
    let path = is_text_of c.as_str.result.now _ c.args.self.now c.self.invariant c.self.view_is c.as_str.ensures.value in
    let above = is_text_of c.as_str-2.result.now _ c.args.above.now c.above.invariant c.above.view_is c.as_str-2.ensures.value in
    record { beneath = c.is_beneath.ensures.beneath _ _ (no_slash_of _ _ path) (no_slash_of _ _ above) path.slashes above.slashes }
