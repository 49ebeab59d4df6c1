use Rattle.std.proofs.Common.{sym, subst}
use Rattle.virtual_path.specs.Path.{parent_of}
use Rattle.virtual_path.proofs.Parts.{IsTextOf, is_text_of, kept, names_in_text, root_of, cut, parent_text_of}
use Rattle.virtual_path.proofs.path.VPath.parent.Goals as goal

pub returns-in_default : goal.returns-in_default
returns-in_default g c =
    let is = is_text_of c.as_str.result.now _ c.args.self.now c.self.invariant c.self.view_is c.as_str.ensures.value in
    record { parent = root_of _ _ is c.in_default.ensures.parts }

pub invariant_of-result : goal.invariant_of-result
invariant_of-result g c =
    let is = is_text_of c.as_str.result.now _ c.args.self.now c.self.invariant c.self.view_is c.as_str.ensures.value in
    let parts = c.in-Some.ensures.parts in
    let at = cut _ _ _ _ is parts.0 parts.1 in
    let front = parent_text_of _ _ _ _ is parts.0 at in
    kept _ (parent_of c.args.self.now) (subst (λ t. IsTextOf t (parent_of c.args.self.now)) (sym c.in_ok-text.ensures.ok) front)

pub returns : goal.returns
returns g c =
    let is = is_text_of c.as_str.result.now _ c.args.self.now c.self.invariant c.self.view_is c.as_str.ensures.value in
    let parts = c.in-Some.ensures.parts in
    let at = cut _ _ _ _ is parts.0 parts.1 in
    let front = parent_text_of _ _ _ _ is parts.0 at in
    record { parent = (at.full, names_in_text _ (parent_of c.args.self.now) (subst (λ t. IsTextOf t (parent_of c.args.self.now)) (sym c.in_ok-text.ensures.ok) front)) }
