use Rattle.std.proofs.Common.{◌≤◌, length, sym, subst}
use Rattle.ftp_terms.specs.Lines.{IsLine}
use Rattle.virtual_path.proofs.Lines.{path_is_line}
use Rattle.virtual_path.proofs.Parts.{is_text_of}
use Rattle.virtual_path.proofs.Walks.{short-path_text}
use Rattle.virtual_path.proofs.path.VPath.text.Goals as goal

pub returns-clause-short : goal.returns-clause-short
returns-clause-short g c =
    let is = is_text_of c.as_str.result.now _ c.args.self.now c.self.invariant c.self.view_is c.as_str.ensures.value in
    subst (λ t. length t ≤ 4096) (sym (c.shown.ensures.shown _ is.slashes)) (short-path_text _ (subst (λ t. length t ≤ 4096) is.slashes is.short))

pub returns-clause-line : goal.returns-clause-line
returns-clause-line g c =
    let is = is_text_of c.as_str.result.now _ c.args.self.now c.self.invariant c.self.view_is c.as_str.ensures.value in
    subst IsLine (sym (c.shown.ensures.shown _ is.slashes)) (path_is_line _ is.names)
