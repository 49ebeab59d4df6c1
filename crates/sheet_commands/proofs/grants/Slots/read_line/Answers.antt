use Rattle.std.proofs.Common.{◌≡◌, ◌∙◌, sym, ap, refl, option_map, Some, length, ℕ, false, nat_eq}
use Rattle.sheet_text.specs.Sheet.{is_skipped}
use Rattle.sheet_commands.specs.Grants.{grant_fault}
use Rattle.sheet_text.specs.Text.{grant_of}
use Rattle.sheet_text.specs.LineViews.{grant_view}
use Rattle.std.specs.List.{position_from}
use Rattle.std.proofs.Math.ListN.{set}
use Rattle.sheet_commands.proofs.Filling.{one_line, line_judged, filled_line}
use Rattle.sheet_commands.proofs.grants.Slots.read_line.Goals as goal

pub returns : goal.returns
returns g c = record {
  read = λ lines filled.
      let sheet = c.args.sheet.now in
      let text = c.args.line.now in
      let line = grant_view c.in-Some.grant in
      let kept : is_skipped text ≡ false = sym c.is_skipped.ensures.skipped ∙ c.if-is_skipped.false in
      let read : grant_of text ≡ Some line = sym c.read_grant.ensures.line ∙ ap (option_map grant_view) c.in-Some.is in
      let judged = c.in_ok-leaf.ensures.judged in
      let leaf = c.in_ok-leaf.ensures.leaf in
      let first : position_from (nat_eq c.in_ok-leaf.leaf) 0 sheet.wants ≡ Some (length lines) = leaf.0 ∙ ap (λ (n : ℕ). Some n) filled.lines_are in (
        line_judged sheet (length lines) c.args.number text line kept read ∙ ap (λ (n : ℕ). grant_fault sheet n c.args.number line) (sym filled.lines_are) ∙ judged.0,
        filled_line sheet c.args.self.now _ lines text line c.in_ok-leaf.leaf filled (one_line text line kept read) leaf.1 first refl (ap (λ x. set c.args.self.now.slots.items c.in_ok-leaf.leaf (Some x)) judged.1),
      );
}
