use Rattle.std.proofs.Common.{◌≡◌, ◌∙◌, ◌+◌, ◌++◌, [], ap, sym, subst, arith, append_assoc, append-nil, List, ℕ, length, eqb-true, Result}
use Rattle.std.proofs.lemmas.List.{nil_from_length}
use Rattle.std.specs.Str.Lines.{lines}
use Rattle.sheet_text.specs.Paths.{Octets, Path}
use Rattle.sheet_text.specs.declared.fault.SheetFault.{SheetFault}
use Rattle.sheet_text.specs.Rows.{AreBelow}
use Rattle.sheet_text.specs.Table.{Table}
use Rattle.sheet_text.specs.Tree.{paths_to}
use Rattle.sheet_text.specs.Sheet.{and_then, line_states, lines_taken, statements_from, want_paths}
use Rattle.sheet_text.proofs.Taking.{wants_beside}
use Rattle.sheet_text.proofs.read.read_lines.Goals as goal

pub lines-init : goal.lines-init
lines-init g c =
    let text = lines c.args.text.now in
    let table = c.in_ok-nodes.nodes in
    record {
      counted = omega arith;
      taken = ap (λ (t : Table). lines_taken t 1 text) (sym c.in_ok-nodes.ensures.new);
      wants = ap (λ (places : List ℕ). paths_to table places ++ want_paths (statements_from 1 text)) (sym c.new-2.ensures.items);
      below = subst (AreBelow (length table)) (sym c.new-2.ensures.items) (λ k less. absurd (omega arith));
    }

pub lines-preserved : goal.lines-preserved
lines-preserved g c =
    let number = c.lines.number + 1 in
    let table = c.lines.reading.nodes in
    let before = paths_to table c.lines.reading.wants.items in
    let line = c.cut_line.result.0.now in
    let rest = lines c.cut_line.result.1.now in
    let behind = want_paths (statements_from (number + 1) rest) in
    let got = c.in_ok-read_line.ensures in
    record {
      counted = omega (arith, c.cut_line.ensures.shorter);
      taken = c.lines.invariant.taken ∙ ap (λ (ls : List Octets). lines_taken table number ls) c.cut_line.ensures.lines
          ∙ ap (λ (r : Result Table SheetFault). and_then r (λ next. lines_taken next (number + 1) rest)) got.taken;
      wants = c.lines.invariant.wants ∙ ap (λ (ls : List Octets). before ++ want_paths (statements_from number ls)) c.cut_line.ensures.lines
          ∙ ap (λ (ps : List Path). before ++ ps) (wants_beside (line_states number line) (statements_from (number + 1) rest))
          ∙ sym (append_assoc before (want_paths (line_states number line)) behind) ∙ ap (λ (ps : List Path). ps ++ behind) (sym got.wants);
      below = got.below;
    }

pub returns-clause-taken : goal.returns-clause-taken
returns-clause-taken g c =
    let end : c.lines.rest.now ≡ [] = nil_from_length c.lines.rest.now (eqb-true (length c.lines.rest.now) 0 (sym c.is_empty.ensures ∙ c.lines-test.false)) in
    c.lines.invariant.taken ∙ ap (λ (rest : Octets). lines_taken c.lines.reading.nodes (c.lines.number + 1) (lines rest)) end

pub returns-clause-wants : goal.returns-clause-wants
returns-clause-wants g c =
    let end : c.lines.rest.now ≡ [] = nil_from_length c.lines.rest.now (eqb-true (length c.lines.rest.now) 0 (sym c.is_empty.ensures ∙ c.lines-test.false)) in
    let noted = paths_to c.lines.reading.nodes c.lines.reading.wants.items in
    sym (c.lines.invariant.wants ∙ ap (λ (rest : Octets). noted ++ want_paths (statements_from (c.lines.number + 1) (lines rest))) end ∙ append-nil noted)
