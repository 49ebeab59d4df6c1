use Rattle.std.proofs.Common.{◌≡◌, ◌∙◌, ◌+◌, ◌++◌, [], ap, sym, refl, arith, append_assoc, append-nil, List, ℕ, Option, None, length, length-append, map, get_or, eqb-true}
use Rattle.std.proofs.lemmas.List.{length-replicate, get_or-replicate, nil_from_length, length-map}
use Rattle.std.specs.Str.Lines.{lines}
use Rattle.limit_tree.specs.declared.place.Place.{Place}
use Rattle.limit_tree.specs.Faults.{or_else}
use Rattle.limit_tree.specs.Outline.{limits}
use Rattle.sheet_commands.specs.declared.grants.Given.{Given}
use Rattle.sheet_commands.specs.Grants.{first_grants_fault, grant_lines, line_grants, lines_by_leaf, named_node}
use Rattle.sheet_text.specs.Text.{GrantLine}
use Rattle.sheet_commands.proofs.Full.{full, short}
use Rattle.sheet_commands.proofs.Filling.{collected, filled_none}
use Rattle.sheet_commands.proofs.grants.read_grants.Goals as goal

pub lines-init : goal.lines-init
lines-init g c =
    let sheet = c.args.sheet.now in
    let new = c.in_ok-slots.ensures.new in
    let size : c.leaves.result ≡ length sheet.leaves = c.leaves.ensures.leaves ∙ ap (λ (o : List Place). length (limits o).wants) c.tree.ensures.tree ∙ sym c.tree.ensures.leaves in
    record {
      counted = omega arith;
      given = [];
      filled = record {
        lines_are = new.0;
        slots_length = ap length new.1 ∙ length-replicate c.leaves.result None ∙ size;
        slots_are = λ j d less. ap (λ (ss : List (Option Given)). get_or ss j d) new.1 ∙ get_or-replicate c.leaves.result j None d (omega (arith, size, less)) ∙ filled_none sheet j;
      };
      fault = refl;
      lines_are = refl;
    }

pub lines-preserved : goal.lines-preserved
lines-preserved g c =
    let given = c.lines.invariant.given in
    let number = c.lines.number + 1 in
    let line = c.cut_line.result.0.now in
    let rest = lines c.cut_line.result.1.now in
    let got = c.in_ok-read_line.ensures.read given c.lines.invariant.filled in
    record {
      counted = omega (arith, c.cut_line.ensures.shorter);
      given = given ++ line_grants line;
      filled = got.1;
      fault = c.lines.invariant.fault ∙ ap (λ ls. first_grants_fault c.args.sheet.now (length given) number ls) c.cut_line.ensures.lines
          ∙ ap (λ o. or_else o (first_grants_fault c.args.sheet.now (length given + length (line_grants line)) (number + 1) rest)) got.0
          ∙ ap (λ (n : ℕ). first_grants_fault c.args.sheet.now n (number + 1) rest) (sym (length-append given (line_grants line)));
      lines_are = c.lines.invariant.lines_are ∙ ap (λ ls. given ++ grant_lines ls) c.cut_line.ensures.lines ∙ sym (append_assoc given (line_grants line) (grant_lines rest));
    }

pub returns : goal.returns
returns g c =
    let sheet = c.args.sheet.now in
    let given = c.lines.invariant.given in
    let filled = c.lines.invariant.filled in
    let end : c.lines.rest.now ≡ [] = nil_from_length c.lines.rest.now (eqb-true (length c.lines.rest.now) 0 (sym c.is_empty.ensures ∙ c.lines-test.false)) in
    let all : grant_lines (lines c.args.text.now) ≡ given = c.lines.invariant.lines_are ∙ ap (λ (rest : List ℕ). given ++ grant_lines (lines rest)) end ∙ append-nil given in
    let grants = c.in_ok-lists.ensures.grants ∙ collected (λ (slot : Given). slot.octets) sheet c.lines.slots.slots.items given filled.slots_length filled.slots_are
    ∙ ap (λ (ls : List GrantLine). map (λ (line : GrantLine). line.octets) (lines_by_leaf sheet ls)) (sym all) in
    let size : length c.in_ok-lists.lists.0.items ≡ length (lines_by_leaf sheet (grant_lines (lines c.args.text.now))) = ap length grants ∙ length-map (lines_by_leaf sheet (grant_lines (lines c.args.text.now))) (λ (line : GrantLine). line.octets) in
    record {
      read = (
        c.lines.invariant.fault ∙ ap (λ (rest : List ℕ). first_grants_fault sheet (length given) (c.lines.number + 1) (lines rest)) end,
        grants,
        c.in_ok-lists.ensures.entries ∙ collected (λ (slot : Given). slot.node) sheet c.lines.slots.slots.items given filled.slots_length filled.slots_are
            ∙ ap (λ (ls : List GrantLine). map (λ (line : GrantLine). named_node sheet line.node) (lines_by_leaf sheet ls)) (sym all),
      );
      full = λ source is all_there. size ∙ full source sheet is (grant_lines (lines c.args.text.now)) all_there;
      short = λ source is fewer. omega (arith, size, short source sheet is (grant_lines (lines c.args.text.now)) fewer);
    }
