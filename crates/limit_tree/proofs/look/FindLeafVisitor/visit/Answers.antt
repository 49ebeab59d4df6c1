use Rattle.std.proofs.Common.{◌≡◌, ◌∙◌, ℕ, List, length, sym, ap, arith}
use Rattle.std.specs.Prelude.{slice_get}
use Rattle.limit_tree.specs.Outline.{limits}
use Rattle.limit_tree.proofs.Leaves.{length-wants_in, length-floors_in}
use Rattle.limit_tree.proofs.Looks.{slice_get-last, slice_get-other, wants-leaf, floors-leaf, wants-branch, floors-branch}
use Rattle.limit_tree.proofs.look.FindLeafVisitor.visit.Goals as goal

pub returns-then-place-self-clause-saw : goal.returns-then-place-self-clause-saw
returns-then-place-self-clause-saw c = λ start seen count leaves was.
    let place = c.args.place in
    let want = c.in-Leaf.want in
    let floor = c.in-Leaf.floor in
    let wants : length (limits seen).wants ≡ start.leaf = omega (arith, length-wants_in seen, was.leaf, c.if-place-self.true) in
    let floors : length (limits seen).floors ≡ start.leaf = omega (arith, length-floors_in seen, was.leaf, c.if-place-self.true) in
    record {
      leaf = was.leaf;
      want = sym (ap (λ (ws : List ℕ). slice_get ws start.leaf) (wants-leaf seen place want floor c.in-Leaf.is) ∙ slice_get-last (limits seen).wants want start.leaf wants);
      floor = sym (ap (λ (fs : List ℕ). slice_get fs start.leaf) (floors-leaf seen place want floor c.in-Leaf.is) ∙ slice_get-last (limits seen).floors floor start.leaf floors);
    }

pub returns-else-place-self-clause-saw : goal.returns-else-place-self-clause-saw
returns-else-place-self-clause-saw c = λ start seen count leaves was.
    let place = c.args.place in
    let want = c.in-Leaf.want in
    let floor = c.in-Leaf.floor in
    record {
      leaf = was.leaf;
      want = was.want ∙ sym (ap (λ (ws : List ℕ). slice_get ws start.leaf) (wants-leaf seen place want floor c.in-Leaf.is) ∙ slice_get-other (limits seen).wants want start.leaf (λ e. c.if-place-self.false (omega (arith, length-wants_in seen, was.leaf))));
      floor = was.floor ∙ sym (ap (λ (fs : List ℕ). slice_get fs start.leaf) (floors-leaf seen place want floor c.in-Leaf.is) ∙ slice_get-other (limits seen).floors floor start.leaf (λ e. c.if-place-self.false (omega (arith, length-floors_in seen, was.leaf))));
    }

pub returns-in-Branch-clause-saw : goal.returns-in-Branch-clause-saw
returns-in-Branch-clause-saw c = λ start seen count leaves was. record {
  leaf = was.leaf;
  want = was.want ∙ sym (ap (λ (ws : List ℕ). slice_get ws start.leaf) (wants-branch seen c.args.place c.in-Branch.limit c.in-Branch.is));
  floor = was.floor ∙ sym (ap (λ (fs : List ℕ). slice_get fs start.leaf) (floors-branch seen c.args.place c.in-Branch.limit c.in-Branch.is));
}
