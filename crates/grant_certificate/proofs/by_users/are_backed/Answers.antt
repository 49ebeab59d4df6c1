use Rattle.std.proofs.Common.{arith, ◌≡◌, ◌∙◌, ◌<◌, ◌⊎◌, inl, inr, ℕ, List, length, ap, sym, subst}
use Rattle.std.specs.Prelude.{slice_index}
use Rattle.std.proofs.lemmas.Bool.{cases_eq, false≢true}
use Rattle.limit_tree.specs.Outline.{limits}
use Rattle.grant_certificate.specs.Users.{HasUserNeck}
use Rattle.grant_certificate.proofs.UserLooks.{neck-to, neck-from}
use Rattle.grant_certificate.proofs.by_users.are_backed.Goals as goal
use Rattle.grant_certificate.proofs.by_users.are_backed.Goals.{else-of-leaf-via-then-of-leaf+else-not-marks-leaf, else-of-leaf-via-else-of-leaf}

pub returns-then-not-marks-leaf : goal.returns-then-not-marks-leaf
returns-then-not-marks-leaf g c =
    let leaf = c.loop-leaf.leaf in
    let of = c.args.of in
    let tree = c.args.tree.now in
    let wanted : slice_index c.args.wants.now leaf ≡ slice_index (limits tree).wants leaf = ap (λ (xs : List ℕ). slice_index xs leaf) c.requires.wants in
    record {
      backed = (
        leaf,
        omega (arith, c.loop-leaf-test.true),
        omega (arith, c.if-of-leaf.true, wanted),
        λ neck.
            let found = neck-from tree c.requires.users.0 of.owners.now of.grants.now of.floors.now c.args.entries.now leaf c.leaves-bounded.ensures.limit_tree.branches c.requires.users.1 c.requires.floors c.requires.lengths (omega (arith, of.owned, c.loop-leaf-test.true)) neck in
            absurd (false≢true (sym c.if-not-marks-leaf.true ∙ (c.look_at_necks-marks.ensures.necks leaf).1 found)),
      );
    }

pub loop-leaf-preserved : goal.loop-leaf-preserved
loop-leaf-preserved g c = λ i low unmet.
    let leaf = c.loop-leaf.leaf in
    let of = c.args.of in
    let tree = c.args.tree.now in
    let wanted : slice_index c.args.wants.now leaf ≡ slice_index (limits tree).wants leaf = ap (λ (xs : List ℕ). slice_index xs leaf) c.requires.wants in
    elim (cases_eq i leaf) [
      | inr ne ↦ c.loop-leaf.invariant i (omega (arith, low, ne)) unmet
      | inl same ↦ elim c.else-of-leaf.branch [
        | else-of-leaf-via-then-of-leaf+else-not-marks-leaf w ↦
            subst (HasUserNeck (limits tree) of.owners.now of.grants.now c.args.entries.now) (sym same)
            (neck-to tree of.owners.now of.grants.now of.floors.now c.args.entries.now leaf c.requires.floors of.owned ((c.look_at_necks-marks.ensures.necks leaf).0 w.if-not-marks-leaf.false))
        | else-of-leaf-via-else-of-leaf w ↦
            let here = subst (λ (k : ℕ). slice_index of.grants.now k < slice_index (limits tree).wants k) same unmet in
            absurd (omega (arith, w.if-of-leaf.false, wanted, here))
      ]
    ]
