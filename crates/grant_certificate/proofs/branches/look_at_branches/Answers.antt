use Rattle.std.proofs.Common.{◌∙◌, ℕ, List, Option, subst, sym}
use Rattle.limit_tree.specs.Outline.{limits}
use Rattle.grant_certificate.specs.Flaws.{IsFirstOver}
use Rattle.grant_certificate.specs.Ranges.{AreHeld}
use Rattle.grant_certificate.specs.declared.branches.BranchLook.{BranchLook}
use Rattle.grant_certificate.proofs.branches.look_at_branches.Goals as goal

pub returns-clause-over : goal.returns-clause-over
returns-clause-over g c =
    let start : BranchLook = record { over = c.new.result; backing = c.new-2.result; same = c.new.ensures.grants ∙ sym c.new-2.ensures.grants } in
    let saw = c.walk.ensures.saw start (record { over = c.new.ensures.start; backing = c.new-2.ensures.start }) in
    subst (λ (gs : List ℕ). IsFirstOver (limits c.args.tree.now) gs c.walk.new.visitor.over.found) c.new.ensures.grants saw.over.found

pub returns-clause-held : goal.returns-clause-held
returns-clause-held g c =
    let over = c.new.result in
    let backing = c.new-2.result in
    let start : BranchLook = record { over = over; backing = backing; same = c.new.ensures.grants ∙ sym c.new-2.ensures.grants } in
    let saw = c.walk.ensures.saw start (record { over = c.new.ensures.start; backing = c.new-2.ensures.start }) in
    let marks = c.walk.new.visitor.backing.marks in
    subst (λ (gs : List ℕ). AreHeld (limits c.args.tree.now) gs c.args.floors.now c.args.entries.now marks) c.new-2.ensures.grants
    (subst (λ (fs : List ℕ). AreHeld (limits c.args.tree.now) backing.grants.now fs c.args.entries.now marks) c.new-2.ensures.floors
    (subst (λ (es : List (Option ℕ)). AreHeld (limits c.args.tree.now) backing.grants.now backing.floors.now es marks) c.new-2.ensures.entries
    saw.backing.marked))
