use Rattle.std.proofs.Common.{rules, ℕ, ◌≤◌, ◌∙◌, arith}
use Rattle.lane_desk.proofs.Opening.{opens_with, begun}
use Rattle.lane_desk.proofs.open.open_desk.Goals as goal
use Rattle.lane_desk.proofs.open.open_desk.Goals.{then-lanes-eq0, else-lanes-eq0}

pub new-requires : goal.new-requires
new-requires g c =
    let n : ℕ = c.if-lanes-eq0.from_elem in
    let k : ℕ = c.args.lanes in
    let wide : k ≤ n = elim c.if-lanes-eq0.branch [ then-lanes-eq0 w ↦ omega arith | else-lanes-eq0 w ↦ omega arith ] in
    opens_with _ _ k n wide (c.as_slice.ensures.value ∙ c.in_ok-words.ensures.items_if_clones_equal (λ y e. e)) c.in_ok-slots.ensures.slots

pub returns-in-Ok-clause-begun : goal.returns-in-Ok-clause-begun
returns-in-Ok-clause-begun g c = begun c.args.lanes _ (search rules)
