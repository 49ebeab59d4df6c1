use Rattle.std.proofs.Common.{arith, ◌≡◌, ◌*◌, ◌≤◌, ◌∙◌, ℕ, List, length, take, sym, ap, subst, refl}
use Rattle.std.proofs.Math.Seq.{take-length}
use Rattle.limit_tree.specs.Sharing.{IsWithin}
use Rattle.limit_tree.specs.Outline.{limits}
use Rattle.limit_tree.specs.Flat.{IsRow, HasRow}
use Rattle.limit_tree.specs.declared.place.Place.{Place}
use Rattle.round_allocator.specs.declared.level.TheConstants.{MAX_PROBES}
use Rattle.round_allocator.specs.Rounds.{HasBottlenecks}
use Rattle.round_allocator.specs.Levels.{AreAhead, branch_count}
use Rattle.round_allocator.specs.Order.{GivesInOrder}
use Rattle.round_allocator.proofs.Ahead.{in_order}
use Rattle.round_allocator.proofs.Pours.{back}
use Rattle.round_allocator.proofs.Ends.{ArePoured, top_share, poured-within, poured-bottlenecks}
use Rattle.round_allocator.proofs.fill.give.Goals as goal

pub fill-left-requires-clause-row : goal.fill-left-requires-clause-row
fill-left-requires-clause-row g c =
    let ps = c.args.flat.now in
    subst (λ (qs : List Place). HasRow qs 0 1) (sym c.probed-tree.ensures.tree) (0, length ps, length (limits ps).wants, c.nodes-nodes.ensures.flat.root)

pub returns-clause-within : goal.returns-clause-within
returns-clause-within g c =
    let ps = c.args.flat.now in
    let flat = c.nodes-nodes.ensures.flat in
    let old = c.deref_mut.result.now in
    let new = c.fill-left.new.grants in
    let poured = subst (λ (qs : List Place). ArePoured qs top_share old c.fill-left.result new) c.probed-tree.ensures.tree c.fill-left.ensures.poured in
    let items = c.in_ok-grants.grants.items in
    let same : length old ≡ length items = ap length c.deref_mut.ensures.value in
    let whole : length new ≡ length items = c.fill-left.ensures.size ∙ same in
    let len : c.in_ok-grants.grants.len ≡ length items = sym c.deref_mut.ensures.len ∙ same in
    let leaves : length old ≡ length (limits ps).wants = same ∙ (c.in_ok-grants.ensures.leaves ∙ c.leaves-leaves.ensures.leaves) in
    subst (λ (xs : List ℕ). IsWithin (limits ps) xs) (sym (back c.in_ok-grants.grants.len new items whole len))
    (poured-within ps top_share old c.fill-left.result new flat leaves (poured 0 (length ps) (length (limits ps).wants) flat.root))

pub returns-clause-bottlenecks : goal.returns-clause-bottlenecks
returns-clause-bottlenecks g c =
    let ps = c.args.flat.now in
    let flat = c.nodes-nodes.ensures.flat in
    let old = c.deref_mut.result.now in
    let new = c.fill-left.new.grants in
    let poured = subst (λ (qs : List Place). ArePoured qs top_share old c.fill-left.result new) c.probed-tree.ensures.tree c.fill-left.ensures.poured in
    let items = c.in_ok-grants.grants.items in
    let same : length old ≡ length items = ap length c.deref_mut.ensures.value in
    let whole : length new ≡ length items = c.fill-left.ensures.size ∙ same in
    let len : c.in_ok-grants.grants.len ≡ length items = sym c.deref_mut.ensures.len ∙ same in
    let leaves : length old ≡ length (limits ps).wants = same ∙ (c.in_ok-grants.ensures.leaves ∙ c.leaves-leaves.ensures.leaves) in
    subst (λ (xs : List ℕ). HasBottlenecks (limits ps) xs) (sym (back c.in_ok-grants.grants.len new items whole len))
    (poured-bottlenecks ps top_share old c.fill-left.result new flat leaves refl (poured 0 (length ps) (length (limits ps).wants) flat.root))

pub returns-clause-counted : goal.returns-clause-counted
returns-clause-counted g c =
    let ps = c.args.flat.now in
    let flat = c.nodes-nodes.ensures.flat in
    let rows = subst (λ (qs : List Place). (begin last past : ℕ) → IsRow qs 0 begin 1 last past → c.fill-left.new.probes ≤ MAX_PROBES * branch_count (take last qs)) c.probed-tree.ensures.tree c.fill-left.ensures.counted in
    let counted : c.fill-left.new.probes ≤ MAX_PROBES * branch_count (take (length ps) ps) = rows 0 (length ps) (length (limits ps).wants) flat.root in
    subst (λ (qs : List Place). c.fill-left.new.probes ≤ MAX_PROBES * branch_count qs) (take-length ps) counted

pub returns-clause-order : goal.returns-clause-order
returns-clause-order g c =
    let ps = c.args.flat.now in
    let flat = c.nodes-nodes.ensures.flat in
    let old = c.deref_mut.result.now in
    let new = c.fill-left.new.grants in
    let ahead = subst (λ (qs : List Place). (begin last past : ℕ) → IsRow qs 0 begin 1 last past → AreAhead qs new begin past) c.probed-tree.ensures.tree c.fill-left.ensures.ahead in
    let items = c.in_ok-grants.grants.items in
    let same : length old ≡ length items = ap length c.deref_mut.ensures.value in
    let whole : length new ≡ length items = c.fill-left.ensures.size ∙ same in
    let len : c.in_ok-grants.grants.len ≡ length items = sym c.deref_mut.ensures.len ∙ same in
    let leaves : length new ≡ length (limits ps).wants = whole ∙ (c.in_ok-grants.ensures.leaves ∙ c.leaves-leaves.ensures.leaves) in
    subst (λ (xs : List ℕ). GivesInOrder (limits ps) xs) (sym (back c.in_ok-grants.grants.len new items whole len))
    (in_order ps new flat leaves (ahead 0 (length ps) (length (limits ps).wants) flat.root))
