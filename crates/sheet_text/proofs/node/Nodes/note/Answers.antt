use Rattle.std.proofs.Common.{◌≡◌, ◌∙◌, ◌+◌, ap, sym, subst, refl, arith, ℕ, Bool, cond, set, Some}
use Rattle.limit_tree.specs.Outline.{is_leaf_kind}
use Rattle.sheet_text.specs.declared.node.Node.{Node}
use Rattle.sheet_text.specs.Inside.{AreNodes, IsTable}
use Rattle.sheet_text.proofs.Noted.{IsNoting, noted_kept, table_noted}
use Rattle.sheet_text.proofs.node.Nodes.note.Goals as goal

pub invariant_of-self : goal.invariant_of-self
invariant_of-self g c =
    let new : Node = record { path = c.index-node.result.now.path; parent = c.index-node.result.now.parent; kind = c.args.kind; line = Some c.args.number } in
    let is : IsNoting c.self.inside.nodes.items c.index-node.result.now new c.args.self.now c.args.place c.args.number c.args.kind = record { view = c.self.view_is; place_in = c.requires.place; node_is = c.index-node.ensures; path_kept = refl; parent_kept = refl; kind_is = refl; line_is = refl; unstated_is = c.requires.unstated } in
    let one : cond (is_leaf_kind c.args.kind) 1 0 + c.self.inside.wants ≡ c.self.inside.wants + 1 = ap (λ (b : Bool). cond b 1 0 + c.self.inside.wants) (sym c.is_leaf.ensures.leaf ∙ c.if-is_leaf.true) ∙ omega arith in
    subst (λ (n : ℕ). AreNodes (set c.self.inside.nodes.items c.args.place new) c.self.inside.names.items n) one (noted_kept c.self.inside.nodes.items c.index-node.result.now new c.args.self.now c.self.inside.names.items c.args.place c.args.number c.self.inside.wants c.args.kind is c.self.invariant)

pub invariant_of-self-else-is_leaf : goal.invariant_of-self-else-is_leaf
invariant_of-self-else-is_leaf g c =
    let new : Node = record { path = c.index-node.result.now.path; parent = c.index-node.result.now.parent; kind = c.args.kind; line = Some c.args.number } in
    let is : IsNoting c.self.inside.nodes.items c.index-node.result.now new c.args.self.now c.args.place c.args.number c.args.kind = record { view = c.self.view_is; place_in = c.requires.place; node_is = c.index-node.ensures; path_kept = refl; parent_kept = refl; kind_is = refl; line_is = refl; unstated_is = c.requires.unstated } in
    let none : cond (is_leaf_kind c.args.kind) 1 0 + c.self.inside.wants ≡ c.self.inside.wants = ap (λ (b : Bool). cond b 1 0 + c.self.inside.wants) (sym c.is_leaf.ensures.leaf ∙ c.if-is_leaf.false) ∙ omega arith in
    subst (λ (n : ℕ). AreNodes (set c.self.inside.nodes.items c.args.place new) c.self.inside.names.items n) none (noted_kept c.self.inside.nodes.items c.index-node.result.now new c.args.self.now c.self.inside.names.items c.args.place c.args.number c.self.inside.wants c.args.kind is c.self.invariant)

pub returns-then-is_leaf : goal.returns-then-is_leaf
returns-then-is_leaf g c =
    let new : Node = record { path = c.index-node.result.now.path; parent = c.index-node.result.now.parent; kind = c.args.kind; line = Some c.args.number } in
    let is : IsNoting c.self.inside.nodes.items c.index-node.result.now new c.args.self.now c.args.place c.args.number c.args.kind = record { view = c.self.view_is; place_in = c.requires.place; node_is = c.index-node.ensures; path_kept = refl; parent_kept = refl; kind_is = refl; line_is = refl; unstated_is = c.requires.unstated } in
    let table : IsTable c.args.self.now = subst IsTable c.self.view_is c.self.invariant.table in
    record { noted = table_noted c.self.inside.nodes.items c.index-node.result.now new c.args.self.now c.args.place c.args.number c.args.kind is table.names.once }

pub returns-else-is_leaf : goal.returns-else-is_leaf
returns-else-is_leaf g c =
    let new : Node = record { path = c.index-node.result.now.path; parent = c.index-node.result.now.parent; kind = c.args.kind; line = Some c.args.number } in
    let is : IsNoting c.self.inside.nodes.items c.index-node.result.now new c.args.self.now c.args.place c.args.number c.args.kind = record { view = c.self.view_is; place_in = c.requires.place; node_is = c.index-node.ensures; path_kept = refl; parent_kept = refl; kind_is = refl; line_is = refl; unstated_is = c.requires.unstated } in
    let table : IsTable c.args.self.now = subst IsTable c.self.view_is c.self.invariant.table in
    record { noted = table_noted c.self.inside.nodes.items c.index-node.result.now new c.args.self.now c.args.place c.args.number c.args.kind is table.names.once }
