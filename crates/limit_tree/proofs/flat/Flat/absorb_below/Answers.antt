use Rattle.std.proofs.Common.{arith, ◌≡◌, ◌+◌, ◌∙◌, List, ap, sym, subst}
use Rattle.limit_tree.specs.Flat.{taken_in, IsRow, IsFlat}
use Rattle.limit_tree.specs.declared.place.Place.{Place}
use Rattle.limit_tree.proofs.Hops.{taken-wants, taken_below-is}
use Rattle.limit_tree.proofs.flat.Flat.absorb_below.Goals as goal

pub absorb_row-requires-clause-row : goal.absorb_row-requires-clause-row
absorb_row-requires-clause-row g c =
    let same : c.deref.result.now ≡ c.args.self.now = c.deref.ensures.value ∙ c.self.view_is in
    let p = c.place-place.result in
    let flat = subst (λ (ps : List Place). IsFlat ps) c.self.view_is c.self.invariant.flat in
    let tree = flat.shaped c.args.node p c.place-place.ensures.place in
    (p.first, c.args.node + p.nodes, subst (λ (ps : List Place). IsRow ps (c.args.node + 1) p.first p.kids (c.args.node + p.nodes) (p.first + p.leaves)) (sym same) (tree.branch c.in-Branch.limit c.in-Branch.is))

pub returns-in-Branch-clause-absorbed : goal.returns-in-Branch-clause-absorbed
returns-in-Branch-clause-absorbed g c =
    let same : c.deref.result.now ≡ c.args.self.now = c.deref.ensures.value ∙ c.self.view_is in
    let p = c.place-place.result in
    c.absorb_row.ensures.absorbed ∙
    (ap (λ (ps : List Place). taken_in c.args.level ps (c.args.node + 1) p.kids) same ∙
    sym (taken_below-is c.args.level c.args.self.now c.args.node p c.place-place.ensures.place))

pub returns-in-Branch-clause-most : goal.returns-in-Branch-clause-most
returns-in-Branch-clause-most g c =
    let same : c.deref.result.now ≡ c.args.self.now = c.deref.ensures.value ∙ c.self.view_is in
    let value = ap (λ (ps : List Place). taken_in c.args.level ps (c.args.node + 1) c.place-place.result.kids) same in
    omega (arith, c.absorb_row.ensures.absorbed, value, taken-wants c.args.level c.args.self.now (c.args.node + 1) c.place-place.result.kids)

pub returns-in-Leaf-clause-absorbed : goal.returns-in-Leaf-clause-absorbed
returns-in-Leaf-clause-absorbed g c =
    let p = c.place-place.result in
    let flat = subst (λ (ps : List Place). IsFlat ps) c.self.view_is c.self.invariant.flat in
    let none = (flat.shaped c.args.node p c.place-place.ensures.place).leaf c.in-Leaf.want c.in-Leaf.floor c.in-Leaf.is in
    sym (taken_below-is c.args.level c.args.self.now c.args.node p c.place-place.ensures.place ∙ ap (taken_in c.args.level c.args.self.now (c.args.node + 1)) none.2)
