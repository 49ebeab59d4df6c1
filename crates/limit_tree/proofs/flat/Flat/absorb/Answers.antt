use Rattle.std.proofs.Common.{arith, ◌≡◌, ◌+◌, ◌∙◌, List, ap, sym, subst, refl, Some}
use Rattle.std.specs.Prelude.{slice_get}
use Rattle.limit_tree.specs.Flat.{taken_in, IsFlat}
use Rattle.limit_tree.specs.declared.place.Place.{Place}
use Rattle.limit_tree.proofs.Hops.{taken-at, taken-wants}
use Rattle.limit_tree.proofs.flat.Flat.absorb.Goals as goal

pub absorb_row-requires-clause-row : goal.absorb_row-requires-clause-row
absorb_row-requires-clause-row g c =
    let p = c.place-place.result in
    let got = subst (λ (ps : List Place). slice_get ps c.args.node ≡ Some p) (sym (c.deref.ensures.value ∙ c.self.view_is)) c.place-place.ensures.place in
    (p.first, c.args.node + p.nodes, (p, got, refl, (refl, refl)))

pub returns-clause-absorbed : goal.returns-clause-absorbed
returns-clause-absorbed g c =
    let same : c.deref.result.now ≡ c.args.self.now = c.deref.ensures.value ∙ c.self.view_is in
    let flat = subst (λ (ps : List Place). IsFlat ps) c.self.view_is c.self.invariant.flat in
    c.absorb_row.ensures.absorbed ∙ (ap (λ (ps : List Place). taken_in c.args.level ps c.args.node 1) same ∙ taken-at c.args.level c.args.self.now c.args.node flat.shaped c.requires.node)

pub returns-clause-most : goal.returns-clause-most
returns-clause-most g c =
    let same : c.deref.result.now ≡ c.args.self.now = c.deref.ensures.value ∙ c.self.view_is in
    let value = ap (λ (ps : List Place). taken_in c.args.level ps c.args.node 1) same in
    omega (arith, c.absorb_row.ensures.absorbed, value, taken-wants c.args.level c.args.self.now c.args.node 1)
