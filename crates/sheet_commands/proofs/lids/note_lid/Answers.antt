use Rattle.std.proofs.Common.{◌≡◌, ◌∙◌, ◌+◌, ◌<◌, Option, None, ℕ, get_or, length, set, sym, subst, take, arith}
use Rattle.std.proofs.lemmas.Grind.{common_steps}
use Rattle.sheet_commands.specs.Columns.{lid_of}
use Rattle.sheet_commands.proofs.LidSteps.{noted, unnoted}
use Rattle.sheet_commands.proofs.lids.note_lid.Goals as goal

pub returns-in-Some-clause-lids : goal.returns-in-Some-clause-lids
returns-in-Some-clause-lids g c leaf inside =
    let p = c.place-place.result in
    let lids = c.args.lids.now in
    let within : leaf < length lids = grind (arith, common_steps, inside) in
    let first : p.first < length lids = omega (arith, c.place-place.ensures.inside, c.in-Some.ensures.alone, c.requires.size) in
    subst (λ (lid : Option ℕ). get_or (set lids p.first lid) leaf None ≡ lid_of (take (c.args.node + 1) c.args.flat.now) leaf) (sym c.tighter.ensures.lower)
    (noted c.args.flat.now c.args.node p lids c.in-Some.most c.requires.node c.place-place.ensures.place (sym c.limit_alone.ensures.limit ∙ c.in-Some.is) first c.requires.lids leaf within)

pub returns-in_default-clause-lids : goal.returns-in_default-clause-lids
returns-in_default-clause-lids g c = unnoted c.args.flat.now c.args.node c.place-place.result c.args.lids.now c.requires.node c.place-place.ensures.place (sym c.limit_alone.ensures.limit ∙ c.in_default.is) c.requires.lids
