use Rattle.std.proofs.Common.{◌≡◌, ◌∙◌, ap, subst, arith, rules}
use Rattle.std.specs.FinMap.{get}
use Rattle.virtual_path.specs.Path.{path_text}
use Rattle.authorizer.specs.Stored.{map_of}
use Rattle.authorizer.specs.Users.{above}
use Rattle.authorizer.proofs.Decides.{NoneBelow, none_below_more, names_above, parent_of-above, at_root}
use Rattle.authorizer.proofs.allowed.deepest.Goals as goal

pub loop-up-preserved : goal.loop-up-preserved
loop-up-preserved g c =
    let overrides = map_of (λ rule. rule) c.args.rules.now in
    let path = c.args.path.now in
    let so_far = c.loop-up.invariant in
    record {
      here = (c.in_ok-text.ensures.parent (above c.loop-up.up path) (names_above c.loop-up.up path c.text-text.ensures.names) so_far.here).1 ∙ ap path_text (parent_of-above c.loop-up.up path);
      none = none_below_more overrides path c.loop-up.up so_far.none (λ rule kept covers. c.in_default.ensures.covering rule (ap (get overrides) so_far.here ∙ kept) covers);
      utf8 = search rules;
    }

pub returns : goal.returns
returns g c =
    let overrides = map_of (λ rule. rule) c.args.rules.now in
    let path = c.args.path.now in
    let depth = c.depth-depth.ensures.depth in
    let past = c.loop-up-test.false in
    let within = c.loop-up.auto.up-end in
    let end : c.loop-up.up ≡ c.depth-depth.result = omega arith in
    let so_far = c.loop-up.invariant in
    record {
      deepest = at_root overrides path c.depth-depth.result c.loop-up.text.now c.covering-2.result depth
          (so_far.here ∙ ap (λ up. path_text (above up path)) end) (subst (λ up. NoneBelow overrides path up) end so_far.none) c.covering-2.ensures.covering;
    }
