use Rattle.std.proofs.Common.{◌≡◌, ℕ, List, [], ◌∷◌, map, sym, refl, ap, ◌∙◌}
use Rattle.std.proofs.lemmas.Iterator.{YieldsList-from_chars}
use Rattle.std.proofs.lemmas.Iterator.Consumers.{YieldsList-end}
use Rattle.std.specs.List.{flat_map}
use Rattle.std.specs.Prelude.{encode_utf8}
use Rattle.std.specs.Str.{chars}
use Rattle.status_keeper.specs.Shown.{shown}
use Rattle.status_keeper.proofs.Pushed.{same_items}
use Rattle.status_keeper.proofs.shown.shown_path.Goals as goal

pub returns : goal.returns
returns c =
    let t = YieldsList-end (YieldsList-from_chars c.args.path.now c.utf8.path cc) c.loop-character.yielded _ c.loop-character.yielded_by _ _ c.in-None.is c.next.ensures.steps in
    let all : c.loop-character.yielded ≡ chars c.args.path.now = sym (same_items c.loop-character.yielded) ∙ t.0 in
    record {
      shown = c.loop-character.invariant ∙ ap (λ (cs : List ℕ). flat_map (λ x. encode_utf8 (shown x)) cs) all;
    }
