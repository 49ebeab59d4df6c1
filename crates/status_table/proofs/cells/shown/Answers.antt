use Rattle.std.proofs.Common.{◌≡◌, ℕ, List, sym, ap, ◌∙◌}
use Rattle.std.proofs.lemmas.Iterator.{YieldsList-from_chars}
use Rattle.std.proofs.lemmas.Iterator.Consumers.{YieldsList-end}
use Rattle.std.specs.List.{flat_map}
use Rattle.std.specs.Str.{chars}
use Rattle.status_table.specs.Cells.{shown_char}
use Rattle.status_table.proofs.Texts.{same_items}
use Rattle.status_table.proofs.cells.shown.Goals as goal

pub returns : goal.returns
returns c =
    let t = YieldsList-end (YieldsList-from_chars c.args.name.now c.utf8.name cc) c.loop-character.yielded _ c.loop-character.yielded_by _ _ c.in-None.is c.next.ensures.steps in
    let all : c.loop-character.yielded ≡ chars c.args.name.now = sym (same_items c.loop-character.yielded) ∙ t.0 in
    record {
      shown = c.loop-character.invariant ∙ ap (λ (cs : List ℕ). flat_map shown_char cs) all;
    }
