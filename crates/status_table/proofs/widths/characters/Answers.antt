use Rattle.std.proofs.Common.{◌≡◌, chars, sym, ◌∙◌}
use Rattle.std.proofs.lemmas.Iterator.{YieldsList-from_chars}
use Rattle.std.proofs.lemmas.Iterator.Consumers.{YieldsList-end}
use Rattle.status_table.proofs.Texts.{same_items}
use Rattle.status_table.proofs.widths.characters.Goals as goal

pub returns : goal.returns
returns c =
    let t = YieldsList-end (YieldsList-from_chars c.args.text.now c.utf8.text cc) c.loop-character.yielded _ c.loop-character.yielded_by _ _ c.in-None.is c.next.ensures.steps in
    let all : c.loop-character.yielded ≡ chars c.args.text.now = sym (same_items c.loop-character.yielded) ∙ t.0 in
    record {
      characters = c.loop-character.invariant ∙ all;
    }
