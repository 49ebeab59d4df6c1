use Rattle.std.proofs.Common.{◌≡◌, ◌++◌, ℕ, List, string_bytes, sym, ap, ◌∙◌}
use Rattle.std.proofs.lemmas.Iterator.{YieldsList-from_chars}
use Rattle.std.proofs.lemmas.Iterator.Consumers.{YieldsList-end}
use Rattle.std.specs.List.{flat_map}
use Rattle.std.specs.Prelude.{encode_utf8}
use Rattle.std.specs.Str.{chars}
use Rattle.transfer_log.specs.Names.{plain}
use Rattle.transfer_log.proofs.Joins.{same_items}
use Rattle.transfer_log.proofs.names.push_text.Goals as goal

pub returns : goal.returns
returns c =
    let t = YieldsList-end (YieldsList-from_chars c.args.name.now c.utf8.name cc) c.loop-character.yielded _ c.loop-character.yielded_by _ _ c.in-None.is c.next.ensures.steps in
    let all : c.loop-character.yielded ≡ chars c.args.name.now = sym (same_items c.loop-character.yielded) ∙ t.0 in
    record {
      appended = c.loop-character.invariant ∙ ap (λ (cs : List ℕ). string_bytes c.args.line.now ++ flat_map (λ x. encode_utf8 (plain x)) cs) all;
    }
