use Rattle.std.proofs.Common.{◌≡◌, ◌++◌, ℕ, List, string_bytes, sym, ap, ◌∙◌, map-id}
use Rattle.std.proofs.lemmas.Iterator.{YieldsList-from_chars}
use Rattle.std.proofs.lemmas.Iterator.Consumers.{YieldsList-end}
use Rattle.std.specs.List.{flat_map}
use Rattle.std.specs.Str.{chars}
use Rattle.machine_parts.specs.LimitWords.{escaped_character}
use Rattle.machine_parts.proofs.limit_in_words.push_escaped.Goals as goal

pub returns : goal.returns
returns c =
    let t = YieldsList-end (YieldsList-from_chars c.args.name.now c.utf8.name cc) c.loop-character.yielded _ c.loop-character.yielded_by _ _ c.in-None.is c.next.ensures.steps in
    let all : c.loop-character.yielded ≡ chars c.args.name.now = sym (map-id c.loop-character.yielded) ∙ t.0 in
    record {
      appended = c.loop-character.invariant ∙ ap (λ (cs : List ℕ). string_bytes c.args.text.now ++ flat_map escaped_character cs) all;
    }
