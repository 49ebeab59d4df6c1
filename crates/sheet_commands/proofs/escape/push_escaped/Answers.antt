use Rattle.std.proofs.Common.{◌≡◌, ◌++◌, ◌∙◌, ℕ, List, [], ◌∷◌, map, refl, string_bytes, sym, ap}
use Rattle.std.proofs.lemmas.Iterator.{YieldsList-from_chars}
use Rattle.std.proofs.lemmas.Iterator.Consumers.{YieldsList-end}
use Rattle.std.specs.List.{flat_map}
use Rattle.std.specs.Str.{chars}
use Rattle.sheet_commands.specs.Escapes.{escaped_character}
use Rattle.sheet_commands.proofs.escape.push_escaped.Goals as goal

same_items : (xs : List ℕ) → map (λ x. x) xs ≡ xs
same_items [] = refl
same_items (x ∷ xs) = ap (λ (more : List ℕ). x ∷ more) (same_items xs)

pub returns : goal.returns
returns g c =
    let t = YieldsList-end (YieldsList-from_chars c.args.plain.now c.utf8.plain cc) c.loop-character.yielded _ c.loop-character.yielded_by _ _ c.in-None.is c.next.ensures.steps in
    let all : c.loop-character.yielded ≡ chars c.args.plain.now = sym (same_items c.loop-character.yielded) ∙ t.0 in
    record {
      appended = c.loop-character.invariant ∙ ap (λ (cs : List ℕ). string_bytes c.args.text.now ++ flat_map escaped_character cs) all;
    }
