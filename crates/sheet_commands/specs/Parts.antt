-- Texts made of parts.
use Rattle.std.specs.Prelude.{ℕ, List}
use Rattle.std.specs.Fmt.{decimal}
use Rattle.std.specs.List.{flat_map}
use Rattle.sheet_commands.specs.declared.parts.Part.{Part}
use Rattle.sheet_commands.specs.declared.parts.Part.TheVariants.{Text, Number, Path}
use Rattle.sheet_commands.specs.Escapes.{escaped}

abbrev pub part_text : Part → List ℕ
part_text (Text plain) = plain.now
part_text (Number number) = decimal number
part_text (Path path) = escaped path.now

-- texts one after another
abbrev pub joined : List (List ℕ) → List ℕ
joined texts = flat_map (λ text. text) texts
