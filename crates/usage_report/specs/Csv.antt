-- The report as CSV (RFC 4180, with a line feed alone after each line).
use Rattle.std.specs.Prelude.{◌==◌, ◌++◌, ℕ, [], ◌∷◌, Option, Some, None, codes, decimal, if◌then◌else◌}
use Rattle.std.specs.List.{flat_map}
use Rattle.log_lines.specs.Words.{Octets}
use Rattle.usage_report.specs.Adding.{octets_a_second}
use Rattle.usage_report.specs.declared.adding.Sums.{Sums}

-- an octet within quotation marks
abbrev pub quoted : ℕ → Octets
quoted octet = if octet == 34 then 34 ∷ 34 ∷ [] else octet ∷ []

-- a text as a field
abbrev pub field : Octets → Octets
field text = codes "\"" ++ flat_map quoted text ++ codes "\""

abbrev pub maybe_text : Option ℕ → Octets
maybe_text None = []
maybe_text (Some n) = decimal n

-- the transfers, octets, seconds, and octets a second
abbrev pub sums_text : Sums → Octets
sums_text sums =
    decimal sums.transfers ++ codes "," ++ decimal sums.octets ++ codes ","
    ++ decimal sums.seconds ++ codes "," ++ maybe_text (octets_a_second sums)
