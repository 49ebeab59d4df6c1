-- The numbers that words state in digits.
use Rattle.std.specs.Prelude.{◌≡◌, ◌≤◌, ◌++◌, ℕ, List, Option, None, Some, codes, decimal, false, string_bytes}
use Rattle.std.specs.Str.Parse.{IsNumeral, digits_value}
use Rattle.clap.specs.Words.{Row, Text, first_of}
use Rattle.command_line.specs.declared.numbers.NumberForm.{NumberForm}
use Rattle.command_line.specs.declared.numbers.NumberForm.TheVariants.{Seconds, Port, Lines, Depth}
use Rattle.command_line.specs.declared.numbers.TheConstants.{LEAST_ROWS, MAX_PORT, MAX_SECONDS, MOST_DEPTH, MOST_ROWS, ROWS}
use Rattle.command_line.specs.declared.words.WordsFault.{WordsFault}
use Rattle.command_line.specs.declared.words.WordsFault.TheVariants.{Refused, Memory}

-- the least number of that form
abbrev pub least_of : NumberForm → ℕ
least_of Seconds = 0
least_of Port = 1
least_of Lines = LEAST_ROWS
least_of Depth = 0

-- the largest number of that form
abbrev pub most_of : NumberForm → ℕ
most_of Seconds = MAX_SECONDS
most_of Port = MAX_PORT
most_of Lines = MOST_ROWS
most_of Depth = MOST_DEPTH

-- the name of such a value in the help
abbrev pub value_name : NumberForm → Text
value_name Seconds = codes "SECONDS"
value_name Port = codes "PORT"
value_name Lines = codes "N"
value_name Depth = codes "DEPTH"

-- the kind of such a value, in words
abbrev pub value_kind : NumberForm → Text
value_kind Seconds = codes "a number of seconds"
value_kind Port = codes "a port"
value_kind Lines = codes "a number of lines"
value_kind Depth = codes "a depth"

-- the text states that number of that form, in digits
abbrev pub IsNumber : NumberForm → List ℕ → ℕ → Type 0
IsNumber form text n =
    IsNumeral 10 text × (digits_value 10 text ≡ n) × (least_of form ≤ n) × (n ≤ most_of form)

-- the text states that port, and that number of lines
abbrev pub IsPortText : List ℕ → ℕ → Type 0
IsPortText text n = IsNumber Port text n

abbrev pub AreLines : List ℕ → ℕ → Type 0
AreLines text n = IsNumber Lines text n

-- the number that an option states, and none if the option is not given
abbrev pub IsStated : NumberForm → Option (List ℕ) → Option ℕ → Type 0
IsStated form None None = Unit {0}
IsStated form None (Some n) = ⊥
IsStated form (Some text) None = ⊥
IsStated form (Some text) (Some n) = IsNumber form text n

abbrev pub IsNumberOf : NumberForm → ℕ → Option (List ℕ) → ℕ → Type 0
IsNumberOf form default None n = n ≡ default
IsNumberOf form default (Some text) n = IsNumber form text n

-- the option states that number of that form; if it is not given, the number is the default
abbrev pub IsNumberOr : NumberForm → ℕ → Text → List Row → ℕ → Type 0
IsNumberOr form default option rows n = IsNumberOf form default (first_of option rows) n

-- the options of `serve` state that port, or none
abbrev pub IsPortIn : List Row → Option ℕ → Type 0
IsPortIn rows port = IsStated Port (first_of (codes "status-port") rows) port

-- the options of `top` state that number of lines
abbrev pub AreLinesIn : List Row → ℕ → Type 0
AreLinesIn rows lines = IsNumberOr Lines ROWS (codes "rows") rows lines

-- the refusal of a value of an option: the name of such a value, what it must be, and its range
abbrev pub refusal_head : Text → Text → Text → List ℕ → List ℕ
refusal_head name kind option value =
    codes "error: invalid value '" ++ (value ++ (codes "' for '--" ++ (option ++ (codes " <"
    ++ (name ++ (codes ">': it must be " ++ kind))))))

abbrev pub refusal_range : ℕ → ℕ → List ℕ
refusal_range least most =
    codes " from " ++ (decimal least ++ (codes " to " ++ (decimal most
    ++ codes ", in digits\n\nFor more information, try '--help'.\n")))

abbrev pub refusal_text : NumberForm → Text → List ℕ → List ℕ
refusal_text form option value =
    refusal_head (value_name form) (value_kind form) option value
    ++ refusal_range (least_of form) (most_of form)

-- memory ran out, or the fault is that refusal
abbrev pub IsRefusalOf : NumberForm → Text → List ℕ → WordsFault → Type 0
IsRefusalOf form option value (Refused text is_help) =
    (string_bytes text ≡ refusal_text form option value) × (is_help ≡ false)
IsRefusalOf form option value Memory = Unit {0}

-- memory ran out, or the option has a value that is no number of that form, which the fault refuses
abbrev pub IsUnnumberedBy : NumberForm → Text → List Row → WordsFault → Type 0
IsUnnumberedBy form option rows (Refused text is_help) =
    (value : List ℕ) × (first_of option rows ≡ Some value)
    × ((n : ℕ) → IsNumber form value n → ⊥) × IsRefusalOf form option value (Refused text is_help)
IsUnnumberedBy form option rows Memory = Unit {0}

-- the depth that a word states, and none without a word
abbrev pub IsDepthOf : Option (List ℕ) → Option ℕ → Type 0
IsDepthOf word depth = IsStated Depth word depth

-- memory ran out, or the word states no depth, which the fault refuses; without a word there is no
-- fault
abbrev pub IsNoDepthOf : Option (List ℕ) → WordsFault → Type 0
IsNoDepthOf None fault = ⊥
IsNoDepthOf (Some value) (Refused text is_help) =
    ((n : ℕ) → IsNumber Depth value n → ⊥)
    × IsRefusalOf Depth (codes "by") value (Refused text is_help)
IsNoDepthOf (Some value) Memory = Unit {0}
