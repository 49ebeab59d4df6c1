-- Notes without a time.
use Rattle.std.specs.Prelude.{◌≡◌, ℕ, List, ◌++◌, codes, decimal, IfSome}
use Rattle.std.specs.Fmt.{debug_str}
use Rattle.line_queue.specs.declared.sink.LogForm.{LogForm}
use Rattle.line_queue.specs.declared.sink.LogForm.TheVariants.{Plain, Journal}

-- the head of a warning, in a form
abbrev pub head_of : LogForm → List ℕ
head_of Plain = codes "[WARN ] "
head_of Journal = codes "<4>"

-- the note of the number of users that a new configuration has no longer
abbrev pub gone_line : LogForm → ℕ → List ℕ
gone_line form count =
    head_of form
    ++ (codes "users that the new configuration has no longer: " ++ (decimal count ++ codes "\n"))

-- the note of a file that cannot be written, by its path in quotation marks and the reason
abbrev pub unwritten_text : LogForm → List ℕ → List ℕ → List ℕ → List ℕ
unwritten_text form what path why =
    head_of form
    ++ (codes "the "
    ++ (what ++ (codes " " ++ (path ++ (codes " cannot be written: " ++ (why ++ codes "\n"))))))

-- the same of one that cannot be examined
abbrev pub unseen_text : LogForm → List ℕ → List ℕ → List ℕ
unseen_text form path why =
    head_of form
    ++ (codes "the file " ++ (path ++ (codes " cannot be examined: " ++ (why ++ codes "\n"))))

-- a path in quotation marks, as `{:?}` writes it
abbrev pub IsQuoted : List ℕ → List ℕ → Type 0
IsQuoted path text = IfSome (debug_str path) (λ octets. text ≡ octets)

-- the note names the file at a path, and has a reason
abbrev pub IsUnwritten : LogForm → List ℕ → List ℕ → List ℕ → Type 0
IsUnwritten form what path line =
    (named why : List ℕ) × IsQuoted path named × (line ≡ unwritten_text form what named why)

abbrev pub IsUnseen : LogForm → List ℕ → List ℕ → Type 0
IsUnseen form path line =
    (named why : List ℕ) × IsQuoted path named × (line ≡ unseen_text form named why)
