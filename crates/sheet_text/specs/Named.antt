-- The kid of a name.
use Rattle.std.specs.Prelude.{ℕ, ◌+◌, ◌*◌, ◌%◌, ◌^◌, List, Option, Some, None, bytes_eq, if◌then◌else◌}
use Rattle.std.specs.List.{fold}
use Rattle.std.specs.Borrow.{Bor}
use Rattle.std.specs.Ordering.{nat_cmp}
use Rattle.std.specs.Cmp.Lexicographic.{slice_cmp}
use Rattle.std.specs.BTreeMap.{get_by}
use Rattle.sheet_text.specs.Paths.{Octets}
use Rattle.sheet_text.specs.declared.row.Row.{Row}

-- the mark of a name with an octet more
abbrev pub marked : ℕ → ℕ → ℕ
marked mark octet = (mark * 1099511628211 % 2 ^ 64 + octet) % 2 ^ 64

-- the mark of a name
abbrev pub mark_of : Octets → ℕ
mark_of name = fold marked 0 name

-- the place of a name: that of a kid, if the name is that kid's, and otherwise that of another
abbrev pub held_by : Option (Bor (List ℕ) × ℕ) → Octets → Option ℕ → Option ℕ
held_by None name other = other
held_by (Some kid) name other = if bytes_eq kid.0.now name then Some kid.1 else other

-- the place of a name after the first kid's
abbrev pub named_further : {A : Type 0} → Row A → Octets → Option ℕ
named_further row name =
    held_by (get_by (nat_cmp (mark_of name)) row.marks) name
    (get_by (λ key. slice_cmp nat_cmp name key.now) row.others)

abbrev pub named : {A : Type 0} → Row A → Octets → Option ℕ
named row name = held_by row.first name (named_further row name)
