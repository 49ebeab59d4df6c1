-- The parts of a line: words, numbers and paths.
use Rattle.std.specs.Prelude.{ℕ, nat_eq, nat_le, Bool, false, not, ◌&&◌, ◌||◌, if◌then◌else◌, List, [], ◌∷◌, length, map, slice_index, ◌-◌, Option, Some, None, bytes_eq, codes}
use Rattle.std.specs.List.{list_all}
use Rattle.std.specs.Option.{option_map, option_and_then}
use Rattle.std.specs.Char.{is_ascii_digit, is_ascii_alphanumeric}
use Rattle.std.specs.Int.Digits.{number_from_digits}
use Rattle.limit_tree.specs.declared.place.NodeKind.{NodeKind}
use Rattle.limit_tree.specs.declared.place.NodeKind.TheVariants.{Branch, Leaf}
use Rattle.sheet_text.specs.Paths.{Octets, Path, names_of, parts}
use Rattle.sheet_text.specs.Mentions.{Entry}
use Rattle.sheet_text.specs.declared.number.TheConstants.{MOST_DIGITS}
use Rattle.sheet_text.specs.declared.path.TheConstants.{LONGEST_NAME}

-- the value of a digit
abbrev pub digit : ℕ → ℕ
digit octet = octet - 48

-- 1 to 19 digits, without a needless leading zero
abbrev pub is_number : Octets → Bool
is_number text =
    nat_le 1 (length text) && nat_le (length text) MOST_DIGITS
    && (nat_eq (length text) 1 || not (nat_eq (slice_index text 0) 48))
    && list_all is_ascii_digit text

abbrev pub number : Octets → Option ℕ
number text = if is_number text then Some (number_from_digits 10 (map digit text)) else None

-- an ASCII letter or digit, or one of `-`, `_` and `.`
abbrev pub is_name_octet : ℕ → Bool
is_name_octet octet =
    is_ascii_alphanumeric octet || nat_eq octet 45 || nat_eq octet 95 || nat_eq octet 46

abbrev pub is_name : Octets → Bool
is_name name =
    nat_le 1 (length name) && nat_le (length name) LONGEST_NAME && list_all is_name_octet name

-- names, each after a `/`; at least one
abbrev pub is_named_path : Octets → Bool
is_named_path [] = false
is_named_path (octet ∷ rest) = nat_eq octet 47 && list_all is_name (parts 47 rest)

-- a path of at least one name
abbrev pub named_path : Octets → Option Path
named_path text = if is_named_path text then Some (names_of text) else None

-- a path: the root is written `/`
abbrev pub path : Octets → Option Path
path text = if bytes_eq text (codes "/") then Some [] else named_path text

abbrev pub entry_at : Option Path → Option NodeKind → Option Entry
entry_at place kind =
    option_and_then (λ p. option_map (λ k. record { path = p; kind = k }) kind) place

-- a number, or `-` for none
abbrev pub limit_kind : Octets → Option NodeKind
limit_kind text =
    if bytes_eq text (codes "-") then Some (Branch None)
    else option_map (λ n. Branch (Some n)) (number text)

abbrev pub want_kind : Octets → Option ℕ → Option NodeKind
want_kind want floor = option_and_then (λ n. option_map (λ f. Leaf n f) floor) (number want)

-- `limit PATH N`, `limit PATH -`, `want PATH N` or `want PATH N FLOOR`, by the words between single
-- spaces
abbrev pub entry_of_words : List Octets → Option Entry
entry_of_words (word ∷ place ∷ amount ∷ []) =
    if bytes_eq word (codes "limit") then entry_at (path place) (limit_kind amount)
    else if bytes_eq word (codes "want")
    then entry_at (named_path place) (want_kind amount (Some 0))
    else None
entry_of_words (word ∷ place ∷ amount ∷ floor ∷ []) =
    if bytes_eq word (codes "want")
    then entry_at (named_path place) (want_kind amount (number floor)) else None
entry_of_words words = None

abbrev pub entry_of : Octets → Option Entry
entry_of line = entry_of_words (parts 32 line)

-- the statement of one line: octets for a want, by its path, and the path of a node, if it names
-- one
pub record GrantLine : Type 0 where
  pub path : Path
  pub octets : ℕ
  pub node : Option Path

abbrev pub grant_at : Option Path → Option ℕ → Option (Option Path) → Option GrantLine
grant_at place amount node =
    option_and_then
    (λ p. option_and_then
    (λ n. option_map
    (λ name. record { path = p; octets = n; node = name }) node) amount) place

-- `grant PATH N` or `grant PATH N NODE`, by the words between single spaces; NODE is a path too
abbrev pub grant_of_words : List Octets → Option GrantLine
grant_of_words (word ∷ place ∷ amount ∷ []) =
    if bytes_eq word (codes "grant") then grant_at (path place) (number amount) (Some None)
    else None
grant_of_words (word ∷ place ∷ amount ∷ node ∷ []) =
    if bytes_eq word (codes "grant")
    then grant_at (path place) (number amount) (option_map Some (path node)) else None
grant_of_words words = None

abbrev pub grant_of : Octets → Option GrantLine
grant_of line = grant_of_words (parts 32 line)
