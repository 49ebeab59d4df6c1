-- The words of one letter, and those that are always the same.
use Rattle.std.specs.Prelude.{ℕ, Bool, true, false, ◌&&◌, bytes_eq, if◌then◌else◌, List, [], ◌∷◌, codes, Option, Some, None, option_map}
use Rattle.std.specs.Option.{option_and_then}
use Rattle.log_lines.specs.Words.{Octets}
use Rattle.log_lines.specs.declared.kind.Kind.{Kind}

-- one of two words: whether it is the first
abbrev pub letter_of : Octets → Octets → Octets → Option Bool
letter_of first second word =
    if bytes_eq word first then Some true else if bytes_eq word second then Some false else None

abbrev pub stated_kind : Option Bool → Option Bool → Option Bool → Option Kind
stated_kind form direction access =
    option_and_then
    (λ t. option_and_then
    (λ s. option_map (λ p. record { is_text = t; is_sent = s; is_public = p }) access) direction)
    form

-- transfer-type `a` or `b`, special-action-flag `_`, direction `o` or `i`, access-mode `a` or `r`
abbrev pub kind_of : Octets → Octets → Octets → Octets → Option Kind
kind_of form action direction access =
    if bytes_eq action (codes "_")
    then stated_kind
    (letter_of (codes "a") (codes "b") form)
    (letter_of (codes "o") (codes "i") direction) (letter_of (codes "a") (codes "r") access)
    else None

-- the kind that words begin with, and the words after it
abbrev pub kind_taken : List Octets → Option (Kind × List Octets)
kind_taken (form ∷ action ∷ direction ∷ access ∷ more) =
    option_map (λ kind. (kind, more)) (kind_of form action direction access)
kind_taken words = None

-- completion-status `c` or `i`, after service-name, authentication-method and
-- authenticated-user-id
abbrev pub status_of : Octets → Octets → Octets → Octets → Option Bool
status_of service method id status =
    if bytes_eq service (codes "ftp") && bytes_eq method (codes "0") && bytes_eq id (codes "*")
    then letter_of (codes "c") (codes "i") status else None

-- these four end a line
abbrev pub ending_of : List Octets → Option Bool
ending_of (service ∷ method ∷ id ∷ status ∷ []) = status_of service method id status
ending_of words = None
