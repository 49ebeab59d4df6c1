-- Text on a data connection (RFC 959, section 3.1.1): 10 is LF, 13 is CR.
use Rattle.std.specs.Prelude.{◌≡◌, ◌++◌, ◌&&◌, ◌==◌, ℕ, List, [], ◌∷◌, Bool, true, false, if◌then◌else◌}
use Rattle.std.specs.List.{flat_map}
use Rattle.ftp_terms.specs.declared.data_type.DataType.{DataType}
use Rattle.ftp_terms.specs.declared.data_type.DataType.TheVariants.{Ascii, Image}

-- one octet of a text as sent
abbrev pub sent_octet : ℕ → List ℕ
sent_octet octet = if octet == 10 then 13 ∷ 10 ∷ [] else octet ∷ []

-- each LF becomes CR LF
abbrev pub sent_text : List ℕ → List ℕ
sent_text text = flat_map sent_octet text

-- each CR LF becomes LF: a CR is dropped if an LF follows it
abbrev pub received_text : List ℕ → List ℕ
received_text [] = []
received_text (octet ∷ []) = octet ∷ []
received_text (octet ∷ next ∷ text) =
    if (octet == 13) && (next == 10) then received_text (next ∷ text)
    else octet ∷ received_text (next ∷ text)

-- the wire octets of a file's octets
abbrev pub sent : DataType → List ℕ → List ℕ
sent Ascii text = sent_text text
sent Image octets = octets

-- the file's octets of wire octets
abbrev pub received : DataType → List ℕ → List ℕ
received Ascii wire = received_text wire
received Image octets = octets

-- a `Wire` as contracts see it: the data type, and whether a CR is held back
pub record WireView : Type 0 where
  pub data_type : DataType
  pub held : List ℕ

abbrev pub cr_if : Bool → List ℕ
cr_if true = 13 ∷ []
cr_if false = []

-- a CR is held back only under TYPE A
abbrev pub HoldsTextAlone : DataType → Bool → Type 0
HoldsTextAlone Ascii holds_cr = Unit {0}
HoldsTextAlone Image holds_cr = holds_cr ≡ false

abbrev pub HoldsNothing : DataType → List ℕ → Type 0
HoldsNothing Ascii held = Unit {0}
HoldsNothing Image held = held ≡ []

-- After `held`, these octets become this text and leave `rest` to be held, whatever octets follow.
abbrev pub ReceivesOctets : DataType → List ℕ → List ℕ → List ℕ → List ℕ → Type 0
ReceivesOctets data_type held octets text rest =
    (later : List ℕ)
    → received data_type (held ++ octets ++ later) ≡ text ++ received data_type (rest ++ later)

abbrev pub IsSentInPieces : Type 0
IsSentInPieces =
    (data_type : DataType) (xs ys : List ℕ)
    → sent data_type (xs ++ ys) ≡ sent data_type xs ++ sent data_type ys

abbrev pub IsReceivedAsSent : Type 0
IsReceivedAsSent =
    (data_type : DataType) (xs : List ℕ) → received data_type (sent data_type xs) ≡ xs
