-- The Telnet commands in a stream of octets (RFC 854, "TELNET COMMAND STRUCTURE"; RFC 855).
use Rattle.std.specs.Prelude.{◌≡◌, ◌≢◌, ◌<◌, ◌≤◌, ◌⊎◌, ◌++◌, ◌∷◌, [], ℕ, List, flat_map}
use Rattle.std.specs.List.{AllByRecursion}

-- a part of a subnegotiation: an octet other than IAC, or IAC and an octet other than SE
pub data Part : Type 0 where
  one : ℕ → Part
  pair : ℕ → Part

abbrev pub IsPart : Part → Type 0
IsPart (one octet) = octet ≢ 255
IsPart (pair octet) = octet ≢ 240

abbrev pub part_octets : Part → List ℕ
part_octets (one octet) = octet ∷ []
part_octets (pair octet) = 255 ∷ octet ∷ []

-- the tokens of a stream
pub data Token : Type 0 where
  -- an octet other than IAC
  plain : ℕ → Token
  -- IAC and an octet that is kept: IAC itself, or one below 240
  escaped : ℕ → Token
  -- IAC and a command of one octet
  command : ℕ → Token
  -- IAC, then WILL, WONT, DO or DONT, then an option
  option : ℕ → ℕ → Token
  -- IAC SB, its parts, IAC SE
  subnegotiation : List Part → Token

abbrev pub IsToken : Token → Type 0
IsToken (plain octet) = octet ≢ 255
IsToken (escaped octet) = (octet < 240) ⊎ (octet ≡ 255)
IsToken (command octet) = (240 ≤ octet) × (octet < 250)
IsToken (option verb octet) = (250 < verb) × (verb < 255)
IsToken (subnegotiation parts) = AllByRecursion IsPart parts

abbrev pub spelling : Token → List ℕ
spelling (plain octet) = octet ∷ []
spelling (escaped octet) = 255 ∷ octet ∷ []
spelling (command octet) = 255 ∷ octet ∷ []
spelling (option verb octet) = 255 ∷ verb ∷ octet ∷ []
spelling (subnegotiation parts) = 255 ∷ 250 ∷ (flat_map part_octets parts ++ 255 ∷ 240 ∷ [])

-- the octets kept of a token
abbrev pub kept : Token → List ℕ
kept (plain octet) = octet ∷ []
kept (escaped octet) = octet ∷ []
kept _ = []

-- the start of an incomplete token
pub record IsUnfinished (start : List ℕ) : Type 0 where
  pub token : Token
  pub more : List ℕ
  pub is_token : IsToken token
  pub lacks : more ≢ []
  pub begins : spelling token ≡ start ++ more

-- the octets are tokens and the start of another, and the text is what they keep
pub record Strips (octets text : List ℕ) : Type 0 where
  pub tokens : List Token
  pub start : List ℕ
  pub each : AllByRecursion IsToken tokens
  pub octets_are : octets ≡ flat_map spelling tokens ++ start
  pub text_is : text ≡ flat_map kept tokens
  pub unfinished : IsUnfinished start
