-- The position of a stream within a Telnet command.
use Rattle.std.specs.Prelude.{◌≡◌, ◌<◌, ◌++◌, ◌∷◌, [], ℕ, List, flat_map}
use Rattle.std.specs.List.{AllByRecursion}
use Rattle.ftp_wire.specs.declared.telnet.Stage.{Stage}
use Rattle.ftp_wire.specs.declared.telnet.Stage.TheVariants as stage
use Rattle.ftp_wire.specs.Telnet.{IsPart, IsToken, Part, Token, kept, part_octets, spelling}

abbrev pub IsStart : Stage → List ℕ → Type 0
IsStart stage.Text start = start ≡ []
IsStart stage.Command start = start ≡ 255 ∷ []
IsStart stage.Option start = (verb : ℕ) × (250 < verb) × (verb < 255) × (start ≡ 255 ∷ verb ∷ [])
IsStart stage.Inside start =
    (parts : List Part) × AllByRecursion IsPart parts
    × (start ≡ 255 ∷ 250 ∷ flat_map part_octets parts)
IsStart stage.InsideCommand start =
    (parts : List Part) × AllByRecursion IsPart parts
    × (start ≡ 255 ∷ 250 ∷ (flat_map part_octets parts ++ 255 ∷ []))

-- the octets are tokens and the start of a token of this stage, and the text is what they keep
pub record StripsTo (octets text : List ℕ) (at : Stage) : Type 0 where
  pub tokens : List Token
  pub start : List ℕ
  pub each : AllByRecursion IsToken tokens
  pub octets_are : octets ≡ flat_map spelling tokens ++ start
  pub text_is : text ≡ flat_map kept tokens
  pub is_start : IsStart at start
