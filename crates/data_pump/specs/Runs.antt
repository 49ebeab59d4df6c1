-- Runs of text, and their conversion.
use Rattle.std.specs.Prelude.{◌≡◌, ◌++◌, ◌&&◌, ◌==◌, ℕ, List, [], ◌∷◌, Bool, false, not}
use Rattle.ftp_terms.specs.declared.data_type.DataType.TheVariants.{Ascii}
use Rattle.data_pump.specs.WireText.{cr_if, ReceivesOctets}

-- none of the octets has this value
abbrev pub HoldsNo : ℕ → List ℕ → Type 0
HoldsNo octet [] = Unit {0}
HoldsNo octet (x ∷ xs) = ((x == octet) ≡ false) × HoldsNo octet xs

-- octets kept of a held CR, by the next octet
abbrev pub held_cr : Bool → ℕ → List ℕ
held_cr holds_cr next = cr_if (holds_cr && not (next == 10))

-- These octets were converted to a text, which was appended to `before`, and a CR is held back or
-- not.
pub record PutsRun (holds_cr : Bool) (octets before after : List ℕ)
    (holds_next : Bool) : Type 0 where
  pub text : List ℕ
  pub put : after ≡ before ++ text
  pub meant : ReceivesOctets Ascii (cr_if holds_cr) octets text (cr_if holds_next)
