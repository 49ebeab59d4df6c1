-- A text that was read whole.
use Rattle.std.proofs.Common.{◌≡◌, ◌<◌, ◌≤◌, ◌∙◌, List, ◌++◌, ℕ, Option, Some, None, length, append-nil, sym, ap, refl, arith}
use Rattle.std.specs.Io.KnownBytes.{Consumes, IsAtEnd}
use Rattle.text_io.specs.Texts.{IsTextOf}

pub read_whole_text : (old new : Option (List ℕ)) (items text : List ℕ) → Consumes old new items → IsAtEnd new → old ≡ Some text → items ≡ text
read_whole_text None new items text taken end known = cc
read_whole_text (Some xs) None items text taken end known = absurd taken
read_whole_text (Some xs) (Some rest) items text taken end known =
    let same : xs ≡ text = cc in
    sym (append-nil items) ∙ ap (λ (r : List ℕ). items ++ r) (sym end) ∙ sym taken ∙ same

-- the octets that were read are the text, where it is known
pub read_text_of : (old new : Option (List ℕ)) (items : List ℕ) → Consumes old new items → IsAtEnd new → IsTextOf items old
read_text_of None new items taken end = tt
read_text_of (Some xs) new items taken end = sym (read_whole_text (Some xs) new items xs taken end refl)

-- a text that was read whole has no more octets than were read
pub read_whole_few : (old new : Option (List ℕ)) (items text : List ℕ) (most : ℕ) → Consumes old new items → IsAtEnd new → old ≡ Some text → length items ≤ most → most < length text → ⊥
read_whole_few old new items text most taken end known few more = omega (arith, few, more, ap length (read_whole_text old new items text taken end known))
