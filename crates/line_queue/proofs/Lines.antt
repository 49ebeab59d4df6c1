-- The octets of lines.
use Rattle.std.proofs.Common.{◌≡◌, ℕ, ◌+◌, List, [], ◌∷◌, ◌++◌, map, length, ap, ◌∙◌, arith}
use Rattle.std.proofs.lemmas.List.{map-append}
use Rattle.line_queue.specs.Queues.{octets_of}

pub octets-append : (lines : List (List ℕ)) (line : List ℕ) → octets_of (lines ++ line ∷ []) ≡ octets_of lines + length line
octets-append [] line = omega arith
octets-append (first ∷ lines) line = let more = octets-append lines line in omega (arith, more)

pub octets_more : {X : Type 0} (f : X → List ℕ) (lines : List X) (line : X) → octets_of (map f (lines ++ line ∷ [])) ≡ octets_of (map f lines) + length (f line)
octets_more f lines line = ap octets_of (map-append f lines (line ∷ [])) ∙ octets-append (map f lines) (f line)
