-- What is held of a line.
use Rattle.std.proofs.Common.{arith, refl, ap, ◌≡◌, ◌<◌, ◌-◌, ◌++◌, ◌∷◌, [], ℕ, List, Err, Bool, true, false, ◌==◌, cond, length, length-append, take}
use Rattle.std.specs.Prelude.{slice_index_or}
use Rattle.std.proofs.lemmas.Bool.{lt-leb}
use Rattle.std.proofs.lemmas.List.{length-take}
use Rattle.ftp_wire.specs.declared.items.TheConstants.{LONGEST_HELD, LONGEST_LINE}
use Rattle.ftp_wire.specs.declared.faults.LineFault.TheVariants.{TooLong}
use Rattle.ftp_wire.specs.Items.{line_item, without_cr}
use Rattle.ftp_wire.specs.Reading.{KnowsRest}

pub grows : (t : Bool) (line rest : List ℕ) (octet : ℕ) → t ≡ true → KnowsRest t line rest → KnowsRest t line (rest ++ octet ∷ [])
grows true line rest octet e h = (omega (arith, h.0, length-append rest (octet ∷ [])), h.1)
grows false line rest octet e h = cc

pub passes_limit : (t : Bool) (line rest : List ℕ) (octet : ℕ) → t ≡ false → LONGEST_LINE < length line → KnowsRest t line rest → LONGEST_HELD < length (rest ++ octet ∷ [])
passes_limit true line rest octet e more h = cc
passes_limit false line rest octet e more h = omega (arith, more, ap length h.0, length-append rest (octet ∷ []))

pub known_rest : (t : Bool) (line rest : List ℕ) → t ≡ false → KnowsRest t line rest → line ≡ rest
known_rest true line rest e h = cc
known_rest false line rest e h = h.0

shorter : (t : Bool) (rest : List ℕ) → LONGEST_HELD < length rest → LONGEST_LINE < length (cond t (take (length rest - 1) rest) rest)
shorter true rest more = omega (arith, more, length-take (length rest - 1) rest)
shorter false rest more = omega arith

pub long_item : (t : Bool) (line rest : List ℕ) → t ≡ true → KnowsRest t line rest → line_item rest ≡ Err TooLong
unfolding line_item
long_item true line rest e h =
    let most : LONGEST_LINE < length (without_cr rest) = shorter (slice_index_or rest (length rest - 1) 0 == 13) rest h.0 in
    rw (lt-leb _ _ most) refl
long_item false line rest e h = cc
