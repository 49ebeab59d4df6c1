-- What stands at the front of a buffer that grows.
use Rattle.std.proofs.Common.{◌≡◌, ℕ, ◌≤◌, List, ◌++◌, length, take, ap, sym, ◌∙◌, arith, Result, Ok, Err, OnErr}
use Rattle.std.proofs.lemmas.List.{take-take, length-append}
use Rattle.std.proofs.Math.Seq.{take-append_seam}

-- what a longer front keeps, the front of it keeps; n and m are the two fronts' lengths
pub front_stays : (old more mid new : List ℕ) (n m : ℕ) → n ≡ length old → m ≡ length mid
    → mid ≡ old ++ more → take m new ≡ mid → take n new ≡ old
front_stays old more mid new n m is_length is_longer longer kept =
    let short : n ≤ m = omega (arith, ap length longer, length-append old more) in
    let front : take n mid ≡ old = rw (longer, is_length) (take-append_seam old more) in
    sym (take-take n m new short) ∙ ap (take n) kept ∙ front

-- a fact that holds anyway
pub OnErr-from : {T E P : Type 0} (r : Result T E) → P → OnErr r P
OnErr-from (Ok x) p = tt
OnErr-from (Err e) p = p
