-- Octets that a call appends.
use Rattle.std.specs.Prelude.{◌≡◌, ℕ, List, ◌++◌, OnErr, OnOk, Result, String, Vec, take, vec_len}
use Rattle.std.specs.String.{string_bytes}

-- unless memory ran out, these octets were appended to the text
abbrev pub Appends : {A X E : Type 0} → Result X E → String A → String A → List ℕ → Type 0
Appends result old new octets = OnOk result (string_bytes new ≡ string_bytes old ++ octets)

-- unless memory ran out, these octets were appended to the buffer
abbrev pub Adds : {A X E : Type 0} → Result X E → Vec ℕ A → Vec ℕ A → List ℕ → Type 0
Adds result old new octets = OnOk result (new.items ≡ old.items ++ octets)

-- if memory ran out, some octets may have been appended to the buffer
abbrev pub KeepsFront : {A X E : Type 0} → Result X E → Vec ℕ A → Vec ℕ A → Type 0
KeepsFront result old new = OnErr result (take (vec_len old) new.items ≡ old.items)
