-- The keys of a table, and which of them are known.
use Rattle.std.proofs.Common.{◌≡◌, ℕ, Bool, List, [], ◌∷◌, map, String, Global, string_bytes, bytes_eq, refl, ap, Some, true, false, if◌then◌else◌}
use Rattle.std.proofs.lemmas.Bool.{or_parts}
use Rattle.std.specs.List.{list_any}
use Rattle.std.specs.Map.{keys_of as map_keys}
use Rattle.toml.specs.Data.{Data, string, integer, float, boolean, datetime, array, table, as_str}
use Rattle.toml.specs.View.{members_view}
use Rattle.toml.specs.declared.value.Value.{Value}
use Rattle.ftp_terms.specs.Lines.{is_control, HasNoControl, IsLine}
use Rattle.ftp_terms.proofs.LineLemmas.{line_printed}
use Rattle.config_file.specs.Keys.{is_among, keys_in, first_stray}

-- the keys of a table are those of its map
pub keys_in-view : (es : List (String Global × Value)) → keys_in (members_view es) ≡ map string_bytes (map_keys es)
keys_in-view [] = refl
keys_in-view (e ∷ es) = ap (λ rest. string_bytes e.0 ∷ rest) (keys_in-view es)

-- data that gives a text is that text
pub is_string : (d : Data) (s : List ℕ) → Some s ≡ as_str d → d ≡ string s
is_string (string t) s e = cc
is_string (integer z) s e = cc
is_string (float x) s e = cc
is_string (boolean b) s e = cc
is_string (datetime t) s e = cc
is_string (array ds) s e = cc
is_string (table ms) s e = cc

-- a known key is passed over
pub first_stray-known : (known : List (List ℕ)) (keys rest : List (String Global)) (key : String Global) (text : List ℕ) → keys ≡ key ∷ rest → text ≡ string_bytes key
    → true ≡ is_among known text → first_stray known (map string_bytes keys) ≡ first_stray known (map string_bytes rest)
first_stray-known known keys rest key text at same among = rw (at, ← same, ← among)

-- another is the one that is reported
pub first_stray-other : (known : List (List ℕ)) (keys rest : List (String Global)) (key : String Global) (text : List ℕ) → keys ≡ key ∷ rest → text ≡ string_bytes key
    → false ≡ is_among known text → first_stray known (map string_bytes keys) ≡ Some text
first_stray-other known keys rest key text at same other = rw (at, ← same, ← other)

skipped : (known : Bool) (mine : List ℕ) (keys : List (List ℕ)) (key : List ℕ) → bytes_eq mine key ≡ false
    → is_among (if known then mine ∷ keys else keys) key ≡ is_among keys key
skipped true mine keys key other = rw other
skipped false mine keys key other = refl

-- a text in which no control octet is found has none
pub plain : (text : List ℕ) → list_any is_control text ≡ false → HasNoControl text
plain [] none = tt
plain (octet ∷ text) none =
    let (here, later) = or_parts (is_control octet) (list_any is_control text) none in
    (here, plain text later)

-- and stands on one line
pub plain_line : (text : List ℕ) → HasNoControl text → IsLine text
plain_line text none = line_printed text none
