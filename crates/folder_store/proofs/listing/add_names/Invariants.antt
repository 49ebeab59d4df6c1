use Rattle.std.proofs.Common.{◌≡◌, ◌++◌, List, ℕ, length, map, string_bytes}
use Rattle.folder_store.specs.Listings.{AreThoseInUtf8, names_in}
use Rattle.folder_store.proofs.listing.add_names.Given as goal

abbrev pub invariant-loop-rest : goal.invariant-loop-rest
invariant-loop-rest g l = (added : List (List ℕ)) × (map string_bytes l.names.items ≡ map string_bytes l.fn.names.items ++ added)
    × ((more : List (List ℕ)) → AreThoseInUtf8 (names_in l.rest) more → AreThoseInUtf8 (names_in l.text) (added ++ more))

abbrev pub decreases-loop-rest : goal.decreases-loop-rest
decreases-loop-rest g l = length l.rest
