-- The octets still to be read of a listing or a file.
use Rattle.std.specs.Prelude.{ℕ, List, Option, Some}
use Rattle.server_house.specs.declared.served.Served.{Served}
use Rattle.server_house.specs.declared.served.Served.TheVariants.{Listing, File}

abbrev pub left_of : {A R : Type 0} → (R → Option (List ℕ)) → Served A R → Option (List ℕ)
left_of remaining (Listing listing) = Some listing
left_of remaining (File source) = remaining source
