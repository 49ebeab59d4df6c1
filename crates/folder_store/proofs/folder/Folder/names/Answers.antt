use Rattle.std.proofs.Common.{map, string_bytes}
use Rattle.std.proofs.lemmas.List.Sorted.{IsPermutation-map}
use Rattle.folder_store.proofs.Names.{sorted_octets}
use Rattle.folder_store.proofs.folder.Folder.names.Goals as goal

pub returns-clause-names : goal.returns-clause-names
returns-clause-names g c =
    let given = c.in_ok-names.ensures.given in (
      given.0,
      map string_bytes c.in_ok-names.names.items,
      given.1,
      IsPermutation-map string_bytes c.in_ok-names.names.items c.sort.new.self.items c.in_ok-sort.ensures.permutation,
      sorted_octets string_bytes c.sort.new.self.items c.in_ok-sort.ensures.sorted,
    )
