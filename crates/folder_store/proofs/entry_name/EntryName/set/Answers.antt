use Rattle.std.proofs.Common.{◌<◌, ◌++◌, length, drop, set, ap, arith, ◌∙◌}
use Rattle.folder_store.specs.EntryNames.{c_text}
use Rattle.folder_store.proofs.EntryNames.{set_name}
use Rattle.folder_store.proofs.entry_name.EntryName.set.Goals as goal

pub returns : goal.returns
returns c =
    let name = c.args.name.now in
    let fits : length name < length c.self.inside.octets = omega (arith, c.self.told, c.requires.not_long) in
    ap (λ front. c_text (set (front ++ drop (length name) c.self.inside.octets) (length name) 0)) (c.copy_from_slice.ensures.after ∙ c.as_bytes.ensures.value)
    ∙ set_name name c.self.inside.octets c.requires.no_control fits
