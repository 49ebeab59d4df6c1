use Rattle.std.proofs.Common.{◌∙◌}
use Rattle.folder_store.proofs.EntryNames.{cut_text}
use Rattle.folder_store.proofs.entry_name.EntryName.text.Goals as goal

pub returns : goal.returns
returns c = cut_text c.self.inside.octets c.name_length-end.result c.name_length-end.ensures.in_bounds.0 c.name_length-end.ensures.no_nul c.name_length-end.ensures.nul ∙ c.self.view_is
