use Rattle.std.proofs.Common.{rules, ◌≡◌}
use Rattle.ftp_terms.specs.declared.entries.EntryKind.TheVariants as entry
use Rattle.folder_store.proofs.folder.Folder.remove_shown.Goals as goal

pub returns-in-Ok-clause-removed : goal.returns-in-Ok-clause-removed
returns-in-Ok-clause-removed g c =
    let other : c.in_ok-meta.meta.kind ≡ entry.File → ⊥ = search rules in
    (c.in_ok-meta.meta, c.look.new.self.machine, c.in_ok-meta.ensures.shown, other, c.in-Ok.ensures)
