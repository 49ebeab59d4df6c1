use Rattle.std.proofs.Common.{Ok, map, string_bytes, subst, ◌∙◌}
use Rattle.folder_store.specs.MachineCalls.MachineCall.{Enters}
use Rattle.folder_store.specs.Walks.{walker}
use Rattle.folder_store.proofs.Walking.{if_ok}
use Rattle.folder_store.proofs.folder.Folder.list.Goals as goal

pub returns-clause-listed : goal.returns-clause-listed
returns-clause-listed g c =
    if_ok c.entries.result (λ listed lists. (
      _,
      c.in-Ok.directory,
      map string_bytes c.in_ok-names.names.items,
      walker c.found.new.self.machine c.found.new.self.has_proc,
      c.enter.new.self,
      c.names.new.self.machine,
      c.in_ok-place.ensures.walked,
      subst (λ t. g.M.FolderMachine.Does c.found.new.self.machine (Enters t (Ok c.in-Ok.directory)) c.enter.new.self) (c.text.ensures.text ∙ c.in_ok-add_slash.ensures.place) c.in-Ok.ensures,
      c.in_ok-names.ensures.names,
      lists,
      c.entries.ensures.proc ∙ c.in_ok-names.ensures.proc,
    )) c.entries.ensures.listed
