use Rattle.std.proofs.Common.{List, ℕ, subst}
use Rattle.std.specs.Prelude.{string_bytes}
use Rattle.folder_store.specs.MachineCalls.MachineCall.{RemovesFile}
use Rattle.machine_parts.proofs.Rewritten.{after, tries-out}
use Rattle.machine_parts.specs.Rewriting.{LeavesOthers}
use Rattle.machine_parts.proofs.status_file.StatusFile.try_out.Goals as goal

pub returns-clause-tried : goal.returns-clause-tried
returns-clause-tried g c =
    tries-out g.M.FolderMachine.Does (λ f. g.M.File.Write.contents f) c.args.self.now c.write_new.new.machine c.remove_file.new.self c.as_str.result.now c.as_str-2.result.now
    c.as_str.ensures.value c.as_str-2.ensures.value c.in_ok-write_new.ensures.written c.remove_file.result c.remove_file.ensures

pub returns-clause-left : goal.returns-clause-left
returns-clause-left g c =
    let left = subst (λ (p : List ℕ). LeavesOthers g.M.FolderMachine.Does p c.args.self.now.machine c.write_new.new.machine) c.as_str.ensures.value c.write_new.ensures.left in
    after g.M.FolderMachine.Does (string_bytes c.args.self.now.beside) c.args.self.now.machine c.write_new.new.machine c.remove_file.new.self (RemovesFile c.as_str-2.result.now c.remove_file.result) left c.remove_file.ensures c.as_str-2.ensures.value
