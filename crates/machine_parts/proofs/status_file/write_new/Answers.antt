use Rattle.std.proofs.Common.{refl}
use Rattle.folder_store.specs.MachineCalls.MachineCall.{Opens, RemovesFile}
use Rattle.machine_parts.proofs.Rewritten.{after, filled, one}
use Rattle.machine_parts.proofs.status_file.write_new.Goals as goal

pub returns-in_err-file-clause-left : goal.returns-in_err-file-clause-left
returns-in_err-file-clause-left g c =
    let removed = one g.M.FolderMachine.Does c.args.place.now c.args.machine.now c.remove_file.new.self (RemovesFile c.args.place.now c.remove_file.result) c.remove_file.ensures refl in
    after g.M.FolderMachine.Does c.args.place.now c.args.machine.now c.remove_file.new.self c.open.new.self (Opens c.new_file_of.result c.args.place.now c.open.result) removed c.open.ensures refl

pub returns-clause-left : goal.returns-clause-left
returns-clause-left g c =
    let removed = one g.M.FolderMachine.Does c.args.place.now c.args.machine.now c.remove_file.new.self (RemovesFile c.args.place.now c.remove_file.result) c.remove_file.ensures refl in
    let made = after g.M.FolderMachine.Does c.args.place.now c.args.machine.now c.remove_file.new.self c.open.new.self (Opens c.new_file_of.result c.args.place.now c.open.result) removed c.open.ensures refl in
    filled g.M.FolderMachine.Does c.args.place.now (λ f. g.M.File.Write.contents f) c.in_ok-file.file c.args.text.now c.args.machine.now c.open.new.self c.fill.new.machine made c.fill.result c.fill.ensures.filled c.fill.ensures.refused
