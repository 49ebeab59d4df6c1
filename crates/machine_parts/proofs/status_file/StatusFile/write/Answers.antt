use Rattle.std.proofs.Common.{List, ℕ, sym, subst, ◌∙◌}
use Rattle.folder_store.specs.MachineCalls.MachineCall.{Follows}
use Rattle.machine_parts.proofs.Rewritten.{before, on-err, one, rewrites, unrenamed}
use Rattle.machine_parts.specs.Rewriting.{LeavesOthers}
use Rattle.std.specs.Prelude.{string_bytes}
use Rattle.machine_parts.proofs.status_file.StatusFile.write.Goals as goal

pub returns-then-not-is_free-clause-left : goal.returns-then-not-is_free-clause-left
returns-then-not-is_free-clause-left g c =
    let found = c.is_free.ensures.free in
    one g.M.FolderMachine.Does (string_bytes c.args.self.now.beside) c.args.self.now.machine c.is_free.new.machine (Follows c.as_str.result.now found.0) found.1 tt

pub returns-in_err-write_new-clause-left : goal.returns-in_err-write_new-clause-left
returns-in_err-write_new-clause-left g c =
    let found = c.is_free.ensures.free in
    let beside = string_bytes c.args.self.now.beside in
    let left = subst (λ (p : List ℕ). LeavesOthers g.M.FolderMachine.Does p c.is_free.new.machine c.write_new.new.machine) c.as_str-2.ensures.value c.write_new.ensures.left in
    on-err c.from_residual.result _
    (before g.M.FolderMachine.Does beside c.args.self.now.machine c.is_free.new.machine c.write_new.new.machine (Follows c.as_str.result.now found.0) found.1 tt left)

pub returns-clause-written : goal.returns-clause-written
returns-clause-written g c =
    let found = c.is_free.ensures.free in
    rewrites g.M.FolderMachine.Does (λ f. g.M.File.Write.contents f) c.args.self.now c.args.text.now found.0 c.is_free.new.machine c.write_new.new.machine c.rename.new.self
    c.as_str.result.now c.as_str-2.result.now c.as_str-3.result.now c.as_str-4.result.now c.as_str.ensures.value c.as_str-2.ensures.value c.as_str-3.ensures.value c.as_str-4.ensures.value
    found.1 (sym found.2 ∙ cc) c.in_ok-write_new.ensures.written c.rename.result c.rename.ensures

pub returns-clause-left : goal.returns-clause-left
returns-clause-left g c =
    let found = c.is_free.ensures.free in
    let beside = string_bytes c.args.self.now.beside in
    let left = subst (λ (p : List ℕ). LeavesOthers g.M.FolderMachine.Does p c.is_free.new.machine c.write_new.new.machine) c.as_str-2.ensures.value c.write_new.ensures.left in
    let made = before g.M.FolderMachine.Does beside c.args.self.now.machine c.is_free.new.machine c.write_new.new.machine (Follows c.as_str.result.now found.0) found.1 tt left in
    unrenamed g.M.FolderMachine.Does beside c.args.self.now.machine c.write_new.new.machine c.rename.new.self c.as_str-3.result.now c.as_str-4.result.now c.rename.result made c.rename.ensures
