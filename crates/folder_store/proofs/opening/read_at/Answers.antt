use Rattle.std.proofs.Common.{subst, ap, arith, ◌-◌, ℕ, Ok}
use Rattle.std.specs.declared.fs.options.OpenOptions.{OpenOptions}
use Rattle.folder_store.specs.MachineCalls.MachineCall.{Opens}
use Rattle.folder_store.proofs.opening.read_at.Goals as goal

pub returns : goal.returns
returns g c =
    let that = c.in_ok-length.ensures.that in
    record {
      opened = (
        c.in_ok-looked.looked,
        that.0,
        c.in_ok-file.file,
        c.look_file.new.machine,
        c.open_by.new.machine,
        c.length_of.new.machine,
        c.in_ok-looked.ensures.file,
        subst (λ (o : OpenOptions). g.M.FolderMachine.Does c.look_file.new.machine (Opens o c.args.place.now (Ok c.in_ok-file.file)) c.open_by.new.machine) c.reading_options.ensures.options c.in_ok-file.ensures.opened,
        that.1,
        omega (arith, c.if-length-offset.false, that.2),
        ap (λ (n : ℕ). n - c.args.offset) that.2,
        c.in_ok-there.ensures.there,
      );
    }
