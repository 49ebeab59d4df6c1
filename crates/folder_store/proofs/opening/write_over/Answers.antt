use Rattle.std.proofs.Common.{subst, arith}
use Rattle.std.specs.declared.fs.options.OpenOptions.{OpenOptions}
use Rattle.folder_store.specs.Opening.{OpensByEither}
use Rattle.folder_store.proofs.opening.write_over.Goals as goal

pub returns-in_ok-there-in-Ok : goal.returns-in_ok-there-in-Ok
returns-in_ok-there-in-Ok g c =
    let that = c.in_ok-length.ensures.that in
    record {
      opened = (
        that.0,
        c.in_ok-file.file,
        c.open_standing.new.machine,
        c.length_of.new.machine,
        c.cut.new.self,
        subst (λ (o : OpenOptions × OpenOptions). OpensByEither g.M.FolderMachine.Does o.0 o.1 c.args.machine.now c.args.place.now c.in_ok-file.file c.open_standing.new.machine)
            (λ i. (c.updating_options.ensures.options i, c.overwriting_options.ensures.options i)) c.in_ok-file.ensures.opened,
        that.1,
        omega (arith, c.if-length-kept.false, that.2),
        c.in-Ok.ensures,
        c.in_ok-there-in-Ok.ensures.there,
      );
    }
