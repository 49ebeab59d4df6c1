use Rattle.std.proofs.Common.{subst}
use Rattle.std.specs.declared.fs.options.OpenOptions.{OpenOptions}
use Rattle.folder_store.specs.Opening.{OpensByEither}
use Rattle.folder_store.proofs.opening.append_to.Goals as goal

pub returns : goal.returns
returns g c =
    let that = c.in_ok-_length.ensures.that in
    record {
      opened = (
        that.0,
        c.open_standing.new.machine,
        subst (λ (o : OpenOptions × OpenOptions). OpensByEither g.M.FolderMachine.Does o.0 o.1 c.args.machine.now c.args.place.now c.in_ok-file.file c.open_standing.new.machine)
            (λ i. (c.updating_at_end.ensures.options i, c.appending_options.ensures.options i)) c.in_ok-file.ensures.opened,
        that.1,
      );
    }
