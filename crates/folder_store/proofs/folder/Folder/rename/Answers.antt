use Rattle.std.proofs.Common.{◌≡◌, Ok, string_bytes, subst, sym, ◌∙◌}
use Rattle.folder_store.specs.Moving.{MovesToFree}
use Rattle.folder_store.specs.Served.{ShowsMeta}
use Rattle.folder_store.specs.Walks.{WalksTo, walker}
use Rattle.folder_store.specs.declared.fault.MachineFault.{MachineFault}
use Rattle.folder_store.proofs.Walking.{at_place, moved_ok, on_ok}
use Rattle.folder_store.proofs.folder.Folder.rename.Goals as goal

pub returns-clause-moved : goal.returns-clause-moved
returns-clause-moved g c =
    let nothing = c.in_ok-nothing_at.ensures.nothing in
    let from : c.text.result.now ≡ c.text-3.result.now = c.text.ensures.text ∙ sym c.text-3.ensures.text in
    let to : c.text-4.result.now ≡ c.text-2.result.now = c.text-4.ensures.text ∙ sym c.text-2.ensures.text in
    let seen = walker c.look.new.self.machine c.look.new.self.has_proc in
    let there = walker c.place.new.self.machine c.place.new.self.has_proc in
    on_ok c.move_to_free.result (λ moved. (
      c.in_ok-meta.meta,
      c.text-3.result.now,
      c.text-2.result.now,
      seen,
      there,
      nothing.0,
      c.nothing_at.new.self.machine,
      at_place g.M.FolderMachine.Does (λ directory. g.M.Directory.AsRawFd.raw_fd directory) _ _ seen _ _ _ _ (λ here at after. (at ≡ c.text-3.result.now) × ShowsMeta g.M.FolderMachine.Does here at c.in_ok-meta.meta after) c.in_ok-old.ensures.walked c.text.ensures.text c.look.ensures.proc (from, c.in_ok-meta.ensures.shown),
      subst (λ p. WalksTo g.M.FolderMachine.Does (λ directory. g.M.Directory.AsRawFd.raw_fd directory) seen (string_bytes p) c.args.to.now c.text-2.result.now there) (c.look.ensures.path ∙ c.in_ok-old.ensures.path)
          (subst (λ t. WalksTo g.M.FolderMachine.Does (λ directory. g.M.Directory.AsRawFd.raw_fd directory) seen (string_bytes c.look.new.self.path) c.args.to.now t there) (sym c.text-2.ensures.text) c.in_ok-new.ensures.walked),
      nothing.1,
      subst (λ t. MovesToFree {T = Unit {0}} {E = MachineFault} g.M.FolderMachine.Does c.nothing_at.new.self.machine c.in_ok-meta.meta.kind c.text-3.result.now t (Ok tt) c.move_to_free.new.machine) to moved,
      c.nothing_at.ensures.proc,
    )) (moved_ok g.M.FolderMachine.Does _ _ _ _ c.move_to_free.result _ c.move_to_free.ensures.moved)
