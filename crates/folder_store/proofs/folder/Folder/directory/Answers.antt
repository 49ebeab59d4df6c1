use Rattle.std.proofs.Common.{◌∙◌, List, ℕ, map, refl, string_bytes, subst}
use Rattle.folder_store.specs.Walks.{Walks, walker}
use Rattle.folder_store.proofs.Places.{leads_next, leads_by_all}
use Rattle.folder_store.proofs.Walking.{walks_end, walks_next}
use Rattle.folder_store.proofs.folder.Folder.directory.Goals as goal

pub loop-name-init : goal.loop-name-init
loop-name-init g c = record {
  place = c.in_ok-place.ensures.place;
  path = refl;
  walked = λ no end new rest.
      subst (λ (p : List ℕ). Walks g.M.FolderMachine.Does (λ directory. g.M.Directory.AsRawFd.raw_fd directory) (walker c.args.self.now.machine c.args.self.now.has_proc) p (map (λ name. name.now) c.args.names.now) end new)
      c.in_ok-place.ensures.top rest;
}

pub loop-name-preserved : goal.loop-name-preserved
loop-name-preserved g c = record {
  place =
      leads_next (λ name. name.now) c.args.names.now c.loop-name.name-index _ (string_bytes c.args.self.now.path) _ _ c.loop-name-test.true c.loop-name.invariant.place c.in_ok-is_file.ensures.place;
  path = c.in_ok-is_file.ensures.path ∙ c.loop-name.invariant.path;
  walked = λ no end new rest. c.loop-name.invariant.walked c.if-is_file.false end new
      (walks_next g.M.FolderMachine.Does (λ directory. g.M.Directory.AsRawFd.raw_fd directory) (λ name. name.now) c.args.names.now c.loop-name.name-index _ _ _ new c.loop-name.place _ end c.loop-name-test.true (c.in_ok-is_file.ensures.stepped no) rest);
}

pub returns : goal.returns
returns g c = record {
  place =
      leads_by_all (λ name. name.now) c.args.names.now c.loop-name.name-index (string_bytes c.args.self.now.path) _ c.loop-name-test.false c.loop-name.invariant.place;
  path = c.loop-name.invariant.path;
  walked = c.loop-name.invariant.walked c.if-is_file-2.false _ _
      (walks_end g.M.FolderMachine.Does (λ directory. g.M.Directory.AsRawFd.raw_fd directory) (λ name. name.now) c.args.names.now c.loop-name.name-index _ c.loop-name.place c.loop-name-test.false);
}
