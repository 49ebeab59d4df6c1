use Rattle.std.proofs.Common.{rules, ◌≡◌, []}
use Rattle.folder_store.specs.Served.{ShowsMeta}
use Rattle.folder_store.specs.Walks.{walker}
use Rattle.folder_store.proofs.Walking.{at_place, if_ok, stats_below}
use Rattle.folder_store.proofs.folder.Folder.look_at.Goals as goal

pub returns-clause-shown : goal.returns-clause-shown
returns-clause-shown g c =
    let below : c.args.path.now ≡ [] → ⊥ = search rules in
    if_ok c.look.result (λ meta shown. stats_below g.M.FolderMachine.Does (λ directory. g.M.Directory.AsRawFd.raw_fd directory) _ (walker c.look.new.self.machine c.look.new.self.has_proc) _ c.args.path.now meta below
    (at_place g.M.FolderMachine.Does (λ directory. g.M.Directory.AsRawFd.raw_fd directory) _ _ (walker c.look.new.self.machine c.look.new.self.has_proc) _ _ _ _ (λ here place after. ShowsMeta g.M.FolderMachine.Does here place meta after) c.in_ok-place.ensures.walked c.text.ensures.text c.look.ensures.proc shown)) c.look.ensures.shown
