use Rattle.std.proofs.Common.{rules, ◌≡◌, ◌∷◌, [], List, ℕ, Ok, map, refl, string_bytes, subst, take, ap}
use Rattle.folder_store.specs.Listings.{ReadsNames}
use Rattle.folder_store.specs.MachineCalls.MachineCall.{Reads}
use Rattle.folder_store.proofs.folder.Folder.read_all.Goals as goal

pub reads-init : goal.reads-init
reads-init g c = record {
  path = refl;
  proc = refl;
  given = λ texts names new rest. (texts, subst (λ (b : List (List ℕ)). ReadsNames g.M.FolderMachine.Does c.args.self.now.machine c.args.directory.now texts b names new) (ap (map string_bytes) c.new-names.ensures.items) rest);
}

pub returns-in-Ok-eq0-clause-given : goal.returns-in-Ok-eq0-clause-given
returns-in-Ok-eq0-clause-given g c =
    let none : c.in-Ok-eq0.field-0 ≡ 0 = search rules in
    c.reads.invariant.given [] (map string_bytes c.reads.names.items) c.read_names.new.self
    (subst (λ (n : ℕ). g.M.FolderMachine.Does c.reads.self.machine (Reads c.args.directory.now (Ok (take n c.read_names.new.buffer))) c.read_names.new.self) none c.in-Ok-eq0.ensures.did, refl)

pub reads-preserved : goal.reads-preserved
reads-preserved g c =
    let was = c.reads.invariant in
    let added = c.in_ok-add_names-in-Ok.ensures.added in
    let text = take c.in-Ok.count c.read_names.new.buffer in
    record {
      path = was.path;
      proc = was.proc;
      given = λ texts names new rest. was.given (text ∷ texts) names new (
        added.0,
        c.read_names.new.self,
        c.in-Ok.ensures.did,
        added.1,
        subst (λ (b : List (List ℕ)). ReadsNames g.M.FolderMachine.Does c.read_names.new.self c.args.directory.now texts b names new) added.2 rest,
      );
    }
