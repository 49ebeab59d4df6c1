use Rattle.std.proofs.Common.{◌≡◌, ◌++◌, ◌∷◌, List, ℕ, Err, Ok, inr, subst, ◌∙◌}
use Rattle.folder_store.specs.MachineCalls.MachineCall.{Enters, Looks}
use Rattle.folder_store.proofs.Walking.{if_ok}
use Rattle.folder_store.proofs.folder.Folder.step.Goals as goal

pub returns-in-Err-clause-stepped : goal.returns-in-Err-clause-stepped
returns-in-Err-clause-stepped g c =
    let further : c.push.new.self ≡ c.args.place.now ++ 47 ∷ c.args.name.now = c.in_ok-push.ensures.further in
    let entered : c.text.result.now ≡ c.args.place.now ++ 47 ∷ c.args.name.now = c.text.ensures.text ∙ further in
    let looked : c.text-in-Err.result.now ≡ c.args.place.now ++ 47 ∷ c.args.name.now = c.text-in-Err.ensures.text ∙ further in
    if_ok c.is_file_at.result (λ is_file shown no. inr (
      c.in-Err.error,
      (shown no).1.0,
      (shown no).1.1,
      c.enter.new.self,
      subst (λ (p : List ℕ). g.M.FolderMachine.Does c.args.self.now.machine (Enters p (Err c.in-Err.error)) c.enter.new.self) entered c.in-Err.ensures,
      (shown no).0,
      subst (λ (p : List ℕ). g.M.FolderMachine.Does c.enter.new.self (Looks p (Ok (shown no).1.0)) c.is_file_at.new.self.machine) looked (shown no).1.2,
      (shown no).1.3,
      (shown no).1.4,
      further,
      c.is_file_at.ensures.proc,
    )) c.is_file_at.ensures.directory
