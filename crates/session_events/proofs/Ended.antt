-- The end of a transfer, as a row of the table.
use Rattle.std.proofs.Common.{◌≡◌, ℕ, Bool, List, Option, Some, None, refl, subst}
use Rattle.authorizer.specs.Users.{Users}
use Rattle.session_table.specs.declared.actions.Action.{Action}
use Rattle.session_table.specs.declared.inputs.End.{End}
use Rattle.session_table.specs.Plans.{Plan, RanByStore}
use Rattle.session_table.specs.Table.{ended_by, ended_row, ended_with}
use Rattle.session_table.specs.Views.{View, is_aborted, running}
use Rattle.session_table.specs.declared.stages.TransferContent.{TransferContent}
use Rattle.session_table.specs.declared.stages.Work.TheVariants.{Idle}
use Rattle.virtual_path.specs.Path.{Path}
use Rattle.virtual_tree.specs.Calls.{Exchange}

module _ {A R K : Type 0} (users : Users) (view : View) (moment : ℕ) (end : End) where
  -- what was begun does not count for the row
  same_end : (content : TransferContent Path) (aborted : Bool) (sink : Option K)
      → ended_with {A = A} {R = R} users (record view { work = Idle }) moment content aborted end sink ≡ ended_with users view moment content aborted end sink
  same_end content aborted (Some sink) = refl
  same_end content aborted None = refl

  pub ended_in : {S : Type 0} (Step : S → Exchange R K → S → Type 0) (after : View) (sink : Option K) (content : TransferContent Path) (aborted : Bool) (old new : S) (view' : View) (actions : List (Action A R K))
      → Some content ≡ running view.work → after ≡ record view { work = Idle } → aborted ≡ is_aborted view.work
      → RanByStore Step (ended_with users after moment content aborted end sink) old new view' actions → RanByStore Step (ended_row users view moment end sink) old new view' actions
  ended_in Step after sink content aborted old new view' actions content_is after_is aborted_is ran =
      subst (λ (found : Option (TransferContent Path)). RanByStore Step (ended_by users view moment end sink found) old new view' actions) content_is
      (subst (λ (a : Bool). RanByStore Step (ended_with users view moment content a end sink) old new view' actions) aborted_is
      (subst (λ (plan : Plan A R K). RanByStore Step plan old new view' actions) (same_end content aborted sink)
      (subst (λ (v : View). RanByStore Step (ended_with users v moment content aborted end sink) old new view' actions) after_is ran)))
