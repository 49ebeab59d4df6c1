-- A call of the store, and then what is told.
use Rattle.std.proofs.Common.{◌≡◌, List, Ok, refl, sym, subst}
use Rattle.authorizer.specs.Users.{Users}
use Rattle.virtual_path.specs.Path.{Path}
use Rattle.virtual_tree.specs.Calls.{Entry, Exchange}
use Rattle.virtual_tree.specs.Calls.Exchange.{Listing, Stat}
use Rattle.ftp_terms.specs.declared.entries.EntryKind.{EntryKind}
use Rattle.ftp_terms.specs.declared.entries.EntryKind.TheVariants as kind
use Rattle.ftp_terms.specs.declared.entries.Meta.{Meta}
use Rattle.session_rows.specs.declared.way.Way.{Way}
use Rattle.session_rows.specs.Listed.{IsListed, reported_by}
use Rattle.session_table.specs.declared.actions.Action.{Action}
use Rattle.session_table.specs.declared.rules.Style.{Style}
use Rattle.session_table.specs.FileRows.{by_kind, unless_fault}
use Rattle.session_table.specs.Judged.{Location}
use Rattle.session_table.specs.Calls.{Call}
use Rattle.session_table.specs.Plans.{Plan, Ran, RanByStore}
use Rattle.session_table.specs.Plans.Plan.{Ask, Then}
use Rattle.session_table.specs.TransferRows.{lists_directory}
use Rattle.session_table.specs.Views.{View}

-- what follows from the last answer was told
pub reported : {S A R K : Type 0} (Step : S → Exchange R K → S → Type 0) (plan : Plan A R K) (store : S) (view' : View) (actions : List (Action A R K))
    → Then view' actions ≡ plan → RanByStore Step plan store store view' actions
reported Step plan store view' actions is promises =
    subst (λ (p : Plan _ _ _). Ran Step p store store promises promises view' actions) is (refl, refl, refl, refl)

-- the entries of a directory were asked for, and told
pub directory_runs : {S A R K : Type 0} (Step : S → Exchange R K → S → Type 0) (users : Users) (view : View) (style : Style) (way : Way) (location : Location) (stored above : Path) (entries others : List Entry) (old new : S) (view' : View) (actions : List (Action A R K))
    → stored ≡ location.stored → above ≡ location.path → others ≡ entries
    → Step old (Listing stored (Ok entries)) new
    → IsListed users view style way above others view' actions
    → RanByStore Step (lists_directory users view style location (reported_by way view)) old new view' actions
directory_runs Step users view style way location stored above entries others old new view' actions stored_is above_is others_is step listed promises =
    let there : Step old (Listing location.stored (Ok entries)) new =
    subst (λ path. Step old (Listing path (Ok entries)) new) stored_is step in
    let shown : IsListed users view style way location.path entries view' actions =
    subst (λ path. IsListed users view style way path entries view' actions) above_is
    (subst (λ found. IsListed users view style way above found view' actions) others_is listed) in
    (Ok entries, new, there, (shown.0, shown.1, reported Step _ new view' actions shown.2 promises))

-- a directory was looked at, and then its entries were asked for
pub directory_looked : {S A R K : Type 0} (Step : S → Exchange R K → S → Type 0) (view : View) (location : Location) (of_directory : Plan A R K) (of_file : Meta → Plan A R K)
    (stored : Path) (meta : Meta) (old mid new : S) (view' : View) (actions : List (Action A R K))
    → stored ≡ location.stored → meta.kind ≡ kind.Directory → Step old (Stat stored (Ok meta)) mid
    → RanByStore Step of_directory mid new view' actions
    → RanByStore Step (Ask (Call.Stat location.stored) (unless_fault view (λ found. by_kind of_directory (of_file found) found.kind))) old new view' actions
directory_looked Step view location of_directory of_file stored meta old mid new view' actions stored_is kind_is step ran promises = (
  Ok meta,
  mid,
  subst (λ path. Step old (Stat path (Ok meta)) mid) stored_is step,
  subst (λ (k : EntryKind). Ran Step (by_kind of_directory (of_file meta) k) mid new promises promises view' actions) (sym kind_is) (ran promises),
)
