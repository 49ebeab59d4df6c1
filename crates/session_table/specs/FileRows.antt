-- Rows of the table on paths and on changes of the store.
use Rattle.std.specs.Prelude.{Bool, true, false, cond, [], Option, Some, None, Result, Ok, Err}
use Rattle.std.specs.Fmt.{decimal}
use Rattle.ftp_reply.specs.Quoting.{quoted}
use Rattle.ftp_reply.specs.Replies.{OneLine}
use Rattle.virtual_path.specs.Path.{Path, path_text}
use Rattle.virtual_tree.specs.declared.fault.StoreFault.{StoreFault}
use Rattle.virtual_tree.specs.declared.fault.StoreFault.TheVariants as fault
use Rattle.ftp_terms.specs.declared.entries.EntryKind.{EntryKind}
use Rattle.ftp_terms.specs.declared.entries.EntryKind.TheVariants as kind
use Rattle.session_table.specs.declared.answers.Answer.TheVariants as answer
use Rattle.session_table.specs.declared.notices.Notice.TheVariants as notice
use Rattle.session_table.specs.declared.refusals.Refusal.TheVariants as refusal
use Rattle.session_table.specs.Calls.Call.{MakeDir, RemoveDir, RemoveFile, Rename, Stat}
use Rattle.session_table.specs.Judged.{Location}
use Rattle.session_table.specs.Plans.{Plan}
use Rattle.session_table.specs.Plans.Plan.{Ask, WithLine}
use Rattle.session_table.specs.StateRows.{is_ascii, notes, refuses, reports}
use Rattle.session_table.specs.Texts.Reported.{Moment}
use Rattle.session_table.specs.Views.{View}

abbrev pub is_root : Path → Bool
is_root [] = true
is_root _ = false

module _ {A R K : Type 0} where
  -- after a call of the store: its refusal, or what follows from its answer
  abbrev pub unless_fault : {X : Type 0} → View → (X → Plan A R K) → Result X StoreFault
      → Plan A R K
  unless_fault view next (Err why) = refuses view (refusal.Store why)
  unless_fault view next (Ok answer) = next answer

  -- a plan for a directory, or one for a file
  abbrev pub by_kind : Plan A R K → Plan A R K → EntryKind → Plan A R K
  by_kind of_directory of_file kind.Directory = of_directory
  by_kind of_directory of_file kind.File = of_file

  abbrev pub cwd_row : View → Location → Plan A R K
  cwd_row view location = Ask (Stat location.stored) (unless_fault view (λ meta. by_kind
      (notes (record view { cwd = location.path }) notice.DirectoryChanged)
      (refuses view (refusal.Store fault.NotDir)) meta.kind))

  abbrev pub mkd_row : View → Location → Plan A R K
  mkd_row view location = Ask (MakeDir location.stored) (unless_fault view (λ done.
      reports view (answer.Made (OneLine 257 (quoted (path_text location.path))))))

  abbrev pub rmd_row : View → Location → Plan A R K
  rmd_row view location = cond (is_root location.path) (refuses view refusal.NotPermitted)
      (Ask (RemoveDir location.stored)
      (unless_fault view (λ done. notes view notice.DirectoryRemoved)))

  abbrev pub dele_row : View → Location → Plan A R K
  dele_row view location =
      Ask (RemoveFile location.stored) (unless_fault view (λ done. notes view notice.FileRemoved))

  abbrev pub rnfr_row : View → Location → Plan A R K
  rnfr_row view location = cond (is_root location.path) (refuses view refusal.NotPermitted)
      (Ask (Stat location.stored) (unless_fault view (λ meta.
      notes (record view { source = Some location.stored }) notice.SendRnto)))

  abbrev pub rnto_from : View → Path → Option Path → Plan A R K
  rnto_from view stored None = refuses view refusal.NoSource
  rnto_from view stored (Some source) =
      Ask (Rename source stored) (unless_fault view (λ done. notes view notice.Renamed))

  abbrev pub rnto_row : View → Location → Plan A R K
  rnto_row view location = rnto_from view location.stored view.source

  abbrev pub size_row : View → Location → Plan A R K
  size_row view location = cond (is_ascii view.data_type) (refuses view refusal.SizeNeedsImage)
      (Ask (Stat location.stored) (unless_fault view (λ meta. by_kind
      (refuses view (refusal.Store fault.IsDir))
      (reports view (answer.Made (OneLine 213 (decimal meta.size)))) meta.kind)))

  abbrev pub mdtm_row : View → Location → Plan A R K
  mdtm_row view location = Ask (Stat location.stored) (unless_fault view (λ meta. by_kind
      (refuses view (refusal.Store fault.IsDir))
      (WithLine (Moment meta.modified) (λ line. reports view (answer.Made (OneLine 213 line))))
      meta.kind))
