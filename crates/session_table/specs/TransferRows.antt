-- Rows of the table on transfers and listings (RFC 959, sections 4.1.3 and 5.4; RFC 3659, section
-- 7).
use Rattle.std.specs.Prelude.{ℕ, ◌-◌, false, cond, List, [], ◌∷◌, ◌++◌, Result, Ok, Err, codes, length, map, nat_lt, option_map, slice_index_or, unwrap_or}
use Rattle.std.specs.FinMap as finite
use Rattle.authorizer.specs.Users.{Users, letters_at}
use Rattle.ftp_terms.specs.declared.letters.Letters.{Letters}
use Rattle.ftp_reply.specs.Replies.{SeveralLines}
use Rattle.ftp_terms.specs.declared.entries.Meta.{Meta}
use Rattle.virtual_path.specs.Path.{Path, child_of, path_text}
use Rattle.virtual_path.specs.declared.fault.PathFault.{PathFault}
use Rattle.virtual_tree.specs.Calls.{Entry}
use Rattle.virtual_tree.specs.declared.mode.WriteMode.{WriteMode}
use Rattle.virtual_tree.specs.declared.mode.WriteMode.TheVariants as mode
use Rattle.session_table.specs.declared.actions.Action.TheVariants as action
use Rattle.session_table.specs.declared.actions.Job.{Job}
use Rattle.session_table.specs.declared.actions.Job.TheVariants as job
use Rattle.session_table.specs.declared.answers.Answer.TheVariants as answer
use Rattle.session_table.specs.declared.notices.Notice.TheVariants as notice
use Rattle.session_table.specs.declared.refusals.Refusal.TheVariants as refusal
use Rattle.session_table.specs.declared.rules.Style.{Style}
use Rattle.session_table.specs.declared.rules.Style.TheVariants.{LongLines, Names, FactLines}
use Rattle.session_table.specs.declared.stages.TransferContent.{TransferContent}
use Rattle.session_table.specs.declared.stages.TransferContent.TheVariants.{Listing, Sending, Taking}
use Rattle.session_table.specs.declared.stages.Work.TheVariants.{Transfers}
use Rattle.session_table.specs.Calls.{Call}
use Rattle.session_table.specs.FileRows.{by_kind, unless_fault}
use Rattle.session_table.specs.Judged.{Location}
use Rattle.session_table.specs.Plans.{Plan}
use Rattle.session_table.specs.Plans.Plan.{Then, WithLine, WithLines, Ask}
use Rattle.session_table.specs.StateRows.{refuses, reports}
use Rattle.session_table.specs.Texts.{Reported, ended_lines}
use Rattle.session_table.specs.Texts.Reported.{LongLine, NameLine, FactLine}
use Rattle.session_table.specs.Views.{View}

abbrev pub no_letters : Letters
no_letters =
    record {
      change_directory = false;
      listing = false;
      retrieve = false;
      append_to = false;
      delete = false;
      rename = false;
      make_directory = false;
      store = false;
    }

-- all letters that a user has at a path; a removed user has none
abbrev pub letters_held : Users → List ℕ → Path → Letters
letters_held users name path =
    unwrap_or (option_map (λ user. letters_at user path) (finite.get users name)) no_letters

-- the letters at the path of an entry; none if the path would be too long
abbrev pub letters_by : Users → List ℕ → Result Path PathFault → Letters
letters_by users name (Ok path) = letters_held users name path
letters_by users name (Err fault) = no_letters

-- an entry of a directory at this path, in a style
abbrev pub entry_reported : Users → View → Path → Style → Entry → Reported
entry_reported users view above LongLines entry = LongLine entry.1 entry.0
entry_reported users view above Names entry = NameLine entry.0
entry_reported users view above FactLines entry =
    FactLine entry.1 view.facts (letters_by users view.name (child_of above entry.0)) entry.0

abbrev pub last_name : Path → List ℕ
last_name path = slice_index_or path (length path - 1) []

-- the entry of a file itself
abbrev pub itself : Path → Meta → List Entry
itself path meta = (last_name path, meta) ∷ []

-- STOR writes from the offset on
abbrev pub store_mode : ℕ → WriteMode
store_mode offset = cond (nat_lt 0 offset) (mode.At offset) mode.New

module _ {A R K : Type 0} where
  -- a transfer uses up the prepared data connection
  abbrev pub starts : View → TransferContent Path → Job A R K → Plan A R K
  starts view content what = Then (record view { prepared = false; work = Transfers content })
      (action.Say (answer.Notice notice.Opening) ∷ action.Start what ∷ [])

  abbrev pub reads : View → ℕ → Location → Plan A R K
  reads view offset location = Ask (Call.OpenRead location.stored offset)
      (unless_fault view (λ source.
      starts view (Sending location.path) (job.SendFile source view.data_type)))

  abbrev pub retr_row : View → Location → Plan A R K
  retr_row view = reads view view.offset

  abbrev pub writes : View → WriteMode → ℕ → Location → Plan A R K
  writes view mode moment location = Ask (Call.OpenWrite location.stored mode moment)
      (unless_fault view (λ sink.
      starts view (Taking location.path) (job.TakeFile sink view.data_type)))

  abbrev pub stor_row : View → ℕ → Location → Plan A R K
  stor_row view = writes view (store_mode view.offset)

  abbrev pub appe_row : View → ℕ → Location → Plan A R K
  appe_row view = writes view mode.Append

  -- the entries of a listing, one line each
  abbrev pub lists : Users → View → Path → Style → (List (List ℕ) → Plan A R K) → List Entry
      → Plan A R K
  lists users view above style next entries =
      WithLines (map (entry_reported users view above style) entries) next

  -- the entries of a directory
  abbrev pub lists_directory : Users → View → Style → Location → (List (List ℕ) → Plan A R K)
      → Plan A R K
  lists_directory users view style location next = Ask (Call.Listing location.stored)
      (unless_fault view (lists users view location.path style next))

  -- the entries of a directory, or a file itself
  abbrev pub lists_location : Users → View → Style → Location → (List (List ℕ) → Plan A R K)
      → Plan A R K
  lists_location users view style location next = Ask (Call.Stat location.stored)
      (unless_fault view (λ meta. by_kind (lists_directory users view style location next)
      (lists users view location.path style next (itself location.path meta)) meta.kind))

  abbrev pub sends_lines : View → List (List ℕ) → Plan A R K
  sends_lines view lines = starts view Listing (job.Text (ended_lines lines))

  -- LIST and NLST
  abbrev pub list_row : Users → View → Style → Location → Plan A R K
  list_row users view style location = lists_location users view style location (sends_lines view)

  abbrev pub mlsd_row : Users → View → Location → Plan A R K
  mlsd_row users view location = Ask (Call.Stat location.stored) (unless_fault view (λ meta. by_kind
      (lists_directory users view FactLines location (sends_lines view))
      (refuses view refusal.ListsNoFile) meta.kind))

  abbrev pub status_lines : View → List (List ℕ) → Plan A R K
  status_lines view lines =
      reports view (answer.Made (SeveralLines 213 (codes "Status") lines (codes "End")))

  -- STAT with an argument
  abbrev pub stat_row : Users → View → Location → Plan A R K
  stat_row users view location =
      lists_location users view LongLines location (status_lines view)

  abbrev pub mlst_row : Users → View → Location → Plan A R K
  mlst_row users view location = Ask (Call.Stat location.stored) (unless_fault view (λ meta.
      WithLine (FactLine meta view.facts (letters_held users view.name location.path)
      (path_text location.path)) (λ line. reports view (answer.Made
      (SeveralLines 250 (codes "Listing") ((codes " " ++ line) ∷ []) (codes "End"))))))
