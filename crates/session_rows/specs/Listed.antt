-- Listings and their ways to the client.
use Rattle.std.specs.Prelude.{ℕ, ◌≡◌, List, map}
use Rattle.authorizer.specs.Users.{Users}
use Rattle.virtual_path.specs.Path.{Path}
use Rattle.virtual_tree.specs.Calls.{Entry}
use Rattle.session_rows.specs.declared.way.Way.{Way}
use Rattle.session_rows.specs.declared.way.Way.TheVariants.{InReply, OverData}
use Rattle.session_table.specs.declared.actions.Action.{Action}
use Rattle.session_table.specs.declared.rules.Style.{Style}
use Rattle.session_table.specs.Plans.{Plan}
use Rattle.session_table.specs.Plans.Plan.{Then}
use Rattle.session_table.specs.Texts.{AreReported, Reported, ended_lines}
use Rattle.session_table.specs.TransferRows.{entry_reported, sends_lines, status_lines}
use Rattle.session_table.specs.Views.{View}

-- octets of lines with these contents, one each
abbrev pub AreEnded : List Reported → List ℕ → Type 0
AreEnded reported octets =
    (lines : List (List ℕ)) × AreReported reported lines × (octets ≡ ended_lines lines)

module _ {A R K : Type 0} where
  -- lines over a data connection, or in the reply
  abbrev pub reported_by : Way → View → List (List ℕ) → Plan A R K
  reported_by OverData view lines = sends_lines view lines
  reported_by InReply view lines = status_lines view lines

  -- lines with the entries, one each and in their order, go to the client in that way
  abbrev pub IsListed : Users → View → Style → Way → Path → List Entry → View → List (Action A R K)
      → Type 0
  IsListed users view style way above entries view' actions =
      (lines : List (List ℕ))
      × AreReported (map (entry_reported users view above style) entries) lines
      × (Then view' actions ≡ reported_by way view lines)
