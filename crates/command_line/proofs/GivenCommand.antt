-- Where the parser has no fault with the words of a program, it holds a command with each of its words.
use Rattle.std.proofs.Common.{◌≡◌, ◌∙◌, ap, Bool, codes, false, ◌||◌, not, true, refl, sym, subst, ℕ, List, [], ◌∷◌, Option, None, Some, option_map}
use Rattle.std.specs.Borrow.{Bor}
use Rattle.std.specs.Str.{bytes_eq}
use Rattle.std.specs.List.{find, list_any}
use Rattle.std.proofs.lemmas.Slice.Eq.{bytes_eq-Decides}
use Rattle.clap.specs.Walk.{Row, Text, answers_to, first_of, nothing_held, rows_after}
use Rattle.clap.specs.Faults.{level_fault}
use Rattle.clap.specs.Simple.{App, Shape, built, entered, label_of, rows_at}
use Rattle.clap.specs.Words.{fault_of, subcommand_of}
use Rattle.command_line.specs.Commands.{ftpd, sheets}
use Rattle.command_line.specs.Given.{IsCheck, IsCheckConfig, IsFound, IsLoggedBy, IsMigrate, IsOfSheets, IsPlanWords, IsScript, IsServe, IsShare, IsSheetFound, IsStatusBy, IsTop, is_flagged}
use Rattle.command_line.specs.declared.words.ServeFiles.{ServeFiles}
use Rattle.command_line.specs.declared.words.SheetWords.{SheetWords}
use Rattle.command_line.specs.declared.words.SheetWords.TheVariants.{Share, Check}
use Rattle.command_line.specs.declared.words.Words.{Words}
use Rattle.command_line.specs.declared.words.Words.TheVariants.{Sheet, CheckConfig, Migrate, Script, Serve, Plan, Top, Usage}
use Rattle.command_line.specs.Numbers.{AreLinesIn, IsPortIn}
use Rattle.command_line.specs.Stated.{IsStatedBy}
use Rattle.command_line.specs.Timed.{IsPatienceIn}
use Rattle.command_line.specs.Ways.{IsWayIn, IsWayOf}
use Rattle.client_patience.specs.declared.patience.Patience.{Patience}
use Rattle.line_rates.specs.declared.share_by.ShareBy.{ShareBy}
use Rattle.command_line.proofs.EnteredCommand.{Entered, enters}
use Rattle.command_line.proofs.StatedNumbers.{one_count, one_patience, one_port}
use Rattle.command_line.proofs.RowValues.{all_want_values, required_value, requires_value}

-- what follows where one of these elements passes, and is what a search found
abbrev Cases : {X : Type 0} → Type 0 → (X → Bool) → X → List X → Type 0
Cases claim p found [] = Unit {0}
Cases claim p found (x ∷ xs) = (p x ≡ true → x ≡ found → claim) × Cases claim p found xs

by_cases : {X : Type 0} (claim : Type 0) (p : X → Bool) (xs : List X) (found : X) → find p xs ≡ Some found → Cases claim p found xs → claim
by_cases claim p [] found is cases = cc
by_cases claim p (x ∷ xs) found is cases = go (p x) refl (λ rest. by_cases claim p xs found rest cases.1)
  where
    go : (b : Bool) → p x ≡ b → (find p xs ≡ Some found → claim) → claim
    go true t rec =
        let same : Some x ≡ Some found = rw t at is in
        let one : x ≡ found = cc in
        cases.0 t one
    go false t rec = rec (rw t at is)

module _ (a : App) (stop : Option (Text × List Text)) (e : Entered a stop) where
  word_of_entered : (s : Shape) → s ≡ e.command → (id : Text) → all_want_values s ≡ true → list_any (requires_value id) s.rules ≡ true
      → (word : Text) × (first_of id (rows_after s.rules [] e.rest) ≡ Some word)
  word_of_entered s is id all_want requires =
      required_value s e.rest id all_want requires (subst (λ x. level_fault x [] nothing_held e.rest false [] ≡ []) (sym is) e.faultless)

  entered_is : (s : Shape) → s ≡ e.command → entered a stop ≡ Some (s.name, rows_after s.rules [] e.rest)
  entered_is s is = subst (λ x. entered a stop ≡ Some (rows_at x e.rest)) (sym is) e.found

  -- the command of one argument is entered, with a word for it
  one_found : (s : Shape) → s ≡ e.command → (id : Text) → all_want_values s ≡ true → list_any (requires_value id) s.rules ≡ true
      → (word : Text) × (rows : List Row) × (entered a stop ≡ Some (s.name, rows)) × (first_of id rows ≡ Some word)
  one_found s is id all_want requires =
      let word = word_of_entered s is id all_want requires in
      (word.0, rows_after s.rules [] e.rest, entered_is s is, word.1)

  -- the command of two arguments is entered, with words for both
  two_found : (s : Shape) → s ≡ e.command → (id also : Text) → all_want_values s ≡ true → list_any (requires_value id) s.rules ≡ true
      → list_any (requires_value also) s.rules ≡ true
      → (first : Text) × (second : Text) × (rows : List Row) × (entered a stop ≡ Some (s.name, rows)) × (first_of id rows ≡ Some first) × (first_of also rows ≡ Some second)
  two_found s is id also all_want requires needs =
      let first = word_of_entered s is id all_want requires in
      let second = word_of_entered s is also all_want needs in
      (first.0, second.0, rows_after s.rules [] e.rest, entered_is s is, first.1, second.1)

  -- `help` is no command that is entered
  not_help : answers_to e.name (codes "help", []) ≡ true → ⊥
  not_help answers = go (bytes_eq (codes "help") e.name) refl answers
    where
      go : (b : Bool) → bytes_eq (codes "help") e.name ≡ b → (b || false) ≡ true → ⊥
      go true t any =
          let is = (bytes_eq-Decides (codes "help") e.name).0 t in
          let bad = subst (λ (x : Text). not (bytes_eq x (codes "help")) ≡ true) (sym is) e.is_command in
          cc
      go false t any = cc

-- a word as the code holds it; where it lies is of no account
at_place : Bor (List (Bor Text)) → Text → Bor Text
at_place any word = record { ref_ptr = any.ref_ptr; now = word }

-- the word, if there is one
if_any : (any : Bor (List (Bor Text))) (word : Option Text) → word ≡ option_map (λ w. w.now) (option_map (at_place any) word)
unfolding at_place
if_any any None = refl
if_any any (Some word) = refl

pub sheets_found : (any : Bor (List (Bor Text))) (words : List Text) → fault_of sheets words ≡ []
    → (command : SheetWords) × IsSheetFound (subcommand_of sheets words) command
unfolding at_place
sheets_found any words none =
    let e = enters (built sheets) words refl refl none in
    by_cases ((command : SheetWords) × IsSheetFound (subcommand_of sheets words) command) (λ s. answers_to e.name (label_of s)) (built sheets).subs e.command e.is_its (
      λ _ is.
          let found = one_found _ _ e _ is (codes "SHEET") refl refl in
          let by = first_of (codes "by") found.1 in
          (Share (at_place any found.0) (is_flagged (codes "svg") found.1) (option_map (at_place any) by), (found.1, found.2, found.3, refl, if_any any by)),
      (
        λ _ is.
            let found = two_found _ _ e _ is (codes "SHEET") (codes "GRANTS") refl refl refl in
            let by = first_of (codes "by") found.2 in
            (Check (at_place any found.0) (at_place any found.1) (option_map (at_place any) by), (found.2, found.3, found.4, found.5, if_any any by)),
        (λ help _. absurd (not_help _ _ e help), tt),
      ),
    )

pub ftpd_found : (any : Bor (List (Bor Text))) (words : List Text) (p : Patience) (port : Option ℕ) (lines : ℕ) (way : ShareBy) → fault_of ftpd words ≡ []
    → IsStatedBy (subcommand_of ftpd words) p port lines way
    → (command : Words) × IsFound (subcommand_of ftpd words) command
unfolding at_place
ftpd_found any words p port lines way none stated =
    let e = enters (built ftpd) words refl refl none in
    by_cases ((command : Words) × IsFound (subcommand_of ftpd words) command) (λ s. answers_to e.name (label_of s)) (built ftpd).subs e.command e.is_its (
      λ _ is.
          let found = one_found _ _ e _ is (codes "SHEET") refl refl in
          let by = first_of (codes "by") found.1 in
          (Sheet (Share (at_place any found.0) (is_flagged (codes "svg") found.1) (option_map (at_place any) by)), (found.1, found.2, found.3, refl, if_any any by)),
      (
        λ _ is.
            let found = two_found _ _ e _ is (codes "SHEET") (codes "GRANTS") refl refl refl in
            let by = first_of (codes "by") found.2 in
            (Sheet (Check (at_place any found.0) (at_place any found.1) (option_map (at_place any) by)), (found.2, found.3, found.4, found.5, if_any any by)),
        (
          λ _ is.
              let found = one_found _ _ e _ is (codes "CONFIG") refl refl in
              let other = first_of (codes "against") found.1 in (
                CheckConfig (at_place any found.0) (is_flagged (codes "json") found.1) (option_map (at_place any) other) (is_flagged (codes "against-running") found.1) way,
                (found.1, found.2, found.3, refl, if_any any other, refl, stated.3 found.1 found.2),
              ),
          (
            λ _ is.
                let found = one_found _ _ e _ is (codes "CONFIG") refl refl in
                (Migrate (at_place any found.0), (found.1, found.2, found.3)),
            (
              λ _ is.
                  let found = one_found _ _ e _ is (codes "CONFIG") refl refl in
                  (Script (at_place any found.0), (found.1, found.2, found.3)),
              (
                λ _ is.
                    let found = one_found _ _ e _ is (codes "CONFIG") refl refl in
                    let path = first_of (codes "stop-file") found.1 in
                    let ready = first_of (codes "ready-file") found.1 in
                    let drain = first_of (codes "drain-file") found.1 in
                    let again = first_of (codes "reload-file") found.1 in
                    let runs = first_of (codes "running-file") found.1 in
                    let log = first_of (codes "transfer-log") found.1 in
                    let form = first_of (codes "log-form") found.1 in
                    let status = first_of (codes "status") found.1 in
                    let ender = first_of (codes "end-file") found.1 in
                    let most = first_of (codes "user-sessions") found.1 in
                    let states = stated.0 found.1 found.2 in
                    let files : ServeFiles = record { stop_file = option_map (at_place any) path; ready_file = option_map (at_place any) ready; drain_file = option_map (at_place any) drain; reload_file = option_map (at_place any) again; running_file = option_map (at_place any) runs; transfer_log = option_map (at_place any) log; log_form = option_map (at_place any) form; status = option_map (at_place any) status; status_port = port; end_file = option_map (at_place any) ender; user_sessions = option_map (at_place any) most; syncs = is_flagged (codes "sync") found.1; share_by = way } in (
                      Serve (at_place any found.0) files p,
                      (found.1, found.2, found.3, if_any any path, if_any any ready, if_any any drain, if_any any again, if_any any runs, if_any any log, if_any any form, if_any any status, if_any any ender, if_any any most, refl, states.2, states.1, states.0),
                    ),
                (
                  λ _ is.
                      let found = two_found _ _ e _ is (codes "CONFIG") (codes "TRANSFERS") refl refl refl in
                      (Plan (at_place any found.0) (at_place any found.1) (is_flagged (codes "json") found.2) way, (found.2, found.3, found.4, found.5, refl, stated.2 found.2 found.3)),
                  (
                    λ _ is.
                        let found = one_found _ _ e _ is (codes "STATUS") refl refl in
                        (Top (at_place any found.0) (is_flagged (codes "once") found.1) lines, (found.1, found.2, found.3, refl, stated.1 found.1 found.2)),
                    (
                      λ _ is. (Usage, (_, entered_is _ _ e _ is)),
                      (λ help _. absurd (not_help _ _ e help), tt),
                    ),
                  ),
                ),
              ),
            ),
          ),
        ),
      ),
    )

-- ---- a command that the parser found under a name, by the words that it has

-- what was found has one name and one list of rows
one_pair : (found : Option (Text × List Row)) (name also : Text) (rows other : List Row) → found ≡ Some (name, rows) → found ≡ Some (also, other)
    → ◌≡◌ {A = Text × List Row} (name, rows) (also, other)
one_pair found name also rows other one two =
    let both : ◌≡◌ {A = Option (Text × List Row)} (Some (name, rows)) (Some (also, other)) = sym one ∙ two in
    cc

same_rows : (found : Option (Text × List Row)) (name also : Text) (rows other : List Row) → found ≡ Some (name, rows) → found ≡ Some (also, other) → rows ≡ other
same_rows found name also rows other one two = ap (λ (p : Text × List Row). p.1) (one_pair found name also rows other one two)

different : (found : Option (Text × List Row)) (name also : Text) (rows other : List Row) → bytes_eq name also ≡ false → found ≡ Some (name, rows) → found ≡ Some (also, other) → ⊥
different found name also rows other apart one two =
    let yes = (bytes_eq-Decides name also).1 (ap (λ (p : Text × List Row). p.0) (one_pair found name also rows other one two)) in
    absurd (cc)

pub share_is : (found : Option (Text × List Row)) (command : SheetWords) (rows : List Row) (word : Text) → found ≡ Some (codes "share", rows) → first_of (codes "SHEET") rows ≡ Some word
    → IsSheetFound found command → IsShare word (is_flagged (codes "svg") rows) (first_of (codes "by") rows) command
share_is found (Share sheet svg by) rows word named first (other, same, given, flag, users) =
    let are = same_rows _ _ _ _ _ named same in
    (cc, flag ∙ sym (ap (is_flagged (codes "svg")) are), cc)
share_is found (Check sheet grants by) rows word named first (other, same, given, also, users) = absurd (different _ _ _ _ _ refl named same)

pub check_is : (found : Option (Text × List Row)) (command : SheetWords) (rows : List Row) (word also : Text) → found ≡ Some (codes "check", rows) → first_of (codes "SHEET") rows ≡ Some word
    → first_of (codes "GRANTS") rows ≡ Some also → IsSheetFound found command → IsCheck word also (first_of (codes "by") rows) command
check_is found (Share sheet svg by) rows word also named first second (other, same, given, flag, users) = absurd (different _ _ _ _ _ refl named same)
check_is found (Check sheet grants by) rows word also named first second (other, same, given, more, users) = let are = same_rows _ _ _ _ _ named same in (cc, cc, cc)

-- a command of one of the names on sheets is one on a sheet
sheet_named : (P : SheetWords → Type 0) (found : Option (Text × List Row)) (command : Words) (rows : List Row) (name : Text) → found ≡ Some (name, rows)
    → bytes_eq name (codes "check-config") ≡ false → bytes_eq name (codes "migrate") ≡ false → bytes_eq name (codes "script") ≡ false → bytes_eq name (codes "serve") ≡ false → bytes_eq name (codes "plan") ≡ false
    → bytes_eq name (codes "top") ≡ false → bytes_eq name (codes "usage") ≡ false
    → ((words : SheetWords) → IsSheetFound found words → P words) → IsFound found command → IsOfSheets P command
sheet_named P found (Sheet words) rows name named config migrate script serve plan top usage holds is = holds words is
sheet_named P found (CheckConfig config json against running share_by) rows name named config_apart migrate_apart script_apart serve_apart plan_apart top_apart usage_apart holds (other, same, given, flag, also, on, way) = absurd (different _ _ _ _ _ config_apart named same)
sheet_named P found (Migrate config) rows name named config_apart migrate_apart script_apart serve_apart plan_apart top_apart usage_apart holds (other, same, given) = absurd (different _ _ _ _ _ migrate_apart named same)
sheet_named P found (Script config) rows name named config_apart migrate_apart script_apart serve_apart plan_apart top_apart usage_apart holds (other, same, given) = absurd (different _ _ _ _ _ script_apart named same)
sheet_named P found (Serve config files patience) rows name named config_apart migrate_apart script_apart serve_apart plan_apart top_apart usage_apart holds (other, same, given, path, ready, drain, again, runs, log, form, status, ender, most, syncs, way, port, also) = absurd (different _ _ _ _ _ serve_apart named same)
sheet_named P found (Plan config transfers json share_by) rows name named config_apart migrate_apart script_apart serve_apart plan_apart top_apart usage_apart holds (other, same, given, also, flag, way) = absurd (different _ _ _ _ _ plan_apart named same)
sheet_named P found (Top status once lines) rows name named config_apart migrate_apart script_apart serve_apart plan_apart top_apart usage_apart holds (other, same, given, flag, count) = absurd (different _ _ _ _ _ top_apart named same)
sheet_named P found Usage rows name named config_apart migrate_apart script_apart serve_apart plan_apart top_apart usage_apart holds (other, same) = absurd (different _ _ _ _ _ usage_apart named same)

pub share_of_sheets : (found : Option (Text × List Row)) (command : Words) (rows : List Row) (word : Text) → found ≡ Some (codes "share", rows) → first_of (codes "SHEET") rows ≡ Some word
    → IsFound found command → IsOfSheets (IsShare word (is_flagged (codes "svg") rows) (first_of (codes "by") rows)) command
share_of_sheets found command rows word named first is =
    sheet_named (IsShare word (is_flagged (codes "svg") rows) (first_of (codes "by") rows)) found command rows (codes "share") named refl refl refl refl refl refl refl (λ words held. share_is found words rows word named first held) is

pub check_of_sheets : (found : Option (Text × List Row)) (command : Words) (rows : List Row) (word also : Text) → found ≡ Some (codes "check", rows) → first_of (codes "SHEET") rows ≡ Some word
    → first_of (codes "GRANTS") rows ≡ Some also → IsFound found command → IsOfSheets (IsCheck word also (first_of (codes "by") rows)) command
check_of_sheets found command rows word also named first second is =
    sheet_named (IsCheck word also (first_of (codes "by") rows)) found command rows (codes "check") named refl refl refl refl refl refl refl (λ words held. check_is found words rows word also named first second held) is

pub check_config_is : (found : Option (Text × List Row)) (command : Words) (rows : List Row) (word : Text) → found ≡ Some (codes "check-config", rows) → first_of (codes "CONFIG") rows ≡ Some word
    → first_of (codes "share-by") rows ≡ None → IsFound found command → IsCheckConfig word (is_flagged (codes "json") rows) (first_of (codes "against") rows) (is_flagged (codes "against-running") rows) command
check_config_is found (Sheet (Share sheet svg by)) rows word named first unshared (other, same, given, flag, users) = absurd (different _ _ _ _ _ refl named same)
check_config_is found (Sheet (Check sheet grants by)) rows word named first unshared (other, same, given, also, users) = absurd (different _ _ _ _ _ refl named same)
check_config_is found (CheckConfig config json against running share_by) rows word named first unshared (other, same, given, flag, also, on, way) =
    let are = same_rows _ _ _ _ _ named same in
    let of = subst (λ (r : List Row). IsWayIn r share_by) (sym are) way in
    (cc, flag ∙ sym (ap (is_flagged (codes "json")) are), cc, on ∙ sym (ap (is_flagged (codes "against-running")) are), subst (λ (o : Option Text). IsWayOf o share_by) unshared of)
check_config_is found (Migrate config) rows word named first unshared (other, same, given) = absurd (different _ _ _ _ _ refl named same)
check_config_is found (Script config) rows word named first unshared (other, same, given) = absurd (different _ _ _ _ _ refl named same)
check_config_is found (Serve config files patience) rows word named first unshared (other, same, given, path, ready, drain, again, runs, log, form, status, ender, most, syncs, way, port, also) = absurd (different _ _ _ _ _ refl named same)
check_config_is found (Plan config transfers json share_by) rows word named first unshared (other, same, given, also, flag, way) = absurd (different _ _ _ _ _ refl named same)
check_config_is found (Top status once lines) rows word named first unshared (other, same, given, flag, count) = absurd (different _ _ _ _ _ refl named same)
check_config_is found Usage rows word named first unshared (other, same) = absurd (different _ _ _ _ _ refl named same)

pub migrate_is : (found : Option (Text × List Row)) (command : Words) (rows : List Row) (word : Text) → found ≡ Some (codes "migrate", rows) → first_of (codes "CONFIG") rows ≡ Some word
    → IsFound found command → IsMigrate word command
migrate_is found (Sheet (Share sheet svg by)) rows word named first (other, same, given, flag, users) = absurd (different _ _ _ _ _ refl named same)
migrate_is found (Sheet (Check sheet grants by)) rows word named first (other, same, given, also, users) = absurd (different _ _ _ _ _ refl named same)
migrate_is found (CheckConfig config json against running share_by) rows word named first (other, same, given, flag, also, on, way) = absurd (different _ _ _ _ _ refl named same)
migrate_is found (Migrate config) rows word named first (other, same, given) = let are = same_rows _ _ _ _ _ named same in cc
migrate_is found (Script config) rows word named first (other, same, given) = absurd (different _ _ _ _ _ refl named same)
migrate_is found (Serve config files patience) rows word named first (other, same, given, path, ready, drain, again, runs, log, form, status, ender, most, syncs, way, port, also) = absurd (different _ _ _ _ _ refl named same)
migrate_is found (Plan config transfers json share_by) rows word named first (other, same, given, also, flag, way) = absurd (different _ _ _ _ _ refl named same)
migrate_is found (Top status once lines) rows word named first (other, same, given, flag, count) = absurd (different _ _ _ _ _ refl named same)
migrate_is found Usage rows word named first (other, same) = absurd (different _ _ _ _ _ refl named same)

pub script_is : (found : Option (Text × List Row)) (command : Words) (rows : List Row) (word : Text) → found ≡ Some (codes "script", rows) → first_of (codes "CONFIG") rows ≡ Some word
    → IsFound found command → IsScript word command
script_is found (Sheet (Share sheet svg by)) rows word named first (other, same, given, flag, users) = absurd (different _ _ _ _ _ refl named same)
script_is found (Sheet (Check sheet grants by)) rows word named first (other, same, given, also, users) = absurd (different _ _ _ _ _ refl named same)
script_is found (CheckConfig config json against running share_by) rows word named first (other, same, given, flag, also, on, way) = absurd (different _ _ _ _ _ refl named same)
script_is found (Migrate config) rows word named first (other, same, given) = absurd (different _ _ _ _ _ refl named same)
script_is found (Script config) rows word named first (other, same, given) = let are = same_rows _ _ _ _ _ named same in cc
script_is found (Serve config files patience) rows word named first (other, same, given, path, ready, drain, again, runs, log, form, status, ender, most, syncs, way, port, also) = absurd (different _ _ _ _ _ refl named same)
script_is found (Plan config transfers json share_by) rows word named first (other, same, given, also, flag, way) = absurd (different _ _ _ _ _ refl named same)
script_is found (Top status once lines) rows word named first (other, same, given, flag, count) = absurd (different _ _ _ _ _ refl named same)
script_is found Usage rows word named first (other, same) = absurd (different _ _ _ _ _ refl named same)

pub serve_is : (found : Option (Text × List Row)) (command : Words) (rows : List Row) (word : Text) (p : Patience) → found ≡ Some (codes "serve", rows) → first_of (codes "CONFIG") rows ≡ Some word
    → IsPatienceIn rows p → IsFound found command → IsServe word (first_of (codes "stop-file") rows) (first_of (codes "ready-file") rows) p command
serve_is found (Sheet (Share sheet svg by)) rows word p named first states (other, same, given, flag, users) = absurd (different _ _ _ _ _ refl named same)
serve_is found (Sheet (Check sheet grants by)) rows word p named first states (other, same, given, also, users) = absurd (different _ _ _ _ _ refl named same)
serve_is found (CheckConfig config json against running share_by) rows word p named first states (other, same, given, flag, also, on, way) = absurd (different _ _ _ _ _ refl named same)
serve_is found (Migrate config) rows word p named first states (other, same, given) = absurd (different _ _ _ _ _ refl named same)
serve_is found (Script config) rows word p named first states (other, same, given) = absurd (different _ _ _ _ _ refl named same)
serve_is found (Serve config files patience) rows word p named first states (other, same, given, path, ready, drain, again, runs, log, form, status, ender, most, syncs, way, port, also) =
    let are = same_rows _ _ _ _ _ named same in
    (cc, cc, cc, one_patience rows patience p (subst (λ (r : List Row). IsPatienceIn r patience) (sym are) also) states)
serve_is found (Plan config transfers json share_by) rows word p named first states (other, same, given, also, flag, way) = absurd (different _ _ _ _ _ refl named same)
serve_is found (Top status once lines) rows word p named first states (other, same, given, flag, count) = absurd (different _ _ _ _ _ refl named same)
serve_is found Usage rows word p named first states (other, same) = absurd (different _ _ _ _ _ refl named same)

pub logged_is : (found : Option (Text × List Row)) (command : Words) (rows : List Row) (word : Text) → found ≡ Some (codes "serve", rows) → first_of (codes "CONFIG") rows ≡ Some word
    → IsFound found command → IsLoggedBy word (first_of (codes "transfer-log") rows) (first_of (codes "log-form") rows) command
logged_is found (Sheet (Share sheet svg by)) rows word named first (other, same, given, flag, users) = absurd (different _ _ _ _ _ refl named same)
logged_is found (Sheet (Check sheet grants by)) rows word named first (other, same, given, also, users) = absurd (different _ _ _ _ _ refl named same)
logged_is found (CheckConfig config json against running share_by) rows word named first (other, same, given, flag, also, on, way) = absurd (different _ _ _ _ _ refl named same)
logged_is found (Migrate config) rows word named first (other, same, given) = absurd (different _ _ _ _ _ refl named same)
logged_is found (Script config) rows word named first (other, same, given) = absurd (different _ _ _ _ _ refl named same)
logged_is found (Serve config files patience) rows word named first (other, same, given, path, ready, drain, again, runs, log, form, status, ender, most, syncs, way, port, also) =
    let are = same_rows _ _ _ _ _ named same in
    (cc, cc, cc)
logged_is found (Plan config transfers json share_by) rows word named first (other, same, given, also, flag, way) = absurd (different _ _ _ _ _ refl named same)
logged_is found (Top status once lines) rows word named first (other, same, given, flag, count) = absurd (different _ _ _ _ _ refl named same)
logged_is found Usage rows word named first (other, same) = absurd (different _ _ _ _ _ refl named same)

pub status_is : (found : Option (Text × List Row)) (command : Words) (rows : List Row) (word : Text) (n : Option ℕ) → found ≡ Some (codes "serve", rows) → first_of (codes "CONFIG") rows ≡ Some word
    → IsPortIn rows n → IsFound found command → IsStatusBy word (first_of (codes "status") rows) n command
status_is found (Sheet (Share sheet svg by)) rows word n named first states (other, same, given, flag, users) = absurd (different _ _ _ _ _ refl named same)
status_is found (Sheet (Check sheet grants by)) rows word n named first states (other, same, given, also, users) = absurd (different _ _ _ _ _ refl named same)
status_is found (CheckConfig config json against running share_by) rows word n named first states (other, same, given, flag, also, on, way) = absurd (different _ _ _ _ _ refl named same)
status_is found (Migrate config) rows word n named first states (other, same, given) = absurd (different _ _ _ _ _ refl named same)
status_is found (Script config) rows word n named first states (other, same, given) = absurd (different _ _ _ _ _ refl named same)
status_is found (Serve config files patience) rows word n named first states (other, same, given, path, ready, drain, again, runs, log, form, status, ender, most, syncs, way, port, also) =
    let are = same_rows _ _ _ _ _ named same in
    (cc, cc, one_port rows files.status_port n (subst (λ (r : List Row). IsPortIn r files.status_port) (sym are) port) states)
status_is found (Plan config transfers json share_by) rows word n named first states (other, same, given, also, flag, way) = absurd (different _ _ _ _ _ refl named same)
status_is found (Top status once lines) rows word n named first states (other, same, given, flag, count) = absurd (different _ _ _ _ _ refl named same)
status_is found Usage rows word n named first states (other, same) = absurd (different _ _ _ _ _ refl named same)

pub plan_is : (found : Option (Text × List Row)) (command : Words) (rows : List Row) (word stated : Text) → found ≡ Some (codes "plan", rows) → first_of (codes "CONFIG") rows ≡ Some word
    → first_of (codes "TRANSFERS") rows ≡ Some stated → first_of (codes "share-by") rows ≡ None → IsFound found command → IsPlanWords word stated (is_flagged (codes "json") rows) command
plan_is found (Sheet (Share sheet svg by)) rows word stated named first second unshared (other, same, given, flag, users) = absurd (different _ _ _ _ _ refl named same)
plan_is found (Sheet (Check sheet grants by)) rows word stated named first second unshared (other, same, given, also, users) = absurd (different _ _ _ _ _ refl named same)
plan_is found (CheckConfig config json against running share_by) rows word stated named first second unshared (other, same, given, flag, also, on, way) = absurd (different _ _ _ _ _ refl named same)
plan_is found (Migrate config) rows word stated named first second unshared (other, same, given) = absurd (different _ _ _ _ _ refl named same)
plan_is found (Script config) rows word stated named first second unshared (other, same, given) = absurd (different _ _ _ _ _ refl named same)
plan_is found (Serve config files patience) rows word stated named first second unshared (other, same, given, path, ready, drain, again, runs, log, form, status, ender, most, syncs, way, port, also) = absurd (different _ _ _ _ _ refl named same)
plan_is found (Plan config transfers json share_by) rows word stated named first second unshared (other, same, given, also, flag, way) =
    let are = same_rows _ _ _ _ _ named same in
    (cc, cc, flag ∙ sym (ap (is_flagged (codes "json")) are), subst (λ (o : Option Text). IsWayOf o share_by) unshared (subst (λ (r : List Row). IsWayIn r share_by) (sym are) way))
plan_is found (Top status once lines) rows word stated named first second unshared (other, same, given, flag, count) = absurd (different _ _ _ _ _ refl named same)
plan_is found Usage rows word stated named first second unshared (other, same) = absurd (different _ _ _ _ _ refl named same)

pub top_is : (found : Option (Text × List Row)) (command : Words) (rows : List Row) (word : Text) (n : ℕ) → found ≡ Some (codes "top", rows) → first_of (codes "STATUS") rows ≡ Some word
    → AreLinesIn rows n → IsFound found command → IsTop word (is_flagged (codes "once") rows) n command
top_is found (Sheet (Share sheet svg by)) rows word n named first states (other, same, given, flag, users) = absurd (different _ _ _ _ _ refl named same)
top_is found (Sheet (Check sheet grants by)) rows word n named first states (other, same, given, also, users) = absurd (different _ _ _ _ _ refl named same)
top_is found (CheckConfig config json against running share_by) rows word n named first states (other, same, given, flag, also, on, way) = absurd (different _ _ _ _ _ refl named same)
top_is found (Migrate config) rows word n named first states (other, same, given) = absurd (different _ _ _ _ _ refl named same)
top_is found (Script config) rows word n named first states (other, same, given) = absurd (different _ _ _ _ _ refl named same)
top_is found (Serve config files patience) rows word n named first states (other, same, given, path, ready, drain, again, runs, log, form, status, ender, most, syncs, way, port, also) = absurd (different _ _ _ _ _ refl named same)
top_is found (Plan config transfers json share_by) rows word n named first states (other, same, given, also, flag, way) = absurd (different _ _ _ _ _ refl named same)
top_is found (Top status once lines) rows word n named first states (other, same, given, flag, count) =
    let are = same_rows _ _ _ _ _ named same in
    (cc, flag ∙ sym (ap (is_flagged (codes "once")) are), one_count rows lines n (subst (λ (r : List Row). AreLinesIn r lines) (sym are) count) states)
top_is found Usage rows word n named first states (other, same) = absurd (different _ _ _ _ _ refl named same)
