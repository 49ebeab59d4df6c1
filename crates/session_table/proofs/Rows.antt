-- What each row of the table does, and never does.
use Rattle.std.proofs.Common.{◌==◌, ◌≡◌, ℕ, ◌+◌, ◌≤◌, Bool, true, false, cond, not, ◌&&◌, List, [], ◌∷◌, ◌++◌, Option, Some, None, Result, Ok, Err, unwrap_or, is_some, refl, sym, ap, ◌∙◌, subst, inl, inr, arith, append_assoc}
use Rattle.std.proofs.lemmas.Bool.{false≢true, not-false, true≢false}
use Rattle.authorizer.specs.Users.{Users, allowed}
use Rattle.authorizer.specs.Changes.{is_password}
use Rattle.ftp_terms.specs.declared.entries.EntryKind.{EntryKind}
use Rattle.ftp_terms.specs.declared.entries.EntryKind.TheVariants as kind
use Rattle.ftp_terms.specs.declared.letters.Letter.{Letter}
use Rattle.ftp_wire.specs.Items.{Item}
use Rattle.ftp_wire.specs.declared.commands.Command.TheVariants as command
use Rattle.ftp_wire.specs.declared.commands.ExtendedPassive.{ExtendedPassive}
use Rattle.ftp_wire.specs.declared.commands.ExtendedPassive.TheVariants as extended
use Rattle.ftp_wire.specs.declared.commands.ExtendedPort.{ExtendedPort}
use Rattle.ftp_wire.specs.declared.commands.ExtendedPort.TheVariants as port
use Rattle.ftp_wire.specs.declared.commands.FeatureOption.{FeatureOption}
use Rattle.ftp_wire.specs.declared.commands.FeatureOption.TheVariants as option
use Rattle.ftp_wire.specs.declared.commands.HostPort.{HostPort}
use Rattle.virtual_path.specs.Path.{Path, joined, resolved}
use Rattle.virtual_path.specs.declared.fault.PathFault.{PathFault}
use Rattle.virtual_tree.specs.declared.fault.StoreFault.{StoreFault}
use Rattle.session_table.specs.Always.{Always}
use Rattle.session_table.specs.Laws.{IsAllowedAt, IsAllowedCall, IsAllowedFor, Releases, asking, logged_in, release_by, releases, starting}
use Rattle.session_table.proofs.Keeping.{always_cond, always_left, always_to}
use Rattle.session_table.specs.declared.actions.Action.{Action}
use Rattle.session_table.specs.declared.actions.Action.TheVariants as action
use Rattle.session_table.specs.declared.actions.HookCall.TheVariants as hook
use Rattle.session_table.specs.declared.actions.Job.{Job}
use Rattle.session_table.specs.declared.answers.Answer.{Answer}
use Rattle.session_table.specs.declared.answers.Answer.TheVariants as answer
use Rattle.session_table.specs.declared.refusals.Refusal.{Refusal}
use Rattle.session_table.specs.declared.refusals.Refusal.TheVariants as refusal
use Rattle.session_table.specs.declared.rules.Conditions.{Conditions}
use Rattle.session_table.specs.declared.rules.NamedRow.{NamedRow}
use Rattle.session_table.specs.declared.rules.NamedRow.TheVariants as row
use Rattle.session_table.specs.declared.rules.Rule.{Rule}
use Rattle.session_table.specs.declared.rules.Style.{Style}
use Rattle.session_table.specs.declared.rules.Style.TheVariants.{LongLines, Names, FactLines}
use Rattle.session_table.specs.declared.stages.TransferContent.{TransferContent}
use Rattle.session_table.specs.declared.stages.Passive.{Passive}
use Rattle.session_table.specs.declared.stages.Passive.TheVariants.{Plain, Extended}
use Rattle.session_table.specs.declared.notices.Notice.TheVariants as notice
use Rattle.session_table.specs.declared.stages.Stage.{Stage}
use Rattle.session_table.specs.declared.stages.Stage.TheVariants as stage
use Rattle.session_table.specs.Calls.{Call}
use Rattle.session_table.specs.Calls.Call.{Stat}
use Rattle.session_table.specs.FileRows.{by_kind, cwd_row, dele_row, is_root, mdtm_row, mkd_row, rmd_row, rnfr_row, rnto_from, size_row, unless_fault}
use Rattle.session_table.specs.Judged.{Location, at_location, at_once, first_refusal, from_home, home_of, judged_at, located, stored_at, unless_refused}
use Rattle.session_table.specs.Plans.{Plan}
use Rattle.session_table.specs.Plans.Plan.{AskAdmit}
use Rattle.session_table.specs.StateRows.{abor_row, enters, eprt_row, epsv_row, goodbye_reply, is_ascii, is_last_attempt, leaves, needs_image, number_of, opens, opts_row, pass_by, port_by, port_refusal, quit_row, refuses, rest_row, turned_away}
use Rattle.session_table.specs.Rules.{at_found, file_row, login_row, row_plan, state_row}
use Rattle.session_table.specs.Rules.{Line, rule}
use Rattle.session_table.specs.Table.{left, ruled, served, unless_refuses}
use Rattle.session_table.specs.TransferRows.{appe_row, list_row, lists_directory, mlsd_row, mlst_row, retr_row, sends_lines, starts, stat_row, status_lines, stor_row}
use Rattle.session_table.specs.Views.{View, anew, has_transfer, is_inside}

-- ---- refusals

abbrev ok_of : {X Y : Type 0} → X → Result X Y → X
ok_of otherwise (Ok x) = x
ok_of otherwise (Err y) = otherwise

abbrev is_good : {X Y : Type 0} → Result X Y → Bool
is_good (Ok x) = true
is_good (Err y) = false

-- where the text leads, as far as it is known
record Leads (users : Users) (view : View) (text : List ℕ) (location : Location) : Type 0 where
  names : resolved view.cwd text ≡ Ok location.path
  stands : joined (home_of users view.name) location.path ≡ Ok location.stored

leads : (users : Users) (view : View) (text : List ℕ) (location : Location) → located users view text ≡ Ok location → Leads users view text location
leads users view text location e = by (resolved view.cwd text) refl e
  where
    stood : (path : Path) → resolved view.cwd text ≡ Ok path → (stored : Result Path PathFault) → joined (home_of users view.name) path ≡ stored → stored_at path stored ≡ Ok location → Leads users view text location
    stood path is (Err fault) where_stored e = absurd (false≢true (ap is_good e))
    stood path is (Ok stored) where_stored e =
        subst (λ (at : Location). Leads users view text at) (ap (ok_of (record { path = path; stored = stored })) e) (record { names = is; stands = where_stored })

    by : (found : Result Path PathFault) → resolved view.cwd text ≡ found → from_home (home_of users view.name) found ≡ Ok location → Leads users view text location
    by (Err fault) is e = absurd (false≢true (ap is_good e))
    by (Ok path) is e = stood path is (joined (home_of users view.name) path) refl e

-- the first condition of a refusal does not hold, and none of the others
none_holds : (holds : Bool) (why : Refusal) (others : Option Refusal) → cond holds (Some why) others ≡ None → (holds ≡ false) × (others ≡ None)
none_holds true why others e = absurd (true≢false (ap is_some e))
none_holds false why others e = (refl, e)

from_and : (a b : Bool) → (a && not b) ≡ false → a ≡ true → b ≡ true
from_and true b e is = not-false b e
from_and false b e is = absurd (false≢true is)

-- ---- a rule

module _ (A R K : Type 0) (users : Users) (view : View) (moment : ℕ) (U : ℕ → Type 0) (E : List ℕ → View → List (Action A R K) → Type 0) where
  -- what is said of a row, where its conditions are met
  abbrev pub RowHas : Conditions → NamedRow (List ℕ) → Type 0
  RowHas conditions (row.Login what) = Always {R = R} {K = K} (λ call. ⊥) U E [] (login_row users view what)
  RowHas conditions (row.State what) = Always {R = R} {K = K} (λ call. ⊥) U E [] (state_row view what)
  RowHas conditions (row.At place) = (conditions.needs_login ≡ true)
      × ((location : Location) → IsAllowedAt users view place.letter place.text location.stored → (conditions.moves_data ≡ true → view.prepared ≡ true)
      → Always (IsAllowedCall (IsAllowedAt users view place.letter place.text) view.source) U E [] (file_row users view moment place.row location))

  module _ (refusing : (why : Refusal) → E [] (record view { source = None }) (action.Say (answer.Refusal why) ∷ [])) where
    row_has : (conditions : Conditions) (row : NamedRow (List ℕ)) → (conditions.needs_login && not (is_inside view.stage)) ≡ false → RowHas conditions row
        → Always (IsAllowedFor users view row) U E [] (row_plan users view moment conditions row)
    row_has conditions (row.Login what) login has = has
    row_has conditions (row.State what) login has = has
    row_has conditions (row.At place) login has = found (located users view place.text) refl
      where
        here : (location : Location) → located users view place.text ≡ Ok location → (why : Option Refusal)
            → first_refusal (at_location users view conditions place.letter location.path) ≡ why
            → Always (IsAllowedCall (IsAllowedAt users view place.letter place.text) view.source) U E [] (at_found view (file_row users view moment place.row) (unless_refused why (Ok location)))
        here location is (Some why) refused = refusing why
        here location is None refused =
            let permitted = none_holds (not (allowed users view.name place.letter location.path)) refusal.NotPermitted _ refused in
            let ready = none_holds (conditions.moves_data && not view.prepared) refusal.NothingPrepared None permitted.1 in
            let led = leads users view place.text location is in
            has.1 location (record {
              path = location.path;
              inside = from_and conditions.needs_login (is_inside view.stage) login has.0;
              names = led.names;
              stands = led.stands;
              holds = not-false (allowed users view.name place.letter location.path) permitted.0;
            }) (from_and conditions.moves_data view.prepared ready.0)

        found : (known : Result Location PathFault) → located users view place.text ≡ known
            → Always (IsAllowedCall (IsAllowedAt users view place.letter place.text) view.source) U E [] (at_found view (file_row users view moment place.row) (judged_at users view conditions place.letter known))
        found (Err fault) is = refusing (refusal.Path fault)
        found (Ok location) is = here location is (first_refusal (at_location users view conditions place.letter location.path)) refl

    -- a command is refused, or its row is carried out
    pub ruled_has : (rule : Rule (List ℕ)) → RowHas rule.conditions rule.row → Always (IsAllowedFor users view rule.row) U E [] (ruled users view moment rule)
    unfolding ruled
    ruled_has rule has = by (first_refusal (at_once view rule.conditions)) refl
      where
        by : (why : Option Refusal) → first_refusal (at_once view rule.conditions) ≡ why
            → Always (IsAllowedFor users view rule.row) U E [] (unless_refuses view why (row_plan users view moment rule.conditions rule.row))
        by (Some why) refused = refusing why
        by None refused = row_has rule.conditions rule.row (none_holds (rule.conditions.needs_login && not (is_inside view.stage)) refusal.LogInFirst _ refused).0 has

module _ (A R K : Type 0) where
  -- what is said of the end of a row
  pub record Fine (view : View) (most : ℕ) (admitted : List ℕ) (after : View) (actions : List (Action A R K)) : Type 0 where
    pub unprepared : view.prepared ≡ false → starting actions ≡ 0
    pub asks : asking actions ≤ most
    pub floors : Releases admitted (logged_in view) (releases actions) (logged_in after)

  -- one reply, and whoever is there stays
  reported : (view after : View) (reply : Answer A) → logged_in after ≡ logged_in view → Fine view 1 [] after (action.Say reply ∷ [])
  reported view after reply same = record { unprepared = λ _. refl; asks = omega arith; floors = inl (refl, same) }

  -- who leaves, what is told, and what is dropped
  abbrev leaving : View → Bool → Bool → Answer A → List (Action A R K)
  leaving view inside prepared reply = cond inside (action.Hook (hook.Logout view.name) ∷ action.ReleaseFloor view.number ∷ []) [] ++ (action.Say reply ∷ []) ++ cond prepared (action.DropData ∷ []) []

  leaving_starts : (view : View) (inside prepared : Bool) (reply : Answer A) → starting (leaving view inside prepared reply) ≡ 0
  leaving_starts view true true reply = refl
  leaving_starts view true false reply = refl
  leaving_starts view false true reply = refl
  leaving_starts view false false reply = refl

  leaving_asks : (view : View) (inside prepared : Bool) (reply : Answer A) → asking (leaving view inside prepared reply) ≡ 0
  leaving_asks view true true reply = refl
  leaving_asks view true false reply = refl
  leaving_asks view false true reply = refl
  leaving_asks view false false reply = refl

  leaving_releases : (view : View) (inside prepared : Bool) (reply : Answer A) → releases (leaving view inside prepared reply) ≡ cond inside (view.number ∷ []) []
  leaving_releases view true true reply = refl
  leaving_releases view true false reply = refl
  leaving_releases view false true reply = refl
  leaving_releases view false false reply = refl

  restarting : (view : View) (name : List ℕ) (next : Stage) (reply : Answer A) → is_inside next ≡ false
      → Fine view 1 [] (record (anew view) { stage = next; name = name }) (leaving view (is_inside view.stage) view.prepared reply)
  restarting view name next reply nobody = record {
    unprepared = λ _. leaving_starts view (is_inside view.stage) view.prepared reply;
    asks = omega (arith, leaving_asks view (is_inside view.stage) view.prepared reply);
    floors = inr (leaving_releases view (is_inside view.stage) view.prepared reply, ap (λ b. cond b (view.number ∷ []) []) nobody);
  }

  -- actions that start, ask for and release nothing
  pub record Quiet (actions : List (Action A R K)) : Type 0 where
    pub starts_none : starting actions ≡ 0
    pub asks_none : asking actions ≡ 0
    pub releases_none : releases actions ≡ []

  starting_then : (first others : List (Action A R K)) → starting (first ++ others) ≡ starting first + starting others
  starting_then [] others = omega arith
  starting_then (a ∷ first) others = omega (arith, starting_then first others)

  asking_then : (first others : List (Action A R K)) → asking (first ++ others) ≡ asking first + asking others
  asking_then [] others = omega arith
  asking_then (a ∷ first) others = omega (arith, asking_then first others)

  releases_then : (first others : List (Action A R K)) → releases (first ++ others) ≡ releases first ++ releases others
  releases_then [] others = refl
  releases_then (a ∷ first) others = ap (λ numbers. release_by a ++ numbers) (releases_then first others) ∙ sym (append_assoc (release_by a) (releases first) (releases others))

  pub quiet_then : (first others : List (Action A R K)) → Quiet first → Quiet others → Quiet (first ++ others)
  quiet_then first others is also = record {
    starts_none = omega (arith, starting_then first others, is.starts_none, also.starts_none);
    asks_none = omega (arith, asking_then first others, is.asks_none, also.asks_none);
    releases_none = releases_then first others ∙ ap (λ numbers. numbers ++ releases others) is.releases_none ∙ also.releases_none;
  }

  -- behind such, whoever was there stays
  pub stays : (view after : View) (most : ℕ) (actions : List (Action A R K)) → Quiet actions → logged_in after ≡ logged_in view → Fine view most [] after actions
  stays view after most actions is same = record {
    unprepared = λ _. is.starts_none;
    asks = omega (arith, is.asks_none);
    floors = inl (is.releases_none, same);
  }

  -- or leaves
  abbrev goodbye : View → Bool → Answer A → List (Action A R K)
  goodbye view inside reply = (action.Say reply ∷ []) ++ cond inside (action.Hook (hook.Logout view.name) ∷ action.ReleaseFloor view.number ∷ []) [] ++ (action.CloseControl ∷ [])

  goodbye_starts : (view : View) (inside : Bool) (reply : Answer A) → starting (goodbye view inside reply) ≡ 0
  goodbye_starts view true reply = refl
  goodbye_starts view false reply = refl

  goodbye_asks : (view : View) (inside : Bool) (reply : Answer A) → asking (goodbye view inside reply) ≡ 0
  goodbye_asks view true reply = refl
  goodbye_asks view false reply = refl

  goodbye_releases : (view : View) (inside : Bool) (reply : Answer A) → releases (goodbye view inside reply) ≡ cond inside (view.number ∷ []) []
  goodbye_releases view true reply = refl
  goodbye_releases view false reply = refl

  apart : (view : View) (reply : Answer A) (before : List (Action A R K))
      → before ++ (action.Say reply ∷ []) ++ leaves view ++ (action.CloseControl ∷ []) ≡ before ++ goodbye view (is_inside view.stage) reply
  apart view reply before =
      ap (λ actions. actions ++ (action.CloseControl ∷ [])) (append_assoc before (action.Say reply ∷ []) (leaves view))
      ∙ append_assoc before ((action.Say reply ∷ []) ++ leaves view) (action.CloseControl ∷ [])

  pub parting : (view after : View) (most : ℕ) (reply : Answer A) (before : List (Action A R K)) → Quiet before → logged_in after ≡ []
      → Fine view most [] after (before ++ (action.Say reply ∷ []) ++ leaves view ++ (action.CloseControl ∷ []))
  parting view after most reply before is gone = subst (λ actions. Fine view most [] after actions) (sym (apart view reply before)) (record {
    unprepared = λ _. omega (arith, starting_then before (goodbye view (is_inside view.stage) reply), is.starts_none, goodbye_starts view (is_inside view.stage) reply);
    asks = omega (arith, asking_then before (goodbye view (is_inside view.stage) reply), is.asks_none, goodbye_asks view (is_inside view.stage) reply);
    floors = inr (releases_then before (goodbye view (is_inside view.stage) reply) ∙ ap (λ numbers. numbers ++ releases (goodbye view (is_inside view.stage) reply)) is.releases_none ∙ goodbye_releases view (is_inside view.stage) reply, gone);
  })

  quiet_none : Quiet []
  quiet_none = record { starts_none = refl; asks_none = refl; releases_none = refl }

  -- ---- rows that ask nothing of the store

  module _ (C : Call K → Type 0) (U : ℕ → Type 0) (view : View) where
    abbrev E : List ℕ → View → List (Action A R K) → Type 0
    E = Fine view 1

    rest_fine : (offset : ℕ) → Always C U E [] (rest_row view offset)
    rest_fine offset = always_cond C U E (needs_image view offset) _ _ (reported _ _ _ refl) (reported _ _ _ refl)

    opts_fine : (wanted : FeatureOption) → Always C U E [] (opts_row view wanted)
    opts_fine option.Utf8On = reported _ _ _ refl
    opts_fine (option.Mlst facts) = reported _ _ _ refl

    connecting : (to : HostPort) → Fine view 1 [] (record view { prepared = true }) (action.Say (answer.Notice notice.Fine) ∷ action.ConnectTo to ∷ [])
    connecting to = record { unprepared = λ _. refl; asks = omega arith; floors = inl (refl, refl) }

    port_fine : (to : HostPort) (why : Option Refusal) → Always C U E [] (port_by view to why)
    port_fine to (Some why) = reported _ _ _ refl
    port_fine to None = connecting to

    eprt_fine : (to : ExtendedPort) → Always C U E [] (eprt_row view to)
    eprt_fine (port.Ipv4 to) = port_fine to (port_refusal view to)
    eprt_fine (port.Unsupported protocol) = reported _ _ _ refl

    opens_fine : (passive : Passive) → Always C U E [] (opens view passive)
    opens_fine passive = record { unprepared = λ _. refl; asks = omega arith; floors = inl (refl, refl) }

    epsv_fine : (wanted : ExtendedPassive) → Always C U E [] (epsv_row view wanted)
    epsv_fine extended.Same = opens_fine Extended
    epsv_fine extended.All = reported _ _ _ refl
    epsv_fine (extended.Protocol protocol) = always_cond C U E (protocol == 1) _ _ (opens_fine Extended) (reported _ _ _ refl)

    abor_fine : Always C U E [] (abor_row view)
    abor_fine = always_cond C U E (has_transfer view.work) _ _ (record { unprepared = λ _. refl; asks = omega arith; floors = inl (refl, refl) }) (reported _ _ _ refl)

    quit_fine : (users : Users) → Always C U E [] (quit_row users view)
    quit_fine users = parting view _ 1 (goodbye_reply users view) [] quiet_none refl

    nobody_named : view.stage ≡ stage.Named → logged_in view ≡ []
    nobody_named is = ap (λ at. cond (is_inside at) (view.number ∷ []) []) is

    -- a wrong password of whoever is named
    away_fine : view.stage ≡ stage.Named → Always C U E [] (turned_away view)
    away_fine named = always_cond C U E (is_last_attempt view) _ _
        (record { unprepared = λ _. refl; asks = omega arith; floors = inl (refl, refl) })
        (record { unprepared = λ _. refl; asks = omega arith; floors = inl (refl, sym (nobody_named named)) })

    entering : (users : Users) → view.stage ≡ stage.Named → U (number_of users view.name)
        → Always C U E [] (AskAdmit (number_of users view.name) (enters users view))
    entering users named asks = (
      asks,
      record { unprepared = λ _. refl; asks = omega arith; floors = (nobody_named named, refl, refl) },
      record { unprepared = λ _. refl; asks = omega arith; floors = inl (refl, refl) },
    )

    -- PASS, where admission may be asked for whoever was named and has this password
    pass_fine : (users : Users) (password : List ℕ) (at : Stage) → view.stage ≡ at
        → (view.stage ≡ stage.Named → is_password users view.name password ≡ true → U (number_of users view.name))
        → Always C U E [] (pass_by users view password at)
    pass_fine users password stage.Greeted is asks = reported _ _ _ refl
    pass_fine users password stage.Named is asks = by (is_password users view.name password) refl
      where
        by : (right : Bool) → is_password users view.name password ≡ right
            → Always C U E [] (cond right (AskAdmit (number_of users view.name) (enters users view)) (turned_away view))
        by true right = entering users is (asks is right)
        by false right = away_fine is
    pass_fine users password stage.Inside is asks = reported _ _ _ refl
    pass_fine users password stage.Closed is asks = reported _ _ _ refl

  -- ---- rows that ask the store

  module _ (U : ℕ → Type 0) (users : Users) (view : View) (letter : Letter) (text : List ℕ) (location : Location) (allowed : IsAllowedAt users view letter text location.stored) where
    abbrev Calls : Call K → Type 0
    Calls = IsAllowedCall (IsAllowedAt users view letter text) view.source

    abbrev Ends : List ℕ → View → List (Action A R K) → Type 0
    Ends = Fine view 1

    refused : (why : Refusal) → Always Calls U Ends [] (refuses view why)
    refused why = reported _ _ _ refl

    -- what a call of the store comes to, by what comes of each answer
    answered : {X : Type 0} (next : X → Plan A R K) → ((x : X) → Always Calls U Ends [] (next x))
        → (answer : Result X StoreFault) → Always Calls U Ends [] (unless_fault view next answer)
    answered next each (Err why) = refused _
    answered next each (Ok x) = each x

    of_kind : (p q : Plan A R K) → Always Calls U Ends [] p → Always Calls U Ends [] q → (kind : EntryKind) → Always Calls U Ends [] (by_kind p q kind)
    of_kind p q is also kind.Directory = is
    of_kind p q is also kind.File = also

    cwd_fine : Always Calls U Ends [] (cwd_row view location)
    cwd_fine = (allowed, answered _ (λ meta. of_kind _ _ (reported _ _ _ refl) (refused _) meta.kind))

    mkd_fine : Always Calls U Ends [] (mkd_row view location)
    mkd_fine = (allowed, answered _ (λ done. reported _ _ _ refl))

    rmd_fine : Always Calls U Ends [] (rmd_row view location)
    rmd_fine = always_cond Calls U Ends (is_root location.path) _ _ (refused _) ((allowed, answered _ (λ done. reported _ _ _ refl)))

    dele_fine : Always Calls U Ends [] (dele_row view location)
    dele_fine = (allowed, answered _ (λ done. reported _ _ _ refl))

    rnfr_fine : Always Calls U Ends [] (rnfr_row view location)
    rnfr_fine = always_cond Calls U Ends (is_root location.path) _ _ (refused _) ((allowed, answered _ (λ meta. reported _ _ _ refl)))

    rnto_fine : (source : Option Path) → view.source ≡ source → Always Calls U Ends [] (rnto_from view location.stored source)
    rnto_fine None is = refused _
    rnto_fine (Some source) is = ((is, allowed), answered _ (λ done. reported _ _ _ refl))

    size_fine : Always Calls U Ends [] (size_row view location)
    size_fine = always_cond Calls U Ends (is_ascii view.data_type) _ _ (refused _)
        ((allowed, answered _ (λ meta. of_kind _ _ (refused _) (reported _ _ _ refl) meta.kind)))

    mdtm_fine : Always Calls U Ends [] (mdtm_row view location)
    mdtm_fine = (allowed, answered _ (λ meta. of_kind _ _ (refused _) (λ line. reported _ _ _ refl) meta.kind))

    mlst_fine : Always Calls U Ends [] (mlst_row users view location)
    mlst_fine = (allowed, answered _ (λ meta line. reported _ _ _ refl))

    -- the entries of a directory
    listed : (style : Style) (next : List (List ℕ) → Plan A R K) → ((lines : List (List ℕ)) → Always Calls U Ends [] (next lines))
        → Always Calls U Ends [] (lists_directory users view style location next)
    listed style next each = (allowed, answered _ (λ entries. each))

    stat_fine : Always Calls U Ends [] (stat_row users view location)
    stat_fine = (allowed, answered _ (λ meta. of_kind _ _ (listed LongLines (status_lines view) (λ lines. reported _ _ _ refl)) (λ lines. reported _ _ _ refl) meta.kind))

    -- ---- transfers

    module _ (prepared : view.prepared ≡ true) where
      starting_fine : (content : TransferContent Path) (what : Job A R K) → Always Calls U Ends [] (starts view content what)
      starting_fine content what = record { unprepared = λ not. absurd (true≢false (sym prepared ∙ not)); asks = omega arith; floors = inl (refl, refl) }

      list_fine : (style : Style) → Always Calls U Ends [] (list_row users view style location)
      list_fine style = (allowed, answered _ (λ meta. of_kind _ _ (listed style (sends_lines view) (λ lines. starting_fine _ _)) (λ lines. starting_fine _ _) meta.kind))

      mlsd_fine : Always Calls U Ends [] (mlsd_row users view location)
      mlsd_fine = (allowed, answered _ (λ meta. of_kind _ _ (listed FactLines (sends_lines view) (λ lines. starting_fine _ _)) (refused _) meta.kind))

      retr_fine : Always Calls U Ends [] (retr_row view location)
      retr_fine = (allowed, answered _ (λ source. starting_fine _ _))

      stor_fine : (moment : ℕ) → Always Calls U Ends [] (stor_row view moment location)
      stor_fine moment = (allowed, answered _ (λ sink. starting_fine _ _))

      appe_fine : (moment : ℕ) → Always Calls U Ends [] (appe_row view moment location)
      appe_fine moment = (allowed, answered _ (λ sink. starting_fine _ _))

  -- ---- all rows

  -- who may be admitted by a line: whoever was named, by PASS with their password
  abbrev pub UserFor : Users → View → Item → ℕ → Type 0
  UserFor users view item number = (text : Option (List ℕ)) × (item ≡ Ok (command.Pass text)) × (view.stage ≡ stage.Named)
      × (is_password users view.name (unwrap_or text []) ≡ true) × (number ≡ number_of users view.name)

  module _ (users : Users) (view : View) (moment : ℕ) where
    abbrev Of : Line → Type 0
    Of line = RowHas A R K users view moment (UserFor users view (Ok line)) (Fine view 1) (rule line).conditions (rule line).row

    abbrev No : Call K → Type 0
    No call = ⊥

    abbrev By : Line → ℕ → Type 0
    By line = UserFor users view (Ok line)

    row_fine : (line : Line) → Of line
    row_fine (command.User name) = restarting view name stage.Named _ refl
    row_fine (command.Pass text) = pass_fine No (By (command.Pass text)) view users (unwrap_or text []) view.stage refl
        (λ named right. (text, refl, named, right, refl))
    row_fine command.Quit = quit_fine No (By command.Quit) view users
    row_fine command.Rein = restarting view [] stage.Greeted _ refl
    row_fine (command.Opts wanted) = opts_fine No (By (command.Opts wanted)) view wanted
    row_fine (command.Rest offset) = rest_fine No (By (command.Rest offset)) view offset
    row_fine (command.Port to) = port_fine No (By (command.Port to)) view to (port_refusal view to)
    row_fine (command.Eprt to) = eprt_fine No (By (command.Eprt to)) view to
    row_fine command.Pasv = opens_fine No (By command.Pasv) view Plain
    row_fine (command.Epsv wanted) = epsv_fine No (By (command.Epsv wanted)) view wanted
    row_fine command.Abor = abor_fine No (By command.Abor) view
    row_fine (command.Cwd text) = (refl, λ location is prepared. cwd_fine (By (command.Cwd text)) users view _ _ location is)
    row_fine command.Cdup = (refl, λ location is prepared. cwd_fine (By command.Cdup) users view _ _ location is)
    row_fine (command.Mkd text) = (refl, λ location is prepared. mkd_fine (By (command.Mkd text)) users view _ _ location is)
    row_fine (command.Rmd text) = (refl, λ location is prepared. rmd_fine (By (command.Rmd text)) users view _ _ location is)
    row_fine (command.Dele text) = (refl, λ location is prepared. dele_fine (By (command.Dele text)) users view _ _ location is)
    row_fine (command.Rnfr text) = (refl, λ location is prepared. rnfr_fine (By (command.Rnfr text)) users view _ _ location is)
    row_fine (command.Rnto text) = (refl, λ location is prepared. rnto_fine (By (command.Rnto text)) users view _ _ location is view.source refl)
    row_fine (command.Size text) = (refl, λ location is prepared. size_fine (By (command.Size text)) users view _ _ location is)
    row_fine (command.Mdtm text) = (refl, λ location is prepared. mdtm_fine (By (command.Mdtm text)) users view _ _ location is)
    row_fine (command.Stat None) = reported _ _ _ refl
    row_fine (command.Stat (Some text)) = (refl, λ location is prepared. stat_fine (By (command.Stat (Some text))) users view _ _ location is)
    row_fine (command.Mlst text) = (refl, λ location is prepared. mlst_fine (By (command.Mlst text)) users view _ _ location is)
    row_fine (command.List text) = (refl, λ location is prepared. list_fine (By (command.List text)) users view _ _ location is (prepared refl) LongLines)
    row_fine (command.Nlst text) = (refl, λ location is prepared. list_fine (By (command.Nlst text)) users view _ _ location is (prepared refl) Names)
    row_fine (command.Mlsd text) = (refl, λ location is prepared. mlsd_fine (By (command.Mlsd text)) users view _ _ location is (prepared refl))
    row_fine (command.Retr text) = (refl, λ location is prepared. retr_fine (By (command.Retr text)) users view _ _ location is (prepared refl))
    row_fine (command.Stor text) = (refl, λ location is prepared. stor_fine (By (command.Stor text)) users view _ _ location is (prepared refl) moment)
    row_fine (command.Appe text) = (refl, λ location is prepared. appe_fine (By (command.Appe text)) users view _ _ location is (prepared refl) moment)
    -- a row that only replies
    row_fine _ = reported _ _ _ refl

-- ---- a line that is served

module _ (A R K : Type 0) (users : Users) (view : View) (moment : ℕ) where
  -- a call for a line
  abbrev pub CallFor : Item → Call K → Type 0
  CallFor item call = (line : Line) × (item ≡ Ok line) × IsAllowedFor users view (rule line).row call

  abbrev pub EndFor : List ℕ → View → List (Action A R K) → Type 0
  EndFor = Fine A R K view 1

  again : (conditions : Conditions) (admitted : List ℕ) (after : View) (actions : List (Action A R K)) → EndFor admitted after actions → EndFor admitted (left conditions after) actions
  again conditions admitted after actions is = record { unprepared = is.unprepared; asks = is.asks; floors = is.floors }

  refusing : (why : Refusal) → EndFor [] (record view { source = None }) (action.Say (answer.Refusal why) ∷ [])
  refusing why = record { unprepared = λ _. refl; asks = omega arith; floors = inl (refl, refl) }

  pub served_fine : (item : Item) → Always (CallFor item) (UserFor A R K users view item) EndFor [] (served {A = A} {R = R} {K = K} users view moment item)
  served_fine (Err why) = record { unprepared = λ _. refl; asks = omega arith; floors = inl (refl, refl) }
  served_fine (Ok line) =
      let rule = rule line in
      always_left (CallFor (Ok line)) (UserFor A R K users view (Ok line)) EndFor (left rule.conditions) [] (ruled users view moment rule)
      (always_to (IsAllowedFor users view rule.row) (CallFor (Ok line)) (UserFor A R K users view (Ok line)) (UserFor A R K users view (Ok line)) EndFor (λ admitted after actions. EndFor admitted (left rule.conditions after) actions)
      (λ call allowed. (line, refl, allowed)) (λ user asks. asks) (again rule.conditions) [] (ruled users view moment rule)
      (ruled_has A R K users view moment (UserFor A R K users view (Ok line)) EndFor refusing rule (row_fine A R K users view moment line)))
