-- Rows of the table that make no call of the store: logins, parameters, data connections.
use Rattle.std.specs.Prelude.{ℕ, ◌-◌, ◌==◌, ◌&&◌, ◌||◌, Bool, true, false, cond, not, List, [], ◌∷◌, ◌++◌, Option, Some, None, codes, bytes_eq, nat_le, nat_lt, option_map, unwrap_or}
use Rattle.std.specs.FinMap as map
use Rattle.std.specs.Fmt.{decimal}
use Rattle.authorizer.specs.Changes.{is_password}
use Rattle.authorizer.specs.Users.{Users}
use Rattle.ftp_reply.specs.Quoting.{quoted}
use Rattle.ftp_reply.specs.Replies.{OneLine, SeveralLines}
use Rattle.ftp_terms.specs.declared.data_type.DataType.{DataType}
use Rattle.ftp_terms.specs.declared.data_type.DataType.TheVariants as data_type
use Rattle.ftp_wire.specs.declared.commands.ExtendedPassive.{ExtendedPassive}
use Rattle.ftp_wire.specs.declared.commands.ExtendedPassive.TheVariants as extended
use Rattle.ftp_wire.specs.declared.commands.ExtendedPort.{ExtendedPort}
use Rattle.ftp_wire.specs.declared.commands.ExtendedPort.TheVariants as port
use Rattle.ftp_terms.specs.declared.facts.Facts.{Facts}
use Rattle.ftp_wire.specs.declared.commands.FeatureOption.{FeatureOption}
use Rattle.ftp_wire.specs.declared.commands.FeatureOption.TheVariants as option
use Rattle.ftp_wire.specs.declared.commands.HostPort.{HostPort}
use Rattle.ftp_wire.specs.Written.{facts_text, has_facts, starred_facts_text}
use Rattle.virtual_path.specs.Path.{path_text}
use Rattle.session_table.specs.declared.actions.Action.{Action}
use Rattle.session_table.specs.declared.actions.Action.TheVariants as action
use Rattle.session_table.specs.declared.actions.HookCall.TheVariants as hook
use Rattle.session_table.specs.declared.answers.Answer.{Answer}
use Rattle.session_table.specs.declared.answers.Answer.TheVariants as answer
use Rattle.session_table.specs.declared.notices.Notice.{Notice}
use Rattle.session_table.specs.declared.notices.Notice.TheVariants as notice
use Rattle.session_table.specs.declared.refusals.Refusal.{Refusal}
use Rattle.session_table.specs.declared.refusals.Refusal.TheVariants as refusal
use Rattle.session_table.specs.declared.stages.Control.TheVariants.{Closing}
use Rattle.session_table.specs.declared.stages.Passive.{Passive}
use Rattle.session_table.specs.declared.stages.Passive.TheVariants.{Plain, Extended}
use Rattle.session_table.specs.declared.stages.Stage.{Stage}
use Rattle.session_table.specs.declared.stages.Stage.TheVariants as stage
use Rattle.session_table.specs.Judged.{first_refusal}
use Rattle.session_table.specs.Plans.{Plan}
use Rattle.session_table.specs.Plans.Plan.{Then, AskAdmit}
use Rattle.session_table.specs.Views.{View, aborted, anew, has_transfer, is_inside}
use Rattle.session_table.specs.declared.stages.Work.TheVariants.{AwaitsPort}

abbrev pub is_ascii : DataType → Bool
is_ascii data_type.Ascii = true
is_ascii _ = false

-- the features in the reply to FEAT (RFC 2389, section 3.2)
abbrev pub features : Facts → List (List ℕ)
features facts = codes " EPRT" ∷ codes " EPSV" ∷ codes " MDTM"
    ∷ (codes " MLST " ++ starred_facts_text facts)
    ∷ codes " REST STREAM" ∷ codes " SIZE" ∷ codes " UTF8" ∷ []

abbrev pub number_of : Users → List ℕ → ℕ
number_of users name = unwrap_or (option_map (λ user. user.number) (map.get users name)) 0

abbrev pub login_message : Users → List ℕ → List ℕ
login_message users name = unwrap_or (option_map (λ user. user.login) (map.get users name)) []

abbrev pub is_foreign : View → HostPort → Bool
is_foreign view to = not (bytes_eq to.address view.peer) && not view.permits_foreign_addresses

abbrev pub is_privileged : View → HostPort → Bool
is_privileged view to = (to.port == 0) || (nat_lt to.port 1024 && not view.permits_privileged_ports)

abbrev pub quit_message : Users → List ℕ → Option (List ℕ)
quit_message users name = option_map (λ user. user.quit) (map.get users name)

-- 8 of PORT and EPRT: the refusal of an address
unfoldable pub port_refusal : View → HostPort → Option Refusal
port_refusal view to =
    first_refusal ((is_foreign view to, refusal.ForeignAddress)
    ∷ (is_privileged view to, refusal.PrivilegedPort) ∷ [])

-- an offset counts the octets of the file (RFC 3659, section 5.2)
abbrev pub needs_image : View → ℕ → Bool
needs_image view offset = nat_lt 0 offset && is_ascii view.data_type

-- the next wrong password is the last
abbrev pub is_last_attempt : View → Bool
is_last_attempt view = nat_le view.attempts_left 1

module _ {A : Type 0} where
  abbrev pub facts_answer : Facts → Answer A
  facts_answer facts =
      cond (has_facts facts) (answer.Made (OneLine 200 (codes "MLST OPTS " ++ facts_text facts)))
      (answer.Notice notice.NoFactsInForce)

  -- the reply to QUIT, by the user's message; a removed user has none
  abbrev pub goodbye_reply_of : Option (List ℕ) → Answer A
  goodbye_reply_of None = answer.Notice notice.Goodbye
  goodbye_reply_of (Some message) = answer.Made (OneLine 221 message)

  abbrev pub goodbye_reply : Users → View → Answer A
  goodbye_reply users view =
      cond (is_inside view.stage) (goodbye_reply_of (quit_message users view.name))
      (answer.Notice notice.Goodbye)

module _ {A R K : Type 0} where
  -- one reply
  abbrev pub reports : View → Answer A → Plan A R K
  reports view reply = Then view (action.Say reply ∷ [])

  abbrev pub notes : View → Notice → Plan A R K
  notes view what = reports view (answer.Notice what)

  -- a refused command; the path that RNFR named is forgotten
  abbrev pub refuses : View → Refusal → Plan A R K
  refuses view why = reports (record view { source = None }) (answer.Refusal why)

  -- the user who is logged in, if any, leaves
  abbrev pub leaves : View → List (Action A R K)
  leaves view =
      cond (is_inside view.stage)
      (action.Hook (hook.Logout view.name) ∷ action.ReleaseFloor view.number ∷ []) []

  abbrev pub drops : View → List (Action A R K)
  drops view = cond view.prepared (action.DropData ∷ []) []

  -- the greeting
  abbrev pub greeting : View → Plan A R K
  greeting view =
      Then view (action.Say (answer.Made (OneLine 220 view.banner)) ∷ action.Hook hook.Connect ∷ [])

  -- the user leaves, and all parameters are those of a new client
  abbrev pub restarts : View → List ℕ → Stage → Answer A → Plan A R K
  restarts view name next reply = Then (record (anew view) { stage = next; name = name })
      (leaves view ++ (action.Say reply ∷ []) ++ drops view)

  abbrev pub user_row : View → List ℕ → Plan A R K
  user_row view name = restarts view name stage.Named (answer.Notice notice.PasswordRequired)

  abbrev pub rein_row : View → Plan A R K
  rein_row view = restarts view [] stage.Greeted (answer.Made (OneLine 220 view.banner))

  -- after other actions: the farewell, the leave of the user, and the close
  abbrev pub parts : View → Answer A → List (Action A R K) → Plan A R K
  parts view reply before =
      Then (record view { stage = stage.Greeted; name = []; control = Closing })
      (before ++ (action.Say reply ∷ []) ++ leaves view ++ (action.CloseControl ∷ []))

  abbrev pub quit_row : Users → View → Plan A R K
  quit_row users view = parts view (goodbye_reply users view) []

  -- a right password: the session is admitted and counted, unless its guaranteed rate no longer
  -- fits
  abbrev pub enters : Users → View → Bool → Plan A R K
  enters users view true =
      Then (record view { stage = stage.Inside; number = number_of users view.name })
      (action.Say (answer.Made (OneLine 230 (login_message users view.name)))
      ∷ action.Hook (hook.Login view.name) ∷ [])
  enters users view false =
      Then (record view { control = Closing })
      (action.Say (answer.Refusal refusal.NoGuarantee) ∷ action.CloseControl ∷ [])

  -- a wrong password
  abbrev pub turned_away : View → Plan A R K
  turned_away view = cond (is_last_attempt view)
      (Then (record view { attempts_left = 0; control = Closing })
      (action.Hook (hook.LoginFailed view.name) ∷ action.Say (answer.Refusal refusal.TooManyLogins)
      ∷ action.CloseControl ∷ []))
      (Then (record view { attempts_left = view.attempts_left - 1; stage = stage.Greeted })
      (action.Hook (hook.LoginFailed view.name) ∷ action.Say (answer.Refusal refusal.LoginIncorrect)
      ∷ []))

  abbrev pub pass_by : Users → View → List ℕ → Stage → Plan A R K
  pass_by users view password stage.Greeted = refuses view refusal.NoName
  pass_by users view password stage.Named = cond (is_password users view.name password)
      (AskAdmit (number_of users view.name) (enters users view)) (turned_away view)
  pass_by users view password stage.Inside = refuses view refusal.AlreadyInside
  pass_by users view password stage.Closed = refuses view refusal.NoName

  abbrev pub pass_row : Users → View → List ℕ → Plan A R K
  pass_row users view password = pass_by users view password view.stage

  abbrev pub type_row : View → DataType → Plan A R K
  type_row view wanted =
      notes (record view { data_type = wanted; offset = 0 }) (notice.TypeIs wanted)

  abbrev pub rest_row : View → ℕ → Plan A R K
  rest_row view offset = cond (needs_image view offset) (refuses view refusal.OffsetNeedsImage)
      (reports (record view { offset = offset })
      (answer.Made (OneLine 350 (codes "Restart at " ++ decimal offset))))

  abbrev pub facts_row : View → Facts → Plan A R K
  facts_row view facts = reports (record view { facts = facts }) (facts_answer facts)

  abbrev pub opts_row : View → FeatureOption → Plan A R K
  opts_row view option.Utf8On = notes view notice.Utf8IsOn
  opts_row view (option.Mlst facts) = facts_row view facts

  abbrev pub feat_row : View → Plan A R K
  feat_row view =
      reports view (answer.Made (SeveralLines 211 (codes "Features") (features view.facts)
      (codes "End")))

  abbrev pub pwd_row : View → Plan A R K
  pwd_row view = reports view (answer.Made (OneLine 257 (quoted (path_text view.cwd))))

  -- STAT without an argument
  abbrev pub status_row : View → Plan A R K
  status_row view =
      notes view (cond (has_transfer view.work) notice.TransferInProgress notice.NoTransfer)

  abbrev pub abor_row : View → Plan A R K
  abor_row view = cond (has_transfer view.work)
      (Then (record view { work = aborted view.work })
      (action.Say (answer.Refusal refusal.TransferAborted) ∷ action.Abort
      ∷ action.Say (answer.Notice notice.AbortDone) ∷ []))
      (notes view notice.NothingToAbort)

  abbrev pub port_by : View → HostPort → Option Refusal → Plan A R K
  port_by view to (Some why) = refuses view why
  port_by view to None =
      Then (record view { prepared = true })
      (action.Say (answer.Notice notice.Fine) ∷ action.ConnectTo to ∷ [])

  abbrev pub port_row : View → HostPort → Plan A R K
  port_row view to = port_by view to (port_refusal view to)

  abbrev pub eprt_row : View → ExtendedPort → Plan A R K
  eprt_row view (port.Ipv4 to) = port_row view to
  eprt_row view (port.Unsupported protocol) = refuses view refusal.OtherProtocol

  abbrev pub opens : View → Passive → Plan A R K
  opens view passive =
      Then (record view { prepared = false; work = AwaitsPort passive }) (action.OpenPassive ∷ [])

  abbrev pub pasv_row : View → Plan A R K
  pasv_row view = opens view Plain

  abbrev pub epsv_row : View → ExtendedPassive → Plan A R K
  epsv_row view extended.Same = opens view Extended
  epsv_row view extended.All = notes (record view { only_extended = true }) notice.OnlyExtended
  epsv_row view (extended.Protocol protocol) =
      cond (protocol == 1) (opens view Extended) (refuses view refusal.OtherProtocol)
