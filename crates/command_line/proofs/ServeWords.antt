-- The words of `serve` are taken, and what the parser then holds of them: the walk over them, word by word.
use Rattle.std.proofs.Common.{◌∙◌, ap, refl, codes, true, false, ◌≡◌, ◌==◌, ℕ, List, [], ◌∷◌, None, Some}
use Rattle.std.specs.Prelude.{unwrap_or}
use Rattle.std.specs.List.{find, list_all}
use Rattle.std.proofs.lemmas.Bool.{ne_eqb}
use Rattle.clap.specs.Takes.{default_passes, is_valid, level_passes, settle_passes, turn_passes}
use Rattle.clap.specs.Walk.{Row, Rule, Text, Walk, answers_to, finished, first_of, nothing_held, rows_after, walk, walk_from, walked}
use Rattle.clap.specs.Simple.{Shape, built, label_of, names_of, new_shape}
use Rattle.clap.specs.Words.{is_simple, subcommand_of, takes}
use Rattle.clap.proofs.OnLiterals.{clap_on_literals}
use Rattle.clap.specs.declared.builder.value_parser.Reading.TheVariants.{AsWritten}
use Rattle.clap.specs.declared.parser.matches.ValueSource.TheVariants.{DefaultValue}
use Rattle.command_line.proofs.CommandWalk.{Turns, Walks, and_then, by_level, ends, level, row, turn, valued, waiting_for}
use Rattle.command_line.specs.Commands.{ftpd}
use Rattle.command_line.specs.Given.{IsPlainWord, logged_words, ready_words, status_words}
use Rattle.command_line.specs.Timed.{timed_words}

-- `serve`, as the parser completes it, and its rules
abbrev serving : Shape
serving = unwrap_or (find (λ s. answers_to (codes "serve") (label_of s)) (built ftpd).subs) (new_shape [])

abbrev rules : List Rule
rules = serving.rules

-- ---- steps of a walk

config_passes : (b : ℕ) (bs : List ℕ) → (b == 45) ≡ false → turn_passes serving [] (walk_from nothing_held) (b ∷ bs) ≡ true
unfolding clap_on_literals
config_passes b bs ne = simp ne refl

config_leads : (b : ℕ) (bs : List ℕ) → (b == 45) ≡ false → walked rules [] (walk_from nothing_held) (b ∷ bs) ≡ valued [] (codes "CONFIG") (b ∷ bs)
unfolding clap_on_literals
config_leads b bs ne = simp ne refl

config_turns : (word : Text) → IsPlainWord word → Turns serving (walk_from nothing_held) (valued [] (codes "CONFIG") word) word
config_turns [] plain = absurd plain
config_turns (b ∷ bs) plain = record { passes = config_passes b bs (ne_eqb _ _ plain); leads = config_leads b bs (ne_eqb _ _ plain) }

stop_flag_passes : (config : Text) → turn_passes serving [] (valued [] (codes "CONFIG") config) (codes "--stop-file") ≡ true
unfolding clap_on_literals
stop_flag_passes config = refl

stop_flag_leads : (config : Text) → walked rules [] (valued [] (codes "CONFIG") config) (codes "--stop-file") ≡ waiting_for (row (codes "CONFIG") config ∷ []) (codes "stop-file")
unfolding clap_on_literals
stop_flag_leads config = refl

stop_value_passes : (rows : List Row) (b : ℕ) (bs : List ℕ) → (b == 45) ≡ false → turn_passes serving [] (waiting_for rows (codes "stop-file")) (b ∷ bs) ≡ true
unfolding clap_on_literals
stop_value_passes rows b bs ne = simp ne refl

stop_value_leads : (rows : List Row) (b : ℕ) (bs : List ℕ) → (b == 45) ≡ false → walked rules [] (waiting_for rows (codes "stop-file")) (b ∷ bs) ≡ valued rows (codes "stop-file") (b ∷ bs)
unfolding clap_on_literals
stop_value_leads rows b bs ne = simp ne refl

stop_turns : (rows : List Row) (word : Text) → IsPlainWord word → Turns serving (waiting_for rows (codes "stop-file")) (valued rows (codes "stop-file") word) word
stop_turns rows [] plain = absurd plain
stop_turns rows (b ∷ bs) plain = record { passes = stop_value_passes rows b bs (ne_eqb _ _ plain); leads = stop_value_leads rows b bs (ne_eqb _ _ plain) }

ready_flag_passes : (config path : Text) → turn_passes serving [] (valued (row (codes "CONFIG") config ∷ []) (codes "stop-file") path) (codes "--ready-file") ≡ true
unfolding clap_on_literals
ready_flag_passes config path = refl

ready_flag_leads : (config path : Text) → walked rules [] (valued (row (codes "CONFIG") config ∷ []) (codes "stop-file") path) (codes "--ready-file") ≡ waiting_for (row (codes "CONFIG") config ∷ row (codes "stop-file") path ∷ []) (codes "ready-file")
unfolding clap_on_literals
ready_flag_leads config path = refl

ready_value_passes : (rows : List Row) (b : ℕ) (bs : List ℕ) → (b == 45) ≡ false → turn_passes serving [] (waiting_for rows (codes "ready-file")) (b ∷ bs) ≡ true
unfolding clap_on_literals
ready_value_passes rows b bs ne = simp ne refl

ready_value_leads : (rows : List Row) (b : ℕ) (bs : List ℕ) → (b == 45) ≡ false → walked rules [] (waiting_for rows (codes "ready-file")) (b ∷ bs) ≡ valued rows (codes "ready-file") (b ∷ bs)
unfolding clap_on_literals
ready_value_leads rows b bs ne = simp ne refl

ready_turns : (rows : List Row) (word : Text) → IsPlainWord word → Turns serving (waiting_for rows (codes "ready-file")) (valued rows (codes "ready-file") word) word
ready_turns rows [] plain = absurd plain
ready_turns rows (b ∷ bs) plain = record { passes = ready_value_passes rows b bs (ne_eqb _ _ plain); leads = ready_value_leads rows b bs (ne_eqb _ _ plain) }

log_flag_passes : (config : Text) → turn_passes serving [] (valued [] (codes "CONFIG") config) (codes "--transfer-log") ≡ true
unfolding clap_on_literals
log_flag_passes config = refl

log_flag_leads : (config : Text) → walked rules [] (valued [] (codes "CONFIG") config) (codes "--transfer-log") ≡ waiting_for (row (codes "CONFIG") config ∷ []) (codes "transfer-log")
unfolding clap_on_literals
log_flag_leads config = refl

log_value_passes : (rows : List Row) (b : ℕ) (bs : List ℕ) → (b == 45) ≡ false → turn_passes serving [] (waiting_for rows (codes "transfer-log")) (b ∷ bs) ≡ true
unfolding clap_on_literals
log_value_passes rows b bs ne = simp ne refl

log_value_leads : (rows : List Row) (b : ℕ) (bs : List ℕ) → (b == 45) ≡ false → walked rules [] (waiting_for rows (codes "transfer-log")) (b ∷ bs) ≡ valued rows (codes "transfer-log") (b ∷ bs)
unfolding clap_on_literals
log_value_leads rows b bs ne = simp ne refl

log_turns : (rows : List Row) (word : Text) → IsPlainWord word → Turns serving (waiting_for rows (codes "transfer-log")) (valued rows (codes "transfer-log") word) word
log_turns rows [] plain = absurd plain
log_turns rows (b ∷ bs) plain = record { passes = log_value_passes rows b bs (ne_eqb _ _ plain); leads = log_value_leads rows b bs (ne_eqb _ _ plain) }

form_flag_passes : (config path : Text) → turn_passes serving [] (valued (row (codes "CONFIG") config ∷ []) (codes "transfer-log") path) (codes "--log-form") ≡ true
unfolding clap_on_literals
form_flag_passes config path = refl

form_flag_leads : (config path : Text) → walked rules [] (valued (row (codes "CONFIG") config ∷ []) (codes "transfer-log") path) (codes "--log-form") ≡ waiting_for (row (codes "CONFIG") config ∷ row (codes "transfer-log") path ∷ []) (codes "log-form")
unfolding clap_on_literals
form_flag_leads config path = refl

form_value_passes : (rows : List Row) (b : ℕ) (bs : List ℕ) → (b == 45) ≡ false → turn_passes serving [] (waiting_for rows (codes "log-form")) (b ∷ bs) ≡ true
unfolding clap_on_literals
form_value_passes rows b bs ne = simp ne refl

form_value_leads : (rows : List Row) (b : ℕ) (bs : List ℕ) → (b == 45) ≡ false → walked rules [] (waiting_for rows (codes "log-form")) (b ∷ bs) ≡ valued rows (codes "log-form") (b ∷ bs)
unfolding clap_on_literals
form_value_leads rows b bs ne = simp ne refl

form_turns : (rows : List Row) (word : Text) → IsPlainWord word → Turns serving (waiting_for rows (codes "log-form")) (valued rows (codes "log-form") word) word
form_turns rows [] plain = absurd plain
form_turns rows (b ∷ bs) plain = record { passes = form_value_passes rows b bs (ne_eqb _ _ plain); leads = form_value_leads rows b bs (ne_eqb _ _ plain) }

status_flag_passes : (config : Text) → turn_passes serving [] (valued [] (codes "CONFIG") config) (codes "--status") ≡ true
unfolding clap_on_literals
status_flag_passes config = refl

status_flag_leads : (config : Text) → walked rules [] (valued [] (codes "CONFIG") config) (codes "--status") ≡ waiting_for (row (codes "CONFIG") config ∷ []) (codes "status")
unfolding clap_on_literals
status_flag_leads config = refl

status_value_passes : (rows : List Row) (b : ℕ) (bs : List ℕ) → (b == 45) ≡ false → turn_passes serving [] (waiting_for rows (codes "status")) (b ∷ bs) ≡ true
unfolding clap_on_literals
status_value_passes rows b bs ne = simp ne refl

status_value_leads : (rows : List Row) (b : ℕ) (bs : List ℕ) → (b == 45) ≡ false → walked rules [] (waiting_for rows (codes "status")) (b ∷ bs) ≡ valued rows (codes "status") (b ∷ bs)
unfolding clap_on_literals
status_value_leads rows b bs ne = simp ne refl

status_turns : (rows : List Row) (word : Text) → IsPlainWord word → Turns serving (waiting_for rows (codes "status")) (valued rows (codes "status") word) word
status_turns rows [] plain = absurd plain
status_turns rows (b ∷ bs) plain = record { passes = status_value_passes rows b bs (ne_eqb _ _ plain); leads = status_value_leads rows b bs (ne_eqb _ _ plain) }

port_flag_passes : (config path : Text) → turn_passes serving [] (valued (row (codes "CONFIG") config ∷ []) (codes "status") path) (codes "--status-port") ≡ true
unfolding clap_on_literals
port_flag_passes config path = refl

port_flag_leads : (config path : Text) → walked rules [] (valued (row (codes "CONFIG") config ∷ []) (codes "status") path) (codes "--status-port") ≡ waiting_for (row (codes "CONFIG") config ∷ row (codes "status") path ∷ []) (codes "status-port")
unfolding clap_on_literals
port_flag_leads config path = refl

port_value_passes : (rows : List Row) (b : ℕ) (bs : List ℕ) → (b == 45) ≡ false → turn_passes serving [] (waiting_for rows (codes "status-port")) (b ∷ bs) ≡ true
unfolding clap_on_literals
port_value_passes rows b bs ne = simp ne refl

port_value_leads : (rows : List Row) (b : ℕ) (bs : List ℕ) → (b == 45) ≡ false → walked rules [] (waiting_for rows (codes "status-port")) (b ∷ bs) ≡ valued rows (codes "status-port") (b ∷ bs)
unfolding clap_on_literals
port_value_leads rows b bs ne = simp ne refl

port_turns : (rows : List Row) (word : Text) → IsPlainWord word → Turns serving (waiting_for rows (codes "status-port")) (valued rows (codes "status-port") word) word
port_turns rows [] plain = absurd plain
port_turns rows (b ∷ bs) plain = record { passes = port_value_passes rows b bs (ne_eqb _ _ plain); leads = port_value_leads rows b bs (ne_eqb _ _ plain) }

login_flag_passes : (config : Text) → turn_passes serving [] (valued [] (codes "CONFIG") config) (codes "--login-timeout") ≡ true
unfolding clap_on_literals
login_flag_passes config = refl

login_flag_leads : (config : Text) → walked rules [] (valued [] (codes "CONFIG") config) (codes "--login-timeout") ≡ waiting_for (row (codes "CONFIG") config ∷ []) (codes "login-timeout")
unfolding clap_on_literals
login_flag_leads config = refl

login_value_passes : (rows : List Row) (b : ℕ) (bs : List ℕ) → (b == 45) ≡ false → turn_passes serving [] (waiting_for rows (codes "login-timeout")) (b ∷ bs) ≡ true
unfolding clap_on_literals
login_value_passes rows b bs ne = simp ne refl

login_value_leads : (rows : List Row) (b : ℕ) (bs : List ℕ) → (b == 45) ≡ false → walked rules [] (waiting_for rows (codes "login-timeout")) (b ∷ bs) ≡ valued rows (codes "login-timeout") (b ∷ bs)
unfolding clap_on_literals
login_value_leads rows b bs ne = simp ne refl

login_turns : (rows : List Row) (word : Text) → IsPlainWord word → Turns serving (waiting_for rows (codes "login-timeout")) (valued rows (codes "login-timeout") word) word
login_turns rows [] plain = absurd plain
login_turns rows (b ∷ bs) plain = record { passes = login_value_passes rows b bs (ne_eqb _ _ plain); leads = login_value_leads rows b bs (ne_eqb _ _ plain) }

idle_flag_passes : (config login : Text) → turn_passes serving [] (valued (row (codes "CONFIG") config ∷ []) (codes "login-timeout") login) (codes "--idle-timeout") ≡ true
unfolding clap_on_literals
idle_flag_passes config login = refl

idle_flag_leads : (config login : Text) → walked rules [] (valued (row (codes "CONFIG") config ∷ []) (codes "login-timeout") login) (codes "--idle-timeout") ≡ waiting_for (row (codes "CONFIG") config ∷ row (codes "login-timeout") login ∷ []) (codes "idle-timeout")
unfolding clap_on_literals
idle_flag_leads config login = refl

idle_value_passes : (rows : List Row) (b : ℕ) (bs : List ℕ) → (b == 45) ≡ false → turn_passes serving [] (waiting_for rows (codes "idle-timeout")) (b ∷ bs) ≡ true
unfolding clap_on_literals
idle_value_passes rows b bs ne = simp ne refl

idle_value_leads : (rows : List Row) (b : ℕ) (bs : List ℕ) → (b == 45) ≡ false → walked rules [] (waiting_for rows (codes "idle-timeout")) (b ∷ bs) ≡ valued rows (codes "idle-timeout") (b ∷ bs)
unfolding clap_on_literals
idle_value_leads rows b bs ne = simp ne refl

idle_turns : (rows : List Row) (word : Text) → IsPlainWord word → Turns serving (waiting_for rows (codes "idle-timeout")) (valued rows (codes "idle-timeout") word) word
idle_turns rows [] plain = absurd plain
idle_turns rows (b ∷ bs) plain = record { passes = idle_value_passes rows b bs (ne_eqb _ _ plain); leads = idle_value_leads rows b bs (ne_eqb _ _ plain) }

delay_flag_passes : (config login idle_time : Text) → turn_passes serving [] (valued (row (codes "CONFIG") config ∷ row (codes "login-timeout") login ∷ []) (codes "idle-timeout") idle_time) (codes "--login-delay") ≡ true
unfolding clap_on_literals
delay_flag_passes config login idle_time = refl

delay_flag_leads : (config login idle_time : Text) → walked rules [] (valued (row (codes "CONFIG") config ∷ row (codes "login-timeout") login ∷ []) (codes "idle-timeout") idle_time) (codes "--login-delay") ≡ waiting_for (row (codes "CONFIG") config ∷ row (codes "login-timeout") login ∷ row (codes "idle-timeout") idle_time ∷ []) (codes "login-delay")
unfolding clap_on_literals
delay_flag_leads config login idle_time = refl

delay_value_passes : (rows : List Row) (b : ℕ) (bs : List ℕ) → (b == 45) ≡ false → turn_passes serving [] (waiting_for rows (codes "login-delay")) (b ∷ bs) ≡ true
unfolding clap_on_literals
delay_value_passes rows b bs ne = simp ne refl

delay_value_leads : (rows : List Row) (b : ℕ) (bs : List ℕ) → (b == 45) ≡ false → walked rules [] (waiting_for rows (codes "login-delay")) (b ∷ bs) ≡ valued rows (codes "login-delay") (b ∷ bs)
unfolding clap_on_literals
delay_value_leads rows b bs ne = simp ne refl

delay_turns : (rows : List Row) (word : Text) → IsPlainWord word → Turns serving (waiting_for rows (codes "login-delay")) (valued rows (codes "login-delay") word) word
delay_turns rows [] plain = absurd plain
delay_turns rows (b ∷ bs) plain = record { passes = delay_value_passes rows b bs (ne_eqb _ _ plain); leads = delay_value_leads rows b bs (ne_eqb _ _ plain) }

drain_flag_passes : (config login idle_time delay : Text) → turn_passes serving [] (valued (row (codes "CONFIG") config ∷ row (codes "login-timeout") login ∷ row (codes "idle-timeout") idle_time ∷ []) (codes "login-delay") delay) (codes "--drain-seconds") ≡ true
unfolding clap_on_literals
drain_flag_passes config login idle_time delay = refl

drain_flag_leads : (config login idle_time delay : Text) → walked rules [] (valued (row (codes "CONFIG") config ∷ row (codes "login-timeout") login ∷ row (codes "idle-timeout") idle_time ∷ []) (codes "login-delay") delay) (codes "--drain-seconds") ≡ waiting_for (row (codes "CONFIG") config ∷ row (codes "login-timeout") login ∷ row (codes "idle-timeout") idle_time ∷ row (codes "login-delay") delay ∷ []) (codes "drain-seconds")
unfolding clap_on_literals
drain_flag_leads config login idle_time delay = refl

drain_value_passes : (rows : List Row) (b : ℕ) (bs : List ℕ) → (b == 45) ≡ false → turn_passes serving [] (waiting_for rows (codes "drain-seconds")) (b ∷ bs) ≡ true
unfolding clap_on_literals
drain_value_passes rows b bs ne = simp ne refl

drain_value_leads : (rows : List Row) (b : ℕ) (bs : List ℕ) → (b == 45) ≡ false → walked rules [] (waiting_for rows (codes "drain-seconds")) (b ∷ bs) ≡ valued rows (codes "drain-seconds") (b ∷ bs)
unfolding clap_on_literals
drain_value_leads rows b bs ne = simp ne refl

drain_turns : (rows : List Row) (word : Text) → IsPlainWord word → Turns serving (waiting_for rows (codes "drain-seconds")) (valued rows (codes "drain-seconds") word) word
drain_turns rows [] plain = absurd plain
drain_turns rows (b ∷ bs) plain = record { passes = drain_value_passes rows b bs (ne_eqb _ _ plain); leads = drain_value_leads rows b bs (ne_eqb _ _ plain) }

-- ---- a walk over words, one after another

plain_walks : (config : Text) → IsPlainWord config → Walks serving (walk_from nothing_held) (valued [] (codes "CONFIG") config) (config ∷ [])
plain_walks config plain =
    let first = config_turns config plain in
    turn serving _ _ _ _ _ first.passes first.leads (ends serving _)

until_walks : (config path : Text) → IsPlainWord config → IsPlainWord path
    → Walks serving (walk_from nothing_held) (valued (row (codes "CONFIG") config ∷ []) (codes "stop-file") path) (config ∷ codes "--stop-file" ∷ path ∷ [])
until_walks config path plain also =
    let first = config_turns config plain in
    let last = stop_turns (row (codes "CONFIG") config ∷ []) path also in
    turn serving _ _ _ _ _ first.passes first.leads
    (turn serving _ _ _ _ _ (stop_flag_passes config) (stop_flag_leads config)
    (turn serving _ _ _ _ _ last.passes last.leads (ends serving _)))

ready_walks : (config path ready : Text) → IsPlainWord config → IsPlainWord path → IsPlainWord ready
    → Walks serving (walk_from nothing_held) (valued (row (codes "CONFIG") config ∷ row (codes "stop-file") path ∷ []) (codes "ready-file") ready)
    (config ∷ codes "--stop-file" ∷ path ∷ codes "--ready-file" ∷ ready ∷ [])
ready_walks config path ready plain also third =
    let first = config_turns config plain in
    let one = stop_turns (row (codes "CONFIG") config ∷ []) path also in
    let two = ready_turns (row (codes "CONFIG") config ∷ row (codes "stop-file") path ∷ []) ready third in
    turn serving _ _ _ _ _ first.passes first.leads
    (turn serving _ _ _ _ _ (stop_flag_passes config) (stop_flag_leads config)
    (turn serving _ _ _ _ _ one.passes one.leads
    (turn serving _ _ _ _ _ (ready_flag_passes config path) (ready_flag_leads config path)
    (turn serving _ _ _ _ _ two.passes two.leads (ends serving _)))))

logged_walks : (config path form : Text) → IsPlainWord config → IsPlainWord path → IsPlainWord form
    → Walks serving (walk_from nothing_held) (valued (row (codes "CONFIG") config ∷ row (codes "transfer-log") path ∷ []) (codes "log-form") form)
    (config ∷ codes "--transfer-log" ∷ path ∷ codes "--log-form" ∷ form ∷ [])
logged_walks config path form plain also third =
    let first = config_turns config plain in
    let one = log_turns (row (codes "CONFIG") config ∷ []) path also in
    let two = form_turns (row (codes "CONFIG") config ∷ row (codes "transfer-log") path ∷ []) form third in
    turn serving _ _ _ _ _ first.passes first.leads
    (turn serving _ _ _ _ _ (log_flag_passes config) (log_flag_leads config)
    (turn serving _ _ _ _ _ one.passes one.leads
    (turn serving _ _ _ _ _ (form_flag_passes config path) (form_flag_leads config path)
    (turn serving _ _ _ _ _ two.passes two.leads (ends serving _)))))

status_walks : (config path port : Text) → IsPlainWord config → IsPlainWord path → IsPlainWord port
    → Walks serving (walk_from nothing_held) (valued (row (codes "CONFIG") config ∷ row (codes "status") path ∷ []) (codes "status-port") port)
    (config ∷ codes "--status" ∷ path ∷ codes "--status-port" ∷ port ∷ [])
status_walks config path port plain also third =
    let first = config_turns config plain in
    let one = status_turns (row (codes "CONFIG") config ∷ []) path also in
    let two = port_turns (row (codes "CONFIG") config ∷ row (codes "status") path ∷ []) port third in
    turn serving _ _ _ _ _ first.passes first.leads
    (turn serving _ _ _ _ _ (status_flag_passes config) (status_flag_leads config)
    (turn serving _ _ _ _ _ one.passes one.leads
    (turn serving _ _ _ _ _ (port_flag_passes config path) (port_flag_leads config path)
    (turn serving _ _ _ _ _ two.passes two.leads (ends serving _)))))

timed_walks : (config login idle_time delay drain : Text) → IsPlainWord config → IsPlainWord login → IsPlainWord idle_time → IsPlainWord delay → IsPlainWord drain
    → Walks serving (walk_from nothing_held) (valued (row (codes "CONFIG") config ∷ row (codes "login-timeout") login ∷ row (codes "idle-timeout") idle_time ∷ row (codes "login-delay") delay ∷ []) (codes "drain-seconds") drain)
    (config ∷ codes "--login-timeout" ∷ login ∷ codes "--idle-timeout" ∷ idle_time ∷ codes "--login-delay" ∷ delay ∷ codes "--drain-seconds" ∷ drain ∷ [])
timed_walks config login idle_time delay drain plain second third fourth fifth =
    let first = config_turns config plain in
    let one = login_turns (row (codes "CONFIG") config ∷ []) login second in
    let two = idle_turns (row (codes "CONFIG") config ∷ row (codes "login-timeout") login ∷ []) idle_time third in
    let three = delay_turns (row (codes "CONFIG") config ∷ row (codes "login-timeout") login ∷ row (codes "idle-timeout") idle_time ∷ []) delay fourth in
    let four = drain_turns (row (codes "CONFIG") config ∷ row (codes "login-timeout") login ∷ row (codes "idle-timeout") idle_time ∷ row (codes "login-delay") delay ∷ []) drain fifth in
    turn serving _ _ _ _ _ first.passes first.leads
    (turn serving _ _ _ _ _ (login_flag_passes config) (login_flag_leads config)
    (turn serving _ _ _ _ _ one.passes one.leads
    (turn serving _ _ _ _ _ (idle_flag_passes config login) (idle_flag_leads config login)
    (turn serving _ _ _ _ _ two.passes two.leads
    (turn serving _ _ _ _ _ (delay_flag_passes config login idle_time) (delay_flag_leads config login idle_time)
    (turn serving _ _ _ _ _ three.passes three.leads
    (turn serving _ _ _ _ _ (drain_flag_passes config login idle_time delay) (drain_flag_leads config login idle_time delay)
    (turn serving _ _ _ _ _ four.passes four.leads (ends serving _)))))))))

-- ---- the words are taken

found_is : find (λ t. answers_to (codes "serve") (label_of t)) (built ftpd).subs ≡ Some serving
unfolding clap_on_literals
found_is = refl

simple : is_simple ftpd ≡ true
unfolding clap_on_literals
simple = refl

until_settles : (config path : Text) → settle_passes rules serving.args_override_self (valued (row (codes "CONFIG") config ∷ []) (codes "stop-file") path).held ≡ true
unfolding clap_on_literals
until_settles config path = refl

defaults_pass : list_all default_passes rules ≡ true
unfolding clap_on_literals
defaults_pass = refl

plain_settles : (config : Text) → settle_passes rules serving.args_override_self (valued [] (codes "CONFIG") config).held ≡ true
unfolding clap_on_literals
plain_settles config = refl

plain_valid : (config : Text) → is_valid serving (finished rules (valued [] (codes "CONFIG") config).held) false ≡ true
unfolding clap_on_literals
plain_valid config = refl

plain_stops : (config : Text) → (walk (built ftpd).top.rules (names_of (built ftpd)) nothing_held (codes "serve" ∷ config ∷ [])).stopped ≡ Some (codes "serve", config ∷ [])
unfolding clap_on_literals
plain_stops config = refl

plain_above : (config : Text) → level_passes (built ftpd).top (names_of (built ftpd)) nothing_held (codes "serve" ∷ config ∷ []) true ≡ true
unfolding clap_on_literals
plain_above config = refl

plain_taken : (config : Text) → IsPlainWord config → takes ftpd (codes "serve" ∷ config ∷ []) ≡ true
plain_taken config plain =
    let below = level serving _ _ (plain_walks config plain) (plain_settles config) defaults_pass (plain_valid config) in
    and_then _ _ simple (by_level (built ftpd) _ _ _ serving (plain_stops config) found_is below (plain_above config))

until_valid : (config path : Text) → is_valid serving (finished rules (valued (row (codes "CONFIG") config ∷ []) (codes "stop-file") path).held) false ≡ true
unfolding clap_on_literals
until_valid config path = refl

until_stops : (config path : Text) → (walk (built ftpd).top.rules (names_of (built ftpd)) nothing_held (codes "serve" ∷ config ∷ codes "--stop-file" ∷ path ∷ [])).stopped ≡ Some (codes "serve", config ∷ codes "--stop-file" ∷ path ∷ [])
unfolding clap_on_literals
until_stops config path = refl

until_above : (config path : Text) → level_passes (built ftpd).top (names_of (built ftpd)) nothing_held (codes "serve" ∷ config ∷ codes "--stop-file" ∷ path ∷ []) true ≡ true
unfolding clap_on_literals
until_above config path = refl

until_taken : (config path : Text) → IsPlainWord config → IsPlainWord path → takes ftpd (codes "serve" ∷ config ∷ codes "--stop-file" ∷ path ∷ []) ≡ true
until_taken config path plain also =
    let below = level serving _ _ (until_walks config path plain also) (until_settles config path) defaults_pass (until_valid config path) in
    and_then _ _ simple (by_level (built ftpd) _ _ _ serving (until_stops config path) found_is below (until_above config path))

ready_settles : (config path ready : Text) → settle_passes rules serving.args_override_self (valued (row (codes "CONFIG") config ∷ row (codes "stop-file") path ∷ []) (codes "ready-file") ready).held ≡ true
unfolding clap_on_literals
ready_settles config path ready = refl

ready_valid : (config path ready : Text) → is_valid serving (finished rules (valued (row (codes "CONFIG") config ∷ row (codes "stop-file") path ∷ []) (codes "ready-file") ready).held) false ≡ true
unfolding clap_on_literals
ready_valid config path ready = refl

ready_stops : (config path ready : Text)
    → (walk (built ftpd).top.rules (names_of (built ftpd)) nothing_held (ready_words config path ready)).stopped ≡ Some (codes "serve", config ∷ codes "--stop-file" ∷ path ∷ codes "--ready-file" ∷ ready ∷ [])
unfolding clap_on_literals
ready_stops config path ready = refl

ready_above : (config path ready : Text) → level_passes (built ftpd).top (names_of (built ftpd)) nothing_held (ready_words config path ready) true ≡ true
unfolding clap_on_literals
ready_above config path ready = refl

ready_taken : (config path ready : Text) → IsPlainWord config → IsPlainWord path → IsPlainWord ready → takes ftpd (ready_words config path ready) ≡ true
ready_taken config path ready plain also third =
    let below = level serving _ _ (ready_walks config path ready plain also third) (ready_settles config path ready) defaults_pass (ready_valid config path ready) in
    and_then _ _ simple (by_level (built ftpd) _ _ _ serving (ready_stops config path ready) found_is below (ready_above config path ready))

logged_settles : (config path form : Text) → settle_passes rules serving.args_override_self (valued (row (codes "CONFIG") config ∷ row (codes "transfer-log") path ∷ []) (codes "log-form") form).held ≡ true
unfolding clap_on_literals
logged_settles config path form = refl

logged_valid : (config path form : Text) → is_valid serving (finished rules (valued (row (codes "CONFIG") config ∷ row (codes "transfer-log") path ∷ []) (codes "log-form") form).held) false ≡ true
unfolding clap_on_literals
logged_valid config path form = refl

logged_stops : (config path form : Text)
    → (walk (built ftpd).top.rules (names_of (built ftpd)) nothing_held (logged_words config path form)).stopped ≡ Some (codes "serve", config ∷ codes "--transfer-log" ∷ path ∷ codes "--log-form" ∷ form ∷ [])
unfolding clap_on_literals
logged_stops config path form = refl

logged_above : (config path form : Text) → level_passes (built ftpd).top (names_of (built ftpd)) nothing_held (logged_words config path form) true ≡ true
unfolding clap_on_literals
logged_above config path form = refl

logged_taken : (config path form : Text) → IsPlainWord config → IsPlainWord path → IsPlainWord form → takes ftpd (logged_words config path form) ≡ true
logged_taken config path form plain also third =
    let below = level serving _ _ (logged_walks config path form plain also third) (logged_settles config path form) defaults_pass (logged_valid config path form) in
    and_then _ _ simple (by_level (built ftpd) _ _ _ serving (logged_stops config path form) found_is below (logged_above config path form))

status_settles : (config path port : Text) → settle_passes rules serving.args_override_self (valued (row (codes "CONFIG") config ∷ row (codes "status") path ∷ []) (codes "status-port") port).held ≡ true
unfolding clap_on_literals
status_settles config path port = refl

status_valid : (config path port : Text) → is_valid serving (finished rules (valued (row (codes "CONFIG") config ∷ row (codes "status") path ∷ []) (codes "status-port") port).held) false ≡ true
unfolding clap_on_literals
status_valid config path port = refl

status_stops : (config path port : Text)
    → (walk (built ftpd).top.rules (names_of (built ftpd)) nothing_held (status_words config path port)).stopped ≡ Some (codes "serve", config ∷ codes "--status" ∷ path ∷ codes "--status-port" ∷ port ∷ [])
unfolding clap_on_literals
status_stops config path port = refl

status_above : (config path port : Text) → level_passes (built ftpd).top (names_of (built ftpd)) nothing_held (status_words config path port) true ≡ true
unfolding clap_on_literals
status_above config path port = refl

status_taken : (config path port : Text) → IsPlainWord config → IsPlainWord path → IsPlainWord port → takes ftpd (status_words config path port) ≡ true
status_taken config path port plain also third =
    let below = level serving _ _ (status_walks config path port plain also third) (status_settles config path port) defaults_pass (status_valid config path port) in
    and_then _ _ simple (by_level (built ftpd) _ _ _ serving (status_stops config path port) found_is below (status_above config path port))

timed_settles : (config login idle_time delay drain : Text) → settle_passes rules serving.args_override_self (valued (row (codes "CONFIG") config ∷ row (codes "login-timeout") login ∷ row (codes "idle-timeout") idle_time ∷ row (codes "login-delay") delay ∷ []) (codes "drain-seconds") drain).held ≡ true
unfolding clap_on_literals
timed_settles config login idle_time delay drain = refl

timed_valid : (config login idle_time delay drain : Text) → is_valid serving (finished rules (valued (row (codes "CONFIG") config ∷ row (codes "login-timeout") login ∷ row (codes "idle-timeout") idle_time ∷ row (codes "login-delay") delay ∷ []) (codes "drain-seconds") drain).held) false ≡ true
unfolding clap_on_literals
timed_valid config login idle_time delay drain = refl

timed_stops : (config login idle_time delay drain : Text)
    → (walk (built ftpd).top.rules (names_of (built ftpd)) nothing_held (timed_words config login idle_time delay drain)).stopped ≡ Some (codes "serve", config ∷ codes "--login-timeout" ∷ login ∷ codes "--idle-timeout" ∷ idle_time ∷ codes "--login-delay" ∷ delay ∷ codes "--drain-seconds" ∷ drain ∷ [])
unfolding clap_on_literals
timed_stops config login idle_time delay drain = refl

timed_above : (config login idle_time delay drain : Text) → level_passes (built ftpd).top (names_of (built ftpd)) nothing_held (timed_words config login idle_time delay drain) true ≡ true
unfolding clap_on_literals
timed_above config login idle_time delay drain = refl

timed_taken : (config login idle_time delay drain : Text) → IsPlainWord config → IsPlainWord login → IsPlainWord idle_time → IsPlainWord delay → IsPlainWord drain
    → takes ftpd (timed_words config login idle_time delay drain) ≡ true
timed_taken config login idle_time delay drain plain second third fourth fifth =
    let below = level serving _ _ (timed_walks config login idle_time delay drain plain second third fourth fifth) (timed_settles config login idle_time delay drain) defaults_pass (timed_valid config login idle_time delay drain) in
    and_then _ _ simple (by_level (built ftpd) _ _ _ serving (timed_stops config login idle_time delay drain) found_is below (timed_above config login idle_time delay drain))

-- ---- what the parser then holds of them

-- that of the flag that is not there
abbrev unsynced : Row
unsynced = record { id = codes "sync"; values = codes "false" ∷ []; count = None; source = Some DefaultValue; reading = AsWritten }

-- no number of seconds is stated, and no way of sharing
abbrev pub AreUnstated : List Row → Type 0
AreUnstated rows =
    (first_of (codes "login-timeout") rows ≡ None)
    × (first_of (codes "idle-timeout") rows ≡ None) × (first_of (codes "login-delay") rows ≡ None)
    × (first_of (codes "drain-seconds") rows ≡ None) × (first_of (codes "share-by") rows ≡ None)

-- what the parser makes of the words of `serve` with no option
pub record Serves (config : Text) : Type 0 where
  pub rows : List Row
  pub taken : takes ftpd (codes "serve" ∷ config ∷ []) ≡ true
  pub entered : subcommand_of ftpd (codes "serve" ∷ config ∷ []) ≡ Some (codes "serve", rows)
  pub of : first_of (codes "CONFIG") rows ≡ Some config
  pub no_path : first_of (codes "stop-file") rows ≡ None
  pub no_ready : first_of (codes "ready-file") rows ≡ None
  pub portless : first_of (codes "status-port") rows ≡ None
  pub usual : AreUnstated rows

plain_entered : (config : Text) → subcommand_of ftpd (codes "serve" ∷ config ∷ []) ≡ Some (codes "serve", rows_after rules [] (config ∷ []))
unfolding clap_on_literals
plain_entered config = refl

plain_rows : (config : Text) → finished rules (valued [] (codes "CONFIG") config).held ≡ row (codes "CONFIG") config ∷ unsynced ∷ []
unfolding clap_on_literals
plain_rows config = refl

pub serves : (config : Text) → IsPlainWord config → Serves config
serves config plain =
    let walks = plain_walks config plain in
    let end : rows_after rules [] (config ∷ []) ≡ row (codes "CONFIG") config ∷ unsynced ∷ [] = ap (λ (w : Walk). finished rules w.held) walks.leads ∙ plain_rows config in
    record {
      rows = row (codes "CONFIG") config ∷ unsynced ∷ [];
      taken = plain_taken config plain;
      entered = plain_entered config ∙ ap (λ (rows : List Row). Some (codes "serve", rows)) end;
      of = refl;
      no_path = refl;
      no_ready = refl;
      portless = refl;
      usual = (refl, refl, refl, refl, refl);
    }

-- what the parser makes of the words of `serve` with each option in seconds
pub record ServesTimed (config login idle_time delay drain : Text) : Type 0 where
  pub rows : List Row
  pub taken : takes ftpd (timed_words config login idle_time delay drain) ≡ true
  pub entered : subcommand_of ftpd (timed_words config login idle_time delay drain) ≡ Some (codes "serve", rows)
  pub of : first_of (codes "CONFIG") rows ≡ Some config
  pub portless : first_of (codes "status-port") rows ≡ None
  pub no_path : first_of (codes "stop-file") rows ≡ None
  pub no_ready : first_of (codes "ready-file") rows ≡ None
  pub first : first_of (codes "login-timeout") rows ≡ Some login
  pub second : first_of (codes "idle-timeout") rows ≡ Some idle_time
  pub third : first_of (codes "login-delay") rows ≡ Some delay
  pub fourth : first_of (codes "drain-seconds") rows ≡ Some drain
  pub unshared : first_of (codes "share-by") rows ≡ None

timed_entered : (config login idle_time delay drain : Text) → subcommand_of ftpd (timed_words config login idle_time delay drain)
    ≡ Some (codes "serve", rows_after rules [] (config ∷ codes "--login-timeout" ∷ login ∷ codes "--idle-timeout" ∷ idle_time ∷ codes "--login-delay" ∷ delay ∷ codes "--drain-seconds" ∷ drain ∷ []))
unfolding clap_on_literals
timed_entered config login idle_time delay drain = refl

timed_rows : (config login idle_time delay drain : Text) → finished rules (valued (row (codes "CONFIG") config ∷ row (codes "login-timeout") login ∷ row (codes "idle-timeout") idle_time ∷ row (codes "login-delay") delay ∷ []) (codes "drain-seconds") drain).held
    ≡ row (codes "CONFIG") config ∷ row (codes "login-timeout") login ∷ row (codes "idle-timeout") idle_time ∷ row (codes "login-delay") delay ∷ row (codes "drain-seconds") drain ∷ unsynced ∷ []
unfolding clap_on_literals
timed_rows config login idle_time delay drain = refl

pub serves_timed : (config login idle_time delay drain : Text) → IsPlainWord config → IsPlainWord login → IsPlainWord idle_time → IsPlainWord delay → IsPlainWord drain → ServesTimed config login idle_time delay drain
serves_timed config login idle_time delay drain plain second third fourth fifth =
    let walks = timed_walks config login idle_time delay drain plain second third fourth fifth in
    let end : rows_after rules [] (config ∷ codes "--login-timeout" ∷ login ∷ codes "--idle-timeout" ∷ idle_time ∷ codes "--login-delay" ∷ delay ∷ codes "--drain-seconds" ∷ drain ∷ []) ≡ row (codes "CONFIG") config ∷ row (codes "login-timeout") login ∷ row (codes "idle-timeout") idle_time ∷ row (codes "login-delay") delay ∷ row (codes "drain-seconds") drain ∷ unsynced ∷ []
    = ap (λ (w : Walk). finished rules w.held) walks.leads ∙ timed_rows config login idle_time delay drain in
    record {
      rows = row (codes "CONFIG") config ∷ row (codes "login-timeout") login ∷ row (codes "idle-timeout") idle_time ∷ row (codes "login-delay") delay ∷ row (codes "drain-seconds") drain ∷ unsynced ∷ [];
      taken = timed_taken config login idle_time delay drain plain second third fourth fifth;
      entered = timed_entered config login idle_time delay drain ∙ ap (λ (rows : List Row). Some (codes "serve", rows)) end;
      of = refl;
      portless = refl;
      no_path = refl;
      no_ready = refl;
      first = refl;
      second = refl;
      third = refl;
      fourth = refl;
      unshared = refl;
    }

-- the words of `serve` with a stop file
abbrev pub until : Text → Text → List Text
until config path = codes "serve" ∷ config ∷ codes "--stop-file" ∷ path ∷ []

-- what the parser makes of those words
pub record ServesUntil (config path : Text) : Type 0 where
  pub rows : List Row
  pub taken : takes ftpd (until config path) ≡ true
  pub entered : subcommand_of ftpd (until config path) ≡ Some (codes "serve", rows)
  pub of : first_of (codes "CONFIG") rows ≡ Some config
  pub portless : first_of (codes "status-port") rows ≡ None
  pub stop_file : first_of (codes "stop-file") rows ≡ Some path
  pub no_ready : first_of (codes "ready-file") rows ≡ None
  pub usual : AreUnstated rows

until_entered : (config path : Text) → subcommand_of ftpd (until config path) ≡ Some (codes "serve", rows_after rules [] (config ∷ codes "--stop-file" ∷ path ∷ []))
unfolding clap_on_literals
until_entered config path = refl

until_rows : (config path : Text) → finished rules (valued (row (codes "CONFIG") config ∷ []) (codes "stop-file") path).held ≡ row (codes "CONFIG") config ∷ row (codes "stop-file") path ∷ unsynced ∷ []
unfolding clap_on_literals
until_rows config path = refl

pub serves_until : (config path : Text) → IsPlainWord config → IsPlainWord path → ServesUntil config path
serves_until config path plain also =
    let walks = until_walks config path plain also in
    let end : rows_after rules [] (config ∷ codes "--stop-file" ∷ path ∷ []) ≡ row (codes "CONFIG") config ∷ row (codes "stop-file") path ∷ unsynced ∷ []
    = ap (λ (w : Walk). finished rules w.held) walks.leads ∙ until_rows config path in
    record {
      rows = row (codes "CONFIG") config ∷ row (codes "stop-file") path ∷ unsynced ∷ [];
      taken = until_taken config path plain also;
      entered = until_entered config path ∙ ap (λ (rows : List Row). Some (codes "serve", rows)) end;
      of = refl;
      portless = refl;
      stop_file = refl;
      no_ready = refl;
      usual = (refl, refl, refl, refl, refl);
    }

-- what the parser makes of the words of `serve` with a stop file and a ready file
pub record ServesReady (config path ready : Text) : Type 0 where
  pub rows : List Row
  pub taken : takes ftpd (ready_words config path ready) ≡ true
  pub entered : subcommand_of ftpd (ready_words config path ready) ≡ Some (codes "serve", rows)
  pub of : first_of (codes "CONFIG") rows ≡ Some config
  pub portless : first_of (codes "status-port") rows ≡ None
  pub stop_file : first_of (codes "stop-file") rows ≡ Some path
  pub ready_file : first_of (codes "ready-file") rows ≡ Some ready
  pub usual : AreUnstated rows

ready_entered : (config path ready : Text) → subcommand_of ftpd (ready_words config path ready) ≡ Some (codes "serve", rows_after rules [] (config ∷ codes "--stop-file" ∷ path ∷ codes "--ready-file" ∷ ready ∷ []))
unfolding clap_on_literals
ready_entered config path ready = refl

ready_rows : (config path ready : Text) → finished rules (valued (row (codes "CONFIG") config ∷ row (codes "stop-file") path ∷ []) (codes "ready-file") ready).held
    ≡ row (codes "CONFIG") config ∷ row (codes "stop-file") path ∷ row (codes "ready-file") ready ∷ unsynced ∷ []
unfolding clap_on_literals
ready_rows config path ready = refl

pub serves_ready : (config path ready : Text) → IsPlainWord config → IsPlainWord path → IsPlainWord ready → ServesReady config path ready
serves_ready config path ready plain also third =
    let walks = ready_walks config path ready plain also third in
    let end : rows_after rules [] (config ∷ codes "--stop-file" ∷ path ∷ codes "--ready-file" ∷ ready ∷ []) ≡ row (codes "CONFIG") config ∷ row (codes "stop-file") path ∷ row (codes "ready-file") ready ∷ unsynced ∷ []
    = ap (λ (w : Walk). finished rules w.held) walks.leads ∙ ready_rows config path ready in
    record {
      rows = row (codes "CONFIG") config ∷ row (codes "stop-file") path ∷ row (codes "ready-file") ready ∷ unsynced ∷ [];
      taken = ready_taken config path ready plain also third;
      entered = ready_entered config path ready ∙ ap (λ (rows : List Row). Some (codes "serve", rows)) end;
      of = refl;
      portless = refl;
      stop_file = refl;
      ready_file = refl;
      usual = (refl, refl, refl, refl, refl);
    }

-- what the parser makes of the words of `serve` with a transfer log and a form of notes
pub record ServesLogged (config path form : Text) : Type 0 where
  pub rows : List Row
  pub taken : takes ftpd (logged_words config path form) ≡ true
  pub entered : subcommand_of ftpd (logged_words config path form) ≡ Some (codes "serve", rows)
  pub of : first_of (codes "CONFIG") rows ≡ Some config
  pub portless : first_of (codes "status-port") rows ≡ None
  pub transfer_log : first_of (codes "transfer-log") rows ≡ Some path
  pub log_form : first_of (codes "log-form") rows ≡ Some form
  pub usual : AreUnstated rows

logged_entered : (config path form : Text) → subcommand_of ftpd (logged_words config path form) ≡ Some (codes "serve", rows_after rules [] (config ∷ codes "--transfer-log" ∷ path ∷ codes "--log-form" ∷ form ∷ []))
unfolding clap_on_literals
logged_entered config path form = refl

logged_rows : (config path form : Text) → finished rules (valued (row (codes "CONFIG") config ∷ row (codes "transfer-log") path ∷ []) (codes "log-form") form).held
    ≡ row (codes "CONFIG") config ∷ row (codes "transfer-log") path ∷ row (codes "log-form") form ∷ unsynced ∷ []
unfolding clap_on_literals
logged_rows config path form = refl

pub serves_logged : (config path form : Text) → IsPlainWord config → IsPlainWord path → IsPlainWord form → ServesLogged config path form
serves_logged config path form plain also third =
    let walks = logged_walks config path form plain also third in
    let end : rows_after rules [] (config ∷ codes "--transfer-log" ∷ path ∷ codes "--log-form" ∷ form ∷ []) ≡ row (codes "CONFIG") config ∷ row (codes "transfer-log") path ∷ row (codes "log-form") form ∷ unsynced ∷ []
    = ap (λ (w : Walk). finished rules w.held) walks.leads ∙ logged_rows config path form in
    record {
      rows = row (codes "CONFIG") config ∷ row (codes "transfer-log") path ∷ row (codes "log-form") form ∷ unsynced ∷ [];
      taken = logged_taken config path form plain also third;
      entered = logged_entered config path form ∙ ap (λ (rows : List Row). Some (codes "serve", rows)) end;
      of = refl;
      portless = refl;
      transfer_log = refl;
      log_form = refl;
      usual = (refl, refl, refl, refl, refl);
    }

-- what the parser makes of the words of `serve` with a status file and a port
pub record ServesStatus (config path port : Text) : Type 0 where
  pub rows : List Row
  pub taken : takes ftpd (status_words config path port) ≡ true
  pub entered : subcommand_of ftpd (status_words config path port) ≡ Some (codes "serve", rows)
  pub of : first_of (codes "CONFIG") rows ≡ Some config
  pub status : first_of (codes "status") rows ≡ Some path
  pub status_port : first_of (codes "status-port") rows ≡ Some port
  pub usual : AreUnstated rows

status_entered : (config path port : Text) → subcommand_of ftpd (status_words config path port) ≡ Some (codes "serve", rows_after rules [] (config ∷ codes "--status" ∷ path ∷ codes "--status-port" ∷ port ∷ []))
unfolding clap_on_literals
status_entered config path port = refl

status_rows : (config path port : Text) → finished rules (valued (row (codes "CONFIG") config ∷ row (codes "status") path ∷ []) (codes "status-port") port).held
    ≡ row (codes "CONFIG") config ∷ row (codes "status") path ∷ row (codes "status-port") port ∷ unsynced ∷ []
unfolding clap_on_literals
status_rows config path port = refl

pub serves_status : (config path port : Text) → IsPlainWord config → IsPlainWord path → IsPlainWord port → ServesStatus config path port
serves_status config path port plain also third =
    let walks = status_walks config path port plain also third in
    let end : rows_after rules [] (config ∷ codes "--status" ∷ path ∷ codes "--status-port" ∷ port ∷ []) ≡ row (codes "CONFIG") config ∷ row (codes "status") path ∷ row (codes "status-port") port ∷ unsynced ∷ []
    = ap (λ (w : Walk). finished rules w.held) walks.leads ∙ status_rows config path port in
    record {
      rows = row (codes "CONFIG") config ∷ row (codes "status") path ∷ row (codes "status-port") port ∷ unsynced ∷ [];
      taken = status_taken config path port plain also third;
      entered = status_entered config path port ∙ ap (λ (rows : List Row). Some (codes "serve", rows)) end;
      of = refl;
      status = refl;
      status_port = refl;
      usual = (refl, refl, refl, refl, refl);
    }
