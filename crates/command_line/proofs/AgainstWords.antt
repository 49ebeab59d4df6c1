-- The words of `check-config` with another configuration are taken, and what the parser then holds of them.
use Rattle.std.proofs.Common.{◌∙◌, ap, refl, codes, true, false, ◌≡◌, ◌==◌, ℕ, List, [], ◌∷◌, None, Some}
use Rattle.std.specs.Prelude.{unwrap_or}
use Rattle.std.specs.List.{find, list_all}
use Rattle.std.proofs.lemmas.Bool.{ne_eqb}
use Rattle.clap.specs.Takes.{default_passes, is_valid, level_passes, settle_passes, turn_passes}
use Rattle.clap.specs.Walk.{Row, Text, Walk, answers_to, finished, first_of, nothing_held, rows_after, walk, walk_from, walked}
use Rattle.clap.specs.Simple.{Shape, built, label_of, names_of, new_shape}
use Rattle.clap.specs.Words.{subcommand_of, takes}
use Rattle.clap.proofs.OnLiterals.{clap_on_literals}
use Rattle.command_line.specs.Commands.{ftpd}
use Rattle.command_line.specs.Given.{IsPlainWord, against_json_words, against_words, is_flagged}
use Rattle.command_line.proofs.CommandWalk.{Turns, Walks, and_then, by_level, ends, level, row, turn, valued, waiting_for}
use Rattle.command_line.proofs.Taken.{ftpd_is_simple}

-- `check-config`, as the parser completes it
abbrev checking : Shape
checking = unwrap_or (find (λ s. answers_to (codes "check-config") (label_of s)) (built ftpd).subs) (new_shape [])

-- ---- steps of a walk

config_passes : (b : ℕ) (bs : List ℕ) → (b == 45) ≡ false → turn_passes checking [] (walk_from nothing_held) (b ∷ bs) ≡ true
unfolding clap_on_literals
config_passes b bs ne = simp ne refl

config_leads : (b : ℕ) (bs : List ℕ) → (b == 45) ≡ false → walked checking.rules [] (walk_from nothing_held) (b ∷ bs) ≡ valued [] (codes "CONFIG") (b ∷ bs)
unfolding clap_on_literals
config_leads b bs ne = simp ne refl

config_turns : (word : Text) → IsPlainWord word → Turns checking (walk_from nothing_held) (valued [] (codes "CONFIG") word) word
config_turns [] plain = absurd plain
config_turns (b ∷ bs) plain = record { passes = config_passes b bs (ne_eqb _ _ plain); leads = config_leads b bs (ne_eqb _ _ plain) }

against_passes : (config : Text) → turn_passes checking [] (valued [] (codes "CONFIG") config) (codes "--against") ≡ true
unfolding clap_on_literals
against_passes config = refl

against_leads : (config : Text) → walked checking.rules [] (valued [] (codes "CONFIG") config) (codes "--against") ≡ waiting_for (row (codes "CONFIG") config ∷ []) (codes "against")
unfolding clap_on_literals
against_leads config = refl

other_passes : (rows : List Row) (b : ℕ) (bs : List ℕ) → (b == 45) ≡ false → turn_passes checking [] (waiting_for rows (codes "against")) (b ∷ bs) ≡ true
unfolding clap_on_literals
other_passes rows b bs ne = simp ne refl

other_leads : (rows : List Row) (b : ℕ) (bs : List ℕ) → (b == 45) ≡ false → walked checking.rules [] (waiting_for rows (codes "against")) (b ∷ bs) ≡ valued rows (codes "against") (b ∷ bs)
unfolding clap_on_literals
other_leads rows b bs ne = simp ne refl

other_turns : (rows : List Row) (word : Text) → IsPlainWord word → Turns checking (waiting_for rows (codes "against")) (valued rows (codes "against") word) word
other_turns rows [] plain = absurd plain
other_turns rows (b ∷ bs) plain = record { passes = other_passes rows b bs (ne_eqb _ _ plain); leads = other_leads rows b bs (ne_eqb _ _ plain) }

-- the walk after the flag, and the rows that it then holds
abbrev after_json : Text → Walk
after_json config = walked checking.rules [] (valued [] (codes "CONFIG") config) (codes "--json")

abbrev json_rows : Text → List Row
json_rows config = (walked checking.rules [] (after_json config) (codes "--against")).held.rows

json_passes : (config : Text) → turn_passes checking [] (valued [] (codes "CONFIG") config) (codes "--json") ≡ true
unfolding clap_on_literals
json_passes config = refl

json_against_passes : (config : Text) → turn_passes checking [] (after_json config) (codes "--against") ≡ true
unfolding clap_on_literals
json_against_passes config = refl

json_against_leads : (config : Text) → walked checking.rules [] (after_json config) (codes "--against") ≡ waiting_for (json_rows config) (codes "against")
unfolding clap_on_literals
json_against_leads config = refl

-- ---- the walks

found_is : find (λ t. answers_to (codes "check-config") (label_of t)) (built ftpd).subs ≡ Some checking
unfolding clap_on_literals
found_is = refl

defaults_pass : list_all default_passes checking.rules ≡ true
unfolding clap_on_literals
defaults_pass = refl

lines_walks : (config other : Text) → IsPlainWord config → IsPlainWord other
    → Walks checking (walk_from nothing_held) (valued (row (codes "CONFIG") config ∷ []) (codes "against") other) (config ∷ codes "--against" ∷ other ∷ [])
lines_walks config other plain also =
    let first = config_turns config plain in
    let last = other_turns (row (codes "CONFIG") config ∷ []) other also in
    turn checking _ _ _ _ _ first.passes first.leads
    (turn checking _ _ _ _ _ (against_passes config) (against_leads config)
    (turn checking _ _ _ _ _ last.passes last.leads (ends checking _)))

lines_settles : (config other : Text) → settle_passes checking.rules checking.args_override_self (valued (row (codes "CONFIG") config ∷ []) (codes "against") other).held ≡ true
unfolding clap_on_literals
lines_settles config other = refl

lines_valid : (config other : Text) → is_valid checking (finished checking.rules (valued (row (codes "CONFIG") config ∷ []) (codes "against") other).held) false ≡ true
unfolding clap_on_literals
lines_valid config other = refl

lines_stops : (config other : Text)
    → (walk (built ftpd).top.rules (names_of (built ftpd)) nothing_held (against_words config other)).stopped ≡ Some (codes "check-config", config ∷ codes "--against" ∷ other ∷ [])
unfolding clap_on_literals
lines_stops config other = refl

lines_above : (config other : Text) → level_passes (built ftpd).top (names_of (built ftpd)) nothing_held (against_words config other) true ≡ true
unfolding clap_on_literals
lines_above config other = refl

lines_taken : (config other : Text) → IsPlainWord config → IsPlainWord other → takes ftpd (against_words config other) ≡ true
lines_taken config other plain also =
    let below = level checking _ _ (lines_walks config other plain also) (lines_settles config other) defaults_pass (lines_valid config other) in
    and_then _ _ ftpd_is_simple (by_level (built ftpd) _ _ _ checking (lines_stops config other) found_is below (lines_above config other))

lines_entered : (config other : Text) → subcommand_of ftpd (against_words config other)
    ≡ Some (codes "check-config", rows_after checking.rules [] (config ∷ codes "--against" ∷ other ∷ []))
unfolding clap_on_literals
lines_entered config other = refl

-- the rows that the parser then holds
abbrev lines_last : Text → Text → List Row
lines_last config other = finished checking.rules (valued (row (codes "CONFIG") config ∷ []) (codes "against") other).held

lines_config : (config other : Text) → first_of (codes "CONFIG") (lines_last config other) ≡ Some config
unfolding clap_on_literals
lines_config config other = refl

lines_flag : (config other : Text) → is_flagged (codes "json") (lines_last config other) ≡ false
unfolding clap_on_literals
lines_flag config other = refl

lines_other : (config other : Text) → first_of (codes "against") (lines_last config other) ≡ Some other
unfolding clap_on_literals
lines_other config other = refl

lines_still : (config other : Text) → is_flagged (codes "against-running") (lines_last config other) ≡ false
unfolding clap_on_literals
lines_still config other = refl

lines_unshared : (config other : Text) → first_of (codes "share-by") (lines_last config other) ≡ None
unfolding clap_on_literals
lines_unshared config other = refl

-- what the parser makes of those words
pub record ChecksAgainst (word other : List ℕ) : Type 0 where
  pub rows : List Row
  pub taken : takes ftpd (against_words word other) ≡ true
  pub entered : subcommand_of ftpd (against_words word other) ≡ Some (codes "check-config", rows)
  pub config : first_of (codes "CONFIG") rows ≡ Some word
  pub flag : is_flagged (codes "json") rows ≡ false
  pub against : first_of (codes "against") rows ≡ Some other
  pub still : is_flagged (codes "against-running") rows ≡ false
  pub unshared : first_of (codes "share-by") rows ≡ None

pub checks_against : (config other : List ℕ) → IsPlainWord config → IsPlainWord other → ChecksAgainst config other
checks_against config other plain also =
    let walks = lines_walks config other plain also in
    let end : rows_after checking.rules [] (config ∷ codes "--against" ∷ other ∷ []) ≡ lines_last config other = ap (λ (w : Walk). finished checking.rules w.held) walks.leads in
    record {
      rows = lines_last config other;
      taken = lines_taken config other plain also;
      entered = lines_entered config other ∙ ap (λ (rows : List Row). Some (codes "check-config", rows)) end;
      config = lines_config config other;
      flag = lines_flag config other;
      against = lines_other config other;
      still = lines_still config other;
      unshared = lines_unshared config other;
    }

json_walks : (config other : Text) → IsPlainWord config → IsPlainWord other
    → Walks checking (walk_from nothing_held) (valued (json_rows config) (codes "against") other) (config ∷ codes "--json" ∷ codes "--against" ∷ other ∷ [])
json_walks config other plain also =
    let first = config_turns config plain in
    let last = other_turns (json_rows config) other also in
    turn checking _ _ _ _ _ first.passes first.leads
    (turn checking _ _ _ _ _ (json_passes config) refl
    (turn checking _ _ _ _ _ (json_against_passes config) (json_against_leads config)
    (turn checking _ _ _ _ _ last.passes last.leads (ends checking _))))

json_settles : (config other : Text) → settle_passes checking.rules checking.args_override_self (valued (json_rows config) (codes "against") other).held ≡ true
unfolding clap_on_literals
json_settles config other = refl

json_valid : (config other : Text) → is_valid checking (finished checking.rules (valued (json_rows config) (codes "against") other).held) false ≡ true
unfolding clap_on_literals
json_valid config other = refl

json_stops : (config other : Text)
    → (walk (built ftpd).top.rules (names_of (built ftpd)) nothing_held (against_json_words config other)).stopped ≡ Some (codes "check-config", config ∷ codes "--json" ∷ codes "--against" ∷ other ∷ [])
unfolding clap_on_literals
json_stops config other = refl

json_above : (config other : Text) → level_passes (built ftpd).top (names_of (built ftpd)) nothing_held (against_json_words config other) true ≡ true
unfolding clap_on_literals
json_above config other = refl

json_taken : (config other : Text) → IsPlainWord config → IsPlainWord other → takes ftpd (against_json_words config other) ≡ true
json_taken config other plain also =
    let below = level checking _ _ (json_walks config other plain also) (json_settles config other) defaults_pass (json_valid config other) in
    and_then _ _ ftpd_is_simple (by_level (built ftpd) _ _ _ checking (json_stops config other) found_is below (json_above config other))

json_entered : (config other : Text) → subcommand_of ftpd (against_json_words config other)
    ≡ Some (codes "check-config", rows_after checking.rules [] (config ∷ codes "--json" ∷ codes "--against" ∷ other ∷ []))
unfolding clap_on_literals
json_entered config other = refl

-- the rows that the parser then holds
abbrev json_last : Text → Text → List Row
json_last config other = finished checking.rules (valued (json_rows config) (codes "against") other).held

json_config : (config other : Text) → first_of (codes "CONFIG") (json_last config other) ≡ Some config
unfolding clap_on_literals
json_config config other = refl

json_flag : (config other : Text) → is_flagged (codes "json") (json_last config other) ≡ true
unfolding clap_on_literals
json_flag config other = refl

json_other : (config other : Text) → first_of (codes "against") (json_last config other) ≡ Some other
unfolding clap_on_literals
json_other config other = refl

json_still : (config other : Text) → is_flagged (codes "against-running") (json_last config other) ≡ false
unfolding clap_on_literals
json_still config other = refl

json_unshared : (config other : Text) → first_of (codes "share-by") (json_last config other) ≡ None
unfolding clap_on_literals
json_unshared config other = refl

-- what the parser makes of those words
pub record ChecksAgainstJson (word other : List ℕ) : Type 0 where
  pub rows : List Row
  pub taken : takes ftpd (against_json_words word other) ≡ true
  pub entered : subcommand_of ftpd (against_json_words word other) ≡ Some (codes "check-config", rows)
  pub config : first_of (codes "CONFIG") rows ≡ Some word
  pub flag : is_flagged (codes "json") rows ≡ true
  pub against : first_of (codes "against") rows ≡ Some other
  pub still : is_flagged (codes "against-running") rows ≡ false
  pub unshared : first_of (codes "share-by") rows ≡ None

pub checks_against_json : (config other : List ℕ) → IsPlainWord config → IsPlainWord other → ChecksAgainstJson config other
checks_against_json config other plain also =
    let walks = json_walks config other plain also in
    let end : rows_after checking.rules [] (config ∷ codes "--json" ∷ codes "--against" ∷ other ∷ []) ≡ json_last config other = ap (λ (w : Walk). finished checking.rules w.held) walks.leads in
    record {
      rows = json_last config other;
      taken = json_taken config other plain also;
      entered = json_entered config other ∙ ap (λ (rows : List Row). Some (codes "check-config", rows)) end;
      config = json_config config other;
      flag = json_flag config other;
      against = json_other config other;
      still = json_still config other;
      unshared = json_unshared config other;
    }
