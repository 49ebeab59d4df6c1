-- The words of a command are taken, and what the parser then holds of them.
use Rattle.std.proofs.Common.{refl, codes, subst, not, true, false, Bool, ◌&&◌, ◌≡◌, ◌==◌, ℕ, List, [], ◌∷◌, Option, None, Some, ◌⊎◌, inl, inr}
use Rattle.std.specs.Prelude.{option_map, unwrap_or}
use Rattle.std.proofs.lemmas.Bool.{ne_eqb}
use Rattle.clap.specs.Words.{App, Row, Text, first_of, is_simple, is_simple_and_free, subcommand_of, takes}
use Rattle.clap.proofs.OnLiterals.{clap_on_literals}
use Rattle.command_line.specs.Commands.{ftpd, sheets}
use Rattle.clap.specs.Words.{IsAmong, Kinds}
use Rattle.clap.specs.declared.error.kind.ErrorKind.{ErrorKind}
use Rattle.clap.specs.declared.error.kind.ErrorKind.TheVariants.{OutOfMemory}
use Rattle.command_line.specs.declared.words.WordsFault.{WordsFault}
use Rattle.command_line.specs.declared.words.WordsFault.TheVariants.{Memory, Refused}
use Rattle.command_line.specs.Given.{IsPlainWord, IsRefusal, IsRefusedAs, is_flagged, running_words}
use Rattle.command_line.proofs.PlanWords.{json_taken, json_words}

-- a plain command has no global argument
pub no_globals : (a b g d : Bool) → (a && (not b && (not g && d))) ≡ true → g ≡ false
no_globals a b false d e = refl
no_globals false b true d e = cc
no_globals true false true d e = cc
no_globals true true true d e = cc

pub ftpd_is_simple : is_simple ftpd ≡ true
unfolding clap_on_literals
ftpd_is_simple = refl

pub ftpd_is_free : is_simple_and_free ftpd ≡ true
unfolding clap_on_literals
ftpd_is_free = refl

abbrev pub rows_in : Option (Text × List Row) → List Row
rows_in found = unwrap_or (option_map (λ p. p.1) found) []

-- what the parser makes of the words of `share`
pub record Shares (app : App) (word : List ℕ) : Type 0 where
  pub rows : List Row
  pub taken : takes app (codes "share" ∷ word ∷ []) ≡ true
  pub entered : subcommand_of app (codes "share" ∷ word ∷ []) ≡ Some (codes "share", rows)
  pub sheet : first_of (codes "SHEET") rows ≡ Some word
  pub unflagged : is_flagged (codes "svg") rows ≡ false
  pub alone : first_of (codes "by") rows ≡ None

-- the words of `share` that ask for a picture
abbrev pub picture_words : Text → List Text
picture_words word = codes "share" ∷ word ∷ codes "--svg" ∷ []

-- what the parser makes of those words
pub record Pictures (app : App) (word : List ℕ) : Type 0 where
  pub rows : List Row
  pub taken : takes app (picture_words word) ≡ true
  pub entered : subcommand_of app (picture_words word) ≡ Some (codes "share", rows)
  pub sheet : first_of (codes "SHEET") rows ≡ Some word
  pub flagged : is_flagged (codes "svg") rows ≡ true
  pub alone : first_of (codes "by") rows ≡ None

-- what the parser makes of the words of `check`
pub record Checks (app : App) (first second : List ℕ) : Type 0 where
  pub rows : List Row
  pub taken : takes app (codes "check" ∷ first ∷ second ∷ []) ≡ true
  pub entered : subcommand_of app (codes "check" ∷ first ∷ second ∷ []) ≡ Some (codes "check", rows)
  pub sheet : first_of (codes "SHEET") rows ≡ Some first
  pub grants : first_of (codes "GRANTS") rows ≡ Some second
  pub alone : first_of (codes "by") rows ≡ None

-- ---- of `ftpd`

ftpd_share_taken : (b : ℕ) (bs : List ℕ) → (b == 45) ≡ false → takes ftpd (codes "share" ∷ (b ∷ bs) ∷ []) ≡ true
unfolding clap_on_literals
ftpd_share_taken b bs ne = simp ne refl

ftpd_share_entered : (b : ℕ) (bs : List ℕ) → (b == 45) ≡ false
    → subcommand_of ftpd (codes "share" ∷ (b ∷ bs) ∷ [])
    ≡ Some (codes "share", rows_in (subcommand_of ftpd (codes "share" ∷ (b ∷ bs) ∷ [])))
unfolding clap_on_literals
ftpd_share_entered b bs ne = simp ne refl

ftpd_share_first : (b : ℕ) (bs : List ℕ) → (b == 45) ≡ false
    → first_of (codes "SHEET") (rows_in (subcommand_of ftpd (codes "share" ∷ (b ∷ bs) ∷ []))) ≡ Some (b ∷ bs)
unfolding clap_on_literals
ftpd_share_first b bs ne = simp ne refl

ftpd_share_unflagged : (b : ℕ) (bs : List ℕ) → (b == 45) ≡ false
    → is_flagged (codes "svg") (rows_in (subcommand_of ftpd (codes "share" ∷ (b ∷ bs) ∷ []))) ≡ false
unfolding clap_on_literals
ftpd_share_unflagged b bs ne = simp ne refl

ftpd_share_alone : (b : ℕ) (bs : List ℕ) → (b == 45) ≡ false
    → first_of (codes "by") (rows_in (subcommand_of ftpd (codes "share" ∷ (b ∷ bs) ∷ []))) ≡ None
unfolding clap_on_literals
ftpd_share_alone b bs ne = simp ne refl

pub ftpd_shares : (word : List ℕ) → IsPlainWord word → Shares ftpd word
ftpd_shares [] plain = absurd plain
ftpd_shares (b ∷ bs) plain =
    let ne = ne_eqb _ _ plain in
    record { rows = _; taken = ftpd_share_taken b bs ne; entered = ftpd_share_entered b bs ne; sheet = ftpd_share_first b bs ne; unflagged = ftpd_share_unflagged b bs ne; alone = ftpd_share_alone b bs ne }

ftpd_picture_taken : (b : ℕ) (bs : List ℕ) → (b == 45) ≡ false → takes ftpd (picture_words (b ∷ bs)) ≡ true
unfolding clap_on_literals
ftpd_picture_taken b bs ne = simp ne refl

ftpd_picture_entered : (b : ℕ) (bs : List ℕ) → (b == 45) ≡ false
    → subcommand_of ftpd (picture_words (b ∷ bs)) ≡ Some (codes "share", rows_in (subcommand_of ftpd (picture_words (b ∷ bs))))
unfolding clap_on_literals
ftpd_picture_entered b bs ne = simp ne refl

ftpd_picture_first : (b : ℕ) (bs : List ℕ) → (b == 45) ≡ false
    → first_of (codes "SHEET") (rows_in (subcommand_of ftpd (picture_words (b ∷ bs)))) ≡ Some (b ∷ bs)
unfolding clap_on_literals
ftpd_picture_first b bs ne = simp ne refl

ftpd_picture_flagged : (b : ℕ) (bs : List ℕ) → (b == 45) ≡ false
    → is_flagged (codes "svg") (rows_in (subcommand_of ftpd (picture_words (b ∷ bs)))) ≡ true
unfolding clap_on_literals
ftpd_picture_flagged b bs ne = simp ne refl

ftpd_picture_alone : (b : ℕ) (bs : List ℕ) → (b == 45) ≡ false
    → first_of (codes "by") (rows_in (subcommand_of ftpd (picture_words (b ∷ bs)))) ≡ None
unfolding clap_on_literals
ftpd_picture_alone b bs ne = simp ne refl

pub ftpd_pictures : (word : List ℕ) → IsPlainWord word → Pictures ftpd word
ftpd_pictures [] plain = absurd plain
ftpd_pictures (b ∷ bs) plain =
    let ne = ne_eqb _ _ plain in
    record { rows = _; taken = ftpd_picture_taken b bs ne; entered = ftpd_picture_entered b bs ne; sheet = ftpd_picture_first b bs ne; flagged = ftpd_picture_flagged b bs ne; alone = ftpd_picture_alone b bs ne }

ftpd_check_taken : (b d : ℕ) (bs ds : List ℕ) → (b == 45) ≡ false → (d == 45) ≡ false → takes ftpd (codes "check" ∷ (b ∷ bs) ∷ (d ∷ ds) ∷ []) ≡ true
unfolding clap_on_literals
ftpd_check_taken b d bs ds ne nf = simp (ne, nf) refl

ftpd_check_entered : (b d : ℕ) (bs ds : List ℕ) → (b == 45) ≡ false → (d == 45) ≡ false
    → subcommand_of ftpd (codes "check" ∷ (b ∷ bs) ∷ (d ∷ ds) ∷ [])
    ≡ Some (codes "check", rows_in (subcommand_of ftpd (codes "check" ∷ (b ∷ bs) ∷ (d ∷ ds) ∷ [])))
unfolding clap_on_literals
ftpd_check_entered b d bs ds ne nf = simp (ne, nf) refl

ftpd_check_first : (b d : ℕ) (bs ds : List ℕ) → (b == 45) ≡ false → (d == 45) ≡ false
    → first_of (codes "SHEET") (rows_in (subcommand_of ftpd (codes "check" ∷ (b ∷ bs) ∷ (d ∷ ds) ∷ []))) ≡ Some (b ∷ bs)
unfolding clap_on_literals
ftpd_check_first b d bs ds ne nf = simp (ne, nf) refl

ftpd_check_second : (b d : ℕ) (bs ds : List ℕ) → (b == 45) ≡ false → (d == 45) ≡ false
    → first_of (codes "GRANTS") (rows_in (subcommand_of ftpd (codes "check" ∷ (b ∷ bs) ∷ (d ∷ ds) ∷ []))) ≡ Some (d ∷ ds)
unfolding clap_on_literals
ftpd_check_second b d bs ds ne nf = simp (ne, nf) refl

ftpd_check_alone : (b d : ℕ) (bs ds : List ℕ) → (b == 45) ≡ false → (d == 45) ≡ false
    → first_of (codes "by") (rows_in (subcommand_of ftpd (codes "check" ∷ (b ∷ bs) ∷ (d ∷ ds) ∷ []))) ≡ None
unfolding clap_on_literals
ftpd_check_alone b d bs ds ne nf = simp (ne, nf) refl

pub ftpd_checks : (first second : List ℕ) → IsPlainWord first → IsPlainWord second → Checks ftpd first second
ftpd_checks [] second plain also = absurd plain
ftpd_checks (b ∷ bs) [] plain also = absurd also
ftpd_checks (b ∷ bs) (d ∷ ds) plain also =
    let ne = ne_eqb _ _ plain in
    let nf = ne_eqb _ _ also in
    record { rows = _; taken = ftpd_check_taken b d bs ds ne nf; entered = ftpd_check_entered b d bs ds ne nf; sheet = ftpd_check_first b d bs ds ne nf; grants = ftpd_check_second b d bs ds ne nf; alone = ftpd_check_alone b d bs ds ne nf }

check_config_taken : (b : ℕ) (bs : List ℕ) → (b == 45) ≡ false → takes ftpd (codes "check-config" ∷ (b ∷ bs) ∷ []) ≡ true
unfolding clap_on_literals
check_config_taken b bs ne = simp ne refl

check_config_entered : (b : ℕ) (bs : List ℕ) → (b == 45) ≡ false
    → subcommand_of ftpd (codes "check-config" ∷ (b ∷ bs) ∷ [])
    ≡ Some (codes "check-config", rows_in (subcommand_of ftpd (codes "check-config" ∷ (b ∷ bs) ∷ [])))
unfolding clap_on_literals
check_config_entered b bs ne = simp ne refl

check_config_first : (b : ℕ) (bs : List ℕ) → (b == 45) ≡ false
    → first_of (codes "CONFIG") (rows_in (subcommand_of ftpd (codes "check-config" ∷ (b ∷ bs) ∷ []))) ≡ Some (b ∷ bs)
unfolding clap_on_literals
check_config_first b bs ne = simp ne refl

check_config_unflagged : (b : ℕ) (bs : List ℕ) → (b == 45) ≡ false
    → is_flagged (codes "json") (rows_in (subcommand_of ftpd (codes "check-config" ∷ (b ∷ bs) ∷ []))) ≡ false
unfolding clap_on_literals
check_config_unflagged b bs ne = simp ne refl

check_config_alone : (b : ℕ) (bs : List ℕ) → (b == 45) ≡ false
    → first_of (codes "against") (rows_in (subcommand_of ftpd (codes "check-config" ∷ (b ∷ bs) ∷ []))) ≡ None
unfolding clap_on_literals
check_config_alone b bs ne = simp ne refl

check_config_still : (b : ℕ) (bs : List ℕ) → (b == 45) ≡ false
    → is_flagged (codes "against-running") (rows_in (subcommand_of ftpd (codes "check-config" ∷ (b ∷ bs) ∷ []))) ≡ false
unfolding clap_on_literals
check_config_still b bs ne = simp ne refl

check_config_unshared : (b : ℕ) (bs : List ℕ) → (b == 45) ≡ false
    → first_of (codes "share-by") (rows_in (subcommand_of ftpd (codes "check-config" ∷ (b ∷ bs) ∷ []))) ≡ None
unfolding clap_on_literals
check_config_unshared b bs ne = simp ne refl

-- what the parser makes of the words of `check-config`
pub record ChecksConfig (word : List ℕ) : Type 0 where
  pub rows : List Row
  pub taken : takes ftpd (codes "check-config" ∷ word ∷ []) ≡ true
  pub entered : subcommand_of ftpd (codes "check-config" ∷ word ∷ []) ≡ Some (codes "check-config", rows)
  pub config : first_of (codes "CONFIG") rows ≡ Some word
  pub unflagged : is_flagged (codes "json") rows ≡ false
  pub alone : first_of (codes "against") rows ≡ None
  pub still : is_flagged (codes "against-running") rows ≡ false
  pub unshared : first_of (codes "share-by") rows ≡ None

pub checks_config : (word : List ℕ) → IsPlainWord word → ChecksConfig word
checks_config [] plain = absurd plain
checks_config (b ∷ bs) plain =
    let ne = ne_eqb _ _ plain in
    record { rows = _; taken = check_config_taken b bs ne; entered = check_config_entered b bs ne; config = check_config_first b bs ne; unflagged = check_config_unflagged b bs ne; alone = check_config_alone b bs ne; still = check_config_still b bs ne; unshared = check_config_unshared b bs ne }

-- the words of `check-config` that ask for JSON
abbrev pub report_words : Text → List Text
report_words word = codes "check-config" ∷ word ∷ codes "--json" ∷ []

report_taken : (b : ℕ) (bs : List ℕ) → (b == 45) ≡ false → takes ftpd (report_words (b ∷ bs)) ≡ true
unfolding clap_on_literals
report_taken b bs ne = simp ne refl

report_entered : (b : ℕ) (bs : List ℕ) → (b == 45) ≡ false
    → subcommand_of ftpd (report_words (b ∷ bs)) ≡ Some (codes "check-config", rows_in (subcommand_of ftpd (report_words (b ∷ bs))))
unfolding clap_on_literals
report_entered b bs ne = simp ne refl

report_first : (b : ℕ) (bs : List ℕ) → (b == 45) ≡ false
    → first_of (codes "CONFIG") (rows_in (subcommand_of ftpd (report_words (b ∷ bs)))) ≡ Some (b ∷ bs)
unfolding clap_on_literals
report_first b bs ne = simp ne refl

report_flagged : (b : ℕ) (bs : List ℕ) → (b == 45) ≡ false
    → is_flagged (codes "json") (rows_in (subcommand_of ftpd (report_words (b ∷ bs)))) ≡ true
unfolding clap_on_literals
report_flagged b bs ne = simp ne refl

report_alone : (b : ℕ) (bs : List ℕ) → (b == 45) ≡ false
    → first_of (codes "against") (rows_in (subcommand_of ftpd (report_words (b ∷ bs)))) ≡ None
unfolding clap_on_literals
report_alone b bs ne = simp ne refl

report_still : (b : ℕ) (bs : List ℕ) → (b == 45) ≡ false
    → is_flagged (codes "against-running") (rows_in (subcommand_of ftpd (report_words (b ∷ bs)))) ≡ false
unfolding clap_on_literals
report_still b bs ne = simp ne refl

report_unshared : (b : ℕ) (bs : List ℕ) → (b == 45) ≡ false
    → first_of (codes "share-by") (rows_in (subcommand_of ftpd (report_words (b ∷ bs)))) ≡ None
unfolding clap_on_literals
report_unshared b bs ne = simp ne refl

-- what the parser makes of those words
pub record ReportsJson (word : List ℕ) : Type 0 where
  pub rows : List Row
  pub taken : takes ftpd (report_words word) ≡ true
  pub entered : subcommand_of ftpd (report_words word) ≡ Some (codes "check-config", rows)
  pub config : first_of (codes "CONFIG") rows ≡ Some word
  pub flagged : is_flagged (codes "json") rows ≡ true
  pub alone : first_of (codes "against") rows ≡ None
  pub still : is_flagged (codes "against-running") rows ≡ false
  pub unshared : first_of (codes "share-by") rows ≡ None

pub reports_json : (word : List ℕ) → IsPlainWord word → ReportsJson word
reports_json [] plain = absurd plain
reports_json (b ∷ bs) plain =
    let ne = ne_eqb _ _ plain in
    record { rows = _; taken = report_taken b bs ne; entered = report_entered b bs ne; config = report_first b bs ne; flagged = report_flagged b bs ne; alone = report_alone b bs ne; still = report_still b bs ne; unshared = report_unshared b bs ne }

running_taken : (b : ℕ) (bs : List ℕ) → (b == 45) ≡ false → takes ftpd (running_words (b ∷ bs)) ≡ true
unfolding clap_on_literals
running_taken b bs ne = simp ne refl

running_entered : (b : ℕ) (bs : List ℕ) → (b == 45) ≡ false
    → subcommand_of ftpd (running_words (b ∷ bs)) ≡ Some (codes "check-config", rows_in (subcommand_of ftpd (running_words (b ∷ bs))))
unfolding clap_on_literals
running_entered b bs ne = simp ne refl

running_first : (b : ℕ) (bs : List ℕ) → (b == 45) ≡ false
    → first_of (codes "CONFIG") (rows_in (subcommand_of ftpd (running_words (b ∷ bs)))) ≡ Some (b ∷ bs)
unfolding clap_on_literals
running_first b bs ne = simp ne refl

running_unflagged : (b : ℕ) (bs : List ℕ) → (b == 45) ≡ false
    → is_flagged (codes "json") (rows_in (subcommand_of ftpd (running_words (b ∷ bs)))) ≡ false
unfolding clap_on_literals
running_unflagged b bs ne = simp ne refl

running_alone : (b : ℕ) (bs : List ℕ) → (b == 45) ≡ false
    → first_of (codes "against") (rows_in (subcommand_of ftpd (running_words (b ∷ bs)))) ≡ None
unfolding clap_on_literals
running_alone b bs ne = simp ne refl

running_on : (b : ℕ) (bs : List ℕ) → (b == 45) ≡ false
    → is_flagged (codes "against-running") (rows_in (subcommand_of ftpd (running_words (b ∷ bs)))) ≡ true
unfolding clap_on_literals
running_on b bs ne = simp ne refl

running_unshared : (b : ℕ) (bs : List ℕ) → (b == 45) ≡ false
    → first_of (codes "share-by") (rows_in (subcommand_of ftpd (running_words (b ∷ bs)))) ≡ None
unfolding clap_on_literals
running_unshared b bs ne = simp ne refl

-- what the parser makes of those words
pub record ChecksRunning (word : List ℕ) : Type 0 where
  pub rows : List Row
  pub taken : takes ftpd (running_words word) ≡ true
  pub entered : subcommand_of ftpd (running_words word) ≡ Some (codes "check-config", rows)
  pub config : first_of (codes "CONFIG") rows ≡ Some word
  pub unflagged : is_flagged (codes "json") rows ≡ false
  pub alone : first_of (codes "against") rows ≡ None
  pub on : is_flagged (codes "against-running") rows ≡ true
  pub unshared : first_of (codes "share-by") rows ≡ None

pub checks_running : (word : List ℕ) → IsPlainWord word → ChecksRunning word
checks_running [] plain = absurd plain
checks_running (b ∷ bs) plain =
    let ne = ne_eqb _ _ plain in
    record { rows = _; taken = running_taken b bs ne; entered = running_entered b bs ne; config = running_first b bs ne; unflagged = running_unflagged b bs ne; alone = running_alone b bs ne; on = running_on b bs ne; unshared = running_unshared b bs ne }

migrate_taken : (b : ℕ) (bs : List ℕ) → (b == 45) ≡ false → takes ftpd (codes "migrate" ∷ (b ∷ bs) ∷ []) ≡ true
unfolding clap_on_literals
migrate_taken b bs ne = simp ne refl

migrate_entered : (b : ℕ) (bs : List ℕ) → (b == 45) ≡ false
    → subcommand_of ftpd (codes "migrate" ∷ (b ∷ bs) ∷ [])
    ≡ Some (codes "migrate", rows_in (subcommand_of ftpd (codes "migrate" ∷ (b ∷ bs) ∷ [])))
unfolding clap_on_literals
migrate_entered b bs ne = simp ne refl

migrate_first : (b : ℕ) (bs : List ℕ) → (b == 45) ≡ false
    → first_of (codes "CONFIG") (rows_in (subcommand_of ftpd (codes "migrate" ∷ (b ∷ bs) ∷ []))) ≡ Some (b ∷ bs)
unfolding clap_on_literals
migrate_first b bs ne = simp ne refl

-- what the parser makes of the words of `migrate`
pub record Migrates (word : List ℕ) : Type 0 where
  pub rows : List Row
  pub taken : takes ftpd (codes "migrate" ∷ word ∷ []) ≡ true
  pub entered : subcommand_of ftpd (codes "migrate" ∷ word ∷ []) ≡ Some (codes "migrate", rows)
  pub config : first_of (codes "CONFIG") rows ≡ Some word

pub migrates : (word : List ℕ) → IsPlainWord word → Migrates word
migrates [] plain = absurd plain
migrates (b ∷ bs) plain =
    let ne = ne_eqb _ _ plain in
    record { rows = _; taken = migrate_taken b bs ne; entered = migrate_entered b bs ne; config = migrate_first b bs ne }

script_taken : (b : ℕ) (bs : List ℕ) → (b == 45) ≡ false → takes ftpd (codes "script" ∷ (b ∷ bs) ∷ []) ≡ true
unfolding clap_on_literals
script_taken b bs ne = simp ne refl

script_entered : (b : ℕ) (bs : List ℕ) → (b == 45) ≡ false
    → subcommand_of ftpd (codes "script" ∷ (b ∷ bs) ∷ [])
    ≡ Some (codes "script", rows_in (subcommand_of ftpd (codes "script" ∷ (b ∷ bs) ∷ [])))
unfolding clap_on_literals
script_entered b bs ne = simp ne refl

script_first : (b : ℕ) (bs : List ℕ) → (b == 45) ≡ false
    → first_of (codes "CONFIG") (rows_in (subcommand_of ftpd (codes "script" ∷ (b ∷ bs) ∷ []))) ≡ Some (b ∷ bs)
unfolding clap_on_literals
script_first b bs ne = simp ne refl

-- what the parser makes of the words of `script`
pub record Scripts (word : List ℕ) : Type 0 where
  pub rows : List Row
  pub taken : takes ftpd (codes "script" ∷ word ∷ []) ≡ true
  pub entered : subcommand_of ftpd (codes "script" ∷ word ∷ []) ≡ Some (codes "script", rows)
  pub config : first_of (codes "CONFIG") rows ≡ Some word

pub scripts : (word : List ℕ) → IsPlainWord word → Scripts word
scripts [] plain = absurd plain
scripts (b ∷ bs) plain =
    let ne = ne_eqb _ _ plain in
    record { rows = _; taken = script_taken b bs ne; entered = script_entered b bs ne; config = script_first b bs ne }

plan_taken : (b d : ℕ) (bs ds : List ℕ) → (b == 45) ≡ false → (d == 45) ≡ false → takes ftpd (codes "plan" ∷ (b ∷ bs) ∷ (d ∷ ds) ∷ []) ≡ true
unfolding clap_on_literals
plan_taken b d bs ds ne nf = simp (ne, nf) refl

plan_entered : (b d : ℕ) (bs ds : List ℕ) → (b == 45) ≡ false → (d == 45) ≡ false
    → subcommand_of ftpd (codes "plan" ∷ (b ∷ bs) ∷ (d ∷ ds) ∷ [])
    ≡ Some (codes "plan", rows_in (subcommand_of ftpd (codes "plan" ∷ (b ∷ bs) ∷ (d ∷ ds) ∷ [])))
unfolding clap_on_literals
plan_entered b d bs ds ne nf = simp (ne, nf) refl

plan_first : (b d : ℕ) (bs ds : List ℕ) → (b == 45) ≡ false → (d == 45) ≡ false
    → first_of (codes "CONFIG") (rows_in (subcommand_of ftpd (codes "plan" ∷ (b ∷ bs) ∷ (d ∷ ds) ∷ []))) ≡ Some (b ∷ bs)
unfolding clap_on_literals
plan_first b d bs ds ne nf = simp (ne, nf) refl

plan_second : (b d : ℕ) (bs ds : List ℕ) → (b == 45) ≡ false → (d == 45) ≡ false
    → first_of (codes "TRANSFERS") (rows_in (subcommand_of ftpd (codes "plan" ∷ (b ∷ bs) ∷ (d ∷ ds) ∷ []))) ≡ Some (d ∷ ds)
unfolding clap_on_literals
plan_second b d bs ds ne nf = simp (ne, nf) refl

plan_unflagged : (b d : ℕ) (bs ds : List ℕ) → (b == 45) ≡ false → (d == 45) ≡ false
    → is_flagged (codes "json") (rows_in (subcommand_of ftpd (codes "plan" ∷ (b ∷ bs) ∷ (d ∷ ds) ∷ []))) ≡ false
unfolding clap_on_literals
plan_unflagged b d bs ds ne nf = simp (ne, nf) refl

-- what the parser makes of the words of `plan`
pub record Plans (first second : List ℕ) : Type 0 where
  pub rows : List Row
  pub taken : takes ftpd (codes "plan" ∷ first ∷ second ∷ []) ≡ true
  pub entered : subcommand_of ftpd (codes "plan" ∷ first ∷ second ∷ []) ≡ Some (codes "plan", rows)
  pub config : first_of (codes "CONFIG") rows ≡ Some first
  pub transfers : first_of (codes "TRANSFERS") rows ≡ Some second
  pub unshared : first_of (codes "share-by") rows ≡ None
  pub unflagged : is_flagged (codes "json") rows ≡ false

plan_unshared : (b d : ℕ) (bs ds : List ℕ) → (b == 45) ≡ false → (d == 45) ≡ false
    → first_of (codes "share-by") (rows_in (subcommand_of ftpd (codes "plan" ∷ (b ∷ bs) ∷ (d ∷ ds) ∷ []))) ≡ None
unfolding clap_on_literals
plan_unshared b d bs ds ne nf = simp (ne, nf) refl

pub plans : (first second : List ℕ) → IsPlainWord first → IsPlainWord second → Plans first second
plans [] second plain also = absurd plain
plans (b ∷ bs) [] plain also = absurd also
plans (b ∷ bs) (d ∷ ds) plain also =
    let ne = ne_eqb _ _ plain in
    let nf = ne_eqb _ _ also in
    record { rows = _; taken = plan_taken b d bs ds ne nf; entered = plan_entered b d bs ds ne nf; config = plan_first b d bs ds ne nf; transfers = plan_second b d bs ds ne nf; unflagged = plan_unflagged b d bs ds ne nf; unshared = plan_unshared b d bs ds ne nf }

json_entered : (b d : ℕ) (bs ds : List ℕ) → (b == 45) ≡ false → (d == 45) ≡ false
    → subcommand_of ftpd (json_words (b ∷ bs) (d ∷ ds)) ≡ Some (codes "plan", rows_in (subcommand_of ftpd (json_words (b ∷ bs) (d ∷ ds))))
unfolding clap_on_literals
json_entered b d bs ds ne nf = simp (ne, nf) refl

json_first : (b d : ℕ) (bs ds : List ℕ) → (b == 45) ≡ false → (d == 45) ≡ false
    → first_of (codes "CONFIG") (rows_in (subcommand_of ftpd (json_words (b ∷ bs) (d ∷ ds)))) ≡ Some (b ∷ bs)
unfolding clap_on_literals
json_first b d bs ds ne nf = simp (ne, nf) refl

json_second : (b d : ℕ) (bs ds : List ℕ) → (b == 45) ≡ false → (d == 45) ≡ false
    → first_of (codes "TRANSFERS") (rows_in (subcommand_of ftpd (json_words (b ∷ bs) (d ∷ ds)))) ≡ Some (d ∷ ds)
unfolding clap_on_literals
json_second b d bs ds ne nf = simp (ne, nf) refl

json_flagged : (b d : ℕ) (bs ds : List ℕ) → (b == 45) ≡ false → (d == 45) ≡ false
    → is_flagged (codes "json") (rows_in (subcommand_of ftpd (json_words (b ∷ bs) (d ∷ ds)))) ≡ true
unfolding clap_on_literals
json_flagged b d bs ds ne nf = simp (ne, nf) refl

-- what the parser makes of those words
pub record PlansJson (first second : List ℕ) : Type 0 where
  pub rows : List Row
  pub taken : takes ftpd (json_words first second) ≡ true
  pub entered : subcommand_of ftpd (json_words first second) ≡ Some (codes "plan", rows)
  pub config : first_of (codes "CONFIG") rows ≡ Some first
  pub transfers : first_of (codes "TRANSFERS") rows ≡ Some second
  pub unshared : first_of (codes "share-by") rows ≡ None
  pub flagged : is_flagged (codes "json") rows ≡ true

json_unshared : (b d : ℕ) (bs ds : List ℕ) → (b == 45) ≡ false → (d == 45) ≡ false
    → first_of (codes "share-by") (rows_in (subcommand_of ftpd (json_words (b ∷ bs) (d ∷ ds)))) ≡ None
unfolding clap_on_literals
json_unshared b d bs ds ne nf = simp (ne, nf) refl

pub plans_json : (first second : List ℕ) → IsPlainWord first → IsPlainWord second → PlansJson first second
plans_json [] second plain also = absurd plain
plans_json (b ∷ bs) [] plain also = absurd also
plans_json (b ∷ bs) (d ∷ ds) plain also =
    let ne = ne_eqb _ _ plain in
    let nf = ne_eqb _ _ also in
    record {
      rows = _;
      taken = json_taken (b ∷ bs) (d ∷ ds) plain also;
      entered = json_entered b d bs ds ne nf;
      config = json_first b d bs ds ne nf;
      transfers = json_second b d bs ds ne nf;
      flagged = json_flagged b d bs ds ne nf;
      unshared = json_unshared b d bs ds ne nf;
    }

-- ---- of `sheets`

pub sheets_is_simple : is_simple sheets ≡ true
unfolding clap_on_literals
sheets_is_simple = refl

pub sheets_is_free : is_simple_and_free sheets ≡ true
unfolding clap_on_literals
sheets_is_free = refl

sheets_share_taken : (b : ℕ) (bs : List ℕ) → (b == 45) ≡ false → takes sheets (codes "share" ∷ (b ∷ bs) ∷ []) ≡ true
unfolding clap_on_literals
sheets_share_taken b bs ne = simp ne refl

sheets_share_entered : (b : ℕ) (bs : List ℕ) → (b == 45) ≡ false
    → subcommand_of sheets (codes "share" ∷ (b ∷ bs) ∷ [])
    ≡ Some (codes "share", rows_in (subcommand_of sheets (codes "share" ∷ (b ∷ bs) ∷ [])))
unfolding clap_on_literals
sheets_share_entered b bs ne = simp ne refl

sheets_share_first : (b : ℕ) (bs : List ℕ) → (b == 45) ≡ false
    → first_of (codes "SHEET") (rows_in (subcommand_of sheets (codes "share" ∷ (b ∷ bs) ∷ []))) ≡ Some (b ∷ bs)
unfolding clap_on_literals
sheets_share_first b bs ne = simp ne refl

sheets_share_unflagged : (b : ℕ) (bs : List ℕ) → (b == 45) ≡ false
    → is_flagged (codes "svg") (rows_in (subcommand_of sheets (codes "share" ∷ (b ∷ bs) ∷ []))) ≡ false
unfolding clap_on_literals
sheets_share_unflagged b bs ne = simp ne refl

sheets_share_alone : (b : ℕ) (bs : List ℕ) → (b == 45) ≡ false
    → first_of (codes "by") (rows_in (subcommand_of sheets (codes "share" ∷ (b ∷ bs) ∷ []))) ≡ None
unfolding clap_on_literals
sheets_share_alone b bs ne = simp ne refl

pub sheets_shares : (word : List ℕ) → IsPlainWord word → Shares sheets word
sheets_shares [] plain = absurd plain
sheets_shares (b ∷ bs) plain =
    let ne = ne_eqb _ _ plain in
    record { rows = _; taken = sheets_share_taken b bs ne; entered = sheets_share_entered b bs ne; sheet = sheets_share_first b bs ne; unflagged = sheets_share_unflagged b bs ne; alone = sheets_share_alone b bs ne }

sheets_picture_taken : (b : ℕ) (bs : List ℕ) → (b == 45) ≡ false → takes sheets (picture_words (b ∷ bs)) ≡ true
unfolding clap_on_literals
sheets_picture_taken b bs ne = simp ne refl

sheets_picture_entered : (b : ℕ) (bs : List ℕ) → (b == 45) ≡ false
    → subcommand_of sheets (picture_words (b ∷ bs)) ≡ Some (codes "share", rows_in (subcommand_of sheets (picture_words (b ∷ bs))))
unfolding clap_on_literals
sheets_picture_entered b bs ne = simp ne refl

sheets_picture_first : (b : ℕ) (bs : List ℕ) → (b == 45) ≡ false
    → first_of (codes "SHEET") (rows_in (subcommand_of sheets (picture_words (b ∷ bs)))) ≡ Some (b ∷ bs)
unfolding clap_on_literals
sheets_picture_first b bs ne = simp ne refl

sheets_picture_flagged : (b : ℕ) (bs : List ℕ) → (b == 45) ≡ false
    → is_flagged (codes "svg") (rows_in (subcommand_of sheets (picture_words (b ∷ bs)))) ≡ true
unfolding clap_on_literals
sheets_picture_flagged b bs ne = simp ne refl

sheets_picture_alone : (b : ℕ) (bs : List ℕ) → (b == 45) ≡ false
    → first_of (codes "by") (rows_in (subcommand_of sheets (picture_words (b ∷ bs)))) ≡ None
unfolding clap_on_literals
sheets_picture_alone b bs ne = simp ne refl

pub sheets_pictures : (word : List ℕ) → IsPlainWord word → Pictures sheets word
sheets_pictures [] plain = absurd plain
sheets_pictures (b ∷ bs) plain =
    let ne = ne_eqb _ _ plain in
    record { rows = _; taken = sheets_picture_taken b bs ne; entered = sheets_picture_entered b bs ne; sheet = sheets_picture_first b bs ne; flagged = sheets_picture_flagged b bs ne; alone = sheets_picture_alone b bs ne }

sheets_check_taken : (b d : ℕ) (bs ds : List ℕ) → (b == 45) ≡ false → (d == 45) ≡ false → takes sheets (codes "check" ∷ (b ∷ bs) ∷ (d ∷ ds) ∷ []) ≡ true
unfolding clap_on_literals
sheets_check_taken b d bs ds ne nf = simp (ne, nf) refl

sheets_check_entered : (b d : ℕ) (bs ds : List ℕ) → (b == 45) ≡ false → (d == 45) ≡ false
    → subcommand_of sheets (codes "check" ∷ (b ∷ bs) ∷ (d ∷ ds) ∷ [])
    ≡ Some (codes "check", rows_in (subcommand_of sheets (codes "check" ∷ (b ∷ bs) ∷ (d ∷ ds) ∷ [])))
unfolding clap_on_literals
sheets_check_entered b d bs ds ne nf = simp (ne, nf) refl

sheets_check_first : (b d : ℕ) (bs ds : List ℕ) → (b == 45) ≡ false → (d == 45) ≡ false
    → first_of (codes "SHEET") (rows_in (subcommand_of sheets (codes "check" ∷ (b ∷ bs) ∷ (d ∷ ds) ∷ []))) ≡ Some (b ∷ bs)
unfolding clap_on_literals
sheets_check_first b d bs ds ne nf = simp (ne, nf) refl

sheets_check_second : (b d : ℕ) (bs ds : List ℕ) → (b == 45) ≡ false → (d == 45) ≡ false
    → first_of (codes "GRANTS") (rows_in (subcommand_of sheets (codes "check" ∷ (b ∷ bs) ∷ (d ∷ ds) ∷ []))) ≡ Some (d ∷ ds)
unfolding clap_on_literals
sheets_check_second b d bs ds ne nf = simp (ne, nf) refl

sheets_check_alone : (b d : ℕ) (bs ds : List ℕ) → (b == 45) ≡ false → (d == 45) ≡ false
    → first_of (codes "by") (rows_in (subcommand_of sheets (codes "check" ∷ (b ∷ bs) ∷ (d ∷ ds) ∷ []))) ≡ None
unfolding clap_on_literals
sheets_check_alone b d bs ds ne nf = simp (ne, nf) refl

pub sheets_checks : (first second : List ℕ) → IsPlainWord first → IsPlainWord second → Checks sheets first second
sheets_checks [] second plain also = absurd plain
sheets_checks (b ∷ bs) [] plain also = absurd also
sheets_checks (b ∷ bs) (d ∷ ds) plain also =
    let ne = ne_eqb _ _ plain in
    let nf = ne_eqb _ _ also in
    record { rows = _; taken = sheets_check_taken b d bs ds ne nf; entered = sheets_check_entered b d bs ds ne nf; sheet = sheets_check_first b d bs ds ne nf; grants = sheets_check_second b d bs ds ne nf; alone = sheets_check_alone b d bs ds ne nf }

-- ---- of both

-- an error of one of those kinds is told as a refusal of one of them
pub refusal : (kinds : Kinds) (kind : ErrorKind) (fault : WordsFault) → (kind ≡ OutOfMemory → fault ≡ Memory) → IsRefusedAs kind fault
    → (kind ≡ OutOfMemory) ⊎ IsAmong kind kinds → IsRefusal kinds fault
refusal kinds kind Memory memory refused among = tt
refusal kinds kind (Refused text is_help) memory refused (inl out) = let no = memory out in cc
refusal kinds kind (Refused text is_help) memory refused (inr among) = (kind, among, refused)

-- no kind is refused: memory ran out
pub refused_by_none : (kinds : Kinds) (fault : WordsFault) → kinds ≡ [] → IsRefusal kinds fault → fault ≡ Memory
refused_by_none kinds Memory none refused = refl
refused_by_none kinds (Refused text is_help) none refused = absurd (subst (IsAmong refused.0) none refused.1)

abbrev pub named : {S : Type 0} → (S → Text) → (S → List Row) → S → Text × List Row
named name rows s = (name s, rows s)

abbrev pub rows_of_named : Text × List Row → List Row
rows_of_named pair = pair.1

-- the name and the rows of what was found, read one by one, are those of a result that has both
pub entered_as : {S P : Type 0} (name : S → Text) (rows : S → List Row) (head : P → Text) (tail : P → List Row) (found : Option S) (result : Option P)
    → option_map head result ≡ option_map name found → option_map tail result ≡ option_map rows_of_named (option_map (named name rows) found)
    → option_map (named head tail) result ≡ option_map (named name rows) found
entered_as name rows head tail None None first second = refl
entered_as name rows head tail None (Some p) first second = cc
entered_as name rows head tail (Some s) None first second = cc
entered_as name rows head tail (Some s) (Some p) first second =
    let is : head p ≡ name s = cc in
    let are : tail p ≡ rows s = cc in
    rw (is, are) refl
