-- The words of `top` are taken, and what the parser then holds of them.
use Rattle.std.proofs.Common.{◌∙◌, ap, refl, codes, true, false, ◌≡◌, ◌==◌, ℕ, List, [], ◌∷◌, None, Some}
use Rattle.std.specs.Prelude.{unwrap_or}
use Rattle.std.specs.List.{find, list_all}
use Rattle.std.proofs.lemmas.Bool.{ne_eqb}
use Rattle.clap.specs.Takes.{default_passes, is_valid, level_passes, settle_passes, turn_passes}
use Rattle.clap.specs.Walk.{Row, Text, Walk, answers_to, finished, first_of, nothing_held, rows_after, walk, walk_from, walked}
use Rattle.clap.specs.Simple.{Shape, built, label_of, names_of, new_shape}
use Rattle.clap.specs.Words.{subcommand_of, takes}
use Rattle.clap.proofs.OnLiterals.{clap_on_literals}
use Rattle.command_line.specs.Commands.{ftpd}
use Rattle.command_line.specs.Given.{IsPlainWord, is_flagged, top_words}
use Rattle.command_line.proofs.CommandWalk.{Turns, Walks, and_then, by_level, ends, level, turn, valued, waiting_for}
use Rattle.command_line.proofs.Taken.{ftpd_is_simple, rows_in}

top_taken : (b : ℕ) (bs : List ℕ) → (b == 45) ≡ false → takes ftpd (codes "top" ∷ (b ∷ bs) ∷ []) ≡ true
unfolding clap_on_literals
top_taken b bs ne = simp ne refl

top_entered : (b : ℕ) (bs : List ℕ) → (b == 45) ≡ false
    → subcommand_of ftpd (codes "top" ∷ (b ∷ bs) ∷ [])
    ≡ Some (codes "top", rows_in (subcommand_of ftpd (codes "top" ∷ (b ∷ bs) ∷ [])))
unfolding clap_on_literals
top_entered b bs ne = simp ne refl

top_first : (b : ℕ) (bs : List ℕ) → (b == 45) ≡ false
    → first_of (codes "STATUS") (rows_in (subcommand_of ftpd (codes "top" ∷ (b ∷ bs) ∷ []))) ≡ Some (b ∷ bs)
unfolding clap_on_literals
top_first b bs ne = simp ne refl

top_unflagged : (b : ℕ) (bs : List ℕ) → (b == 45) ≡ false
    → is_flagged (codes "once") (rows_in (subcommand_of ftpd (codes "top" ∷ (b ∷ bs) ∷ []))) ≡ false
unfolding clap_on_literals
top_unflagged b bs ne = simp ne refl

top_lineless : (b : ℕ) (bs : List ℕ) → (b == 45) ≡ false
    → first_of (codes "rows") (rows_in (subcommand_of ftpd (codes "top" ∷ (b ∷ bs) ∷ []))) ≡ None
unfolding clap_on_literals
top_lineless b bs ne = simp ne refl

-- what the parser makes of the words of `top` with no option
pub record Tops (word : List ℕ) : Type 0 where
  pub rows : List Row
  pub taken : takes ftpd (codes "top" ∷ word ∷ []) ≡ true
  pub entered : subcommand_of ftpd (codes "top" ∷ word ∷ []) ≡ Some (codes "top", rows)
  pub status : first_of (codes "STATUS") rows ≡ Some word
  pub unflagged : is_flagged (codes "once") rows ≡ false
  pub lineless : first_of (codes "rows") rows ≡ None

pub tops : (word : List ℕ) → IsPlainWord word → Tops word
tops [] plain = absurd plain
tops (b ∷ bs) plain =
    let ne = ne_eqb _ _ plain in
    record {
      rows = _;
      taken = top_taken b bs ne;
      entered = top_entered b bs ne;
      status = top_first b bs ne;
      unflagged = top_unflagged b bs ne;
      lineless = top_lineless b bs ne;
    }

-- ---- with each of its options: the walk over the words, word by word

abbrev showing : Shape
showing = unwrap_or (find (λ s. answers_to (codes "top") (label_of s)) (built ftpd).subs) (new_shape [])

status_passes : (b : ℕ) (bs : List ℕ) → (b == 45) ≡ false → turn_passes showing [] (walk_from nothing_held) (b ∷ bs) ≡ true
unfolding clap_on_literals
status_passes b bs ne = simp ne refl

status_leads : (b : ℕ) (bs : List ℕ) → (b == 45) ≡ false → walked showing.rules [] (walk_from nothing_held) (b ∷ bs) ≡ valued [] (codes "STATUS") (b ∷ bs)
unfolding clap_on_literals
status_leads b bs ne = simp ne refl

status_turns : (word : Text) → IsPlainWord word → Turns showing (walk_from nothing_held) (valued [] (codes "STATUS") word) word
status_turns [] plain = absurd plain
status_turns (b ∷ bs) plain = record { passes = status_passes b bs (ne_eqb _ _ plain); leads = status_leads b bs (ne_eqb _ _ plain) }

-- the walk after the flag, and the rows that it then holds
abbrev after_once : Text → Walk
after_once status = walked showing.rules [] (valued [] (codes "STATUS") status) (codes "--once")

abbrev once_rows : Text → List Row
once_rows status = (walked showing.rules [] (after_once status) (codes "--rows")).held.rows

once_passes : (status : Text) → turn_passes showing [] (valued [] (codes "STATUS") status) (codes "--once") ≡ true
unfolding clap_on_literals
once_passes status = refl

rows_passes : (status : Text) → turn_passes showing [] (after_once status) (codes "--rows") ≡ true
unfolding clap_on_literals
rows_passes status = refl

rows_leads : (status : Text) → walked showing.rules [] (after_once status) (codes "--rows") ≡ waiting_for (once_rows status) (codes "rows")
unfolding clap_on_literals
rows_leads status = refl

lines_passes : (rows : List Row) (b : ℕ) (bs : List ℕ) → (b == 45) ≡ false → turn_passes showing [] (waiting_for rows (codes "rows")) (b ∷ bs) ≡ true
unfolding clap_on_literals
lines_passes rows b bs ne = simp ne refl

lines_leads : (rows : List Row) (b : ℕ) (bs : List ℕ) → (b == 45) ≡ false → walked showing.rules [] (waiting_for rows (codes "rows")) (b ∷ bs) ≡ valued rows (codes "rows") (b ∷ bs)
unfolding clap_on_literals
lines_leads rows b bs ne = simp ne refl

lines_turns : (rows : List Row) (word : Text) → IsPlainWord word → Turns showing (waiting_for rows (codes "rows")) (valued rows (codes "rows") word) word
lines_turns rows [] plain = absurd plain
lines_turns rows (b ∷ bs) plain = record { passes = lines_passes rows b bs (ne_eqb _ _ plain); leads = lines_leads rows b bs (ne_eqb _ _ plain) }

once_walks : (status lines : Text) → IsPlainWord status → IsPlainWord lines
    → Walks showing (walk_from nothing_held) (valued (once_rows status) (codes "rows") lines) (status ∷ codes "--once" ∷ codes "--rows" ∷ lines ∷ [])
once_walks status lines plain also =
    let first = status_turns status plain in
    let last = lines_turns (once_rows status) lines also in
    turn showing _ _ _ _ _ first.passes first.leads
    (turn showing _ _ _ _ _ (once_passes status) refl
    (turn showing _ _ _ _ _ (rows_passes status) (rows_leads status)
    (turn showing _ _ _ _ _ last.passes last.leads (ends showing _))))

found_is : find (λ t. answers_to (codes "top") (label_of t)) (built ftpd).subs ≡ Some showing
unfolding clap_on_literals
found_is = refl

defaults_pass : list_all default_passes showing.rules ≡ true
unfolding clap_on_literals
defaults_pass = refl

once_settles : (status lines : Text) → settle_passes showing.rules showing.args_override_self (valued (once_rows status) (codes "rows") lines).held ≡ true
unfolding clap_on_literals
once_settles status lines = refl

once_valid : (status lines : Text) → is_valid showing (finished showing.rules (valued (once_rows status) (codes "rows") lines).held) false ≡ true
unfolding clap_on_literals
once_valid status lines = refl

once_stops : (status lines : Text)
    → (walk (built ftpd).top.rules (names_of (built ftpd)) nothing_held (top_words status lines)).stopped ≡ Some (codes "top", status ∷ codes "--once" ∷ codes "--rows" ∷ lines ∷ [])
unfolding clap_on_literals
once_stops status lines = refl

once_above : (status lines : Text) → level_passes (built ftpd).top (names_of (built ftpd)) nothing_held (top_words status lines) true ≡ true
unfolding clap_on_literals
once_above status lines = refl

once_taken : (status lines : Text) → IsPlainWord status → IsPlainWord lines → takes ftpd (top_words status lines) ≡ true
once_taken status lines plain also =
    let below = level showing _ _ (once_walks status lines plain also) (once_settles status lines) defaults_pass (once_valid status lines) in
    and_then _ _ ftpd_is_simple (by_level (built ftpd) _ _ _ showing (once_stops status lines) found_is below (once_above status lines))

once_entered : (status lines : Text) → subcommand_of ftpd (top_words status lines)
    ≡ Some (codes "top", rows_after showing.rules [] (status ∷ codes "--once" ∷ codes "--rows" ∷ lines ∷ []))
unfolding clap_on_literals
once_entered status lines = refl

-- the rows that the parser then holds
abbrev last_rows : Text → Text → List Row
last_rows status lines = finished showing.rules (valued (once_rows status) (codes "rows") lines).held

last_status : (status lines : Text) → first_of (codes "STATUS") (last_rows status lines) ≡ Some status
unfolding clap_on_literals
last_status status lines = refl

last_flag : (status lines : Text) → is_flagged (codes "once") (last_rows status lines) ≡ true
unfolding clap_on_literals
last_flag status lines = refl

last_lines : (status lines : Text) → first_of (codes "rows") (last_rows status lines) ≡ Some lines
unfolding clap_on_literals
last_lines status lines = refl

-- what the parser makes of the words of `top` with each of its options
pub record TopsOnce (word lines : List ℕ) : Type 0 where
  pub rows : List Row
  pub taken : takes ftpd (top_words word lines) ≡ true
  pub entered : subcommand_of ftpd (top_words word lines) ≡ Some (codes "top", rows)
  pub status : first_of (codes "STATUS") rows ≡ Some word
  pub flagged : is_flagged (codes "once") rows ≡ true
  pub lines_stated : first_of (codes "rows") rows ≡ Some lines

pub tops_once : (status lines : List ℕ) → IsPlainWord status → IsPlainWord lines → TopsOnce status lines
tops_once status lines plain also =
    let walks = once_walks status lines plain also in
    let end : rows_after showing.rules [] (status ∷ codes "--once" ∷ codes "--rows" ∷ lines ∷ []) ≡ last_rows status lines = ap (λ (w : Walk). finished showing.rules w.held) walks.leads in
    record {
      rows = last_rows status lines;
      taken = once_taken status lines plain also;
      entered = once_entered status lines ∙ ap (λ (rows : List Row). Some (codes "top", rows)) end;
      status = last_status status lines;
      flagged = last_flag status lines;
      lines_stated = last_lines status lines;
    }
