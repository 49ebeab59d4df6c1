-- The words of `plan` that ask for JSON are taken.
use Rattle.std.proofs.Common.{refl, codes, true, false, ◌≡◌, ◌==◌, ℕ, List, [], ◌∷◌, None, Some}
use Rattle.std.specs.Prelude.{unwrap_or}
use Rattle.std.specs.List.{find, list_all}
use Rattle.std.proofs.lemmas.Bool.{ne_eqb}
use Rattle.clap.specs.Takes.{default_passes, is_valid, level_passes, settle_passes, turn_passes}
use Rattle.clap.specs.Walk.{Text, Walk, answers_to, finished, idle, nothing_held, walk, walk_from, walked}
use Rattle.clap.specs.Simple.{Shape, built, label_of, names_of, new_shape}
use Rattle.clap.specs.Words.{is_simple, takes}
use Rattle.clap.proofs.OnLiterals.{clap_on_literals}
use Rattle.command_line.specs.Commands.{ftpd}
use Rattle.command_line.specs.Given.{IsPlainWord}
use Rattle.command_line.proofs.CommandWalk.{Turns, Walks, and_then, by_level, ends, level, row, turn, valued}

-- the words of `plan` that ask for JSON
abbrev pub json_words : Text → Text → List Text
json_words first second = codes "plan" ∷ first ∷ second ∷ codes "--json" ∷ []

-- `plan`, as the parser completes it
abbrev planning : Shape
planning = unwrap_or (find (λ s. answers_to (codes "plan") (label_of s)) (built ftpd).subs) (new_shape [])

simple : is_simple ftpd ≡ true
unfolding clap_on_literals
simple = refl

-- the walk after both paths
abbrev after_both : Text → Text → Walk
after_both first second = record {
  held = record { rows = row (codes "CONFIG") first ∷ []; pending = Some (codes "TRANSFERS", second ∷ []); skip = 0 };
  waiting = idle;
  position = 3;
  is_trailing = false;
  stopped = None;
}

config_passes : (b : ℕ) (bs : List ℕ) → (b == 45) ≡ false → turn_passes planning [] (walk_from nothing_held) (b ∷ bs) ≡ true
unfolding clap_on_literals
config_passes b bs ne = simp ne refl

config_leads : (b : ℕ) (bs : List ℕ) → (b == 45) ≡ false → walked planning.rules [] (walk_from nothing_held) (b ∷ bs) ≡ valued [] (codes "CONFIG") (b ∷ bs)
unfolding clap_on_literals
config_leads b bs ne = simp ne refl

config_turns : (word : Text) → IsPlainWord word → Turns planning (walk_from nothing_held) (valued [] (codes "CONFIG") word) word
config_turns [] plain = absurd plain
config_turns (b ∷ bs) plain = record { passes = config_passes b bs (ne_eqb _ _ plain); leads = config_leads b bs (ne_eqb _ _ plain) }

transfers_passes : (first : Text) (b : ℕ) (bs : List ℕ) → (b == 45) ≡ false → turn_passes planning [] (valued [] (codes "CONFIG") first) (b ∷ bs) ≡ true
unfolding clap_on_literals
transfers_passes first b bs ne = simp ne refl

transfers_leads : (first : Text) (b : ℕ) (bs : List ℕ) → (b == 45) ≡ false → walked planning.rules [] (valued [] (codes "CONFIG") first) (b ∷ bs) ≡ after_both first (b ∷ bs)
unfolding clap_on_literals
transfers_leads first b bs ne = simp ne refl

transfers_turns : (first word : Text) → IsPlainWord word → Turns planning (valued [] (codes "CONFIG") first) (after_both first word) word
transfers_turns first [] plain = absurd plain
transfers_turns first (b ∷ bs) plain = record { passes = transfers_passes first b bs (ne_eqb _ _ plain); leads = transfers_leads first b bs (ne_eqb _ _ plain) }

abbrev after_json : Text → Text → Walk
after_json first second = walked planning.rules [] (after_both first second) (codes "--json")

json_passes : (first second : Text) → turn_passes planning [] (after_both first second) (codes "--json") ≡ true
unfolding clap_on_literals
json_passes first second = refl

json_walks : (first second : Text) → IsPlainWord first → IsPlainWord second → Walks planning (walk_from nothing_held) (after_json first second) (first ∷ second ∷ codes "--json" ∷ [])
json_walks first second plain also =
    let one = config_turns first plain in
    let two = transfers_turns first second also in
    turn planning _ _ _ _ _ one.passes one.leads
    (turn planning _ _ _ _ _ two.passes two.leads
    (turn planning _ _ _ _ _ (json_passes first second) refl (ends planning _)))

found_is : find (λ t. answers_to (codes "plan") (label_of t)) (built ftpd).subs ≡ Some planning
unfolding clap_on_literals
found_is = refl

defaults_pass : list_all default_passes planning.rules ≡ true
unfolding clap_on_literals
defaults_pass = refl

json_settles : (first second : Text) → settle_passes planning.rules planning.args_override_self (after_json first second).held ≡ true
unfolding clap_on_literals
json_settles first second = refl

json_valid : (first second : Text) → is_valid planning (finished planning.rules (after_json first second).held) false ≡ true
unfolding clap_on_literals
json_valid first second = refl

json_stops : (first second : Text)
    → (walk (built ftpd).top.rules (names_of (built ftpd)) nothing_held (json_words first second)).stopped ≡ Some (codes "plan", first ∷ second ∷ codes "--json" ∷ [])
unfolding clap_on_literals
json_stops first second = refl

json_above : (first second : Text) → level_passes (built ftpd).top (names_of (built ftpd)) nothing_held (json_words first second) true ≡ true
unfolding clap_on_literals
json_above first second = refl

pub json_taken : (first second : Text) → IsPlainWord first → IsPlainWord second → takes ftpd (json_words first second) ≡ true
json_taken first second plain also =
    let below = level planning _ _ (json_walks first second plain also) (json_settles first second) defaults_pass (json_valid first second) in
    and_then _ _ simple (by_level (built ftpd) _ _ _ planning (json_stops first second) found_is below (json_above first second))
