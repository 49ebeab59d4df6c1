-- Where the parser has no fault with the words of a program that requires a command, one is entered, which is not `help`.
use Rattle.std.proofs.Common.{◌≡◌, ◌&&◌, ℕ, Bool, codes, cond, true, false, not, refl, ap, List, [], ◌∷◌, Option, Some, None, is_some, option_map}
use Rattle.std.specs.Str.{bytes_eq}
use Rattle.std.specs.List.{find, fold}
use Rattle.std.specs.Option.{option_map_or}
use Rattle.clap.specs.Lexer.{long_of, short_of}
use Rattle.clap.specs.Kinds.{or_else}
use Rattle.clap.specs.Faults.{built_fault, entered_fault, level_fault, other_fault, step_fault, turn_fault, walk_fault, word_fault}
use Rattle.clap.specs.Walk.{Held, Names, Outcome, Rule, Step, Text, Waiting, Walk, after_flag, after_step, answers_to, arg_by_index, arg_by_long, bundle, done, idle, long_met, long_or_other, next, nothing_held, option, plain, plain_word, positional, refused, short_or_plain, subcommand, subcommand_met, subcommand_or_other, to_positional, trailing, value, waits, walk, walk_from, walked, walked_from, word_met}
use Rattle.clap.specs.Simple.{App, Shape, entered, label_of, names_of, rows_at}
use Rattle.clap.specs.declared.error.kind.ErrorKind.TheVariants.{DisplayHelp, InvalidSubcommand}
use Rattle.command_line.proofs.RowValues.{check_passes, faultless, no_kinds}

-- the walk has not stopped at `help`
abbrev pub is_not_help : Option (Text × List Text) → Bool
is_not_help stopped = option_map_or (λ p. not (bytes_eq p.0 (codes "help"))) stopped true

abbrev is_no_subcommand : Step → Bool
is_no_subcommand (subcommand name) = false
is_no_subcommand _ = true

-- ---- a word that names no subcommand stops no walk

module _ (c : List Rule) where
  plain_step : (waiting : Waiting) (word : Text) (h : Held) → is_no_subcommand (plain_word c waiting word h).1 ≡ true
  plain_step idle word h = refl
  plain_step positional word h = refl
  plain_step (option id) word h = refl

  flag_step : (waiting : Waiting) (word : Text) (h : Held) (o : Outcome) → is_no_subcommand (after_flag c waiting word h o).1 ≡ true
  flag_step waiting word h done = refl
  flag_step waiting word h (waits id) = refl
  flag_step waiting word h plain = plain_step waiting word h
  flag_step waiting word h refused = plain_step waiting word h

  short_step : (waiting : Waiting) (word : Text) (flags : Option Text) (h : Held) → is_no_subcommand (short_or_plain c waiting word flags h).1 ≡ true
  short_step waiting word None h = plain_step waiting word h
  short_step waiting word (Some flags) h = flag_step waiting word (bundle c flags h).0 (bundle c flags h).1

  long_step : (waiting : Waiting) (word : Text) (named : Option (Text × Option Text)) (h : Held) → is_no_subcommand (long_or_other c waiting word named h).1 ≡ true
  long_step waiting word None h = short_step waiting word (short_of word) h
  long_step waiting word (Some p) h = flag_step waiting word (long_met c (arg_by_long c p.0) p.1 h).0 (long_met c (arg_by_long c p.0) p.1 h).1

  other_step : (waiting : Waiting) (position : ℕ) (word : Text) (h : Held) → is_no_subcommand (subcommand_or_other c None waiting position word h).1 ≡ true
  other_step waiting position word h = go (bytes_eq word (45 ∷ 45 ∷ []))
    where
      go : (b : Bool) → is_no_subcommand (cond b (h, trailing position) (long_or_other c waiting word (long_of word) h)).1 ≡ true
      go true = refl
      go false = long_step waiting word (long_of word) h

  step_stops : (word : Text) (w : Walk) (h : Held) (step : Step) → is_no_subcommand step ≡ true → is_not_help w.stopped ≡ true
      → is_not_help (after_step c word w h step).stopped ≡ true
  step_stops word w h (next waiting) other stop = stop
  step_stops word w h (trailing position) other stop = stop
  step_stops word w h (subcommand name) other stop = cc
  step_stops word w h value other stop = go (arg_by_index c w.position)
    where
      go : (found : Option Rule) → is_not_help (to_positional c found word w h).stopped ≡ true
      go None = stop
      go (Some a) = refl

-- ---- the walk of a program with the command `help`

module _ (s : Shape) (names : Names) (enabled : s.disable_help_subcommand ≡ false) where
  named_stops : (name word : Text) (h : Held) → other_fault s (Some name) word h ≡ [] → not (bytes_eq name (codes "help")) ≡ true
  named_stops name word h none = go (bytes_eq name (codes "help")) (rw enabled at none)
    where
      go : (b : Bool) → cond (b && true) (DisplayHelp ∷ InvalidSubcommand ∷ []) [] ≡ [] → not b ≡ true
      go true e = cc
      go false e = refl

  turn_stops : (w : Walk) (word : Text) → turn_fault s names w word ≡ [] → is_not_help w.stopped ≡ true → is_not_help (walked s.rules names w word).stopped ≡ true
  unfolding walked
  turn_stops w word none stop = go w.stopped none stop
    where
      met_stops : (met : Option Text) → other_fault s met word w.held ≡ []
          → (let out = subcommand_or_other s.rules met w.waiting w.position word w.held in is_not_help (after_step s.rules word w out.0 out.1).stopped ≡ true)
      met_stops (Some name) e = named_stops name word w.held e
      met_stops None e =
          let out = subcommand_or_other s.rules None w.waiting w.position word w.held in
          step_stops s.rules word w out.0 out.1 (other_step s.rules w.waiting w.position word w.held) stop

      word_stops : (is_trailing : Bool) → word_fault s names is_trailing w.waiting word w.held ≡ []
          → (let met = word_met s.rules names is_trailing w.waiting w.position word w.held in is_not_help (after_step s.rules word w met.0 met.1).stopped ≡ true)
      word_stops true e = step_stops s.rules word w w.held value refl stop
      word_stops false e = met_stops (subcommand_met names w.waiting word) e

      go : (stopped : Option (Text × List Text))
          → (let met = word_met s.rules names w.is_trailing w.waiting w.position word w.held in
          cond (is_some stopped) [] (or_else (word_fault s names w.is_trailing w.waiting word w.held) (step_fault s w.position met.0 met.1))) ≡ []
          → is_not_help stopped ≡ true → is_not_help (walked_from s.rules names stopped w word).stopped ≡ true
      go (Some p) e here = here
      go None e here = word_stops w.is_trailing (no_kinds (word_fault s names w.is_trailing w.waiting word w.held) _ e).0

  walk_stops : (w : Walk) (words : List Text) → walk_fault s names w words ≡ [] → is_not_help w.stopped ≡ true
      → is_not_help (fold (walked s.rules names) w words).stopped ≡ true
  unfolding walk_fault
  walk_stops w [] none stop = stop
  walk_stops w (word ∷ words) none stop =
      let steps = no_kinds (turn_fault s names w word) _ none in
      walk_stops (walked s.rules names w word) words steps.1 (turn_stops w word steps.0 stop)

-- ---- the command that is entered

-- the command at which a walk of the words stopped, which has no fault with those after it
pub record Entered (a : App) (stop : Option (Text × List Text)) : Type 0 where
  pub name : Text
  pub rest : List Text
  pub command : Shape
  pub is_its : find (λ s. answers_to name (label_of s)) a.subs ≡ Some command
  pub is_command : not (bytes_eq name (codes "help")) ≡ true
  pub faultless : level_fault command [] nothing_held rest false [] ≡ []
  pub found : entered a stop ≡ Some (rows_at command rest)

some_mapped : {X Y : Type 0} (f : X → Y) (o : Option X) → is_some (option_map f o) ≡ true → (x : X) × (o ≡ Some x)
some_mapped f None e = cc
some_mapped f (Some x) e = (x, refl)

enters_at : (a : App) (stop : Option (Text × List Text)) → is_some (entered a stop) ≡ true → is_not_help stop ≡ true → entered_fault a stop ≡ [] → Entered a stop
enters_at a None some other none = cc
enters_at a (Some p) some other none =
    let one = some_mapped (λ s. rows_at s p.1) (find (λ s. answers_to p.0 (label_of s)) a.subs) some in
    record {
      name = p.0;
      rest = p.1;
      command = one.0;
      is_its = one.1;
      is_command = other;
      faultless = rw one.1 at none;
      found = ap (option_map (λ s. rows_at s p.1)) one.1;
    }

-- a command is wanted, and it is there
wanted : (has : Bool) (required : Bool) → required ≡ true → (not has && required) ≡ false → has ≡ true
wanted true required is none = refl
wanted false true is none = cc
wanted false false is none = cc

-- the parser has no fault with the words: it entered a command
pub enters : (a : App) (words : List Text) → a.top.subcommand_required ≡ true → a.top.disable_help_subcommand ≡ false → built_fault a nothing_held words ≡ []
    → Entered a (walk a.top.rules (names_of a) nothing_held words).stopped
enters a words required enabled none =
    let stop = (walk a.top.rules (names_of a) nothing_held words).stopped in
    let passed = faultless a.top (names_of a) words (is_some (entered a stop)) (entered_fault a stop) none in
    let some = wanted (is_some (entered a stop)) a.top.subcommand_required required (check_passes _ _ _ passed.check).0 in
    enters_at a stop some (walk_stops a.top (names_of a) enabled (walk_from nothing_held) words passed.turns refl) passed.lower
