-- Where the parser has no fault with the words, each row that it holds has a value.
use Rattle.std.proofs.Common.{◌≡◌, ◌&&◌, ◌||◌, ◌++◌, ℕ, Bool, cond, true, false, not, zero, suc, refl, subst, List, [], ◌∷◌, length, drop, Option, Some, None, is_some, nat_lt}
use Rattle.std.specs.Prelude.{encode_utf8, option_and_then, slice_get}
use Rattle.std.specs.Str.{bytes_eq, chars}
use Rattle.std.specs.List.{find, fold, list_all, list_any}
use Rattle.std.proofs.lemmas.Slice.Eq.{bytes_eq-Decides}
use Rattle.std.specs.Option.{option_map_or}
use Rattle.clap.specs.Lexer.{long_of, short_of}
use Rattle.clap.specs.Values.{is_request}
use Rattle.clap.specs.Facts.{explicit_source, unwrap_or_range}
use Rattle.clap.specs.Kinds.{Kinds, check_kinds, or_else, range_kinds}
use Rattle.clap.specs.Faults.{bundle_fault, bundle_step_fault, check_fault, defaults_fault, flag_word_fault, flags_fault, level_fault, long_fault, option_fault, other_fault, positional_fault, react_fault, settle_fault, short_fault, step_fault, stray_fault, turn_fault, use_fault, walk_fault, word_fault}
use Rattle.clap.specs.Takes.{is_given}
use Rattle.clap.specs.Walk.{Held, Names, Outcome, Row, Rule, Step, Text, Waiting, Walk, action_of, after_flag, after_step, arg_by_id, arg_by_index, arg_by_long, arg_by_short, at_row, attached_value, bundle, bundle_met, bundle_step, default_rows, done, first_of, flag_met, has_row, idle, is_pending, long_met, long_or_other, more_values, most_values, next, nothing_held, option, option_met, option_word, plain, plain_word, positional, positional_held, pushed, reacted, reading_by, refused, rows_after, settled, settled_rows, short_met, short_or_plain, subcommand, subcommand_met, subcommand_or_other, takes_several, takes_values, to_positional, trailing, used, used_as, used_by_id, value, waits, walk, walk_from, walked, walked_from, with_default, with_values, without, word_met}
use Rattle.clap.specs.Simple.{Shape}
use Rattle.clap.specs.declared.builder.action.ArgAction.{ArgAction}
use Rattle.clap.specs.declared.builder.action.ArgAction.TheVariants as action
use Rattle.clap.specs.declared.builder.value_parser.Reading.{Reading}
use Rattle.clap.specs.declared.error.kind.ErrorKind.TheVariants.{TooManyValues}
use Rattle.clap.specs.declared.parser.matches.ValueSource.{ValueSource}
use Rattle.clap.proofs.WalkLemmas.{both}

abbrev pub HasValue : Row → Type 0
HasValue row = is_some (slice_get row.values 0) ≡ true

abbrev pub HaveValues : List Row → Type 0
HaveValues [] = Unit {0}
HaveValues (row ∷ rows) = HasValue row × HaveValues rows

-- two steps have no fault where neither has
pub no_kinds : (first second : Kinds) → or_else first second ≡ [] → (first ≡ []) × (second ≡ [])
no_kinds [] second none = (refl, none)
no_kinds (k ∷ ks) second none = cc

-- what holds of each element holds of the one that a search finds
pub found_passes : {X : Type 0} (p q : X → Bool) (xs : List X) (a : X) → list_all q xs ≡ true → find p xs ≡ Some a → q a ≡ true
found_passes p q [] a all found = cc
found_passes p q (x ∷ xs) a all found =
    go (p x) refl (λ rest. found_passes p q xs a (both _ _ all).1 rest)
  where
    go : (b : Bool) → p x ≡ b → (find p xs ≡ Some a → q a ≡ true) → q a ≡ true
    go true t rec =
        let same : Some x ≡ Some a = rw t at found in
        let is : x ≡ a = cc in
        subst (λ y. q y ≡ true) is (both _ _ all).0
    go false t rec = rec (rw t at found)

-- ---- rows

joined : (xs ys : List Row) → HaveValues xs → HaveValues ys → HaveValues (xs ++ ys)
joined [] ys h k = k
joined (x ∷ xs) ys h k = (h.0, joined xs ys h.1 k)

at_row_values : (id : Text) (change : Row → List Row) (missing : List Row) → ((row : Row) → HasValue row → HaveValues (change row)) → HaveValues missing
    → (rows : List Row) → HaveValues rows → HaveValues (at_row id change missing rows)
at_row_values id change missing changed new [] h = new
at_row_values id change missing changed new (row ∷ rows) h = go (bytes_eq row.id id) (at_row_values id change missing changed new rows h.1)
  where
    go : (b : Bool) → HaveValues (at_row id change missing rows) → HaveValues (cond b (change row ++ rows) (row ∷ at_row id change missing rows))
    go true rest = joined (change row) rows (changed row h.0) h.1
    go false rest = (h.0, rest)

ends_in_some : (xs : List Text) (v : Text) (vs : List Text) → is_some (slice_get (xs ++ v ∷ vs) 0) ≡ true
ends_in_some [] v vs = refl
ends_in_some (x ∷ xs) v vs = refl

added_values : (id : Text) (how : Reading) (source : ValueSource) (v : Text) (vs : List Text) (rows : List Row)
    → HaveValues rows → HaveValues (with_values id how source (v ∷ vs) rows)
added_values id how source v vs rows h = at_row_values id (more_values source (v ∷ vs)) _ (λ row has. (ends_in_some row.values v vs, tt)) (refl, tt) rows h

left_values : (id : Text) (rows : List Row) → HaveValues rows → HaveValues (without id rows)
left_values id rows h = at_row_values id (λ _. []) [] (λ row has. tt) tt rows h

-- ---- one use of an argument

-- a value stands for a use of the argument without one
abbrev pub has_missing : Rule → Bool
has_missing a = is_some (slice_get a.missing 0)

-- each use of the argument has a value, or asks for help or the version
abbrev pub wants_value : Rule → Bool
wants_value a =
    nat_lt 0 (unwrap_or_range a.range).start_inclusive || (has_missing a || is_request (action_of a))

some_used : (x : ArgAction) (id : Text) (how : Reading) (v : Text) (vs : List Text) (rows : List Row) → HaveValues rows → HaveValues (used_as x id how (v ∷ vs) rows)
some_used action.Set id how v vs rows h = added_values id how _ v vs (without id rows) (left_values id rows h)
some_used action.SetTrue id how v vs rows h = added_values id how _ v vs (without id rows) (left_values id rows h)
some_used action.SetFalse id how v vs rows h = added_values id how _ v vs (without id rows) (left_values id rows h)
some_used action.Append id how v vs rows h = added_values id how _ v vs rows h
some_used action.Count id how v vs rows h = added_values id how _ v vs (without id rows) (left_values id rows h)
some_used action.Help id how v vs rows h = h
some_used action.HelpShort id how v vs rows h = h
some_used action.HelpLong id how v vs rows h = h
some_used action.Version id how v vs rows h = h

request_used : (x : ArgAction) (id : Text) (how : Reading) (values : List Text) (rows : List Row) → is_request x ≡ true → HaveValues rows → HaveValues (used_as x id how values rows)
request_used action.Set id how values rows e h = cc
request_used action.SetTrue id how values rows e h = cc
request_used action.SetFalse id how values rows e h = cc
request_used action.Append id how values rows e h = cc
request_used action.Count id how values rows e h = cc
request_used action.Help id how values rows e h = h
request_used action.HelpShort id how values rows e h = h
request_used action.HelpLong id how values rows e h = h
request_used action.Version id how values rows e h = h

-- a use without a value
used_with : (missing : List Text) (x : ArgAction) (id : Text) (how : Reading) (rows : List Row) → (is_some (slice_get missing 0) || is_request x) ≡ true → HaveValues rows
    → HaveValues (used_as x id how missing rows)
used_with [] x id how rows asks h = request_used x id how [] rows asks h
used_with (v ∷ vs) x id how rows asks h = some_used x id how v vs rows h

used_without : (a : Rule) (rows : List Row) → (has_missing a || is_request (action_of a)) ≡ true → HaveValues rows → HaveValues (used a [] rows)
used_without a rows asks h = used_with a.missing (action_of a) a.id (reading_by a) rows asks h

used_values : (again : Bool) (a : Rule) (values : List Text) (rows : List Row) → wants_value a ≡ true → use_fault again a values rows ≡ []
    → HaveValues rows → HaveValues (used a values rows)
used_values again a (v ∷ vs) rows wants none h = some_used (action_of a) a.id (reading_by a) v vs rows h
used_values again a [] rows wants none h = go (nat_lt 0 (unwrap_or_range a.range).start_inclusive) refl
  where
    go : (b : Bool) → nat_lt 0 (unwrap_or_range a.range).start_inclusive ≡ b → HaveValues (used a [] rows)
    go true t =
        let range = (no_kinds (range_kinds (unwrap_or_range a.range).start_inclusive (most_values a) 0) _ none).0 in
        let bad = rw t at range in
        cc
    go false t =
        let asks : (has_missing a || is_request (action_of a)) ≡ true = rw t at wants in
        used_without a rows asks h

-- ---- the walk

module _ (c : List Rule) (again : Bool) (all_want : list_all wants_value c ≡ true) where
  by_id_values : (found : Option Rule) (values : List Text) (rows : List Row) → ((a : Rule) → found ≡ Some a → wants_value a ≡ true)
      → option_map_or (λ a. use_fault again a values rows) found [] ≡ [] → HaveValues rows → HaveValues (used_by_id found values rows)
  by_id_values None values rows wants none h = h
  by_id_values (Some a) values rows wants none h = used_values again a values rows (wants a refl) none h

  settled_values : (h : Held) → settle_fault c again h ≡ [] → HaveValues h.rows → HaveValues (settled c h).rows
  settled_values h none rows = go h.pending none
    where
      go : (pending : Option (Text × List Text)) → option_map_or (λ p. option_map_or (λ a. use_fault again a p.1 h.rows) (arg_by_id c p.0) []) pending [] ≡ []
          → HaveValues (settled_rows c pending h.rows)
      go None e = rows
      go (Some p) e = by_id_values (arg_by_id c p.0) p.1 h.rows (λ a found. found_passes _ wants_value c a all_want found) e rows

  reacted_values : (a : Rule) (values : List Text) (h : Held) → wants_value a ≡ true → react_fault c again a values h ≡ [] → HaveValues h.rows
      → HaveValues (reacted c a values h).rows
  reacted_values a values h wants none rows =
      let steps = no_kinds (settle_fault c again h) _ none in
      used_values again a values (settled c h).rows wants steps.1 (settled_values h steps.0 rows)

  option_values : (a : Rule) (v : Option Text) (h : Held) → wants_value a ≡ true → option_fault c again a v h ≡ [] → HaveValues h.rows
      → HaveValues (option_met c a v h).0.rows
  option_values a (Some v) h wants none rows = reacted_values a (v ∷ []) h wants none rows
  option_values a None h wants none rows = settled_values h none rows

  flag_values : (a : Rule) (v : Option Text) (h : Held) (over : Kinds) → wants_value a ≡ true → cond (is_some v) over (react_fault c again a [] h) ≡ [] → HaveValues h.rows
      → HaveValues (flag_met c a v h).0.rows
  flag_values a (Some v) h over wants none rows = rows
  flag_values a None h over wants none rows = reacted_values a [] h wants none rows

  long_values : (found : Option Rule) (v : Option Text) (h : Held) → ((a : Rule) → found ≡ Some a → wants_value a ≡ true)
      → long_fault c again found v h ≡ [] → HaveValues h.rows → HaveValues (long_met c found v h).0.rows
  long_values None v h wants none rows = rows
  long_values (Some a) v h wants none rows = go (takes_values a) (TooManyValues ∷ []) none
    where
      go : (b : Bool) (over : Kinds) → cond b (option_fault c again a v h) (cond (is_some v) over (react_fault c again a [] h)) ≡ []
          → HaveValues (cond b (option_met c a v h) (flag_met c a v h)).0.rows
      go true over e = option_values a v h (wants a refl) e rows
      go false over e = flag_values a v h over (wants a refl) e rows

  short_values : (found : Option Rule) (rest : Text) (h : Held) (next_fault : Held → Kinds) (next_met : Held → Held × Outcome)
      → ((k : Held) → next_fault k ≡ [] → HaveValues k.rows → HaveValues (next_met k).0.rows)
      → ((a : Rule) → found ≡ Some a → wants_value a ≡ true)
      → short_fault c again found rest h next_fault ≡ [] → HaveValues h.rows → HaveValues (short_met c found rest h next_met).0.rows
  short_values None rest h next_fault next_met more wants none rows = rows
  short_values (Some a) rest h next_fault next_met more wants none rows = go (takes_values a) none
    where
      go : (b : Bool) → cond b (option_fault c again a (attached_value rest) h) (or_else (react_fault c again a [] h) (next_fault (reacted c a [] h))) ≡ []
          → HaveValues (cond b (option_met c a (attached_value rest) h) (next_met (reacted c a [] h))).0.rows
      go true e = option_values a (attached_value rest) h (wants a refl) e rows
      go false e =
          let steps = no_kinds (react_fault c again a [] h) _ e in
          more (reacted c a [] h) steps.1 (reacted_values a [] h (wants a refl) steps.0 rows)

  step_values : (first : Option ℕ) (flags : Text) (skip : ℕ) (so_far : Outcome) (h : Held)
      (next_fault : Text → ℕ → Held → Kinds) (next_met : Text → ℕ → Outcome → Held → Held × Outcome)
      → ((rest : Text) (skip : ℕ) (so_far : Outcome) (k : Held) → next_fault rest skip k ≡ [] → HaveValues k.rows → HaveValues (next_met rest skip so_far k).0.rows)
      → bundle_step_fault c again first flags skip h next_fault ≡ [] → HaveValues h.rows → HaveValues (bundle_step c first flags skip so_far h next_met).0.rows
  step_values None flags skip so_far h next_fault next_met more none rows = rows
  step_values (Some x) flags zero so_far h next_fault next_met more none rows =
      let rest = drop (length (encode_utf8 x)) flags in
      short_values (arg_by_short c x) rest h (next_fault rest 0) (next_met rest 0 done) (more rest 0 done)
      (λ a found. found_passes _ wants_value c a all_want found) none rows
  step_values (Some x) flags (suc skip) so_far h next_fault next_met more none rows =
      more (drop (length (encode_utf8 x)) flags) skip so_far h none rows

  bundle_values : (k : ℕ) (flags : Text) (skip : ℕ) (so_far : Outcome) (h : Held) → flags_fault c again k flags skip h ≡ [] → HaveValues h.rows
      → HaveValues (bundle_met c k flags skip so_far h).0.rows
  unfolding flags_fault bundle_met
  bundle_values zero flags skip so_far h none rows = rows
  bundle_values (suc k) flags skip so_far h none rows =
      step_values (slice_get (chars flags) 0) flags skip so_far h (flags_fault c again k) (bundle_met c k) (bundle_values k) none rows

  plain_values : (waiting : Waiting) (word : Text) (h : Held) → HaveValues h.rows → HaveValues (plain_word c waiting word h).0.rows
  plain_values idle word h rows = rows
  plain_values positional word h rows = rows
  plain_values (option id) word h rows = go (arg_by_id c id)
    where
      go : (found : Option Rule) → HaveValues (option_word found id word h).0.rows
      go None = rows
      go (Some a) = rows

  after_values : (waiting : Waiting) (word : Text) (h : Held) (o : Outcome) → HaveValues h.rows → HaveValues (after_flag c waiting word h o).0.rows
  after_values waiting word h done rows = rows
  after_values waiting word h (waits id) rows = rows
  after_values waiting word h plain rows = plain_values waiting word h rows
  after_values waiting word h refused rows = plain_values waiting word h rows

  short_word_values : (waiting : Waiting) (word : Text) (flags : Option Text) (h : Held) → option_map_or (λ x. bundle_fault c again x h) flags [] ≡ [] → HaveValues h.rows
      → HaveValues (short_or_plain c waiting word flags h).0.rows
  short_word_values waiting word None h none rows = plain_values waiting word h rows
  short_word_values waiting word (Some flags) h none rows =
      after_values waiting word (bundle c flags h).0 (bundle c flags h).1 (bundle_values (length flags) flags h.skip plain (record h { skip = 0 }) none rows)

  flag_word_values : (waiting : Waiting) (word : Text) (named : Option (Text × Option Text)) (h : Held) → flag_word_fault c again named word h ≡ [] → HaveValues h.rows
      → HaveValues (long_or_other c waiting word named h).0.rows
  flag_word_values waiting word (Some p) h none rows =
      let met = long_met c (arg_by_long c p.0) p.1 h in
      after_values waiting word met.0 met.1
      (long_values (arg_by_long c p.0) p.1 h (λ a found. found_passes _ wants_value c a all_want found) none rows)
  flag_word_values waiting word None h none rows = short_word_values waiting word (short_of word) h none rows

  positional_values : (a : Rule) (word : Text) (h : Held) → positional_fault c again a h ≡ [] → HaveValues h.rows → HaveValues (positional_held c a word h).rows
  positional_values a word h none rows = go (is_pending a h.pending && takes_several a) none
    where
      go : (b : Bool) → cond b [] (settle_fault c again h) ≡ [] → HaveValues (pushed a.id word (cond b h (settled c h))).rows
      go true e = rows
      go false e = settled_values h e rows

-- each argument of the command has a value at each use, or asks for help or the version
abbrev pub all_want_values : Shape → Bool
all_want_values s = list_all wants_value s.rules

module _ (s : Shape) (names : Names) (all_want : all_want_values s ≡ true) where
  word_values : (is_trailing : Bool) (waiting : Waiting) (position : ℕ) (word : Text) (h : Held) → word_fault s names is_trailing waiting word h ≡ [] → HaveValues h.rows
      → HaveValues (word_met s.rules names is_trailing waiting position word h).0.rows
  word_values true waiting position word h none rows = rows
  word_values false waiting position word h none rows = go (subcommand_met names waiting word) none
    where
      at : (b : Bool) → cond b [] (flag_word_fault s.rules s.args_override_self (long_of word) word h) ≡ []
          → HaveValues (cond b (h, trailing position) (long_or_other s.rules waiting word (long_of word) h)).0.rows
      at true e = rows
      at false e = flag_word_values s.rules s.args_override_self all_want waiting word (long_of word) h e rows

      go : (met : Option Text) → other_fault s met word h ≡ [] → HaveValues (subcommand_or_other s.rules met waiting position word h).0.rows
      go (Some name) e = rows
      go None e = at (bytes_eq word (45 ∷ 45 ∷ [])) e

  after_step_values : (w : Walk) (word : Text) (h : Held) (step : Step) → step_fault s w.position h step ≡ [] → HaveValues h.rows
      → HaveValues (after_step s.rules word w h step).held.rows
  after_step_values w word h (next waiting) none rows = rows
  after_step_values w word h (trailing position) none rows = rows
  after_step_values w word h (subcommand name) none rows = rows
  after_step_values w word h value none rows = go (arg_by_index s.rules w.position) none
    where
      go : (found : Option Rule) → option_map_or (λ a. positional_fault s.rules s.args_override_self a h) found (stray_fault s) ≡ []
          → HaveValues (to_positional s.rules found word w h).held.rows
      go None e = rows
      go (Some a) e = positional_values s.rules s.args_override_self all_want a word h e rows

  turn_values : (w : Walk) (word : Text) → turn_fault s names w word ≡ [] → HaveValues w.held.rows → HaveValues (walked s.rules names w word).held.rows
  unfolding walked
  turn_values w word none rows = go w.stopped none
    where
      go : (stopped : Option (Text × List Text))
          → (let met = word_met s.rules names w.is_trailing w.waiting w.position word w.held in
          cond (is_some stopped) [] (or_else (word_fault s names w.is_trailing w.waiting word w.held) (step_fault s w.position met.0 met.1))) ≡ []
          → HaveValues (walked_from s.rules names stopped w word).held.rows
      go (Some p) e = rows
      go None e =
          let met = word_met s.rules names w.is_trailing w.waiting w.position word w.held in
          let steps = no_kinds (word_fault s names w.is_trailing w.waiting word w.held) _ e in
          after_step_values w word met.0 met.1 steps.1 (word_values w.is_trailing w.waiting w.position word w.held steps.0 rows)

  walk_values : (w : Walk) (words : List Text) → walk_fault s names w words ≡ [] → HaveValues w.held.rows → HaveValues (fold (walked s.rules names) w words).held.rows
  unfolding walk_fault
  walk_values w [] none rows = rows
  walk_values w (word ∷ words) none rows =
      let steps = no_kinds (turn_fault s names w word) _ none in
      walk_values (walked s.rules names w word) words steps.1 (turn_values w word steps.0 rows)

-- ---- after the walk

default_values : (id : Text) (how : Reading) (values : List Text) (rows : List Row) → HaveValues rows → HaveValues (default_rows id how values rows)
default_values id how [] rows h = h
default_values id how (v ∷ vs) rows h = added_values id how _ v vs rows h

with_default_values : (rows : List Row) (a : Rule) → HaveValues rows → HaveValues (with_default rows a)
with_default_values rows a h = go (has_row a.id rows)
  where
    go : (b : Bool) → HaveValues (cond b rows (default_rows a.id (reading_by a) a.defaults rows))
    go true = h
    go false = default_values a.id (reading_by a) a.defaults rows h

defaults_values : (rows : List Row) (xs : List Rule) → HaveValues rows → HaveValues (fold with_default rows xs)
defaults_values rows [] h = h
defaults_values rows (a ∷ xs) h = defaults_values (with_default rows a) xs (with_default_values rows a h)

-- one level of a parse has no fault, step by step
pub record Faultless (s : Shape) (names : Names) (words : List Text) (has_subcommand : Bool) (below : Kinds) : Type 0 where
  pub turns : walk_fault s names (walk_from nothing_held) words ≡ []
  pub lower : below ≡ []
  pub settle : settle_fault s.rules s.args_override_self (walk s.rules names nothing_held words).held ≡ []
  pub check : check_fault s (rows_after s.rules names words) has_subcommand ≡ []

pub faultless : (s : Shape) (names : Names) (words : List Text) (has_subcommand : Bool) (below : Kinds)
    → level_fault s names nothing_held words has_subcommand below ≡ [] → Faultless s names words has_subcommand below
faultless s names words has_subcommand below none =
    let first = no_kinds (walk_fault s names (walk_from nothing_held) words) _ none in
    let second = no_kinds below _ first.1 in
    let third = no_kinds (settle_fault s.rules s.args_override_self (walk s.rules names nothing_held words).held) _ second.1 in
    let fourth = no_kinds (defaults_fault (settled s.rules (walk s.rules names nothing_held words).held).rows s.rules) _ third.1 in
    record { turns = first.0; lower = second.0; settle = third.0; check = fourth.1 }

pub rows_have_values : (s : Shape) (names : Names) (words : List Text) (has_subcommand : Bool) (below : Kinds) → all_want_values s ≡ true
    → Faultless s names words has_subcommand below → HaveValues (rows_after s.rules names words)
rows_have_values s names words has_subcommand below all_want passed =
    let end = (walk s.rules names nothing_held words).held in
    let walked_rows = walk_values s names all_want (walk_from nothing_held) words passed.turns tt in
    defaults_values (settled s.rules end).rows s.rules (settled_values s.rules s.args_override_self all_want end passed.settle walked_rows)

-- ---- what is required

pub check_passes : (wants_help wants_subcommand wants_argument : Bool) → check_kinds wants_help wants_subcommand wants_argument ≡ []
    → (wants_subcommand ≡ false) × (wants_argument ≡ false)
check_passes false false false none = (refl, refl)
check_passes true wants_subcommand wants_argument none = cc
check_passes false true wants_argument none = cc
check_passes false false true none = cc

given_value : (id : Text) (rows : List Row) → HaveValues rows → is_given id rows ≡ true → is_some (first_of id rows) ≡ true
given_value id [] h given = cc
given_value id (row ∷ rows) h given = go (bytes_eq row.id id) given (given_value id rows h.1)
  where
    go : (b : Bool) → option_map_or (λ (r : Row). explicit_source r.source) (cond b (Some row) (find (λ r. bytes_eq r.id id) rows)) false ≡ true
        → (is_given id rows ≡ true → is_some (first_of id rows) ≡ true)
        → is_some (option_and_then (λ (r : Row). slice_get r.values 0) (cond b (Some row) (find (λ r. bytes_eq r.id id) rows))) ≡ true
    go true e rec = h.0
    go false e rec = rec e

neither : (a b : Bool) → (a || b) ≡ false → (a ≡ false) × (b ≡ false)
neither true b e = cc
neither false b e = (refl, e)

-- an argument of that id is required
abbrev pub requires_value : Text → Rule → Bool
requires_value id a = a.required && bytes_eq a.id id

required_given : (id : Text) (rows : List Row) (xs : List Rule) → list_any (λ a. a.required && not (is_given a.id rows)) xs ≡ false
    → list_any (requires_value id) xs ≡ true → is_given id rows ≡ true
required_given id rows [] none some = cc
required_given id rows (a ∷ xs) none some =
    let parts = neither (a.required && not (is_given a.id rows)) _ none in
    go a.required (bytes_eq a.id id) refl parts.0 some (required_given id rows xs parts.1)
  where
    not_not : (b : Bool) → not b ≡ false → b ≡ true
    not_not true e = refl
    not_not false e = cc

    go : (required same : Bool) → bytes_eq a.id id ≡ same → (required && not (is_given a.id rows)) ≡ false
        → ((required && same) || list_any (requires_value id) xs) ≡ true
        → (list_any (requires_value id) xs ≡ true → is_given id rows ≡ true) → is_given id rows ≡ true
    go true true is first any rec =
        let one : a.id ≡ id = (bytes_eq-Decides a.id id).0 is in
        subst (λ x. is_given x rows ≡ true) one (not_not _ first)
    go true false is first any rec = rec any
    go false same is first any rec = rec any

no_and : (b : Bool) → (b && false) ≡ false
no_and true = refl
no_and false = refl

some_is : {X : Type 0} (found : Option X) → is_some found ≡ true → (x : X) × (found ≡ Some x)
some_is None e = cc
some_is (Some x) e = (x, refl)

-- where the parser has no fault with the words of a command, an argument that is required has a value
pub required_value : (s : Shape) (words : List Text) (id : Text) → all_want_values s ≡ true → list_any (requires_value id) s.rules ≡ true
    → level_fault s [] nothing_held words false [] ≡ [] → (word : Text) × (first_of id (rows_after s.rules [] words) ≡ Some word)
required_value s words id all_want requires none =
    let passed = faultless s [] words false [] none in
    let rows = rows_after s.rules [] words in
    let missing : (not (s.subcommand_negates_reqs && false) && list_any (λ a. a.required && not (is_given a.id rows)) s.rules) ≡ false =
    (check_passes _ _ _ passed.check).1 in
    let none_missing : list_any (λ a. a.required && not (is_given a.id rows)) s.rules ≡ false = rw (no_and s.subcommand_negates_reqs) at missing in
    some_is _ (given_value id rows (rows_have_values s [] words false [] all_want passed) (required_given id rows s.rules none_missing requires))
