-- A walk over the words of a command, one after another, and what makes them taken.
use Rattle.std.proofs.Common.{◌&&◌, ◌∙◌, ap, refl, sym, subst, true, false, Bool, ◌≡◌, List, [], ◌∷◌, None, Some}
use Rattle.std.specs.List.{find, fold, list_all}
use Rattle.clap.specs.Takes.{built_takes, default_passes, is_valid, level_passes, settle_passes, turn_passes, walk_passes}
use Rattle.clap.specs.Walk.{Row, Text, Walk, answers_to, finished, idle, nothing_held, option, walk, walk_from, walked}
use Rattle.clap.specs.Simple.{App, Shape, label_of, names_of}
use Rattle.clap.specs.declared.builder.value_parser.Reading.TheVariants.{AsWritten}
use Rattle.clap.specs.declared.parser.matches.ValueSource.TheVariants.{CommandLine}

abbrev pub row : Text → Text → Row
row id value = record { id = id; values = value ∷ []; count = None; source = Some CommandLine; reading = AsWritten }

-- the walk after a value of that argument, before which it held those rows
abbrev pub valued : List Row → Text → Text → Walk
valued rows id value = record {
  held = record { rows = rows; pending = Some (id, value ∷ []); skip = 0 };
  waiting = idle;
  position = 2;
  is_trailing = false;
  stopped = None;
}

-- the walk after that option, which waits for its value
abbrev pub waiting_for : List Row → Text → Walk
waiting_for rows id = record {
  held = record { rows = rows; pending = Some (id, []); skip = 0 };
  waiting = option id;
  position = 2;
  is_trailing = false;
  stopped = None;
}

-- a word passes from one place of a walk to the next
pub record Turns (s : Shape) (w after : Walk) (word : Text) : Type 0 where
  pub passes : turn_passes s [] w word ≡ true
  pub leads : walked s.rules [] w word ≡ after

-- the words pass from a place of a walk to another
pub record Walks (s : Shape) (w after : Walk) (words : List Text) : Type 0 where
  pub passes : walk_passes s [] w words ≡ true
  pub leads : fold (walked s.rules []) w words ≡ after

pub ends : (s : Shape) (w : Walk) → Walks s w w []
unfolding walk_passes
ends s w = record { passes = refl; leads = refl }

pub and_then : (a b : Bool) → a ≡ true → b ≡ true → (a && b) ≡ true
and_then true true e k = refl
and_then true false e k = cc
and_then false b e k = cc

first_passes : (s : Shape) (w after : Walk) (word : Text) (words : List Text) → turn_passes s [] w word ≡ true → walked s.rules [] w word ≡ after
    → walk_passes s [] after words ≡ true → walk_passes s [] w (word ∷ words) ≡ true
unfolding walk_passes
first_passes s w after word words passes leads more = and_then _ _ passes (subst (λ (x : Walk). walk_passes s [] x words ≡ true) (sym leads) more)

first_leads : (s : Shape) (w after last : Walk) (word : Text) (words : List Text) → walked s.rules [] w word ≡ after
    → fold (walked s.rules []) after words ≡ last → fold (walked s.rules []) w (word ∷ words) ≡ last
first_leads s w after last word words leads more = ap (λ (x : Walk). fold (walked s.rules []) x words) leads ∙ more

pub turn : (s : Shape) (w after last : Walk) (word : Text) (words : List Text) → turn_passes s [] w word ≡ true → walked s.rules [] w word ≡ after → Walks s after last words
    → Walks s w last (word ∷ words)
turn s w after last word words passes leads more =
    record { passes = first_passes s w after word words passes leads more.passes; leads = first_leads s w after last word words leads more.leads }

-- ---- the words are taken

pub level : (s : Shape) (words : List Text) (end : Walk) → Walks s (walk_from nothing_held) end words → settle_passes s.rules s.args_override_self end.held ≡ true
    → list_all default_passes s.rules ≡ true → is_valid s (finished s.rules end.held) false ≡ true → level_passes s [] nothing_held words false ≡ true
level s words end walks settles defaults valid =
    let is : walk s.rules [] nothing_held words ≡ end = walks.leads in
    and_then _ _ walks.passes
    (and_then _ _ (subst (λ (x : Walk). settle_passes s.rules s.args_override_self x.held ≡ true) (sym is) settles)
    (and_then _ _ defaults (subst (λ (x : Walk). is_valid s (finished s.rules x.held) false ≡ true) (sym is) valid)))

pub by_level : (a : App) (words : List Text) (name : Text) (rest : List Text) (s : Shape) → (walk a.top.rules (names_of a) nothing_held words).stopped ≡ Some (name, rest)
    → find (λ t. answers_to name (label_of t)) a.subs ≡ Some s → level_passes s [] nothing_held rest false ≡ true
    → level_passes a.top (names_of a) nothing_held words true ≡ true → built_takes a nothing_held words ≡ true
by_level a words name rest s stops found below above = rw stops (rw found (and_then _ _ below above))
