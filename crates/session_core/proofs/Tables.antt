-- The table at each input.
use Rattle.std.proofs.Common.{◌≡◌, ℕ, ◌<◌, Bool, true, false, cond, ◌&&◌, List, [], ◌∷◌, ◌++◌, length, refl, ap, ◌∙◌, arith, nat_lt}
use Rattle.std.proofs.lemmas.Bool.{false≢true, lt-ltb, true≢false}
use Rattle.authorizer.specs.Users.{Users}
use Rattle.ftp_wire.specs.Items.{Item}
use Rattle.ftp_wire.specs.Reading.{item_of}
use Rattle.ftp_wire.specs.declared.items.LineItem.{LineItem}
use Rattle.session_table.specs.declared.rules.Meanwhile.{Meanwhile}
use Rattle.session_table.specs.declared.inputs.Input.TheVariants as input
use Rattle.session_table.specs.Rules.{meanwhile_of}
use Rattle.session_table.specs.Steps.{holds_some, is_due}
use Rattle.session_table.specs.Table.{Taken, beside, gives_up, held_row, holds, idle, in_turn, line_row, meanwhile, meanwhile_as, most_held, served, table}
use Rattle.session_table.specs.Views.{View, counts_lines, is_busy, serves_lines}

module _ {A R K : Type 0} (users : Users) (view : View) (held : List Item) (moment : ℕ) where
  -- a line counts for nothing but while the control connection is open
  pub at_shut_line : (item : LineItem A) → counts_lines view ≡ false → table {R = R} {K = K} users view held moment (input.Line item) ≡ beside held (idle view)
  at_shut_line item shut = ap (λ (b : Bool). cond b (line_row users view held moment (item_of item)) (beside held (idle view))) shut

  -- a line while something has begun, by what becomes of it
  pub meanwhile_at : (item : Item) (m : Meanwhile) → meanwhile_of item ≡ m → meanwhile {A = A} {R = R} {K = K} users view held moment item ≡ meanwhile_as view held item (served users view moment item) m
  meanwhile_at item m is = ap (meanwhile_as view held item (served users view moment item)) is

  -- a line, while something has begun and while nothing has
  counted : (item : LineItem A) → counts_lines view ≡ true → table {R = R} {K = K} users view held moment (input.Line item) ≡ line_row users view held moment (item_of item)
  counted item counts = ap (λ (b : Bool). cond b (line_row users view held moment (item_of item)) (beside held (idle view))) counts

  pub at_busy_line : (item : LineItem A) → counts_lines view ≡ true → is_busy view.work ≡ true
      → table {R = R} {K = K} users view held moment (input.Line item) ≡ meanwhile users view held moment (item_of item)
  at_busy_line item counts busy =
      counted item counts ∙ ap (λ (b : Bool). cond b (meanwhile {A = A} {R = R} {K = K} users view held moment (item_of item)) (in_turn users view moment (item_of item) held)) busy

  pub at_idle_line : (item : LineItem A) → counts_lines view ≡ true → is_busy view.work ≡ false
      → table {R = R} {K = K} users view held moment (input.Line item) ≡ in_turn users view moment (item_of item) held
  at_idle_line item counts idle =
      counted item counts ∙ ap (λ (b : Bool). cond b (meanwhile {A = A} {R = R} {K = K} users view held moment (item_of item)) (in_turn users view moment (item_of item) held)) idle

  -- where no line is due, none is taken
  pub at_not_due : is_due view held ≡ false → table {A = A} {R = R} {K = K} users view held moment input.Held ≡ beside held (idle view)
  at_not_due none = by (serves_lines view) held none
    where
      by : (serves : Bool) (waiting : List Item) → (serves && holds_some waiting) ≡ false
          → cond serves (held_row {A = A} {R = R} {K = K} users view moment waiting) (beside waiting (idle view)) ≡ beside waiting (idle view)
      by false waiting is = refl
      by true [] is = refl
      by true (first ∷ others) is = absurd (true≢false is)

  -- where one is due, it is the first
  pub at_due : is_due view held ≡ true → table {A = A} {R = R} {K = K} users view held moment input.Held ≡ held_row users view moment held
  at_due due = by (serves_lines view) due
    where
      by : (serves : Bool) → (serves && holds_some held) ≡ true
          → cond serves (held_row {A = A} {R = R} {K = K} users view moment held) (beside held (idle view)) ≡ held_row users view moment held
      by true is = refl
      by false is = absurd (false≢true is)

-- a line behind those that wait, and a line while none waits
pub in_turn_behind : {A R K : Type 0} (users : Users) (view : View) (moment : ℕ) (item : Item) (held : List Item) → 0 < length held
    → in_turn {A = A} {R = R} {K = K} users view moment item held ≡ holds view held item
in_turn_behind users view moment item [] some = absurd (omega (arith, some))
in_turn_behind users view moment item (first ∷ others) some = refl

pub in_turn_alone : {A R K : Type 0} (users : Users) (view : View) (moment : ℕ) (item : Item) (held : List Item) → held ≡ []
    → in_turn {A = A} {R = R} {K = K} users view moment item held ≡ record { plan = served users view moment item; held = [] }
in_turn_alone users view moment item held none = ap (in_turn users view moment item) none

-- a line more is held where there is room
pub holds_few : {A R K : Type 0} (view : View) (held : List Item) (item : Item) → length held < most_held
    → holds {A = A} {R = R} {K = K} view held item ≡ record { plan = idle view; held = held ++ item ∷ [] }
holds_few {A} {R} {K} view held item few = by (nat_lt (length held) most_held) (lt-ltb (length held) most_held few)
  where
    full : Taken A R K
    full = record { plan = gives_up view; held = held }

    by : (b : Bool) → b ≡ true → cond b (record { plan = idle view; held = held ++ item ∷ [] }) full ≡ record { plan = idle view; held = held ++ item ∷ [] }
    by true is = refl
    by false is = absurd (false≢true is)
