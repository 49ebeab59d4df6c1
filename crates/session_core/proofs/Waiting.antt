-- The lines that wait, of which the first is taken.
use Rattle.std.proofs.Common.{◌≡◌, ℕ, zero, suc, ◌<◌, Bool, true, false, ◌&&◌, ◌==◌, List, [], ◌∷◌, length, refl, sym, ap, arith}
use Rattle.std.proofs.lemmas.Bool.{false≢true, true≢false}
use Rattle.std.specs.Prelude.{slice_index_or}
use Rattle.std.specs.List.{remove}
use Rattle.ftp_wire.specs.Items.{Item}
use Rattle.ftp_wire.specs.Reading.{items_of}
use Rattle.ftp_wire.specs.declared.items.LineItem.{LineItem}
use Rattle.session_table.specs.Views.{View, serves_lines}
use Rattle.session_table.specs.Steps.{is_due}

pub front : {X : Type 0} (items : List X) (x : X) → 0 < length items → x ≡ slice_index_or items 0 x → items ≡ x ∷ remove items 0
front [] x some is = absurd (omega (arith, some))
front (y ∷ ys) x some is = ap (λ z. z ∷ ys) (sym is)

pub no_items : {A : Type 0} (items : List (LineItem A)) → length items ≡ 0 → items_of items ≡ []
no_items [] none = refl
no_items (item ∷ items) none = absurd (omega (arith, none))

pub positive : (n : ℕ) → (n == 0) ≡ false → 0 < n
positive zero is = absurd (true≢false is)
positive (suc n) is = omega arith

and_right : (b c : Bool) → (b && c) ≡ true → c ≡ true
and_right true c both = both
and_right false c both = absurd (false≢true both)

-- where a line is due, one waits
pub due_waits : (view : View) (held : List Item) → is_due view held ≡ true → 0 < length held
due_waits view [] due = absurd (false≢true (and_right (serves_lines view) false due))
due_waits view (first ∷ others) due = omega arith
