use Rattle.std.proofs.Common.{◌≡◌, ◌∙◌, ◌<◌, ◌≤◌, ◌∷◌, ◌++◌, [], ℕ, sym, ap, arith, append-nil, map, length, filter_map, get_or, Option, Some, None, List, Vec}
use Rattle.std.proofs.lemmas.List.{take_all}
use Rattle.sheet_commands.specs.declared.grants.Given.{Given}
use Rattle.sheet_commands.proofs.Filling.{slot_more}
use Rattle.sheet_commands.proofs.grants.Slots.lists.Goals.{in-Some+in_ok-push+in_ok-push-2, in_default}
use Rattle.sheet_commands.proofs.grants.Slots.lists.Goals as goal

pub loop-slot-preserved : goal.loop-slot-preserved
loop-slot-preserved g c =
    let slots = c.args.self.now.slots.items in
    let index = c.loop-slot.slot-index in
    let same : c.deref-slot-items.result.now ≡ slots = c.deref-slot-items.ensures.value in
    let within : index < length slots = omega (arith, ap length same, c.loop-slot-test.true) in
    elim c.match-slot.branch [
      | in-Some+in_ok-push+in_ok-push-2 w ↦
          let is : get_or slots index None ≡ Some w.in-Some.given = ap (λ (xs : List (Option Given)). get_or xs index None) (sym same) ∙ w.in-Some.is in
          let grants : w.push.new.self.items ≡ c.loop-slot.grants.items ++ w.in-Some.given.octets ∷ [] = w.in_ok-push.ensures.items in
          let entries : w.push-in-Some.new.self.items ≡ c.loop-slot.entries.items ++ w.in-Some.given.node ∷ [] = w.in_ok-push-2.ensures.items in
          record {
            grants = ap (λ (v : Vec ℕ g.row.A.Denot). v.items) w.grants-is ∙ grants ∙ ap (λ (xs : List ℕ). xs ++ w.in-Some.given.octets ∷ []) c.loop-slot.invariant.grants
                ∙ sym (slot_more (λ (given : Given). given.octets) slots index (Some w.in-Some.given) None within is);
            entries = ap (λ (v : Vec (Option ℕ) g.row.A.Denot). v.items) w.entries-is ∙ entries ∙ ap (λ (xs : List (Option ℕ)). xs ++ w.in-Some.given.node ∷ []) c.loop-slot.invariant.entries
                ∙ sym (slot_more (λ (given : Given). given.node) slots index (Some w.in-Some.given) None within is);
          }
      | in_default w ↦
          let is : get_or slots index None ≡ None = ap (λ (xs : List (Option Given)). get_or xs index None) (sym same) ∙ w.in_default.is in
          record {
            grants = ap (λ (v : Vec ℕ g.row.A.Denot). v.items) w.grants-is ∙ c.loop-slot.invariant.grants ∙ sym (slot_more (λ (given : Given). given.octets) slots index None None within is ∙ append-nil _);
            entries = ap (λ (v : Vec (Option ℕ) g.row.A.Denot). v.items) w.entries-is ∙ c.loop-slot.invariant.entries ∙ sym (slot_more (λ (given : Given). given.node) slots index None None within is ∙ append-nil _);
          }
    ]

pub returns-clause-grants : goal.returns-clause-grants
returns-clause-grants g c =
    let slots = c.args.self.now.slots.items in
    let same : c.deref-slot-items.result.now ≡ slots = c.deref-slot-items.ensures.value in
    let end : length slots ≤ c.loop-slot.slot-index = omega (arith, ap length same, c.loop-slot-test.false) in
    c.loop-slot.invariant.grants ∙ ap (λ (ss : List (Option Given)). map (λ (given : Given). given.octets) (filter_map (λ (slot : Option Given). slot) ss)) (take_all c.loop-slot.slot-index slots end)

pub returns-clause-entries : goal.returns-clause-entries
returns-clause-entries g c =
    let slots = c.args.self.now.slots.items in
    let same : c.deref-slot-items.result.now ≡ slots = c.deref-slot-items.ensures.value in
    let end : length slots ≤ c.loop-slot.slot-index = omega (arith, ap length same, c.loop-slot-test.false) in
    c.new.ensures.entries ∙ c.loop-slot.invariant.entries ∙ ap (λ (ss : List (Option Given)). map (λ (given : Given). given.node) (filter_map (λ (slot : Option Given). slot) ss)) (take_all c.loop-slot.slot-index slots end)
