-- The nodes that entries name are in the tree.
use Rattle.std.proofs.Common.{◌<◌, ℕ, List, Option, Some, None, IfSome, length, get_or, sym, subst, arith, inl, inr, slice_index}
use Rattle.std.proofs.lemmas.Bool.{cases_lt}
use Rattle.std.proofs.lemmas.Option.{get_or_from_slice_get}
use Rattle.limit_tree.specs.declared.place.Place.{Place}
use Rattle.limit_tree.specs.Outline.{limits}
use Rattle.limit_tree.proofs.Looks.{branch_number}
use Rattle.round_allocator.specs.Rounds.{IsNamed, IsEntry}

entry_inside : (outline : List Place) (g : List ℕ) (leaf : ℕ) (entry : Option ℕ) → IsEntry (limits outline) g leaf entry → IfSome entry (λ node. node < length outline)
entry_inside outline g leaf None is = tt
entry_inside outline g leaf (Some node) is = elim (cases_lt (slice_index g leaf) (slice_index (limits outline).wants leaf)) [
  | inl unmet ↦
      let deepest = is.unmet unmet in
      branch_number outline node deepest.0.0 deepest.0.1
  | inr met ↦ let none = is.met (λ unmet. absurd (omega arith)) in absurd (cc)
]

-- the node that an entry names
pub named_node : (outline : List Place) (g : List ℕ) (c : List (Option ℕ)) (leaf : ℕ) → IsNamed (limits outline) g c → leaf < length g → IfSome (get_or c leaf None) (λ node. node < length outline)
named_node outline g c leaf named less =
    let found = named.entries leaf less in
    subst (λ (entry : Option ℕ). IfSome entry (λ node. node < length outline)) (sym (get_or_from_slice_get c leaf found.0 None found.1)) (entry_inside outline g leaf found.0 found.2)
