-- What a check among users tells.
use Rattle.std.proofs.Common.{◌≡◌, ◌<◌, ◌∙◌, ℕ, Bool, true, false, List, Option, length, refl, sym}
use Rattle.std.specs.Prelude.{◌↔◌, IsTrue, slice_get}
use Rattle.std.proofs.lemmas.Bool.{false≢true}
use Rattle.depth_users.specs.Owners.{AreOwners}
use Rattle.grant_certificate.specs.TwoStages.{AreDeepestEntries, DeepestIsBacked}
use Rattle.grant_certificate.specs.Users.{HasUsers, IsBackedByUsers, IsBestByUsers}
use Rattle.limit_tree.specs.Laws.{LaterIsInside}
use Rattle.limit_tree.specs.Outline.{limits}
use Rattle.limit_tree.specs.Sharing.{LimitTree, IsDeepestFull, IsUnmet, IsWithin}
use Rattle.limit_tree.specs.declared.place.Place.{Place}
use Rattle.round_allocator.specs.Rounds.{IsNamed}
use Rattle.sheet_commands.specs.CheckUsers.{IsJudgedAt}

pub deepest_entries_are : (t : LimitTree) (g : List ℕ) (c : List (Option ℕ)) → IsNamed t g c → AreDeepestEntries t g c
deepest_entries_are t g c named i less unmet =
    let found = named.entries i less in
    (found.0, found.1, found.2.unmet unmet)

-- what the check says of the deepest full branches holds of all certificates
pub judged_at : DeepestIsBacked → (outline : List Place) (depth : ℕ) (owners g : List ℕ) (c : List (Option ℕ)) (told : Bool)
    → AreOwners outline depth owners → HasUsers (limits outline) (length outline) owners → LaterIsInside (limits outline) → IsWithin (limits outline) g → IsNamed (limits outline) g c
    → (IsTrue told ↔ (IsWithin (limits outline) g × IsBackedByUsers (limits outline) owners g c))
    → (IsTrue told → (users : ℕ) → HasUsers (limits outline) users owners → IsBestByUsers (limits outline) users owners g)
    → IsJudgedAt outline depth g told
judged_at law outline depth owners g c true are users later within named exact best = record {
  owners = owners;
  are_owners = are;
  entries = c;
  backed = (exact.0 refl).1;
  best = best refl (length outline) users;
}
judged_at law outline depth owners g c false are users later within named exact best = record {
  owners = owners;
  are_owners = are;
  unbacked = λ entries backed.
      let size : length c ≡ length (limits outline).wants = named.leaves ∙ within.wanted.leaves in
      let also = law (limits outline) (length outline) owners g entries c later users within.wanted.leaves backed size (deepest_entries_are (limits outline) g c named) in
      absurd (false≢true (exact.1 (within, also)));
}
