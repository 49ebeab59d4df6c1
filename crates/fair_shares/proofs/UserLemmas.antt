-- The owners of leaves by the users' branches are those of their asks.
use Rattle.std.proofs.Common.{◌≡◌, ℕ, ◌+◌, ◌<◌, ◌∙◌, arith, List, length, sym, subst, ap}
use Rattle.std.specs.Prelude.{IsTrue, nat_le, nat_lt, slice_get, slice_index, Some}
use Rattle.std.proofs.lemmas.Bool.{and_from, le-leb, lt-ltb}
use Rattle.std.proofs.lemmas.Option.{slice_get_within}
use Rattle.limit_tree.specs.Outline.{leaf_range, limits}
use Rattle.limit_tree.specs.declared.place.Place.{Place}
use Rattle.limit_tree.proofs.Hops.{same-node}
use Rattle.line_rates.specs.declared.ask.Ask.{Ask}
use Rattle.grant_certificate.specs.Users.{leaves_of}
use Rattle.grant_certificate.proofs.UserSums.{own_leaf, leaf_owner}
use Rattle.fair_terms.specs.Owners.{AreOwners}
use Rattle.fair_terms.specs.Wants.{is_same_user}
use Rattle.user_shares.specs.Nodes.{AreUsers}
use Rattle.fair_shares.specs.Users.{AreNodesOf, IsTreeOf, is_of_user}
use Rattle.fair_shares.proofs.SameUsers.{at_leaf, same-from, same-parts}
use Rattle.fair_shares.proofs.UserNodes.{asks_are_leaves}

first_of : (first leaves : ℕ) → 0 < leaves → IsTrue (leaf_range first leaves first)
first_of first leaves some = and_from (nat_le first first) (nat_lt first (first + leaves)) (le-leb first first (omega arith)) (lt-ltb first (first + leaves) (omega (arith, some)))

pub owners_are : (asks : List Ask) (ps : List Place) (users owners : List ℕ) → IsTreeOf asks (limits ps) → AreUsers ps users owners → AreNodesOf ps asks users → AreOwners asks (length users) owners
owners_are asks ps users owners tree own nodes = record {
  each = each;
  few = own.few;
  some = λ user less.
      let node = own.node user less in
      (node.place.first, node.holds node.place.first ∙ first_of node.place.first node.place.leaves (omega (arith, node.some)));
  same = λ i j a b at_i at_j. (forth i j a b at_i at_j, back i j a b at_i at_j);
}
  where
    each : length owners ≡ length asks
    each = own.each ∙ asks_are_leaves ps asks tree

    -- the leaves of a user are those of the user of an ask
    alike : (u : ℕ) → u < length users → (c : Ask) × ((i : ℕ) → leaves_of owners u i ≡ is_of_user asks c i)
    alike u less =
        let node = own.node u less in
        let c = nodes u less in
        let is : node.place ≡ c.1.place = same-node ps (slice_index users u) node.place c.1.place node.found c.1.found in
        (c.0, λ i. node.holds i ∙ (ap (λ (p : Place). leaf_range p.first p.leaves i) is ∙ c.1.holds i))

    inside : (i : ℕ) (a : Ask) → slice_get asks i ≡ Some a → i < length owners
    inside i a at = omega (arith, each, slice_get_within asks i a at)

    forth : (i j : ℕ) (a b : Ask) → slice_get asks i ≡ Some a → slice_get asks j ≡ Some b → slice_index owners i ≡ slice_index owners j → (a.way ≡ b.way) × (a.user ≡ b.user)
    forth i j a b at_i at_j e =
        let c = alike (slice_index owners i) (own.few i (inside i a at_i)) in
        let x = same-parts c.0 a (sym (at_leaf asks c.0 a i at_i) ∙ (sym (c.1 i) ∙ own_leaf owners i (inside i a at_i))) in
        let mine : IsTrue (leaves_of owners (slice_index owners i) j) = subst (λ (u : ℕ). IsTrue (leaves_of owners u j)) (sym e) (own_leaf owners j (inside j b at_j)) in
        let y = same-parts c.0 b (sym (at_leaf asks c.0 b j at_j) ∙ (sym (c.1 j) ∙ mine)) in
        (x.0 ∙ sym y.0, x.1 ∙ sym y.1)

    back : (i j : ℕ) (a b : Ask) → slice_get asks i ≡ Some a → slice_get asks j ≡ Some b → (a.way ≡ b.way) × (a.user ≡ b.user) → slice_index owners i ≡ slice_index owners j
    back i j a b at_i at_j same =
        let c = alike (slice_index owners i) (own.few i (inside i a at_i)) in
        let x = same-parts c.0 a (sym (at_leaf asks c.0 a i at_i) ∙ (sym (c.1 i) ∙ own_leaf owners i (inside i a at_i))) in
        let is : IsTrue (is_same_user c.0 b) = same-from c.0 b (sym same.0 ∙ x.0) (sym same.1 ∙ x.1) in
        sym (leaf_owner owners (slice_index owners i) j (c.1 j ∙ (at_leaf asks c.0 b j at_j ∙ is)))
