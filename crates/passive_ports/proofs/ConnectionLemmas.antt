-- The map of the connections, and the counts of addresses, against what keeps them.
use Rattle.std.proofs.Common.{◌≡◌, ◌≢◌, ℕ, zero, suc, ◌+◌, ◌-◌, ◌<◌, ◌≤◌, Bool, true, false, cond, not, ◌&&◌, nat_le, List, [], ◌∷◌, Option, Some, None, map, get_or, bytes_eq, count_by, is_some, unwrap_or, refl, sym, ap, ◌∙◌, ⊎_elim, arith}
use Rattle.std.specs.BTreeMap as tree
use Rattle.std.specs.Cmp.Lexicographic.{slice_cmp}
use Rattle.std.specs.Map.{lookup}
use Rattle.std.specs.Cmp.{nat_cmp_total, unsigned_tied}
use Rattle.std.specs.FinMap as finite
use Rattle.std.specs.FinMap.{find, put, entries-insert, get-entries, get-from_entries, get-insert, get-remove, len-insert, len-remove, len-empty, len-entries, same_map, nat_cmp-IsAntisymmetric}
use Rattle.std.specs.Ordering.{nat_cmp, eq_by_cmp}
use Rattle.std.proofs.lemmas.Bool.{cases_eq, cases_order, eq-eqb, leb-false, ne_eqb, lt-ltb, le-ltb}
use Rattle.std.proofs.lemmas.List.{length-map}
use Rattle.std.proofs.lemmas.List.Sums.{count_by-le-length, sum_by-cons}
use Rattle.slab.specs.Slab.{Slab, Updates, get, slab_len, entries_from}
use Rattle.passive_ports.proofs.CountLemmas.{unwrap_or-kept_count, same_address}
use Rattle.passive_ports.specs.Connections.{reaches, kept_admitted, Admits, without, Connections, Counts, count_of, count_at, count_in, kept_count, SetsCount, connections_of, IsRegistry}

pub below_limit : (count limit : ℕ) → false ≡ reaches count limit → limit ≢ 0 → count < limit
below_limit count limit short some =
    leb-false limit count (sym (ap (λ b. not b && nat_le limit count) (ne_eqb limit 0 some)) ∙ sym short)

-- room that was got changes no value
pub updates_reserved : (old mid new : Slab (List ℕ)) (key : ℕ) (slot : Option (List ℕ)) → mid ≡ record old { capacity = mid.capacity } → Updates mid new key slot → Updates old new key slot
updates_reserved old mid new key slot reserved updates = record {
  changed = updates.changed;
  others = λ other apart. updates.others other apart ∙ ap (λ s. get s other) reserved;
}

pub get-reserved : (old mid : Slab (List ℕ)) (key : ℕ) → mid ≡ record old { capacity = mid.capacity } → get mid key ≡ None → get old key ≡ None
get-reserved old mid key reserved absent = sym (ap (λ s. get s key) reserved) ∙ absent

tied : (q k : ℕ) → q ≡ k → eq_by_cmp nat_cmp q k ≡ true
tied q k e = unsigned_tied q k ∙ eq-eqb q k e

untied : (q k : ℕ) → q ≢ k → eq_by_cmp nat_cmp q k ≡ false
untied q k apart = unsigned_tied q k ∙ ne_eqb q k apart

find-entries_before : (slots : List (Option (List ℕ))) (k q : ℕ) → q < k → find nat_cmp q (entries_from k slots) ≡ None
find-entries_before [] k q less = refl
find-entries_before (None ∷ slots) k q less = find-entries_before slots (k + 1) q (omega arith)
find-entries_before (Some value ∷ slots) k q less =
    ap (λ b. cond b (Some value) (find nat_cmp q (entries_from (k + 1) slots))) (untied q k (λ e. omega (arith, e))) ∙ find-entries_before slots (k + 1) q (omega arith)

find-entries : (slots : List (Option (List ℕ))) (k i q : ℕ) → q ≡ k + i → find nat_cmp q (entries_from k slots) ≡ get_or slots i None
find-entries [] k i q e = refl
find-entries (None ∷ slots) k zero q e = find-entries_before slots (k + 1) q (omega arith)
find-entries (Some value ∷ slots) k zero q e = ap (λ b. cond b (Some value) (find nat_cmp q (entries_from (k + 1) slots))) (tied q k (omega arith))
find-entries (None ∷ slots) k (suc i) q e = find-entries slots (k + 1) i q (omega arith)
find-entries (Some value ∷ slots) k (suc i) q e =
    ap (λ b. cond b (Some value) (find nat_cmp q (entries_from (k + 1) slots))) (untied q k (λ same. omega (arith, same))) ∙ find-entries slots (k + 1) i q (omega arith)

-- a key has the address that the slab has under it
pub get-connections : (addresses : Slab (List ℕ)) (key : ℕ) → finite.get (connections_of addresses) key ≡ get addresses key
get-connections addresses key = get-from_entries nat_cmp_total _ key ∙ find-entries addresses.slots 0 key key (omega arith)

same : (m n : Connections) → ((q : ℕ) → finite.get m q ≡ finite.get n q) → m ≡ n
same m n is = same_map nat_cmp_total nat_cmp-IsAntisymmetric m n is

pub connections-insert : (old new : Slab (List ℕ)) (key : ℕ) (address : List ℕ) → Updates old new key (Some address) → connections_of new ≡ finite.insert (connections_of old) key address
connections-insert old new key address updates = same _ _ (λ q. get-connections new q ∙ ⊎_elim
    (λ here. ap (get new) here ∙ updates.changed ∙ sym (get-insert nat_cmp_total (connections_of old) key address q ∙ ap (λ b. cond b (Some address) (finite.get (connections_of old) q)) (tied q key here)))
    (λ elsewhere. updates.others q elsewhere ∙ sym (get-insert nat_cmp_total (connections_of old) key address q
    ∙ ap (λ b. cond b (Some address) (finite.get (connections_of old) q)) (untied q key elsewhere) ∙ get-connections old q))
    (cases_eq q key))

pub connections-remove : (old new : Slab (List ℕ)) (key : ℕ) → Updates old new key None → connections_of new ≡ finite.remove (connections_of old) key
connections-remove old new key updates = same _ _ (λ q. get-connections new q ∙ ⊎_elim
    (λ here. ap (get new) here ∙ updates.changed ∙ sym (get-remove nat_cmp_total (connections_of old) key q ∙ ap (λ b. cond b None (finite.get (connections_of old) q)) (tied q key here)))
    (λ elsewhere. updates.others q elsewhere ∙ sym (get-remove nat_cmp_total (connections_of old) key q
    ∙ ap (λ b. cond b None (finite.get (connections_of old) q)) (untied q key elsewhere) ∙ get-connections old q))
    (cases_eq q key))

count_by-cons : (p : List ℕ → Bool) (x : List ℕ) (xs : List (List ℕ)) → count_by p (x ∷ xs) ≡ cond (p x) 1 0 + count_by p xs
count_by-cons p x xs = sum_by-cons (λ y. cond (p y) 1 0) x xs

-- one more value, under a key that no other has
count_by-put : (p : List ℕ → Bool) (k : ℕ) (v : List ℕ) (es : List (ℕ × List ℕ)) → find nat_cmp k es ≡ None
    → count_by p (map (λ e. e.1) (put nat_cmp k v es)) ≡ cond (p v) 1 0 + count_by p (map (λ e. e.1) es)
count_by-put p k v [] none = count_by-cons p v []
count_by-put p k v (e ∷ es) none = ⊎_elim
    (λ here. let found : Some e.1 ≡ None = sym (ap (λ b. cond b (Some e.1) (find nat_cmp k es)) (tied k e.0 here)) ∙ none in cc)
    (λ apart. ⊎_elim
    (λ below. rw (lt-ltb k e.0 below) (count_by-cons p v (map (λ e. e.1) (e ∷ es))))
    (λ above.
    let ne : k ≢ e.0 = omega arith in
    let rest : count_by p (map (λ e. e.1) (put nat_cmp k v es)) ≡ cond (p v) 1 0 + count_by p (map (λ e. e.1) es) =
    count_by-put p k v es (sym (ap (λ b. cond b (Some e.1) (find nat_cmp k es)) (untied k e.0 ne)) ∙ none) in
    let more = count_by-cons p e.1 (map (λ e. e.1) (put nat_cmp k v es)) in
    let before = count_by-cons p e.1 (map (λ e. e.1) es) in
    rw (le-ltb k e.0 (omega arith), ne_eqb k e.0 ne) (omega (arith, more, before, rest)))
    apart)
    (cases_order k e.0)

pub count_of-insert : (m : Connections) (key : ℕ) (address other : List ℕ) → finite.get m key ≡ None
    → count_of (finite.insert m key address) other ≡ cond (bytes_eq other address) 1 0 + count_of m other
count_of-insert m key address other none =
    ap (λ es. count_by (bytes_eq other) (map (λ e. e.1) es)) (entries-insert nat_cmp_total m key address)
    ∙ count_by-put (bytes_eq other) key address (finite.entries m) (sym (get-entries m key) ∙ none)

insert-remove : (m : Connections) (key : ℕ) (address : List ℕ) → finite.get m key ≡ Some address → m ≡ finite.insert (finite.remove m key) key address
insert-remove m key address there = same _ _ (λ q. ⊎_elim
    (λ here. ap (finite.get m) here ∙ there ∙ sym (get-insert nat_cmp_total (finite.remove m key) key address q ∙ ap (λ b. cond b (Some address) (finite.get (finite.remove m key) q)) (tied q key here)))
    (λ elsewhere. sym (get-insert nat_cmp_total (finite.remove m key) key address q ∙ ap (λ b. cond b (Some address) (finite.get (finite.remove m key) q)) (untied q key elsewhere)
    ∙ get-remove nat_cmp_total m key q ∙ ap (λ b. cond b None (finite.get m q)) (untied q key elsewhere)))
    (cases_eq q key))

pub count_of-remove : (m : Connections) (key : ℕ) (address other : List ℕ) → finite.get m key ≡ Some address
    → count_of m other ≡ cond (bytes_eq other address) 1 0 + count_of (finite.remove m key) other
count_of-remove m key address other there =
    ap (λ n. count_of n other) (insert-remove m key address there)
    ∙ count_of-insert (finite.remove m key) key address other (get-remove nat_cmp_total m key key ∙ ap (λ b. cond b None (finite.get m key)) (tied key key refl))

pub count_of-le-len : (m : Connections) (address : List ℕ) → count_of m address ≤ finite.len m
count_of-le-len m address =
    rw (len-entries m) (omega (arith, count_by-le-length (bytes_eq address) (finite.values m), length-map (finite.entries m) (λ e. e.1)))

module _ (limit limit_of_address : ℕ) where
  pub starts_empty : (addresses : Slab (List ℕ)) (counts : Counts) → addresses.slots ≡ [] → counts.entries ≡ [] → IsRegistry limit limit_of_address addresses counts
  starts_empty addresses counts no_slots no_counts =
      let m = connections_of addresses in
      let none : m ≡ finite.empty = ap (λ slots. finite.from_entries (entries_from 0 slots)) no_slots in
      let no_len : finite.len m ≡ 0 = ap finite.len none ∙ len-empty nat_cmp (List ℕ) in
      let no_count : (address : List ℕ) → count_of m address ≡ 0 = λ address. omega (arith, count_of-le-len m address, no_len) in
      record {
        len = ap (count_by is_some) no_slots ∙ sym no_len;
        counted = λ address. ap (λ es. lookup (tree.is_at (slice_cmp nat_cmp address)) es) no_counts ∙ sym (ap kept_count (no_count address));
        within = record { all = omega (arith, no_len); of_address = λ some address. omega (arith, no_count address) };
      }

  -- the count that a registry keeps is that of its connections
  pub count_kept : (addresses : Slab (List ℕ)) (counts : Counts) (address : List ℕ) → IsRegistry limit limit_of_address addresses counts
      → count_in counts address ≡ count_of (connections_of addresses) address
  count_kept addresses counts address is = ap (λ o. unwrap_or o 0) (is.counted address) ∙ unwrap_or-kept_count _

  pub few_of_address : (addresses : Slab (List ℕ)) (counts : Counts) (address : List ℕ) → IsRegistry limit limit_of_address addresses counts
      → count_in counts address ≤ slab_len addresses
  few_of_address addresses counts address is =
      omega (arith, count_kept addresses counts address is, count_of-le-len (connections_of addresses) address, is.len)

  pub admits : (old new : Slab (List ℕ)) (key : ℕ) (address : List ℕ) → Updates old new key (Some address) → get old key ≡ None
      → Admits (kept_admitted limit limit_of_address old) (kept_admitted limit limit_of_address new) address key
  admits old new key address updates absent = record {
    new_key = get-connections old key ∙ absent;
    added = ap (λ m. record { limit = limit; limit_of_address = limit_of_address; connections = m }) (connections-insert old new key address updates);
  }

  pub keeps_admitting : (old new : Slab (List ℕ)) (key : ℕ) (address : List ℕ) (counts counts' : Counts) (count : ℕ) → IsRegistry limit limit_of_address old counts
      → Updates old new key (Some address) → get old key ≡ None → slab_len new ≡ slab_len old + 1
      → slab_len old < limit → (limit_of_address ≢ 0 → count < limit_of_address) → count ≡ count_in counts address
      → SetsCount counts counts' address (count + 1) → IsRegistry limit limit_of_address new counts'
  keeps_admitting old new key address counts counts' count is updates absent len below below_of counted sets =
      let m = connections_of old in
      let none : finite.get m key ≡ None = get-connections old key ∙ absent in
      let now : connections_of new ≡ finite.insert m key address = connections-insert old new key address updates in
      let kept : count ≡ count_of m address = counted ∙ count_kept old counts address is in
      let longer : finite.len (connections_of new) ≡ finite.len m + 1 = ap finite.len now ∙ len-insert nat_cmp_total m key address ∙ ap (λ o. cond (is_some o) (finite.len m) (finite.len m + 1)) none in
      let more : (other : List ℕ) → count_of (connections_of new) other ≡ cond (bytes_eq other address) 1 0 + count_of m other =
      λ other. ap (λ n. count_of n other) now ∙ count_of-insert m key address other none in
      record {
        len = omega (arith, len, is.len, longer);
        counted = λ other. sets other
            ∙ elim (bytes_eq other address) as (λ b. bytes_eq other address ≡ b → cond b (kept_count (count + 1)) (count_at counts other) ≡ kept_count (cond b 1 0 + count_of m other)) [
              | true ↦ λ e. ap kept_count (omega (arith, kept, ap (count_of m) (same_address other address e)))
              | false ↦ λ e. is.counted other ∙ ap kept_count (omega arith)
            ] refl
            ∙ sym (ap kept_count (more other));
        within = record {
          all = omega (arith, longer, is.len);
          of_address = λ some other. rw (more other) (
              elim (bytes_eq other address) as (λ b. bytes_eq other address ≡ b → cond b 1 0 + count_of m other ≤ limit_of_address) [
                | true ↦ λ e. omega (arith, kept, ap (count_of m) (same_address other address e), below_of some)
                | false ↦ λ e. omega (arith, is.within.of_address some other)
              ] refl);
        };
      }

  pub keeps_leaving : (old new : Slab (List ℕ)) (key : ℕ) (address : List ℕ) (counts counts' : Counts) → IsRegistry limit limit_of_address old counts
      → Updates old new key None → get old key ≡ Some address → slab_len new + 1 ≡ slab_len old
      → SetsCount counts counts' address (count_in counts address - 1) → IsRegistry limit limit_of_address new counts'
  keeps_leaving old new key address counts counts' is updates there len sets =
      let m = connections_of old in
      let had : finite.get m key ≡ Some address = get-connections old key ∙ there in
      let now : connections_of new ≡ finite.remove m key = connections-remove old new key updates in
      let kept : count_in counts address ≡ count_of m address = count_kept old counts address is in
      let shorter : finite.len (connections_of new) ≡ finite.len m - 1 = ap finite.len now ∙ len-remove nat_cmp_total m key ∙ ap (λ o. cond (is_some o) (finite.len m - 1) (finite.len m)) had in
      let fewer : (other : List ℕ) → count_of m other ≡ cond (bytes_eq other address) 1 0 + count_of (connections_of new) other =
      λ other. count_of-remove m key address other had ∙ ap (λ n. cond (bytes_eq other address) 1 0 + count_of n other) (sym now) in
      record {
        len = omega (arith, len, is.len, shorter);
        counted = λ other. sets other
            ∙ elim (bytes_eq other address) as (λ b. bytes_eq other address ≡ b → count_of m other ≡ cond b 1 0 + count_of (connections_of new) other
            → cond b (kept_count (count_in counts address - 1)) (count_at counts other) ≡ kept_count (count_of (connections_of new) other)) [
              | true ↦ λ e less. ap kept_count (omega (arith, kept, less, ap (count_of m) (same_address other address e)))
              | false ↦ λ e less. is.counted other ∙ ap kept_count (omega (arith, less))
            ] refl (fewer other);
        within = record {
          all = omega (arith, shorter, is.within.all);
          of_address = λ some other. omega (arith, fewer other, is.within.of_address some other);
        };
      }

  pub kept_admitted-remove : (old new : Slab (List ℕ)) (key : ℕ) → Updates old new key None
      → kept_admitted limit limit_of_address new ≡ without (kept_admitted limit limit_of_address old) key
  kept_admitted-remove old new key updates = ap (λ m. record { limit = limit; limit_of_address = limit_of_address; connections = m }) (connections-remove old new key updates)
