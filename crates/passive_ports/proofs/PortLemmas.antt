-- The set of the leased ports against the bits that keep it.
use Rattle.std.proofs.Common.{◌≡◌, ◌≢◌, ◌⊎◌, ℕ, zero, suc, ◌+◌, ◌-◌, ◌<◌, ◌≤◌, true, false, cond, not, ◌||◌, ◌&&◌, List, refl, sym, ap, ◌∙◌, subst, inl, inr, ⊎_elim, arith}
use Rattle.std.specs.Cmp.{nat_cmp_total, unsigned_tied}
use Rattle.std.specs.FinSet as set
use Rattle.std.specs.FinSet.{FinSet, contains-empty, contains-insert, contains-remove, same_set, nat_cmp-IsAntisymmetric}
use Rattle.std.specs.Ordering.{nat_cmp}
use Rattle.std.proofs.lemmas.Bool.{cases_eq, cases_lt, eq-eqb, ne_eqb, false≢true}
use Rattle.passive_ports.specs.Bits.{has_bit, PutsBit, IsLowestClear}
use Rattle.passive_ports.specs.Ports.{Ports, marked, kept_ports, opened, with_lease, without_lease, IsFree, IsLowestFree, AllAreLeased}

contains-insert_same : (s : FinSet nat_cmp) (k : ℕ) → set.contains (set.insert s k) k ≡ true
contains-insert_same s k = contains-insert nat_cmp_total s k k ∙ ap (λ b. b || set.contains s k) (unsigned_tied k k ∙ eq-eqb k k refl)

contains-insert_other : (s : FinSet nat_cmp) (k q : ℕ) → q ≢ k → set.contains (set.insert s k) q ≡ set.contains s q
contains-insert_other s k q apart = contains-insert nat_cmp_total s k q ∙ ap (λ b. b || set.contains s q) (unsigned_tied q k ∙ ne_eqb q k apart)

contains-remove_same : (s : FinSet nat_cmp) (k : ℕ) → set.contains (set.remove s k) k ≡ false
contains-remove_same s k = contains-remove nat_cmp_total s k k ∙ ap (λ b. not b && set.contains s k) (unsigned_tied k k ∙ eq-eqb k k refl)

contains-remove_other : (s : FinSet nat_cmp) (k q : ℕ) → q ≢ k → set.contains (set.remove s k) q ≡ set.contains s q
contains-remove_other s k q apart = contains-remove nat_cmp_total s k q ∙ ap (λ b. not b && set.contains s q) (unsigned_tied q k ∙ ne_eqb q k apart)

same : (s t : FinSet nat_cmp) → ((q : ℕ) → set.contains s q ≡ set.contains t q) → s ≡ t
same s t is = same_set nat_cmp_total nat_cmp-IsAntisymmetric s t is

-- to remove what is not there changes nothing
remove-absent : (s : FinSet nat_cmp) (k : ℕ) → set.contains s k ≡ false → s ≡ set.remove s k
remove-absent s k absent = same _ _ (λ q. ⊎_elim
    (λ here. subst (λ x. set.contains s x ≡ set.contains (set.remove s k) x) (sym here) (absent ∙ sym (contains-remove_same s k)))
    (λ elsewhere. sym (contains-remove_other s k q elsewhere))
    (cases_eq q k))

-- a port before the first, or past the bits, is not leased
contains-marked_outside : (first : ℕ) (words : List ℕ) (n q : ℕ) → (q < first) ⊎ (first + n ≤ q) → set.contains (marked first words n) q ≡ false
contains-marked_outside first words zero q out = contains-empty nat_cmp q
contains-marked_outside first words (suc n) q out =
    let rest : set.contains (marked first words n) q ≡ false = contains-marked_outside first words n q (⊎_elim (λ before. inl before) (λ past. inr (omega arith)) out) in
    let apart : q ≢ first + n = λ e. ⊎_elim (λ before. omega arith) (λ past. omega arith) out in
    elim (has_bit words n) as (λ b. set.contains (cond b (set.insert (marked first words n) (first + n)) (marked first words n)) q ≡ false)
    [ true ↦ contains-insert_other _ _ q apart ∙ rest | false ↦ rest ]

contains-marked_top : (first : ℕ) (words : List ℕ) (n : ℕ) → set.contains (marked first words (suc n)) (first + n) ≡ has_bit words n
contains-marked_top first words n =
    elim (has_bit words n) as (λ b. set.contains (cond b (set.insert (marked first words n) (first + n)) (marked first words n)) (first + n) ≡ b)
    [ true ↦ contains-insert_same _ _ | false ↦ contains-marked_outside first words n (first + n) (inr (omega arith)) ]

-- a port is leased where its bit is set
contains-marked : (first : ℕ) (words : List ℕ) (n k : ℕ) → k < n → set.contains (marked first words n) (first + k) ≡ has_bit words k
contains-marked first words zero k less = absurd (omega arith)
contains-marked first words (suc n) k less = ⊎_elim
    (λ top. subst (λ j. set.contains (marked first words (suc n)) (first + j) ≡ has_bit words j) (sym top) (contains-marked_top first words n))
    (λ other.
    let apart : first + k ≢ first + n = λ e. other (omega (arith, e)) in
    let rest : set.contains (marked first words n) (first + k) ≡ has_bit words k = contains-marked first words n k (omega (arith, other)) in
    elim (has_bit words n) as (λ b. set.contains (cond b (set.insert (marked first words n) (first + n)) (marked first words n)) (first + k) ≡ has_bit words k)
    [ true ↦ contains-insert_other _ _ _ apart ∙ rest | false ↦ rest ])
    (cases_eq k n)

-- what holds outside the bits and at each bit holds everywhere
each_port : (first n : ℕ) (P : ℕ → Type 0) → ((q : ℕ) → (q < first) ⊎ (first + n ≤ q) → P q) → ((j : ℕ) → j < n → P (first + j)) → (q : ℕ) → P q
each_port first n P outside inside q = ⊎_elim
    (λ before. outside q (inl before))
    (λ from. ⊎_elim
    (λ within. let at : first + (q - first) ≡ q = omega arith in subst P at (inside (q - first) (omega arith)))
    (λ past. outside q (inr past))
    (cases_lt q (first + n)))
    (cases_lt q first)

marked_clear : (first : ℕ) (words : List ℕ) (n : ℕ) → ((k : ℕ) → has_bit words k ≡ false) → marked first words n ≡ set.empty
marked_clear first words zero clear = refl
marked_clear first words (suc n) clear =
    ap (λ b. cond b (set.insert (marked first words n) (first + n)) (marked first words n)) (clear n) ∙ marked_clear first words n clear

marked_put : (first : ℕ) (old new : List ℕ) (n k : ℕ) → k < n → PutsBit old new k true → marked first new n ≡ set.insert (marked first old n) (first + k)
marked_put first old new n k within puts = same _ _ (each_port first n (λ q. set.contains (marked first new n) q ≡ set.contains (set.insert (marked first old n) (first + k)) q)
    (λ q out. contains-marked_outside first new n q out
    ∙ sym (contains-insert_other _ _ q (λ e. ⊎_elim (λ before. omega (arith, e)) (λ past. omega (arith, e)) out) ∙ contains-marked_outside first old n q out))
    (λ j less. contains-marked first new n j less ∙ ⊎_elim
    (λ here. ap (has_bit new) here ∙ puts.put ∙ sym (ap (λ x. set.contains (set.insert (marked first old n) (first + k)) (first + x)) here ∙ contains-insert_same _ _))
    (λ elsewhere. puts.others j elsewhere ∙ sym (contains-insert_other _ _ (first + j) (λ e. elsewhere (omega (arith, e))) ∙ contains-marked first old n j less))
    (cases_eq j k)))

marked_cleared : (first : ℕ) (old new : List ℕ) (n k : ℕ) → k < n → PutsBit old new k false → marked first new n ≡ set.remove (marked first old n) (first + k)
marked_cleared first old new n k within puts = same _ _ (each_port first n (λ q. set.contains (marked first new n) q ≡ set.contains (set.remove (marked first old n) (first + k)) q)
    (λ q out. contains-marked_outside first new n q out
    ∙ sym (contains-remove_other _ _ q (λ e. ⊎_elim (λ before. omega (arith, e)) (λ past. omega (arith, e)) out) ∙ contains-marked_outside first old n q out))
    (λ j less. contains-marked first new n j less ∙ ⊎_elim
    (λ here. ap (has_bit new) here ∙ puts.put ∙ sym (ap (λ x. set.contains (set.remove (marked first old n) (first + k)) (first + x)) here ∙ contains-remove_same _ _))
    (λ elsewhere. puts.others j elsewhere ∙ sym (contains-remove_other _ _ (first + j) (λ e. elsewhere (omega (arith, e))) ∙ contains-marked first old n j less))
    (cases_eq j k)))

-- a port of the range that is free has a clear bit
clear_bit : (first last : ℕ) (words : List ℕ) (port : ℕ) → IsFree (kept_ports first last words) port → has_bit words (port - first) ≡ false
clear_bit first last words port free =
    let from : first ≤ port = free.within.from_first in
    let to : port ≤ last = free.within.to_last in
    let at : first + (port - first) ≡ port = omega arith in
    sym (contains-marked first words (last - first + 1) (port - first) (omega arith)) ∙ ap (set.contains (marked first words (last - first + 1))) at ∙ free.not_leased

pub lowest_port : (first last : ℕ) (words : List ℕ) (k : ℕ) → first ≤ last → IsLowestClear words k → k ≤ last - first → IsLowestFree (kept_ports first last words) (first + k)
lowest_port first last words k ordered is within = record {
  free = record {
    within = record { from_first = omega arith; to_last = omega arith };
    not_leased = contains-marked first words (last - first + 1) k (omega arith) ∙ is.is_clear;
  };
  lowest = λ other free. ⊎_elim
      (λ below. let from : first ≤ other = free.within.from_first in absurd (false≢true (sym (clear_bit first last words other free) ∙ is.below (other - first) (omega arith))))
      (λ above. above)
      (cases_lt other (first + k));
}

pub all_leased : (first last : ℕ) (words : List ℕ) → ((k : ℕ) → k ≤ last - first → has_bit words k ≡ true) → AllAreLeased (kept_ports first last words)
all_leased first last words set port free =
    let to : port ≤ last = free.within.to_last in
    false≢true (sym (clear_bit first last words port free) ∙ set (port - first) (omega arith))

ports_with : ℕ → ℕ → FinSet nat_cmp → Ports
ports_with first last leased = record { first = first; last = last; leased = leased }

pub kept_ports-clear : (first last : ℕ) (words : List ℕ) → ((k : ℕ) → has_bit words k ≡ false) → kept_ports first last words ≡ opened first last
unfolding ports_with
kept_ports-clear first last words clear = ap (ports_with first last) (marked_clear first words (last - first + 1) clear)

pub kept_ports-put : (first last : ℕ) (old new : List ℕ) (k : ℕ) → k ≤ last - first → PutsBit old new k true → kept_ports first last new ≡ with_lease (kept_ports first last old) (first + k)
unfolding ports_with
kept_ports-put first last old new k within puts = ap (ports_with first last) (marked_put first old new (last - first + 1) k (omega arith) puts)

pub kept_ports-cleared : (first last : ℕ) (old new : List ℕ) (port : ℕ) → first ≤ port → port ≤ last → PutsBit old new (port - first) false → kept_ports first last new ≡ without_lease (kept_ports first last old) port
unfolding ports_with
kept_ports-cleared first last old new port from to puts =
    let at : first + (port - first) ≡ port = omega arith in
    ap (ports_with first last) (marked_cleared first old new (last - first + 1) (port - first) (omega arith) puts ∙ ap (set.remove (marked first old (last - first + 1))) at)

pub without_lease-absent : (ports : Ports) (port : ℕ) → set.contains ports.leased port ≡ false → ports ≡ without_lease ports port
unfolding ports_with
without_lease-absent ports port absent = ap (ports_with ports.first ports.last) (remove-absent ports.leased port absent)

pub contains-kept_ports : (first last : ℕ) (words : List ℕ) (port : ℕ) → first ≤ port → port ≤ last → has_bit words (port - first) ≡ set.contains (kept_ports first last words).leased port
contains-kept_ports first last words port from to =
    let at : first + (port - first) ≡ port = omega arith in
    sym (contains-marked first words (last - first + 1) (port - first) (omega arith)) ∙ ap (set.contains (marked first words (last - first + 1))) at

pub contains-kept_ports_outside : (first last : ℕ) (words : List ℕ) (port : ℕ) → first ≤ last → (port < first) ⊎ (last < port) → false ≡ set.contains (kept_ports first last words).leased port
contains-kept_ports_outside first last words port ordered out =
    sym (contains-marked_outside first words (last - first + 1) port (⊎_elim (λ before. inl before) (λ past. inr (omega arith)) out))
