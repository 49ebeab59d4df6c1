-- Connections: a finite map from keys to the addresses of their peers.
use Rattle.std.specs.Prelude.{◌≡◌, ◌≢◌, ℕ, ◌≤◌, ◌<◌, Bool, ◌&&◌, not, cond, List, Option, Some, None, bytes_eq, count_by, nat_eq, nat_le, unwrap_or, refl}
use Rattle.std.specs.BTreeMap as tree
use Rattle.std.specs.BTreeMap.{BTreeMap}
use Rattle.std.specs.Cmp.Lexicographic.{slice_cmp}
use Rattle.std.specs.Coded.{Coded, code_by, coded×, coded_ℕ, coded_list}
use Rattle.std.specs.FinMap as map
use Rattle.std.specs.Ordering.{nat_cmp}
use Rattle.slab.specs.Slab.{Slab, slab_len, entries}
use Rattle.passive_ports.specs.declared.fault.AdmitFault.{AdmitFault}
use Rattle.passive_ports.specs.declared.fault.AdmitFault.TheVariants.{TooMany, TooManyOfAddress}
use Rattle.passive_ports.specs.declared.fault.LimitFault.{LimitFault}
use Rattle.passive_ports.specs.declared.fault.LimitFault.TheVariants as unset

abbrev pub Connections : Type 0
Connections = map.FinMap nat_cmp (List ℕ)

-- the admitted connections, and the limits to their number: in all, and per address; for the
-- latter, 0 is no limit
pub record Admitted : Type 0 where
  pub limit : ℕ
  pub limit_of_address : ℕ
  pub connections : Connections

abbrev pub none_admitted : ℕ → ℕ → Admitted
none_admitted limit limit_of_address =
    record { limit = limit; limit_of_address = limit_of_address; connections = map.empty }

-- number of connections from an address
abbrev pub count_of : Connections → List ℕ → ℕ
count_of connections address = count_by (bytes_eq address) (map.values connections)

pub record IsWithinLimits (admitted : Admitted) : Type 0 where
  pub all : map.len admitted.connections ≤ admitted.limit
  pub of_address : admitted.limit_of_address ≢ 0 → (address : List ℕ)
      → count_of admitted.connections address ≤ admitted.limit_of_address

-- one more would exceed the limit; 0 is no limit
abbrev pub reaches : ℕ → ℕ → Bool
reaches count limit = not (nat_eq limit 0) && nat_le limit count

-- the first limit that one more connection from this address would exceed; for the limit to all, 0
-- admits none
abbrev pub limit_fault : Admitted → List ℕ → Option AdmitFault
limit_fault admitted address =
    cond (nat_le admitted.limit (map.len admitted.connections)) (Some TooMany)
    (cond (reaches (count_of admitted.connections address) admitted.limit_of_address)
    (Some TooManyOfAddress) None)

-- the same connections under other limits
abbrev pub with_limits : Admitted → ℕ → ℕ → Admitted
with_limits admitted limit limit_of_address =
    record admitted { limit = limit; limit_of_address = limit_of_address }

-- more connections are there than one of these limits permits: in all, or of that address
abbrev pub IsExceeded : Admitted → ℕ → ℕ → LimitFault → Type 0
IsExceeded admitted limit limit_of_address (unset.TooMany count) =
    (count ≡ map.len admitted.connections) × (limit < count)
IsExceeded admitted limit limit_of_address (unset.TooManyOfAddress address count) =
    (count ≡ count_of admitted.connections address) × (limit_of_address ≢ 0)
    × (limit_of_address < count)

-- one more connection, with a key that no other has
pub record Admits (old new : Admitted) (address : List ℕ) (key : ℕ) : Type 0 where
  pub new_key : map.get old.connections key ≡ None
  pub added : new ≡ record old { connections = map.insert old.connections key address }

abbrev pub without : Admitted → ℕ → Admitted
without admitted key = record admitted { connections = map.remove admitted.connections key }

-- The stored form: the addresses in a slab, and a count for each address with connections.

abbrev pub connections_of : Slab (List ℕ) → Connections
connections_of addresses = map.from_entries (entries addresses)

abbrev pub kept_admitted : ℕ → ℕ → Slab (List ℕ) → Admitted
kept_admitted limit limit_of_address addresses =
    record {
      limit = limit;
      limit_of_address = limit_of_address;
      connections = connections_of addresses;
    }

abbrev pub Counts : Type 0
Counts = BTreeMap (List ℕ) ℕ

abbrev pub count_at : Counts → List ℕ → Option ℕ
count_at counts address = tree.get (slice_cmp nat_cmp) counts address

abbrev pub count_in : Counts → List ℕ → ℕ
count_in counts address = unwrap_or (count_at counts address) 0

-- a count of 0 is not stored
abbrev pub kept_count : ℕ → Option ℕ
kept_count count = cond (nat_eq count 0) None (Some count)

-- this address has this count, and all others are unchanged
abbrev pub SetsCount : Counts → Counts → List ℕ → ℕ → Type 0
SetsCount old new address count =
    (other : List ℕ)
    → count_at new other ≡ cond (bytes_eq other address) (kept_count count) (count_at old other)

pub record IsRegistry (limit limit_of_address : ℕ) (addresses : Slab (List ℕ))
    (counts : Counts) : Type 0 where
  pub len : slab_len addresses ≡ map.len (connections_of addresses)
  pub counted : (address : List ℕ)
      → count_at counts address ≡ kept_count (count_of (connections_of addresses) address)
  pub within : IsWithinLimits (kept_admitted limit limit_of_address addresses)

-- a code, by which proofs distinguish values
abbrev pub admitted_code : Coded Admitted
admitted_code =
    code_by (ℕ × (ℕ × Connections))
    (coded× coded_ℕ (coded× coded_ℕ (map.code coded_ℕ (coded_list coded_ℕ))))
    (λ a. (a.limit, (a.limit_of_address, a.connections)))
    (λ p. record { limit = p.0; limit_of_address = p.1.0; connections = p.1.1 }) (λ _. refl)
