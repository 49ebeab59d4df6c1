-- Ports: the numbers of a range, and the set of those that are leased.
use Rattle.std.specs.Prelude.{◌≡◌, ℕ, zero, suc, ◌+◌, ◌-◌, ◌*◌, ◌<◌, ◌≤◌, ◌||◌, false, cond, List, length, Option, Some, None, nat_eq, nat_lt, refl}
use Rattle.std.specs.Coded.{Coded, code_by, coded×, coded_ℕ}
use Rattle.std.specs.FinSet as set
use Rattle.std.specs.Ordering.{nat_cmp}
use Rattle.passive_ports.specs.Bits.{has_bit}
use Rattle.passive_ports.specs.declared.fault.PoolFault.{PoolFault}
use Rattle.passive_ports.specs.declared.fault.PoolFault.TheVariants.{EmptyRange}

-- the ports from `first` to `last`, and the leased ones among them
pub record Ports : Type 0 where
  pub first : ℕ
  pub last : ℕ
  pub leased : set.FinSet nat_cmp

-- initially none is leased
abbrev pub opened : ℕ → ℕ → Ports
opened first last = record { first = first; last = last; leased = set.empty }

-- a range without a port; 0 is no port
abbrev pub range_fault : ℕ → ℕ → Option PoolFault
range_fault first last = cond (nat_eq first 0 || nat_lt last first) (Some EmptyRange) None

pub record IsWithin (ports : Ports) (port : ℕ) : Type 0 where
  pub from_first : ports.first ≤ port
  pub to_last : port ≤ ports.last

-- a port of the range that is not leased
pub record IsFree (ports : Ports) (port : ℕ) : Type 0 where
  pub within : IsWithin ports port
  pub not_leased : set.contains ports.leased port ≡ false

pub record IsLowestFree (ports : Ports) (port : ℕ) : Type 0 where
  pub free : IsFree ports port
  pub lowest : (other : ℕ) → IsFree ports other → port ≤ other

-- all ports are leased
abbrev pub AllAreLeased : Ports → Type 0
AllAreLeased ports = (port : ℕ) → IsFree ports port → ⊥

abbrev pub with_lease : Ports → ℕ → Ports
with_lease ports port = record ports { leased = set.insert ports.leased port }

abbrev pub without_lease : Ports → ℕ → Ports
without_lease ports port = record ports { leased = set.remove ports.leased port }

-- The stored form: one bit for each port, set if it is leased.

-- the ports whose bits are set among the first ones, if bit 0 is that of port `first`
abbrev pub marked : ℕ → List ℕ → ℕ → set.FinSet nat_cmp
marked first words zero = set.empty
marked first words (suc k) =
    cond (has_bit words k) (set.insert (marked first words k) (first + k)) (marked first words k)

abbrev pub kept_ports : ℕ → ℕ → List ℕ → Ports
kept_ports first last words =
    record { first = first; last = last; leased = marked first words (last - first + 1) }

pub record IsPool (first last : ℕ) (words : List ℕ) : Type 0 where
  pub ordered : first ≤ last
  pub room : last - first < 64 * length words

-- a code, by which proofs distinguish values
abbrev pub ports_code : Coded Ports
ports_code =
    code_by (ℕ × (ℕ × set.FinSet nat_cmp)) (coded× coded_ℕ (coded× coded_ℕ (set.code coded_ℕ)))
    (λ p. (p.first, (p.last, p.leased)))
    (λ p. record { first = p.0; last = p.1.0; leased = p.1.1 }) (λ _. refl)
