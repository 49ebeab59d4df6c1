-- Ports that are in use, at rest, or ready.
use Rattle.std.specs.Prelude.{◌≡◌, ℕ, ◌+◌, ◌-◌, ◌/◌, ◌≤◌, ◌⊎◌, Bool, true, false, nat_eq, List, [], ◌∷◌, ◌++◌, length, drop, refl}
use Rattle.std.specs.Coded.{Coded, code_by, coded×, coded_ℕ, coded_list}
use Rattle.std.specs.FinSet as set
use Rattle.std.specs.List.{fold, list_any}
use Rattle.std.specs.Ordering.{nat_cmp}
use Rattle.passive_ports.specs.Ports.{Ports, without_lease}

-- the ports from `first` to `last`, those in use, those at rest, and the most that may rest
pub record Resting : Type 0 where
  pub first : ℕ
  pub last : ℕ
  pub in_use : set.FinSet nat_cmp
  pub at_rest : List ℕ
  pub most : ℕ

-- initially none is in use
abbrev pub opened : ℕ → ℕ → Resting
opened first last =
    record {
      first = first;
      last = last;
      in_use = set.empty;
      at_rest = [];
      most = (last - first + 1) / 2;
    }

-- a port of the range that is not in use
pub record IsIdle (ports : Resting) (port : ℕ) : Type 0 where
  pub from_first : ports.first ≤ port
  pub to_last : port ≤ ports.last
  pub not_used : set.contains ports.in_use port ≡ false

abbrev pub rests : List ℕ → ℕ → Bool
rests at_rest port = list_any (nat_eq port) at_rest

-- and not at rest
pub record IsReady (ports : Resting) (port : ℕ) : Type 0 where
  pub idle : IsIdle ports port
  pub awake : rests ports.at_rest port ≡ false

abbrev pub AllAreUsed : Resting → Type 0
AllAreUsed ports = (port : ℕ) → IsIdle ports port → ⊥

abbrev pub with_use : Resting → ℕ → Resting
with_use ports port = record ports { in_use = set.insert ports.in_use port }

abbrev pub awake : Resting → Resting
awake ports = record ports { at_rest = [] }

-- the lowest ready port
pub record LeasesReady (old new : Resting) (port : ℕ) : Type 0 where
  pub ready : IsReady old port
  pub lowest : (other : ℕ) → IsReady old other → port ≤ other
  pub used : new ≡ with_use old port

-- if there is none, the lowest port not in use; then no port rests any more
pub record LeasesRested (old new : Resting) (port : ℕ) : Type 0 where
  pub none_ready : (other : ℕ) → IsReady old other → ⊥
  pub idle : IsIdle old port
  pub lowest : (other : ℕ) → IsIdle old other → port ≤ other
  pub used : new ≡ with_use (awake old) port

abbrev pub Leases : Resting → Resting → ℕ → Type 0
Leases old new port = LeasesReady old new port ⊎ LeasesRested old new port

-- the last n of a list
abbrev pub keep_last : ℕ → List ℕ → List ℕ
keep_last n xs = drop (length xs - n) xs

-- a port that was in use rests
abbrev pub rested : Resting → ℕ → Resting
rested ports port = record ports {
  in_use = set.remove ports.in_use port;
  at_rest = keep_last ports.most (ports.at_rest ++ port ∷ []);
}

-- The stored form: a pool in which ports at rest are leased too.

-- a pool after each of these ports was given back
abbrev pub unleased : Ports → List ℕ → Ports
unleased pool at_rest = fold without_lease pool at_rest

abbrev pub kept_ports : Ports → List ℕ → ℕ → Resting
kept_ports pool at_rest most = record {
  first = pool.first;
  last = pool.last;
  in_use = (unleased pool at_rest).leased;
  at_rest = at_rest;
  most = most;
}

-- each port at rest is leased, and occurs once
abbrev pub AllRest : set.FinSet nat_cmp → List ℕ → Type 0
AllRest leased [] = Unit {0}
AllRest leased (port ∷ ports) =
    (set.contains leased port ≡ true) × AllRest (set.remove leased port) ports

pub record IsKept (leased : set.FinSet nat_cmp) (at_rest : List ℕ) (most room : ℕ) : Type 0 where
  pub all_rest : AllRest leased at_rest
  pub few : length at_rest ≤ most
  pub has_room : most ≤ room

-- a code, by which proofs distinguish values
abbrev pub resting_code : Coded Resting
resting_code = code_by ((ℕ × ℕ) × (set.FinSet nat_cmp × (List ℕ × ℕ)))
    (coded× (coded× coded_ℕ coded_ℕ)
    (coded× (set.code coded_ℕ) (coded× (coded_list coded_ℕ) coded_ℕ)))
    (λ p. ((p.first, p.last), (p.in_use, (p.at_rest, p.most))))
    (λ p. record { first = p.0.0; last = p.0.1; in_use = p.1.0; at_rest = p.1.1.0; most = p.1.1.1 })
    (λ _. refl)
