-- Opening a passive port.
use Rattle.std.specs.Prelude.{◌≡◌, ◌⊎◌, ℕ, zero, suc, Option, Some, None}

-- a call on a host that leases ports and listens on them, with its result
pub data PortCall (L : Type 0) : Type 0 where
  Leases : Option ℕ → PortCall L
  Binds : ℕ → Option L → PortCall L
  Rests : ℕ → PortCall L

module _ {L H : Type 0} (Asks : H → PortCall L → H → Type 0) where
  -- no port is free
  abbrev pub FindsNone : H → Option (ℕ × L) → H → Type 0
  FindsNone old found new = Asks old (Leases None) new × (found ≡ None)

  -- a port is leased and listened on
  abbrev pub Opens : H → Option (ℕ × L) → H → Type 0
  Opens old found new = (port : ℕ) × (listener : L) × (mid : H) × Asks old (Leases (Some port)) mid
      × Asks mid (Binds port (Some listener)) new × (found ≡ Some (port, listener))

  -- A port that cannot be listened on stays leased while something else is done, and is then taken
  -- back.
  abbrev pub Passes : (H → Option (ℕ × L) → H → Type 0) → H → Option (ℕ × L) → H → Type 0
  Passes Next old found new =
      (port : ℕ) × (leased : H) × (tried : H) × (last : H) × Asks old (Leases (Some port)) leased
      × Asks leased (Binds port None) tried × Next tried found last × Asks last (Rests port) new

  abbrev pub GivesUp : H → Option (ℕ × L) → H → Type 0
  GivesUp old found new = (new ≡ old) × (found ≡ None)

  -- The calls that open a port, with at most `tries` more tries.
  abbrev pub Tries : ℕ → H → Option (ℕ × L) → H → Type 0
  Tries zero old found new =
      FindsNone old found new ⊎ (Opens old found new ⊎ Passes GivesUp old found new)
  Tries (suc tries) old found new =
      FindsNone old found new ⊎ (Opens old found new ⊎ Passes (Tries tries) old found new)
