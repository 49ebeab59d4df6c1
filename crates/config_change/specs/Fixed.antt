-- The first key that cannot change while a server runs and has another value.
use Rattle.std.specs.Prelude.{◌≡◌, ◌≢◌, ◌<◌, ◌≤◌, ℕ, List, Option, Some, None}
use Rattle.std.specs.Net.Addr.{ipv4_octets}
use Rattle.server_config.specs.declared.settings.ServerNumbers.{ServerNumbers}
use Rattle.config_change.specs.declared.fixed.CountFault.{CountFault}
use Rattle.config_change.specs.declared.fixed.CountFault.TheVariants.{NoRoom, TooMany}
use Rattle.config_change.specs.declared.fixed.FixedKey.{FixedKey}
use Rattle.config_change.specs.declared.fixed.FixedKey.TheVariants.{Address, Port, Root, Capacity, PassiveFirst, PassiveLast, Lanes}
use Rattle.config_change.specs.declared.fixed.FixedValues.{FixedValues}

-- each of these: the key with both values if they differ, and none if they are the same

abbrev pub IsAddressKey : List ℕ → List ℕ → Option FixedKey → Type 0
IsAddressKey before after None = before ≡ after
IsAddressKey before after (Some (Address old new)) =
    (ipv4_octets old ≡ before) × (ipv4_octets new ≡ after) × (before ≢ after)
IsAddressKey before after (Some _) = ⊥

abbrev pub IsPortKey : ServerNumbers → ServerNumbers → Option FixedKey → Type 0
IsPortKey before after None = before.port ≡ after.port
IsPortKey before after (Some (Port old new)) =
    (old ≡ before.port) × (new ≡ after.port) × (old ≢ new)
IsPortKey before after (Some _) = ⊥

abbrev pub IsRootKey : List ℕ → List ℕ → Option FixedKey → Type 0
IsRootKey before after None = before ≡ after
IsRootKey before after (Some (Root old new)) =
    (old.now ≡ before) × (new.now ≡ after) × (before ≢ after)
IsRootKey before after (Some _) = ⊥

abbrev pub IsCapacityKey : ℕ → ℕ → Option FixedKey → Type 0
IsCapacityKey before after None = before ≡ after
IsCapacityKey before after (Some (Capacity old new)) =
    (old ≡ before) × (new ≡ after) × (old ≢ new)
IsCapacityKey before after (Some _) = ⊥

-- the first passive port, or otherwise the last
abbrev pub IsPassiveKey : ServerNumbers → ServerNumbers → Option FixedKey → Type 0
IsPassiveKey before after None =
    (before.passive_first ≡ after.passive_first) × (before.passive_last ≡ after.passive_last)
IsPassiveKey before after (Some (PassiveFirst old new)) =
    (old ≡ before.passive_first) × (new ≡ after.passive_first) × (old ≢ new)
IsPassiveKey before after (Some (PassiveLast old new)) =
    (before.passive_first ≡ after.passive_first)
    × (old ≡ before.passive_last) × (new ≡ after.passive_last) × (old ≢ new)
IsPassiveKey before after (Some _) = ⊥

abbrev pub IsLanesKey : ServerNumbers → ServerNumbers → Option FixedKey → Type 0
IsLanesKey before after None = before.lanes ≡ after.lanes
IsLanesKey before after (Some (Lanes old new)) =
    (old ≡ before.lanes) × (new ≡ after.lanes) × (old ≢ new)
IsLanesKey before after (Some _) = ⊥

-- the values of the keys before each are the same
abbrev pub SameToAddress : FixedValues → FixedValues → Type 0
SameToAddress before after = before.numbers.address ≡ after.numbers.address

abbrev pub SameToPort : FixedValues → FixedValues → Type 0
SameToPort before after =
    SameToAddress before after × (before.numbers.port ≡ after.numbers.port)

abbrev pub SameToRoot : FixedValues → FixedValues → Type 0
SameToRoot before after = SameToPort before after × (before.root.now ≡ after.root.now)

abbrev pub SameToCapacity : FixedValues → FixedValues → Type 0
SameToCapacity before after = SameToRoot before after × (before.capacity ≡ after.capacity)

abbrev pub SameToPassive : FixedValues → FixedValues → Type 0
SameToPassive before after =
    SameToCapacity before after
    × (before.numbers.passive_first ≡ after.numbers.passive_first)
    × (before.numbers.passive_last ≡ after.numbers.passive_last)

-- The key with both values, and all keys before it are the same; none, and all keys are the same.
abbrev pub IsFixedKey : FixedValues → FixedValues → Option FixedKey → Type 0
IsFixedKey before after None =
    SameToPassive before after × IsLanesKey before.numbers after.numbers None
IsFixedKey before after (Some (Address old new)) =
    IsAddressKey before.numbers.address after.numbers.address (Some (Address old new))
IsFixedKey before after (Some (Port old new)) =
    SameToAddress before after × IsPortKey before.numbers after.numbers (Some (Port old new))
IsFixedKey before after (Some (Root old new)) =
    SameToPort before after × IsRootKey before.root.now after.root.now (Some (Root old new))
IsFixedKey before after (Some (Capacity old new)) =
    SameToRoot before after × IsCapacityKey before.capacity after.capacity (Some (Capacity old new))
IsFixedKey before after (Some (PassiveFirst old new)) =
    SameToCapacity before after
    × IsPassiveKey before.numbers after.numbers (Some (PassiveFirst old new))
IsFixedKey before after (Some (PassiveLast old new)) =
    SameToCapacity before after
    × IsPassiveKey before.numbers after.numbers (Some (PassiveLast old new))
IsFixedKey before after (Some (Lanes old new)) =
    SameToPassive before after × IsLanesKey before.numbers after.numbers (Some (Lanes old new))

-- the maximum is above the room of the start, or it is not and is below the number of connections;
-- none, and it is neither
abbrev pub IsCountFault : ℕ → ℕ → ℕ → Option CountFault → Type 0
IsCountFault room connected stated None = (stated ≤ room) × (connected ≤ stated)
IsCountFault room connected stated (Some (NoRoom most reported)) =
    (most ≡ room) × (reported ≡ stated) × (room < stated)
IsCountFault room connected stated (Some (TooMany there reported)) =
    (there ≡ connected) × (reported ≡ stated) × (stated ≤ room) × (stated < connected)
