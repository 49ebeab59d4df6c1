-- The members of a record, and whether it has each of them, with a value of its kind.
use Rattle.std.specs.Prelude.{◌≡◌, ◌⊎◌, ◌||◌, ℕ, Bool, List, [], ◌∷◌, Option, Some, None, IsTrue, bytes_eq, codes, if◌then◌else◌, is_some, map, option_and_then, option_map}
use Rattle.std.specs.Option.{option_map_or}
use Rattle.std.specs.Net.Grammar.{IsIpv4Text}
use Rattle.std.specs.declared.net.ipv4_addr.Ipv4Addr.{Ipv4Addr}
use Rattle.serde_json.specs.Data.{Data}
use Rattle.serde_json.specs.Find.{as_array, as_bool, as_null, as_number, as_str, as_u64, get}
use Rattle.server_status.specs.declared.fault.StatusFault.{StatusFault}
use Rattle.server_status.specs.declared.fault.StatusFault.TheVariants.{NotJson, Missing, OtherKind, Version, Memory}
use Rattle.server_status.specs.declared.member.Kind.{Kind}
use Rattle.server_status.specs.declared.member.Kind.TheVariants as kind
use Rattle.server_status.specs.declared.member.Member.{Member}
use Rattle.server_status.specs.declared.status.Direction.{Direction}
use Rattle.server_status.specs.declared.status.Direction.TheVariants.{Down, Up}
use Rattle.server_status.specs.declared.status.SharedAmong.{SharedAmong}
use Rattle.server_status.specs.declared.status.SharedAmong.TheVariants.{Sessions, Users}

-- ---- values

abbrev pub count_of : Data → Option ℕ
count_of d = option_and_then as_u64 (as_number d)

abbrev pub is_null : Data → Bool
is_null d = is_some (as_null d)

abbrev pub direction_named : List ℕ → Option Direction
direction_named name =
    if bytes_eq name (codes "down") then Some Down
    else (if bytes_eq name (codes "up") then Some Up else None)

abbrev pub direction_of : Data → Option Direction
direction_of d = option_and_then direction_named (as_str d)

abbrev pub sharers_named : List ℕ → Option SharedAmong
sharers_named name =
    if bytes_eq name (codes "sessions") then Some Sessions
    else (if bytes_eq name (codes "users") then Some Users else None)

abbrev pub sharers_of : Data → Option SharedAmong
sharers_of d = option_and_then sharers_named (as_str d)

abbrev pub is_unit : Data → Bool
is_unit d = option_map_or (λ text. bytes_eq text (codes "octets")) (as_str d) Bool.false

-- the value is a text of that address
abbrev pub IsAddress : Data → Ipv4Addr → Type 0
IsAddress d address = (text : List ℕ) × (as_str d ≡ Some text) × IsIpv4Text text address

-- the value is of the kind
abbrev pub Fits : Kind → Data → Type 0
Fits kind.Number d = IsTrue (is_some (count_of d))
Fits kind.NumberOrNull d = IsTrue (is_null d || is_some (count_of d))
Fits kind.Text d = IsTrue (is_some (as_str d))
Fits kind.TextOrNull d = IsTrue (is_null d || is_some (as_str d))
Fits kind.Flag d = IsTrue (is_some (as_bool d))
Fits kind.Direction d = IsTrue (is_some (direction_of d))
Fits kind.Sharers d = IsTrue (is_some (sharers_of d))
Fits kind.Address d = (address : Ipv4Addr) × IsAddress d address
Fits kind.Unit d = IsTrue (is_unit d)
Fits kind.List d = IsTrue (is_some (as_array d))

-- ---- members

-- A member of a record: its name in a fault, the name of the object within the record that has it,
-- if it is not the record itself, its name there, and the kind of its value.
pub record MemberRow : Type 0 where
  pub reported : List ℕ
  pub within : Option (List ℕ)
  pub name : List ℕ
  pub kind : Kind

abbrev pub row_of : Member → MemberRow
row_of m =
    record { reported = m.0.now; within = option_map (λ s. s.now) m.1; name = m.2.now; kind = m.3 }

abbrev pub rows_of : List Member → List MemberRow
rows_of ms = map row_of ms

-- the object of that name within a record, or the record
abbrev pub part : Option (List ℕ) → Data → Option Data
part None d = Some d
part (Some name) d = get name d

-- the value of a member of a record
abbrev pub found : MemberRow → Data → Option Data
found m d = option_and_then (get m.name) (part m.within d)

abbrev pub IsFound : Kind → Option Data → Type 0
IsFound of None = ⊥
IsFound of (Some d) = Fits of d

-- the record has the member, with a value of its kind
abbrev pub Has : MemberRow → Data → Type 0
Has m d = IsFound m.kind (found m d)

-- the record has all of these members
abbrev pub HasAll : List MemberRow → Data → Type 0
HasAll [] d = Unit {0}
HasAll (m ∷ ms) d = Has m d × HasAll ms d

-- each of these records has all of these members
abbrev pub AllHave : List MemberRow → List Data → Type 0
AllHave ms [] = Unit {0}
AllHave ms (d ∷ ds) = HasAll ms d × AllHave ms ds

-- ---- faults

abbrev pub IsOtherKind : Kind → Option Data → Type 0
IsOtherKind of None = ⊥
IsOtherKind of (Some d) = ¬ Fits of d

-- the record has not the member; or its value is of another kind
abbrev pub IsMemberFault : MemberRow → Data → StatusFault → Type 0
IsMemberFault m d (Missing name) = (name.now ≡ m.reported) × (found m d ≡ None)
IsMemberFault m d (OtherKind name) = (name.now ≡ m.reported) × IsOtherKind m.kind (found m d)
IsMemberFault m d (Version n) = ⊥
IsMemberFault m d NotJson = ⊥
IsMemberFault m d Memory = ⊥

-- the fault of the first of these members that the record has not
abbrev pub IsFirstFault : List MemberRow → Data → StatusFault → Type 0
IsFirstFault [] d fault = ⊥
IsFirstFault (m ∷ ms) d fault = IsMemberFault m d fault ⊎ (Has m d × IsFirstFault ms d fault)

-- the fault of the first of these records that has not all of these members
abbrev pub IsFirstFaultIn : List MemberRow → List Data → StatusFault → Type 0
IsFirstFaultIn ms [] fault = ⊥
IsFirstFaultIn ms (d ∷ ds) fault =
    IsFirstFault ms d fault ⊎ (HasAll ms d × IsFirstFaultIn ms ds fault)
