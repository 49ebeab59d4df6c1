-- The text of a status, read.
use Rattle.std.proofs.Common.{◌≡◌, ◌≤◌, ◌⊎◌, ◌++◌, ◌-◌, ◌∙◌, ℕ, List, [], ◌∷◌, Some, None, Result, Ok, Err, IfOk, IfErr, ap, arith, inl, inr, length, length-append, refl, subst, sym, take}
use Rattle.std.specs.Prelude.{IsUtf8, slice_index}
use Rattle.serde_json.specs.Data.{Data, depth}
use Rattle.serde_json.specs.Read.{read}
use Rattle.server_status.specs.declared.fault.StatusFault.{StatusFault}
use Rattle.server_status.specs.declared.fault.StatusFault.TheVariants.{Memory, NotJson}
use Rattle.server_status.specs.declared.status.Status.{Status}
use Rattle.server_status.specs.ReadBack.{HasNoJson, HavePeers, IsReadAs, IsReadFault, IsSame, without_feed}
use Rattle.server_status.specs.StatusData.{IsStatusText, status_data}
use Rattle.server_status.specs.StatusRead.{IsFaultOf, IsStatusOf}
use Rattle.server_status.proofs.Addresses.{same_some}
use Rattle.server_status.proofs.Back.{fine, no_fault, same}
use Rattle.server_status.proofs.Depths.{status_depth}

last_octet : (json : List ℕ) → slice_index (json ++ 10 ∷ []) (length json) ≡ 10
last_octet [] = refl
last_octet (x ∷ xs) = last_octet xs

front : (json : List ℕ) → take (length json) (json ++ 10 ∷ []) ≡ json
front [] = refl
front (x ∷ xs) = ap (λ rest. x ∷ rest) (front xs)

feedless : (json : List ℕ) → without_feed (json ++ 10 ∷ []) ≡ json
feedless json =
    let long : length (json ++ 10 ∷ []) - 1 ≡ length json = omega (arith, length-append json (10 ∷ [])) in
    rw (long, last_octet json) (front json)

-- the line of a text that was written is its JSON
line_is : (s : Status) (octets line : List ℕ) → IsStatusText s octets → line ≡ without_feed octets → (json : List ℕ) × (line ≡ json) × IsUtf8 json × (read json ≡ Some (status_data s))
line_is s octets line written is = (written.json, is ∙ ap without_feed written.ends ∙ feedless written.json, written.utf8, written.reads)

data_is : (s : Status) (octets line : List ℕ) (d : Data) → IsStatusText s octets → line ≡ without_feed octets → read line ≡ Some d → status_data s ≡ d
data_is s octets line d written is reads =
    let json = line_is s octets line written is in
    same_some (status_data s) d (sym json.3 ∙ ap read (sym json.1) ∙ reads)

no_json : (s : Status) (octets line : List ℕ) → IsStatusText s octets → line ≡ without_feed octets → HasNoJson line → ⊥
no_json s octets line written is not =
    let json = line_is s octets line written is in
    let none : read json.0 ≡ None = subst (λ (l : List ℕ). HasNoJson l) json.1 not json.2 in
    let both : Some (status_data s) ≡ None = sym json.3 ∙ none in
    cc

pub unread : (s : Status) (octets line : List ℕ) (fault : StatusFault) → IsStatusText s octets → line ≡ without_feed octets
    → (fault ≡ Memory) ⊎ ((fault ≡ NotJson) × HasNoJson line) → fault ≡ Memory
unread s octets line fault written is reported = elim reported [ inl memory ↦ memory | inr not ↦ absurd (no_json s octets line written is not.1) ]

pub unlike : (s : Status) (octets line : List ℕ) (d : Data) (fault : StatusFault) → HavePeers s → IsStatusText s octets → line ≡ without_feed octets → read line ≡ Some d
    → (fault ≡ Memory) ⊎ IsFaultOf d fault → fault ≡ Memory
unlike s octets line d fault peers written is reads reported = elim reported [
  | inl memory ↦ memory
  | inr fails ↦ absurd (no_fault (status_data s) fault (fine s peers) (subst (λ (e : Data). IsFaultOf e fault) (sym (data_is s octets line d written is reads)) fails))
]

pub alike : (s r : Status) (octets line : List ℕ) (d : Data) → HavePeers s → IsStatusText s octets → line ≡ without_feed octets → read line ≡ Some d → IsStatusOf d r → IsSame s r
alike s r octets line d peers written is reads has =
    same s r peers (subst (λ (e : Data). IsStatusOf e r) (sym (data_is s octets line d written is reads)) has).1

pub read_as : (s : Status) (octets line : List ℕ) (d : Data) (r : Result Status StatusFault) → HavePeers s → IsStatusText s octets → line ≡ without_feed octets → read line ≡ Some d
    → IfOk r (IsStatusOf d) → IfErr r (λ fault. (fault ≡ Memory) ⊎ IsFaultOf d fault) → IsReadAs s r
read_as s octets line d (Ok r) peers written is reads has fails = alike s r octets line d peers written is reads has
read_as s octets line d (Err fault) peers written is reads has fails = unlike s octets line d fault peers written is reads fails

-- the fault of the value of a text is that of the text
pub fault_read : (octets line : List ℕ) (d : Data) (fault : StatusFault) → line ≡ without_feed octets → read line ≡ Some d → (fault ≡ Memory) ⊎ IsFaultOf d fault → IsReadFault octets fault
fault_read octets line d fault is reads reported = elim reported [ inl memory ↦ inl memory | inr fails ↦ inr (inr (d, ap read (sym is) ∙ reads, fails)) ]

-- the JSON of a status and a line feed
pub written : (s : Status) (json line text : List ℕ) (d : Data) → line ≡ json → text ≡ line ++ 10 ∷ [] → IsUtf8 line → (depth d ≤ 127 → read json ≡ Some d) → d ≡ status_data s → IsStatusText s text
written s json line text d same ends utf8 reads drawn = record {
  json = line;
  ends = ends;
  utf8 = utf8;
  reads = ap read same ∙ reads (subst (λ (e : Data). depth e ≤ 127) (sym drawn) (status_depth s)) ∙ ap Some drawn;
}
