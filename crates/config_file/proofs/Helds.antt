-- The values that the rows of each kind have.
use Rattle.std.proofs.Common.{◌≡◌, ℕ, Bool, true, false, List, [], Option, Some, None, Ok, Err, refl, sym, codes, if◌then◌else◌}
use Rattle.std.specs.List.{list_any}
use Rattle.toml.specs.Data.{Data, string, integer, float, boolean, datetime, array, table, Members, get_member}
use Rattle.ftp_terms.specs.Lines.{is_control, HasNoControl}
use Rattle.config_file.specs.declared.fault.Problem.{Problem}
use Rattle.config_file.specs.declared.fault.Problem.TheVariants.{OutOfRange}
use Rattle.config_file.specs.declared.kind.KeyKind.{KeyKind}
use Rattle.config_file.specs.declared.kind.KeyKind.TheVariants as kind
use Rattle.config_file.specs.Keys.{KeyRow, Fits, Judges, JudgesFound, JudgesUnless, is_anonymous, when_absent}
use Rattle.config_file.specs.Rows.{IsAddressed, IsLined, IsLineDefault, IsOptional}
use Rattle.config_file.specs.Values.{Held, nothing, number, text, flag, address, inner, items, as_line, ReadsAddress}
use Rattle.config_file.proofs.KnownKeys.{plain}

-- no address is refused whose value is one
both : (s : List ℕ) (held : Held) (problem : Problem) → ReadsAddress (string s) (Ok held) → ReadsAddress (string s) (Err problem) → ⊥
both s nothing problem is not = is
both s (number n) problem is not = is
both s (text t) problem is not = is
both s (flag b) problem is not = is
both s (address octets) problem is not = not.1 is.0 is.2
both s (inner ms) problem is not = is
both s (items ds) problem is not = is

one_answer : (found : Data) (held : Held) (problem : Problem) → ReadsAddress found (Ok held) → ReadsAddress found (Err problem) → ⊥
one_answer (string s) held problem is not = both s held problem is not
one_answer (integer z) held problem is not = cc
one_answer (float x) held problem is not = cc
one_answer (boolean b) held problem is not = cc
one_answer (datetime t) held problem is not = cc
one_answer (array ds) held problem is not = cc
one_answer (table ms) held problem is not = cc

found_once : (key : List ℕ) (default : Option Held) (found : Option Data) (held : Held) (problem : Problem)
    → JudgesFound (record { key = key; kind = kind.Address; default = default }) found (Ok held)
    → JudgesFound (record { key = key; kind = kind.Address; default = default }) found (Err problem) → ⊥
found_once key default (Some found) held problem is not = one_answer found held problem is not
found_once key None None held problem is not = cc
found_once key (Some other) None held problem is not = cc

pub not_refused : (key : List ℕ) (default : Option Held) (m : Members) (problem : Problem)
    → Fits (record { key = key; kind = kind.Address; default = default }) m
    → Judges (record { key = key; kind = kind.Address; default = default }) m (Err problem) → ⊥
not_refused key default m problem fits not = found_once key default (get_member key m) fits.0 problem fits.1 not

-- an address row is refused in no table that it fits
fits_once_of : (key : List ℕ) (of : KeyKind) (default : Option Held) (m : Members) (problem : Problem) → IsAddressed of default
    → Fits (record { key = key; kind = of; default = default }) m → Judges (record { key = key; kind = of; default = default }) m (Err problem) → ⊥
fits_once_of key kind.Text default m problem is fits not = is
fits_once_of key kind.Line default m problem is fits not = is
fits_once_of key kind.Password default m problem is fits not = is
fits_once_of key kind.Flag default m problem is fits not = is
fits_once_of key (kind.Number low high) default m problem is fits not = is
fits_once_of key kind.Address default m problem is fits not = not_refused key default m problem fits not
fits_once_of key kind.Table default m problem is fits not = is
fits_once_of key kind.Rows default m problem is fits not = is

pub fits_once : (row : KeyRow) (m : Members) (problem : Problem) → IsAddressed row.kind row.default → Fits row m → Judges row m (Err problem) → ⊥
fits_once row m problem is fits not = fits_once_of row.key row.kind row.default m problem is fits not

maybe_once_of : (key : List ℕ) (of : KeyKind) (default : Option Held) (m : Members) (problem : Problem) → IsOptional kind.Address of default
    → Fits (record { key = key; kind = of; default = default }) m → Judges (record { key = key; kind = of; default = default }) m (Err problem) → ⊥
maybe_once_of key kind.Text default m problem is fits not = is
maybe_once_of key kind.Line default m problem is fits not = is
maybe_once_of key kind.Password default m problem is fits not = is
maybe_once_of key kind.Flag default m problem is fits not = is
maybe_once_of key (kind.Number low high) default m problem is fits not = is
maybe_once_of key kind.Address default m problem is fits not = not_refused key default m problem fits not
maybe_once_of key kind.Table default m problem is fits not = is
maybe_once_of key kind.Rows default m problem is fits not = is

pub maybe_once : (row : KeyRow) (m : Members) (problem : Problem) → IsOptional kind.Address row.kind row.default → Fits row m → Judges row m (Err problem) → ⊥
maybe_once row m problem is fits not = maybe_once_of row.key row.kind row.default m problem is fits not

-- a line that is read has no control octet
read_plain : (judging : KeyKind) (s t : List ℕ) (bad : Bool) → bad ≡ list_any is_control s
    → Ok (text t) ≡ (if bad then Err (OutOfRange judging) else Ok (text s)) → HasNoControl t
read_plain judging s t true same judged = cc
read_plain judging s t false same judged = let here : t ≡ s = cc in rw here (plain s (sym same))

line_plain : (judging : KeyKind) (found : Data) (t : List ℕ) → Ok (text t) ≡ as_line judging found → HasNoControl t
line_plain judging (string s) t judged = read_plain judging s t (list_any is_control s) refl judged
line_plain judging (integer z) t judged = cc
line_plain judging (float x) t judged = cc
line_plain judging (boolean b) t judged = cc
line_plain judging (datetime d) t judged = cc
line_plain judging (array ds) t judged = cc
line_plain judging (table ms) t judged = cc

absent_plain : (judging : KeyKind) (default : Option Held) (t : List ℕ) → IsLineDefault default → Ok (text t) ≡ when_absent judging default → HasNoControl t
absent_plain judging None t is judged = cc
absent_plain judging (Some nothing) t is judged = absurd is
absent_plain judging (Some (number n)) t is judged = absurd is
absent_plain judging (Some (text s)) t is judged = let here : t ≡ s = cc in rw here is
absent_plain judging (Some (flag b)) t is judged = absurd is
absent_plain judging (Some (address octets)) t is judged = absurd is
absent_plain judging (Some (inner ms)) t is judged = absurd is
absent_plain judging (Some (items ds)) t is judged = absurd is

line_found : (key : List ℕ) (default : Option Held) (found : Option Data) (t : List ℕ) → IsLineDefault default
    → JudgesFound (record { key = key; kind = kind.Line; default = default }) found (Ok (text t)) → HasNoControl t
line_found key default (Some found) t is judged = line_plain kind.Line found t judged
line_found key default None t is judged = absent_plain kind.Line default t is judged

password_found : (key : List ℕ) (default : Option Held) (found : Option Data) (t : List ℕ) → IsLineDefault default
    → JudgesFound (record { key = key; kind = kind.Password; default = default }) found (Ok (text t)) → HasNoControl t
password_found key default (Some found) t is judged = line_plain kind.Password found t judged
password_found key default None t is judged = absent_plain kind.Password default t is judged

password_unless : (unread : Bool) (key : List ℕ) (default : Option Held) (m : Members) (t : List ℕ) → IsLineDefault default
    → JudgesUnless unread (record { key = key; kind = kind.Password; default = default }) m (Ok (text t)) → HasNoControl t
password_unless true key default m t is judged = let here : t ≡ [] = cc in rw here tt
password_unless false key default m t is judged = password_found key default (get_member key m) t is judged

plain_of : (key : List ℕ) (of : KeyKind) (default : Option Held) (m : Members) (t : List ℕ) → IsLined of default
    → Judges (record { key = key; kind = of; default = default }) m (Ok (text t)) → HasNoControl t
plain_of key kind.Text default m t is judged = absurd is
plain_of key kind.Line default m t is judged = line_found key default (get_member key m) t is judged
plain_of key kind.Password default m t is judged = password_unless (is_anonymous (get_member (codes "name") m)) key default m t is judged
plain_of key kind.Flag default m t is judged = absurd is
plain_of key (kind.Number low high) default m t is judged = absurd is
plain_of key kind.Address default m t is judged = absurd is
plain_of key kind.Table default m t is judged = absurd is
plain_of key kind.Rows default m t is judged = absurd is

-- a value of a line's row has no control octet
pub plain_held : (row : KeyRow) (m : Members) (t : List ℕ) → IsLined row.kind row.default → Judges row m (Ok (text t)) → HasNoControl t
plain_held row m t is judged = plain_of row.key row.kind row.default m t is judged
