-- The address that a text has.
use Rattle.std.proofs.Common.{◌≡◌, ◌∙◌, List, ℕ, Option, Some, Result, Ok, Err, IsNone, subst, sym}
use Rattle.std.proofs.NetLemmas.Theorems.{IsIpv4Text_unique}
use Rattle.std.specs.Net.Grammar.{IsIpv4Text, Parses}
use Rattle.std.specs.Result.{result_ok}
use Rattle.std.specs.declared.net.ipv4_addr.Ipv4Addr.{Ipv4Addr}
use Rattle.serde_json.specs.Data.{Data}
use Rattle.serde_json.specs.Find.{as_str}
use Rattle.server_status.specs.Fits.{IsAddress}

pub same_some : {X : Type 0} (x y : X) → Some x ≡ Some y → x ≡ y
same_some x y e = cc

not_parsed : {E : Type 0} (text : List ℕ) (r : Result Ipv4Addr E) (address : Ipv4Addr) → Parses IsIpv4Text text r → IsNone (result_ok r) → IsIpv4Text text address → ⊥
not_parsed text (Ok a) address parsed none is = absurd (cc)
not_parsed text (Err e) address parsed none is = parsed address is

-- a text that is not parsed has no address
pub no_address : {E : Type 0} (d : Data) (text : List ℕ) (r : Result Ipv4Addr E) (o : Option Ipv4Addr) → Some text ≡ as_str d → Parses IsIpv4Text text r → o ≡ result_ok r → IsNone o
    → ((address : Ipv4Addr) × IsAddress d address) → ⊥
no_address d text r o is parsed gives none has =
    let same : has.1.0 ≡ text = same_some has.1.0 text (sym has.1.1 ∙ sym is) in
    not_parsed text r has.0 parsed (subst (λ (p : Option Ipv4Addr). IsNone p) gives none) (subst (λ (t : List ℕ). IsIpv4Text t has.0) same has.1.2)

pub same_address : (d : Data) (a b : Ipv4Addr) → IsAddress d a → IsAddress d b → a ≡ b
same_address d a b is other =
    let same : other.0 ≡ is.0 = same_some other.0 is.0 (sym other.1 ∙ is.1) in
    IsIpv4Text_unique is.0 a b is.2 (subst (λ (t : List ℕ). IsIpv4Text t b) same other.2)
