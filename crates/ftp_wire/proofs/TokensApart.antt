-- A stream has one list of tokens.
use Rattle.std.proofs.Common.{arith, refl, sym, ap, ◌∙◌, ◌≡◌, ◌≢◌, ◌<◌, ◌≤◌, ◌⊎◌, inl, inr, ◌++◌, ◌∷◌, [], ℕ, List, flat_map, append_assoc, append-nil}
use Rattle.std.specs.List.{AllByRecursion}
use Rattle.std.proofs.lemmas.List.Concat.{flat_map-cons}
use Rattle.ftp_wire.specs.declared.telnet.Stage.{Stage}
use Rattle.ftp_wire.specs.declared.telnet.Stage.TheVariants as stage
use Rattle.ftp_wire.specs.Telnet.{IsPart, IsToken, IsUnfinished, Part, Strips, Token, one, pair, plain, escaped, command, option, subnegotiation, kept, part_octets, spelling}
use Rattle.ftp_wire.specs.Stages.{IsStart, StripsTo}

one_shape : (octet : ℕ) (parts : List Part) (r : List ℕ) → flat_map part_octets (one octet ∷ parts) ++ r ≡ octet ∷ (flat_map part_octets parts ++ r)
one_shape octet parts r = ap (λ t. t ++ r) (flat_map-cons part_octets (one octet) parts)

pair_shape : (octet : ℕ) (parts : List Part) (r : List ℕ) → flat_map part_octets (pair octet ∷ parts) ++ r ≡ 255 ∷ octet ∷ (flat_map part_octets parts ++ r)
pair_shape octet parts r = ap (λ t. t ++ r) (flat_map-cons part_octets (pair octet) parts)

-- no subnegotiation with its end begins another
same_parts : (ps qs : List Part) (x y : List ℕ) → AllByRecursion IsPart ps → AllByRecursion IsPart qs
    → flat_map part_octets ps ++ 255 ∷ 240 ∷ x ≡ flat_map part_octets qs ++ 255 ∷ 240 ∷ y → (ps ≡ qs) × (x ≡ y)
same_parts [] [] x y p q e = (refl, cc)
same_parts [] (one b ∷ qs) x y p q e = let f = e ∙ one_shape b qs (255 ∷ 240 ∷ y) in absurd (q.0 cc)
same_parts [] (pair b ∷ qs) x y p q e = let f = e ∙ pair_shape b qs (255 ∷ 240 ∷ y) in absurd (q.0 cc)
same_parts (one a ∷ ps) [] x y p q e = let f = sym (one_shape a ps (255 ∷ 240 ∷ x)) ∙ e in absurd (p.0 cc)
same_parts (pair a ∷ ps) [] x y p q e = let f = sym (pair_shape a ps (255 ∷ 240 ∷ x)) ∙ e in absurd (p.0 cc)
same_parts (one a ∷ ps) (one b ∷ qs) x y p q e =
    let f = sym (one_shape a ps (255 ∷ 240 ∷ x)) ∙ e ∙ one_shape b qs (255 ∷ 240 ∷ y) in
    let tails : flat_map part_octets ps ++ 255 ∷ 240 ∷ x ≡ flat_map part_octets qs ++ 255 ∷ 240 ∷ y = cc in
    let rest = same_parts ps qs x y p.1 q.1 tails in
    let heads : a ≡ b = cc in
    (rw (heads, rest.0) refl, rest.1)
same_parts (one a ∷ ps) (pair b ∷ qs) x y p q e =
    let f = sym (one_shape a ps (255 ∷ 240 ∷ x)) ∙ e ∙ pair_shape b qs (255 ∷ 240 ∷ y) in absurd (p.0 cc)
same_parts (pair a ∷ ps) (one b ∷ qs) x y p q e =
    let f = sym (pair_shape a ps (255 ∷ 240 ∷ x)) ∙ e ∙ one_shape b qs (255 ∷ 240 ∷ y) in absurd (q.0 cc)
same_parts (pair a ∷ ps) (pair b ∷ qs) x y p q e =
    let f = sym (pair_shape a ps (255 ∷ 240 ∷ x)) ∙ e ∙ pair_shape b qs (255 ∷ 240 ∷ y) in
    let tails : flat_map part_octets ps ++ 255 ∷ 240 ∷ x ≡ flat_map part_octets qs ++ 255 ∷ 240 ∷ y = cc in
    let rest = same_parts ps qs x y p.1 q.1 tails in
    let heads : a ≡ b = cc in
    (rw (heads, rest.0) refl, rest.1)

below_or_iac : (a b : ℕ) → (a < 240) ⊎ (a ≡ 255) → 240 ≤ b → b < 255 → a ≢ b
below_or_iac a b (inl h) low high e = omega arith
below_or_iac a b (inr h) low high e = omega arith

subnegotiation_shape : (parts : List Part) (x : List ℕ) → spelling (subnegotiation parts) ++ x ≡ 255 ∷ 250 ∷ (flat_map part_octets parts ++ 255 ∷ 240 ∷ x)
subnegotiation_shape parts x = ap (λ t. 255 ∷ 250 ∷ t) (append_assoc (flat_map part_octets parts) (255 ∷ 240 ∷ []) x)

-- no token's spelling begins another's
pub first_token : (s t : Token) (x y : List ℕ) → IsToken s → IsToken t → spelling s ++ x ≡ spelling t ++ y → (s ≡ t) × (x ≡ y)
first_token (plain a) (plain b) x y p q e = let heads : a ≡ b = cc in (rw heads refl, cc)
first_token (plain a) (escaped b) x y p q e = absurd (p cc)
first_token (plain a) (command b) x y p q e = absurd (p cc)
first_token (plain a) (option b d) x y p q e = absurd (p cc)
first_token (plain a) (subnegotiation bs) x y p q e = absurd (p cc)
first_token (escaped a) (plain b) x y p q e = absurd (q cc)
first_token (command a) (plain b) x y p q e = absurd (q cc)
first_token (option a d) (plain b) x y p q e = absurd (q cc)
first_token (subnegotiation ps) (plain b) x y p q e = absurd (q cc)
first_token (escaped a) (escaped b) x y p q e = let heads : a ≡ b = cc in (rw heads refl, cc)
first_token (escaped a) (command b) x y p q e = absurd (below_or_iac a b p q.0 (omega arith) cc)
first_token (escaped a) (option b d) x y p q e = absurd (below_or_iac a b p (omega arith) q.1 cc)
first_token (escaped a) (subnegotiation bs) x y p q e = absurd (below_or_iac a 250 p (omega arith) (omega arith) cc)
first_token (command a) (escaped b) x y p q e = absurd (below_or_iac b a q p.0 (omega arith) cc)
first_token (option a d) (escaped b) x y p q e = absurd (below_or_iac b a q (omega arith) p.1 cc)
first_token (subnegotiation ps) (escaped b) x y p q e = absurd (below_or_iac b 250 q (omega arith) (omega arith) cc)
first_token (command a) (command b) x y p q e = let heads : a ≡ b = cc in (rw heads refl, cc)
first_token (command a) (option b d) x y p q e = let heads : a ≡ b = cc in absurd (omega arith)
first_token (command a) (subnegotiation bs) x y p q e = let heads : a ≡ 250 = cc in absurd (omega arith)
first_token (option a d) (command b) x y p q e = let heads : a ≡ b = cc in absurd (omega arith)
first_token (subnegotiation ps) (command b) x y p q e = let heads : b ≡ 250 = cc in absurd (omega arith)
first_token (option a d) (option b f) x y p q e = let heads : a ≡ b = cc in let options : d ≡ f = cc in (rw (heads, options) refl, cc)
first_token (option a d) (subnegotiation bs) x y p q e = let heads : a ≡ 250 = cc in absurd (omega arith)
first_token (subnegotiation ps) (option b d) x y p q e = let heads : b ≡ 250 = cc in absurd (omega arith)
first_token (subnegotiation ps) (subnegotiation bs) x y p q e =
    let f = sym (subnegotiation_shape ps x) ∙ e ∙ subnegotiation_shape bs y in
    let insides : flat_map part_octets ps ++ 255 ∷ 240 ∷ x ≡ flat_map part_octets bs ++ 255 ∷ 240 ∷ y = cc in
    let both = same_parts ps bs x y p q insides in
    (rw both.0 refl, both.1)

pub shape : (t : Token) (ts : List Token) (r : List ℕ) → flat_map spelling (t ∷ ts) ++ r ≡ spelling t ++ (flat_map spelling ts ++ r)
shape t ts r = ap (λ u. u ++ r) (flat_map-cons spelling t ts) ∙ append_assoc (spelling t) (flat_map spelling ts) r

last_empty : (a m : List ℕ) → [] ≡ a ++ m → m ≡ []
last_empty [] m e = sym e
last_empty (x ∷ a) m e = cc

-- what is unfinished has no token at its front
pub no_token : (r : List ℕ) (t : Token) (x : List ℕ) → IsUnfinished r → IsToken t → r ≡ spelling t ++ x → ⊥
no_token r t x u p e =
    let whole : spelling u.token ++ [] ≡ spelling t ++ (x ++ u.more) =
    append-nil (spelling u.token) ∙ u.begins ∙ ap (λ s. s ++ u.more) e ∙ append_assoc (spelling t) x u.more in
    let both = first_token u.token t [] (x ++ u.more) u.is_token p whole in
    u.lacks (last_empty x u.more both.1)

pub same_tokens : (ss ts : List Token) (r q : List ℕ) → AllByRecursion IsToken ss → AllByRecursion IsToken ts → IsUnfinished r → IsUnfinished q
    → flat_map spelling ss ++ r ≡ flat_map spelling ts ++ q → ss ≡ ts
same_tokens [] [] r q ps qs u v e = refl
same_tokens [] (t ∷ ts) r q ps qs u v e = absurd (no_token r t (flat_map spelling ts ++ q) u qs.0 (e ∙ shape t ts q))
same_tokens (s ∷ ss) [] r q ps qs u v e = absurd (no_token q s (flat_map spelling ss ++ r) v ps.0 (sym e ∙ shape s ss r))
same_tokens (s ∷ ss) (t ∷ ts) r q ps qs u v e =
    let both = first_token s t (flat_map spelling ss ++ r) (flat_map spelling ts ++ q) ps.0 qs.0 (sym (shape s ss r) ∙ e ∙ shape t ts q) in
    rw (both.0, same_tokens ss ts r q ps.1 qs.1 u v both.1) refl

pub same_text : (octets text other : List ℕ) → Strips octets text → Strips octets other → text ≡ other
same_text octets text other s t =
    s.text_is ∙ ap (flat_map kept) (same_tokens s.tokens t.tokens s.start t.start s.each t.each s.unfinished t.unfinished (sym s.octets_are ∙ t.octets_are)) ∙ sym t.text_is

unfinished_at : (at : Stage) (start : List ℕ) → IsStart at start → IsUnfinished start
unfinished_at stage.Text start is = record {
  token = plain 0;
  more = 0 ∷ [];
  is_token = λ e. omega arith;
  lacks = λ e. cc;
  begins = ap (λ t. t ++ 0 ∷ []) (sym is);
}
unfinished_at stage.Command start is = record {
  token = command 241;
  more = 241 ∷ [];
  is_token = (omega arith, omega arith);
  lacks = λ e. cc;
  begins = ap (λ t. t ++ 241 ∷ []) (sym is);
}
unfinished_at stage.Option start is =
    let (verb, low, high, same) = is in
    record { token = option verb 0; more = 0 ∷ []; is_token = (low, high); lacks = λ e. cc; begins = ap (λ t. t ++ 0 ∷ []) (sym same) }
unfinished_at stage.Inside start is =
    let (parts, good, same) = is in
    record { token = subnegotiation parts; more = 255 ∷ 240 ∷ []; is_token = good; lacks = λ e. cc; begins = ap (λ t. t ++ 255 ∷ 240 ∷ []) (sym same) }
unfinished_at stage.InsideCommand start is =
    let (parts, good, same) = is in
    record {
      token = subnegotiation parts;
      more = 240 ∷ [];
      is_token = good;
      lacks = λ e. cc;
      begins = ap (λ t. 255 ∷ 250 ∷ t) (sym (append_assoc (flat_map part_octets parts) (255 ∷ []) (240 ∷ []))) ∙ ap (λ t. t ++ 240 ∷ []) (sym same);
    }

pub strips_of : (octets text : List ℕ) (at : Stage) → StripsTo octets text at → Strips octets text
strips_of octets text at s = record {
  tokens = s.tokens;
  start = s.start;
  each = s.each;
  octets_are = s.octets_are;
  text_is = s.text_is;
  unfinished = unfinished_at at s.start s.is_start;
}
