-- What an octet does to the tokens so far.
use Rattle.std.proofs.Common.{refl, sym, ap, ◌∙◌, ◌≡◌, ◌≢◌, ◌<◌, ◌≤◌, ◌⊎◌, ◌++◌, ◌∷◌, [], ℕ, List, flat_map, append_assoc, append-nil}
use Rattle.std.specs.List.{AllByRecursion}
use Rattle.std.proofs.lemmas.Grind.{flat_map-append}
use Rattle.std.proofs.lemmas.List.Concat.{flat_map-cons}
use Rattle.ftp_wire.specs.declared.telnet.Stage.{Stage}
use Rattle.ftp_wire.specs.declared.telnet.Stage.TheVariants as stage
use Rattle.ftp_wire.specs.Telnet.{IsPart, IsToken, Part, Token, one, pair, plain, escaped, command, option, subnegotiation, kept, part_octets, spelling}
use Rattle.ftp_wire.specs.Stages.{IsStart, StripsTo}

pub push_each : {X : Type 0} (P : X → Type 0) (xs : List X) (x : X) → AllByRecursion P xs → P x → AllByRecursion P (xs ++ x ∷ [])
push_each P [] x h p = (p, tt)
push_each P (y ∷ ys) x h p = (h.0, push_each P ys x h.1 p)

flat_push : {X : Type 0} (f : X → List ℕ) (xs : List X) (x : X) → flat_map f (xs ++ x ∷ []) ≡ flat_map f xs ++ f x
flat_push f xs x = flat_map-append f xs (x ∷ []) ∙ ap (λ t. flat_map f xs ++ t) (flat_map-cons f x [] ∙ append-nil (f x))

-- the octet goes on with the start
waits : (octets text : List ℕ) (old new : Stage) (octet : ℕ) (s : StripsTo octets text old) (start : List ℕ) → start ≡ s.start ++ octet ∷ [] → IsStart new start
    → StripsTo (octets ++ octet ∷ []) text new
waits octets text old new octet s start is goes = record {
  tokens = s.tokens;
  start = start;
  each = s.each;
  octets_are = ap (λ t. t ++ octet ∷ []) s.octets_are ∙ append_assoc (flat_map spelling s.tokens) s.start (octet ∷ []) ∙ ap (λ t. flat_map spelling s.tokens ++ t) (sym is);
  text_is = s.text_is;
  is_start = goes;
}

-- the octet ends a token
ends : (octets text : List ℕ) (old : Stage) (octet : ℕ) (s : StripsTo octets text old) (token : Token) → IsToken token → spelling token ≡ s.start ++ octet ∷ []
    → StripsTo (octets ++ octet ∷ []) (text ++ kept token) stage.Text
ends octets text old octet s token good is = record {
  tokens = s.tokens ++ token ∷ [];
  start = [];
  each = push_each IsToken s.tokens token s.each good;
  octets_are = ap (λ t. t ++ octet ∷ []) s.octets_are ∙ append_assoc (flat_map spelling s.tokens) s.start (octet ∷ []) ∙ ap (λ t. flat_map spelling s.tokens ++ t) (sym is)
      ∙ sym (flat_push spelling s.tokens token) ∙ sym (append-nil (flat_map spelling (s.tokens ++ token ∷ [])));
  text_is = ap (λ t. t ++ kept token) s.text_is ∙ sym (flat_push kept s.tokens token);
  is_start = refl;
}

pub text_plain : (octets text : List ℕ) (octet : ℕ) → octet ≢ 255 → StripsTo octets text stage.Text → StripsTo (octets ++ octet ∷ []) (text ++ octet ∷ []) stage.Text
text_plain octets text octet ne s = ends octets text stage.Text octet s (plain octet) ne (ap (λ t. t ++ octet ∷ []) (sym s.is_start))

pub command_escaped : (octets text : List ℕ) (octet : ℕ) → (octet < 240) ⊎ (octet ≡ 255) → StripsTo octets text stage.Command → StripsTo (octets ++ octet ∷ []) (text ++ octet ∷ []) stage.Text
command_escaped octets text octet good s = ends octets text stage.Command octet s (escaped octet) good (ap (λ t. t ++ octet ∷ []) (sym s.is_start))

pub command_whole : (octets text : List ℕ) (octet : ℕ) → 240 ≤ octet → octet < 250 → StripsTo octets text stage.Command → StripsTo (octets ++ octet ∷ []) (text ++ []) stage.Text
command_whole octets text octet low high s = ends octets text stage.Command octet s (command octet) (low, high) (ap (λ t. t ++ octet ∷ []) (sym s.is_start))

pub option_whole : (octets text : List ℕ) (octet : ℕ) → StripsTo octets text stage.Option → StripsTo (octets ++ octet ∷ []) (text ++ []) stage.Text
option_whole octets text octet s =
    let (x, low, high, is) = s.is_start in
    ends octets text stage.Option octet s (option x octet) (low, high) (ap (λ t. t ++ octet ∷ []) (sym is))

more_part : (parts : List Part) (part : Part) (start : List ℕ) (octets : List ℕ) → start ≡ 255 ∷ 250 ∷ flat_map part_octets parts → part_octets part ≡ octets
    → 255 ∷ 250 ∷ flat_map part_octets (parts ++ part ∷ []) ≡ start ++ octets
more_part parts part start octets is same = rw (flat_push part_octets parts part, same, is) refl

pub inside_octet : (octets text : List ℕ) (octet : ℕ) → octet ≢ 255 → StripsTo octets text stage.Inside → StripsTo (octets ++ octet ∷ []) text stage.Inside
inside_octet octets text octet ne s =
    let (parts, good, is) = s.is_start in
    waits octets text stage.Inside stage.Inside octet s _ (more_part parts (one octet) s.start (octet ∷ []) is refl) (parts ++ one octet ∷ [], push_each IsPart parts (one octet) good ne, refl)

pub inside_end : (octets text : List ℕ) → StripsTo octets text stage.InsideCommand → StripsTo (octets ++ 240 ∷ []) (text ++ []) stage.Text
inside_end octets text s =
    let (parts, good, is) = s.is_start in
    let spelt : spelling (subnegotiation parts) ≡ s.start ++ 240 ∷ [] = ap (λ t. 255 ∷ 250 ∷ t) (sym (append_assoc (flat_map part_octets parts) (255 ∷ []) (240 ∷ []))) ∙ ap (λ t. t ++ 240 ∷ []) (sym is) in
    ends octets text stage.InsideCommand 240 s (subnegotiation parts) good spelt

pub inside_pair : (octets text : List ℕ) (octet : ℕ) → octet ≢ 240 → StripsTo octets text stage.InsideCommand → StripsTo (octets ++ octet ∷ []) text stage.Inside
inside_pair octets text octet ne s =
    let (parts, good, is) = s.is_start in
    let spelt : 255 ∷ 250 ∷ flat_map part_octets (parts ++ pair octet ∷ []) ≡ s.start ++ octet ∷ [] =
    ap (λ t. 255 ∷ 250 ∷ t) (flat_push part_octets parts (pair octet) ∙ sym (append_assoc (flat_map part_octets parts) (255 ∷ []) (octet ∷ []))) ∙ ap (λ t. t ++ octet ∷ []) (sym is) in
    waits octets text stage.InsideCommand stage.Inside octet s _ spelt (parts ++ pair octet ∷ [], push_each IsPart parts (pair octet) good ne, refl)
