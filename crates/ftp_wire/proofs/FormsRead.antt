-- Arguments that have a form are read again.
use Rattle.std.proofs.Common.{arith, refl, sym, ap, ◌∙◌, ◌≡◌, ◌≢◌, ◌≤◌, ◌<◌, ◌+◌, ◌*◌, ◌/◌, ◌%◌, ◌^◌, ◌==◌, ◌&&◌, ◌++◌, ◌∷◌, ◌⊎◌, inl, inr, [], ℕ, List, Bool, true, false, Ok, Some, length, append_assoc, append-nil}
use Rattle.std.specs.Prelude.{codes, slice_index}
use Rattle.std.specs.Char.{to_ascii_lowercase}
use Rattle.std.specs.Fmt.{decimal}
use Rattle.std.specs.List.{All}
use Rattle.std.specs.Str.{all_ascii_digits}
use Rattle.std.proofs.lemmas.Bool.{le-leb, ne_eqb}
use Rattle.std.proofs.lemmas.Fmt.{digits_decimal, length-decimal-le}
use Rattle.std.proofs.lemmas.List.Elements.{All-append, All-cons, All-nil}
use Rattle.std.proofs.lemmas.List.Splits.{slice_split_at}
use Rattle.std.proofs.lemmas.Str.Ascii.{lowercase_is}
use Rattle.std.proofs.lemmas.Str.Parse.{tells_all_ascii_digits}
use Rattle.ftp_terms.specs.declared.data_type.DataType.{DataType}
use Rattle.ftp_terms.specs.declared.data_type.DataType.TheVariants.{Ascii, Image}
use Rattle.ftp_wire.specs.declared.commands.ExtendedPassive.TheVariants.{Protocol}
use Rattle.ftp_wire.specs.declared.commands.ExtendedPort.{ExtendedPort}
use Rattle.ftp_wire.specs.declared.commands.ExtendedPort.TheVariants.{Ipv4, Unsupported}
use Rattle.ftp_wire.specs.declared.commands.FeatureOption.{FeatureOption}
use Rattle.ftp_wire.specs.declared.commands.FeatureOption.TheVariants as feature
use Rattle.ftp_wire.specs.declared.commands.HostPort.{HostPort}
use Rattle.ftp_wire.specs.Arguments.{after_word, extended_parts, extended_passive_of, extended_port_of, facts_of, host, host_of, host_port, ipv4, letter_of, number_cut_at, number_of, offset_of, option_of, or_bad, parts_at, port_of, type_of}
use Rattle.ftp_wire.specs.Given.{IsArgument, IsExtendedPort, IsHostPort}
use Rattle.ftp_wire.specs.Words.{is_blank, is_space, same_letters}
use Rattle.ftp_wire.specs.Written.{extended_port_text, facts_text, host_text, option_text, port_text, type_text}
use Rattle.ftp_wire.proofs.Decimals.{cut-decimal, decimal_not_blank, decimal_visible, is_visible_text, last-decimal, no_digit, number-decimal, octet-decimal, part-decimal, up_to-decimal, visible-append, visible_text}
use Rattle.ftp_wire.proofs.Numbers.{own}

-- a visible text that is not blank is an argument
pub visible_argument : (t : List ℕ) → is_visible_text t ≡ true → is_blank t ≡ false → IsArgument t
visible_argument t e some = record { some = some; printed = visible_text t e }

pub type_reads : (d : DataType) → type_of (type_text d) ≡ Ok d
unfolding type_of
type_reads Ascii = refl
type_reads Image = refl

pub type_argument : (d : DataType) → IsArgument (type_text d)
type_argument Ascii = visible_argument (codes "A") refl refl
type_argument Image = visible_argument (codes "I") refl refl

pub mode_reads : letter_of (codes "S") (codes "B") (codes "C") (codes "S") ≡ Ok tt
unfolding letter_of
mode_reads = refl

pub stru_reads : letter_of (codes "F") (codes "R") (codes "P") (codes "F") ≡ Ok tt
unfolding letter_of
stru_reads = refl

fact_reads : (kind size modify perm : Bool) → option_of (option_text (feature.Mlst (record { kind = kind; size = size; modify = modify; perm = perm })))
    ≡ Ok (feature.Mlst (record { kind = kind; size = size; modify = modify; perm = perm }))
unfolding option_of option_text facts_text facts_of after_word
fact_reads true true true true = refl
fact_reads true true true false = refl
fact_reads true true false true = refl
fact_reads true true false false = refl
fact_reads true false true true = refl
fact_reads true false true false = refl
fact_reads true false false true = refl
fact_reads true false false false = refl
fact_reads false true true true = refl
fact_reads false true true false = refl
fact_reads false true false true = refl
fact_reads false true false false = refl
fact_reads false false true true = refl
fact_reads false false true false = refl
fact_reads false false false true = refl
fact_reads false false false false = refl

pub option_reads : (o : FeatureOption) → option_of (option_text o) ≡ Ok o
unfolding option_of option_text
option_reads feature.Utf8On = refl
option_reads (feature.Mlst facts) = fact_reads facts.kind facts.size facts.modify facts.perm

fact_argument : (kind size modify perm : Bool) → IsArgument (option_text (feature.Mlst (record { kind = kind; size = size; modify = modify; perm = perm })))
unfolding option_text facts_text
fact_argument true true true true = visible_argument _ refl refl
fact_argument true true true false = visible_argument _ refl refl
fact_argument true true false true = visible_argument _ refl refl
fact_argument true true false false = visible_argument _ refl refl
fact_argument true false true true = visible_argument _ refl refl
fact_argument true false true false = visible_argument _ refl refl
fact_argument true false false true = visible_argument _ refl refl
fact_argument true false false false = visible_argument _ refl refl
fact_argument false true true true = visible_argument _ refl refl
fact_argument false true true false = visible_argument _ refl refl
fact_argument false true false true = visible_argument _ refl refl
fact_argument false true false false = visible_argument _ refl refl
fact_argument false false true true = visible_argument _ refl refl
fact_argument false false true false = visible_argument _ refl refl
fact_argument false false false true = visible_argument _ refl refl
fact_argument false false false false = visible_argument _ refl refl

pub option_argument : (o : FeatureOption) → IsArgument (option_text o)
unfolding option_text
option_argument feature.Utf8On = visible_argument _ refl refl
option_argument (feature.Mlst facts) = fact_argument facts.kind facts.size facts.modify facts.perm

pub decimal_argument : (n : ℕ) → n < 2 ^ 64 → IsArgument (decimal n)
decimal_argument n h = visible_argument (decimal n) (decimal_visible n h) (decimal_not_blank n h)

pub offset_reads : (n : ℕ) → n < 10 ^ 19 → offset_of (decimal n) ≡ Ok n
unfolding offset_of
offset_reads n h =
    let small : n < 2 ^ 64 = omega arith in
    rw (le-leb (length (decimal n)) 19 (length-decimal-le 19 n (omega arith) h small), number-decimal n small) refl

-- digits are no word of letters
no_word : (text : List ℕ) → all_ascii_digits text ≡ true → same_letters text (codes "ALL") ≡ false
no_word [] e = refl
no_word (x ∷ xs) e =
    let range = (tells_all_ascii_digits.parts x xs e).0 in
    let same = (lowercase_is x).1 (omega (arith, range.1)) in
    let ne : to_ascii_lowercase x ≢ 97 = λ h. omega (arith, same, range.1) in
    let differs : (to_ascii_lowercase x == 97) ≡ false = ne_eqb (to_ascii_lowercase x) 97 ne in
    rw differs refl

pub passive_reads : (n : ℕ) → n ≤ 65535 → extended_passive_of (decimal n) ≡ Ok (Protocol n)
unfolding extended_passive_of
passive_reads n le =
    let small : n < 2 ^ 64 = omega arith in
    rw (no_word (decimal n) (digits_decimal own n small), cut-decimal 65535 n le small) refl

rebuilt : (host_port : HostPort) (address : List ℕ) (port : ℕ) → address ≡ host_port.address → port ≡ host_port.port → record { address = address; port = port } ≡ host_port
rebuilt host_port address port e f = rw (e, f) refl

four_octets : (a : List ℕ) → length a ≡ 4 → slice_index a 0 ∷ slice_index a 1 ∷ slice_index a 2 ∷ slice_index a 3 ∷ [] ≡ a
four_octets [] e = absurd (omega arith)
four_octets (a ∷ []) e = absurd (omega arith)
four_octets (a ∷ b ∷ []) e = absurd (omega arith)
four_octets (a ∷ b ∷ c ∷ []) e = absurd (omega arith)
four_octets (a ∷ b ∷ c ∷ d ∷ []) e = refl
four_octets (a ∷ b ∷ c ∷ d ∷ f ∷ g) e = absurd (omega arith)

-- an octet fits a word
octet_small : (n : ℕ) → n ≤ 255 → n < 2 ^ 64
octet_small n le = omega arith

six_parts : (a b c d e f : ℕ) → a ≤ 255 → b ≤ 255 → c ≤ 255 → d ≤ 255 → e ≤ 255 → f ≤ 255
    → parts_at 44 (decimal a ++ 44 ∷ (decimal b ++ 44 ∷ (decimal c ++ 44 ∷ (decimal d ++ 44 ∷ (decimal e ++ 44 ∷ decimal f)))))
    ≡ decimal a ∷ decimal b ∷ decimal c ∷ decimal d ∷ decimal e ∷ decimal f ∷ []
six_parts a b c d e f ha hb hc hd he hf =
    let apart : (44 < 48) ⊎ (57 < 44) = inl (omega arith) in
    part-decimal 44 a _ (octet_small a ha) apart ∙ ap (λ t. decimal a ∷ t)
    (part-decimal 44 b _ (octet_small b hb) apart ∙ ap (λ t. decimal b ∷ t)
    (part-decimal 44 c _ (octet_small c hc) apart ∙ ap (λ t. decimal c ∷ t)
    (part-decimal 44 d _ (octet_small d hd) apart ∙ ap (λ t. decimal d ∷ t)
    (part-decimal 44 e _ (octet_small e he) apart ∙ ap (λ t. decimal e ∷ t)
    (last-decimal 44 f (octet_small f hf) apart)))))

six_read : (a b c d e f : ℕ) → a ≤ 255 → b ≤ 255 → c ≤ 255 → d ≤ 255 → e ≤ 255 → f ≤ 255
    → host_port (decimal a ∷ decimal b ∷ decimal c ∷ decimal d ∷ decimal e ∷ decimal f ∷ []) ≡ Some (record { address = a ∷ b ∷ c ∷ d ∷ []; port = e * 256 + f })
six_read a b c d e f ha hb hc hd he hf =
    rw (octet-decimal a ha, octet-decimal b hb, octet-decimal c hc, octet-decimal d hd, octet-decimal e he, octet-decimal f hf) refl

pub port_reads : (p : HostPort) → IsHostPort p → port_of (port_text p) ≡ Ok p
unfolding port_of port_text
port_reads p h =
    let a = slice_index p.address 0 in
    let b = slice_index p.address 1 in
    let c = slice_index p.address 2 in
    let d = slice_index p.address 3 in
    let high : p.port / 256 ≤ 255 = omega (arith, h.port) in
    let low : p.port % 256 ≤ 255 = omega arith in
    ap or_bad (ap host_port (six_parts a b c d (p.port / 256) (p.port % 256) (h.octets 0) (h.octets 1) (h.octets 2) (h.octets 3) high low)
    ∙ six_read a b c d (p.port / 256) (p.port % 256) (h.octets 0) (h.octets 1) (h.octets 2) (h.octets 3) high low
    ∙ ap Some (rebuilt p _ _ (four_octets p.address h.four) (omega arith)))

host_visible : (separator : ℕ) (address after : List ℕ) → ((i : ℕ) → slice_index address i ≤ 255) → is_visible_text (separator ∷ []) ≡ true → is_visible_text after ≡ true
    → is_visible_text (host_text separator address after) ≡ true
host_visible separator address after h one rest =
    let digits : ℕ → List ℕ = λ i. decimal (slice_index address i) in
    let digit = λ (i : ℕ). decimal_visible (slice_index address i) (octet_small (slice_index address i) (h i)) in
    let from3 = digits 3 ++ after in
    let from2 = digits 2 ++ separator ∷ from3 in
    let from1 = digits 1 ++ separator ∷ from2 in
    let visible3 = visible-append (digits 3) after (digit 3) rest in
    let visible2 = visible-append (digits 2) (separator ∷ from3) (digit 2) (visible-append (separator ∷ []) from3 one visible3) in
    let visible1 = visible-append (digits 1) (separator ∷ from2) (digit 1) (visible-append (separator ∷ []) from2 one visible2) in
    visible-append (digits 0) (separator ∷ from1) (digit 0) (visible-append (separator ∷ []) from1 one visible1)

still : (x a b : Bool) → (x && a) ≡ false → (a ≡ false → b ≡ false) → (x && b) ≡ false
still true a b e f = f e
still false a b e f = refl

blank-append : (a b : List ℕ) → is_blank a ≡ false → is_blank (a ++ b) ≡ false
blank-append [] b e = cc
blank-append (x ∷ a) b e = still (is_space x) (is_blank a) (is_blank (a ++ b)) e (blank-append a b)

pub port_argument : (p : HostPort) → IsHostPort p → IsArgument (port_text p)
unfolding port_text
port_argument p h =
    let high : p.port / 256 < 2 ^ 64 = omega (arith, h.port) in
    let low : p.port % 256 < 2 ^ 64 = omega (arith, h.port) in
    let last = decimal (p.port / 256) ++ 44 ∷ decimal (p.port % 256) in
    let visible = visible-append (44 ∷ []) last refl
    (visible-append (decimal (p.port / 256)) (44 ∷ decimal (p.port % 256)) (decimal_visible (p.port / 256) high)
    (visible-append (44 ∷ []) (decimal (p.port % 256)) refl (decimal_visible (p.port % 256) low))) in
    let text = host_text 44 p.address (44 ∷ last) in
    let more = 44 ∷ (decimal (slice_index p.address 1) ++ 44 ∷ (decimal (slice_index p.address 2) ++ 44 ∷ (decimal (slice_index p.address 3) ++ 44 ∷ last))) in
    visible_argument text (host_visible 44 p.address (44 ∷ last) h.octets refl visible)
    (blank-append (decimal (slice_index p.address 0)) more (decimal_not_blank (slice_index p.address 0) (octet_small (slice_index p.address 0) (h.octets 0))))

host_reads : (address : List ℕ) → length address ≡ 4 → ((i : ℕ) → slice_index address i ≤ 255) → host_of (host_text 46 address []) ≡ Some address
unfolding host_of
host_reads address four h =
    let a = slice_index address 0 in
    let b = slice_index address 1 in
    let c = slice_index address 2 in
    let d = slice_index address 3 in
    let apart : (46 < 48) ⊎ (57 < 46) = inl (omega arith) in
    let parts : parts_at 46 (host_text 46 address []) ≡ decimal a ∷ decimal b ∷ decimal c ∷ decimal d ∷ [] =
    part-decimal 46 a _ (octet_small a (h 0)) apart ∙ ap (λ t. decimal a ∷ t)
    (part-decimal 46 b _ (octet_small b (h 1)) apart ∙ ap (λ t. decimal b ∷ t)
    (part-decimal 46 c _ (octet_small c (h 2)) apart ∙ ap (λ t. decimal c ∷ t)
    (ap (parts_at 46) (append-nil (decimal d)) ∙ last-decimal 46 d (octet_small d (h 3)) apart))) in
    ap host parts ∙ rw (up_to-decimal 255 a (h 0) (octet_small a (h 0)), up_to-decimal 255 b (h 1) (octet_small b (h 1)), up_to-decimal 255 c (h 2) (octet_small c (h 2)), up_to-decimal 255 d (h 3) (octet_small d (h 3))) (ap Some (four_octets address four))

host_after : (address after : List ℕ) → host_text 46 address after ≡ host_text 46 address [] ++ after
host_after address after = sym (simp append_assoc)

host_no_bar : (address : List ℕ) → ((i : ℕ) → slice_index address i ≤ 255) → All (λ x. (x == 124) ≡ false) (host_text 46 address [])
host_no_bar address h =
    let P : ℕ → Type 0 = λ x. (x == 124) ≡ false in
    let digit = λ (i : ℕ). no_digit 124 (slice_index address i) (octet_small (slice_index address i) (h i)) (inr (omega arith)) in
    All-append P (decimal (slice_index address 0)) _ (digit 0) (All-cons P 46 _ refl
    (All-append P (decimal (slice_index address 1)) _ (digit 1) (All-cons P 46 _ refl
    (All-append P (decimal (slice_index address 2)) _ (digit 2) (All-cons P 46 _ refl
    (All-append P (decimal (slice_index address 3)) [] (digit 3) (All-nil P)))))))

one_is_ipv4 : number_cut_at 65535 (49 ∷ []) ≡ Some 1
unfolding number_cut_at number_of
one_is_ipv4 = refl

bars : (address : List ℕ) (port : ℕ) → ((i : ℕ) → slice_index address i ≤ 255) → port ≤ 65535
    → parts_at 124 (host_text 46 address (124 ∷ (decimal port ++ 124 ∷ []))) ≡ host_text 46 address [] ∷ decimal port ∷ [] ∷ []
bars address port h le =
    ap (parts_at 124) (host_after address (124 ∷ (decimal port ++ 124 ∷ [])))
    ∙ slice_split_at (λ x. x == 124) (host_text 46 address []) 124 (decimal port ++ 124 ∷ []) (host_no_bar address h) refl
    ∙ ap (λ t. host_text 46 address [] ∷ t) (part-decimal 124 port [] (omega arith) (inr (omega arith)))

ipv4_reads : (p : HostPort) → IsHostPort p → ipv4 (host_text 46 p.address []) (decimal p.port) ≡ Some (Ipv4 p)
ipv4_reads p h = rw (host_reads p.address h.four h.octets, up_to-decimal 65535 p.port h.port (omega (arith, h.port))) refl

pub extended_port_reads : (p : ExtendedPort) → IsExtendedPort p → extended_port_of (extended_port_text p) ≡ Ok p
unfolding extended_port_of extended_port_text
extended_port_reads (Ipv4 p) h =
    ap (λ parts. or_bad (extended_parts ((49 ∷ []) ∷ parts))) (bars p.address p.port h.octets h.port) ∙ rw one_is_ipv4 (ap or_bad (ipv4_reads p h))
extended_port_reads (Unsupported n) h =
    let other : (n == 1) ≡ false = ne_eqb n 1 h.1 in
    ap (λ parts. or_bad (extended_parts parts)) (part-decimal 124 n (124 ∷ 124 ∷ []) (omega (arith, h.0)) (inr (omega arith)))
    ∙ rw (cut-decimal 65535 n h.0 (omega (arith, h.0)), other) refl

pub extended_port_argument : (p : ExtendedPort) → IsExtendedPort p → IsArgument (extended_port_text p)
unfolding extended_port_text
extended_port_argument (Ipv4 p) h =
    let last = decimal p.port ++ 124 ∷ [] in
    let visible = visible-append (124 ∷ []) last refl (visible-append (decimal p.port) (124 ∷ []) (decimal_visible p.port (omega (arith, h.port))) refl) in
    let text = host_text 46 p.address (124 ∷ last) in
    visible_argument (124 ∷ 49 ∷ 124 ∷ text) (visible-append (124 ∷ 49 ∷ 124 ∷ []) text refl (host_visible 46 p.address (124 ∷ last) h.octets refl visible)) refl
extended_port_argument (Unsupported n) h =
    let text = decimal n ++ 124 ∷ 124 ∷ 124 ∷ [] in
    visible_argument (124 ∷ text) (visible-append (124 ∷ []) text refl (visible-append (decimal n) (124 ∷ 124 ∷ 124 ∷ []) (decimal_visible n (omega (arith, h.0))) refl)) refl
