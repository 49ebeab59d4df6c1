-- Arguments that have a form are within its bounds.
use Rattle.std.proofs.Common.{arith, refl, ap, ◌≡◌, ◌≤◌, ◌<◌, ◌+◌, ◌==◌, ◌&&◌, ◌∷◌, [], ℕ, zero, suc, List, Bool, true, false, cond, Result, Option, Some, None, length, min, nat_le, eqb, not, get_or, drop, ◌⊎◌, inl, inr}
use Rattle.std.specs.Prelude.{IfOk, IfSome, codes, option_map, slice_index, slice_index_or}
use Rattle.std.specs.List.{after_first, list_all, position_or_len}
use Rattle.std.specs.Str.{all_ascii_digits, is_utf8}
use Rattle.std.specs.Str.Parse.{digits_value}
use Rattle.std.proofs.lemmas.Bool.{cases_lt, eqb-true, eqb-false, leb-true}
use Rattle.std.proofs.lemmas.List.{drop_all}
use Rattle.std.proofs.lemmas.List.Sums.{prefix_len_stops}
use Rattle.std.proofs.lemmas.Str.{IsCharBoundary-after_ascii, IsUtf8-drop, IsUtf8-from_is_utf8, is_utf8-from_IsUtf8}
use Rattle.std.proofs.lemmas.Str.Parse.{digits_value_short}
use Rattle.ftp_wire.specs.declared.commands.ExtendedPassive.TheVariants.{Protocol}
use Rattle.ftp_wire.specs.declared.commands.ExtendedPort.TheVariants.{Unsupported}
use Rattle.ftp_wire.specs.declared.faults.LineFault.{LineFault}
use Rattle.ftp_wire.specs.Arguments.{◌>>=◌, extended_parts, extended_passive_of, extended_port_of, host, host_of, host_port, ipv4, is_number, number_cut_at, number_of, number_up_to, octet_of, offset_of, or_bad, parts_at, port_of, without_switches}
use Rattle.ftp_wire.specs.Given.{IsArgument, IsExtendedPassive, IsExtendedPort, IsHostPort, IsOffset}
use Rattle.ftp_wire.specs.Words.{is_blank, is_printed, is_space, is_text, same_letters}
use Rattle.ftp_wire.proofs.Decimals.{both, join_true}
use Rattle.ftp_wire.proofs.Numbers.{and_right, own}

bind_holds : {A B : Type 0} (P : A → Type 0) (Q : B → Type 0) (o : Option A) (f : A → Option B) → IfSome o P → ((x : A) → P x → IfSome (f x) Q) → IfSome (o >>= f) Q
bind_holds P Q None f p q = tt
bind_holds P Q (Some x) f p q = q x p

pub cond_some : {A : Type 0} (Q : A → Type 0) (b : Bool) (x y : Option A) → (b ≡ true → IfSome x Q) → (b ≡ false → IfSome y Q) → IfSome (cond b x y) Q
cond_some Q true x y p q = p refl
cond_some Q false x y p q = q refl

pub cond_ok : {A : Type 0} (Q : A → Type 0) (b : Bool) (x y : Result A LineFault) → (b ≡ true → IfOk x Q) → (b ≡ false → IfOk y Q) → IfOk (cond b x y) Q
cond_ok Q true x y p q = p refl
cond_ok Q false x y p q = q refl

or_bad_holds : {A : Type 0} (Q : A → Type 0) (o : Option A) → IfSome o Q → IfOk (or_bad o) Q
or_bad_holds Q None h = tt
or_bad_holds Q (Some x) h = h

any_some : {A : Type 0} (o : Option A) → IfSome o (λ _. Unit {0})
any_some None = tt
any_some (Some x) = tt

up_to_holds : (limit : ℕ) (text : List ℕ) → IfSome (number_up_to limit text) (λ n. n ≤ limit)
unfolding number_up_to
up_to_holds limit text = bind_holds (λ _. Unit {0}) (λ n. n ≤ limit) (number_of text) _ (any_some (number_of text))
    (λ n _. cond_some (λ n. n ≤ limit) (nat_le n limit) (Some n) None (λ e. leb-true n limit e) (λ _. tt))

octet_holds : (text : List ℕ) → IfSome (octet_of text) (λ n. n ≤ 255)
unfolding octet_of
octet_holds text = cond_some (λ n. n ≤ 255) (nat_le (length text) 3) (number_up_to 255 text) None (λ _. up_to_holds 255 text) (λ _. tt)

cut_some : (limit : ℕ) (o : Option ℕ) → IfSome (option_map (λ n. min n limit) o) (λ n. n ≤ limit)
cut_some limit None = tt
cut_some limit (Some n) = omega arith

cut_holds : (limit : ℕ) (text : List ℕ) → IfSome (number_cut_at limit text) (λ n. n ≤ limit)
unfolding number_cut_at
cut_holds limit text = cut_some limit (number_of text)

four_small : (a b c d : ℕ) → a ≤ 255 → b ≤ 255 → c ≤ 255 → d ≤ 255 → (i : ℕ) → slice_index (a ∷ b ∷ c ∷ d ∷ []) i ≤ 255
four_small a b c d ha hb hc hd zero = ha
four_small a b c d ha hb hc hd (suc zero) = hb
four_small a b c d ha hb hc hd (suc (suc zero)) = hc
four_small a b c d ha hb hc hd (suc (suc (suc zero))) = hd
four_small a b c d ha hb hc hd (suc (suc (suc (suc i)))) = omega arith

host_port_holds : (parts : List (List ℕ)) → IfSome (host_port parts) IsHostPort
host_port_holds [] = tt
host_port_holds (a ∷ []) = tt
host_port_holds (a ∷ b ∷ []) = tt
host_port_holds (a ∷ b ∷ c ∷ []) = tt
host_port_holds (a ∷ b ∷ c ∷ d ∷ []) = tt
host_port_holds (a ∷ b ∷ c ∷ d ∷ e ∷ []) = tt
host_port_holds (a ∷ b ∷ c ∷ d ∷ e ∷ f ∷ []) =
    bind_holds (λ n. n ≤ 255) IsHostPort (octet_of a) _ (octet_holds a) (λ h1 l1.
    bind_holds (λ n. n ≤ 255) IsHostPort (octet_of b) _ (octet_holds b) (λ h2 l2.
    bind_holds (λ n. n ≤ 255) IsHostPort (octet_of c) _ (octet_holds c) (λ h3 l3.
    bind_holds (λ n. n ≤ 255) IsHostPort (octet_of d) _ (octet_holds d) (λ h4 l4.
    bind_holds (λ n. n ≤ 255) IsHostPort (octet_of e) _ (octet_holds e) (λ p1 k1.
    bind_holds (λ n. n ≤ 255) IsHostPort (octet_of f) _ (octet_holds f) (λ p2 k2.
    record { four = refl; octets = four_small h1 h2 h3 h4 l1 l2 l3 l4; port = omega arith }))))))
host_port_holds (a ∷ b ∷ c ∷ d ∷ e ∷ f ∷ g ∷ more) = tt

pub port_holds : (text : List ℕ) → IfOk (port_of text) IsHostPort
unfolding port_of
port_holds text = or_bad_holds IsHostPort (host_port (parts_at 44 text)) (host_port_holds (parts_at 44 text))

pub record IsHost (address : List ℕ) : Type 0 where
  four : length address ≡ 4
  octets : (i : ℕ) → slice_index address i ≤ 255

host_holds : (parts : List (List ℕ)) → IfSome (host parts) IsHost
host_holds [] = tt
host_holds (a ∷ []) = tt
host_holds (a ∷ b ∷ []) = tt
host_holds (a ∷ b ∷ c ∷ []) = tt
host_holds (a ∷ b ∷ c ∷ d ∷ []) =
    bind_holds (λ n. n ≤ 255) IsHost (number_up_to 255 a) _ (up_to_holds 255 a) (λ h1 l1.
    bind_holds (λ n. n ≤ 255) IsHost (number_up_to 255 b) _ (up_to_holds 255 b) (λ h2 l2.
    bind_holds (λ n. n ≤ 255) IsHost (number_up_to 255 c) _ (up_to_holds 255 c) (λ h3 l3.
    bind_holds (λ n. n ≤ 255) IsHost (number_up_to 255 d) _ (up_to_holds 255 d) (λ h4 l4.
    record { four = refl; octets = four_small h1 h2 h3 h4 l1 l2 l3 l4 }))))
host_holds (a ∷ b ∷ c ∷ d ∷ e ∷ more) = tt

host_of_holds : (text : List ℕ) → IfSome (host_of text) IsHost
unfolding host_of
host_of_holds text = host_holds (parts_at 46 text)

ipv4_holds : (address port : List ℕ) → IfSome (ipv4 address port) IsExtendedPort
ipv4_holds address port =
    bind_holds IsHost IsExtendedPort (host_of address) _ (host_of_holds address) (λ h l.
    bind_holds (λ n. n ≤ 65535) IsExtendedPort (number_up_to 65535 port) _ (up_to_holds 65535 port) (λ p k.
    record { four = l.four; octets = l.octets; port = k }))

extended_holds : (parts : List (List ℕ)) → IfSome (extended_parts parts) IsExtendedPort
extended_holds [] = tt
extended_holds (a ∷ []) = tt
extended_holds (a ∷ b ∷ []) = tt
extended_holds (a ∷ b ∷ c ∷ []) = tt
extended_holds (a ∷ b ∷ c ∷ [] ∷ []) =
    bind_holds (λ n. n ≤ 65535) IsExtendedPort (number_cut_at 65535 a) _ (cut_holds 65535 a) (λ n l.
    cond_some IsExtendedPort (n == 1) (ipv4 b c) (Some (Unsupported n)) (λ _. ipv4_holds b c) (λ e. (l, eqb-false n 1 e)))
extended_holds (a ∷ b ∷ c ∷ [] ∷ d ∷ more) = tt
extended_holds (a ∷ b ∷ c ∷ (x ∷ d) ∷ more) = tt

pub extended_port_holds : (text : List ℕ) → IfOk (extended_port_of text) IsExtendedPort
unfolding extended_port_of
extended_port_holds [] = tt
extended_port_holds (d ∷ text) =
    cond_ok IsExtendedPort (nat_le 33 d && nat_le d 126) (or_bad (extended_parts (parts_at d text))) _
    (λ _. or_bad_holds IsExtendedPort (extended_parts (parts_at d text)) (extended_holds (parts_at d text))) (λ _. tt)

protocol_holds : (o : Option ℕ) → IfSome o (λ n. n ≤ 65535) → IfSome (option_map Protocol o) IsExtendedPassive
protocol_holds None h = tt
protocol_holds (Some n) h = h

pub passive_holds : (text : List ℕ) → IfOk (extended_passive_of text) IsExtendedPassive
unfolding extended_passive_of
passive_holds text = cond_ok IsExtendedPassive (same_letters text (codes "ALL")) _ _ (λ _. tt)
    (λ _. or_bad_holds IsExtendedPassive (option_map Protocol (number_cut_at 65535 text)) (protocol_holds (number_cut_at 65535 text) (cut_holds 65535 text)))

number_holds : (text : List ℕ) → length text ≤ 19 → IfSome (number_of text) IsOffset
unfolding number_of
number_holds text short = cond_some IsOffset (is_number text) (Some (digits_value 10 text)) None
    (λ e. digits_value_short own text 19 (and_right (not (eqb (length text) 0)) (all_ascii_digits text) e) short) (λ _. tt)

pub offset_holds : (text : List ℕ) → IfOk (offset_of text) IsOffset
unfolding offset_of
offset_holds text = cond_ok IsOffset (nat_le (length text) 19) (or_bad (number_of text)) _
    (λ e. or_bad_holds IsOffset (number_of text) (number_holds text (leb-true _ _ e))) (λ _. tt)

printed_drop : (n : ℕ) (text : List ℕ) → list_all is_printed text ≡ true → list_all is_printed (drop n text) ≡ true
printed_drop zero text e = e
printed_drop (suc n) [] e = refl
printed_drop (suc n) (x ∷ xs) e = printed_drop n xs (both (is_printed x) (list_all is_printed xs) e).1

not_not : (b : Bool) → not b ≡ false → b ≡ true
not_not true e = refl
not_not false e = cc

space_at : (text : List ℕ) → position_or_len is_space text < length text → get_or text (position_or_len is_space text) 0 ≡ 32
space_at text l = eqb-true _ 32 (not_not (is_space (get_or text (position_or_len is_space text) 0)) (prefix_len_stops (λ x. not (is_space x)) text 0 l))

at_or_past : (a b : ℕ) → (a < b) ⊎ (b ≤ a)
at_or_past a b = cases_lt a b

blank_drop : (text : List ℕ) (at : ℕ) → length text ≤ at → is_blank (drop (at + 1) text) ≡ false → ⊥
blank_drop text at past e =
    let none : drop (at + 1) text ≡ [] = drop_all (at + 1) text (omega arith) in
    let blank : is_blank (drop (at + 1) text) ≡ true = ap is_blank none in cc

-- what follows the first space of a text, if it is not blank
rest_holds : (text : List ℕ) → is_text text ≡ true → is_blank (after_first is_space text) ≡ false → IsArgument (after_first is_space text)
rest_holds text e some =
    let at = position_or_len is_space text in
    let (printed, utf8) = both (list_all is_printed text) (is_utf8 text) e in
    let u = IsUtf8-from_is_utf8 text utf8 in
    let inside : at < length text = elim (at_or_past at (length text)) [ inl l ↦ l | inr past ↦ absurd (blank_drop text at past some) ] in
    let ascii : get_or text at 0 < 128 = omega (arith, space_at text inside) in
    record {
      some = some;
      printed = join_true (list_all is_printed (drop (at + 1) text)) (is_utf8 (drop (at + 1) text)) (printed_drop (at + 1) text printed)
          (is_utf8-from_IsUtf8 (drop (at + 1) text) (IsUtf8-drop text (at + 1) u (IsCharBoundary-after_ascii text at u inside ascii)));
    }

pub switches_hold : (text : List ℕ) → IsArgument text → IfSome (without_switches text) IsArgument
unfolding without_switches
switches_hold text h =
    cond_some IsArgument (slice_index_or text 0 0 == 45) _ (Some text)
    (λ _. cond_some IsArgument (is_blank (after_first is_space text)) None (Some (after_first is_space text)) (λ _. tt) (λ e. rest_holds text h.printed e))
    (λ _. h)
