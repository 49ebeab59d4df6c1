-- Octets without Telnet commands, and lines without ends.
use Rattle.std.proofs.Common.{arith, refl, sym, ap, ◌∙◌, ◌≡◌, ◌≢◌, ◌≤◌, ◌-◌, ◌++◌, ◌∷◌, [], ℕ, List, length, take, flat_map, map, append_assoc, append-nil, length-append}
use Rattle.std.specs.Prelude.{slice_index_or}
use Rattle.std.specs.List.{AllByRecursion}
use Rattle.std.proofs.lemmas.Bool.{le-leb}
use Rattle.std.proofs.lemmas.List.Concat.{flat_map-cons}
use Rattle.ftp_wire.specs.declared.items.TheConstants.{LONGEST_LINE}
use Rattle.ftp_wire.specs.Items.{Item, line_item, without_cr, words_item}
use Rattle.ftp_wire.specs.Lines.{HasNoEnd, ended}
use Rattle.ftp_wire.specs.Reading.{ReadsAs}
use Rattle.ftp_wire.specs.Telnet.{IsToken, Strips, kept, plain, spelling}
use Rattle.ftp_wire.proofs.Tokens.{push_each}

-- an octet that is no IAC, and ends no line
abbrev pub IsPlain : ℕ → Type 0
IsPlain octet = (octet ≢ 255) × (octet ≢ 10)

plain_spelling : (text : List ℕ) → flat_map spelling (map plain text) ≡ text
plain_spelling [] = refl
plain_spelling (x ∷ xs) = flat_map-cons spelling (plain x) (map plain xs) ∙ ap (λ t. x ∷ t) (plain_spelling xs)

plain_kept : (text : List ℕ) → flat_map kept (map plain text) ≡ text
plain_kept [] = refl
plain_kept (x ∷ xs) = flat_map-cons kept (plain x) (map plain xs) ∙ ap (λ t. x ∷ t) (plain_kept xs)

plain_tokens : (text : List ℕ) → AllByRecursion IsPlain text → AllByRecursion IsToken (map plain text)
plain_tokens [] h = tt
plain_tokens (x ∷ xs) h = (h.0.0, plain_tokens xs h.1)

no_ends : (text : List ℕ) → AllByRecursion IsPlain text → HasNoEnd text
no_ends [] h = tt
no_ends (x ∷ xs) h = (h.0.1, no_ends xs h.1)

plain_strips : (text : List ℕ) → AllByRecursion IsToken (map plain text) → Strips text text
plain_strips text h = record {
  tokens = map plain text;
  start = [];
  each = h;
  octets_are = sym (plain_spelling text) ∙ sym (append-nil (flat_map spelling (map plain text)));
  text_is = sym (plain_kept text);
  unfinished = record { token = plain 0; more = 0 ∷ []; is_token = λ e. omega arith; lacks = λ e. cc; begins = refl };
}

push_tokens : (text : List ℕ) (octet : ℕ) → octet ≢ 255 → AllByRecursion IsToken (map plain text) → AllByRecursion IsToken (map plain (text ++ octet ∷ []))
push_tokens [] octet ne h = (ne, tt)
push_tokens (x ∷ xs) octet ne h = (h.0, push_tokens xs octet ne h.1)

last_octet : (line : List ℕ) (octet : ℕ) → slice_index_or (line ++ octet ∷ []) (length line) 0 ≡ octet
last_octet [] octet = refl
last_octet (x ∷ xs) octet = last_octet xs octet

front : (line : List ℕ) (octet : ℕ) → take (length line) (line ++ octet ∷ []) ≡ line
front [] octet = refl
front (x ∷ xs) octet = ap (λ t. x ∷ t) (front xs octet)

cr_dropped : (line : List ℕ) → without_cr (line ++ 13 ∷ []) ≡ line
cr_dropped line =
    let size : length (line ++ 13 ∷ []) - 1 ≡ length line = omega (arith, length-append line (13 ∷ [])) in
    rw (size, last_octet line 13) (front line 13)

pub ended_item : (line : List ℕ) → length line ≤ LONGEST_LINE → line_item (line ++ 13 ∷ []) ≡ words_item line
unfolding line_item
ended_item line short = rw (cr_dropped line, le-leb (length line) LONGEST_LINE short) refl

-- a line of its own stands for its item
pub reads_line : (line : List ℕ) (item : Item) → AllByRecursion IsPlain line → length line ≤ LONGEST_LINE → words_item line ≡ item → ReadsAs (line ++ 13 ∷ 10 ∷ []) (item ∷ [])
reads_line line item plain_line short is = record {
  text = line ++ 13 ∷ 10 ∷ [];
  lines = (line ++ 13 ∷ []) ∷ [];
  rest = [];
  strips = plain_strips (line ++ 13 ∷ 10 ∷ []) (rw (← append_assoc line (13 ∷ []) (10 ∷ [])) (push_tokens (line ++ 13 ∷ []) 10 (λ e. omega arith) (push_tokens line 13 (λ e. omega arith) (plain_tokens line plain_line))));
  cuts = record {
    whole = sym (append_assoc line (13 ∷ []) (10 ∷ [])) ∙ sym (append-nil (ended (line ++ 13 ∷ [])))
        ∙ sym (ap (λ t. t ++ []) (flat_map-cons ended (line ++ 13 ∷ []) [] ∙ append-nil (ended (line ++ 13 ∷ []))));
    each = (push_each _ line 13 (no_ends line plain_line) (λ e. omega arith), tt);
    open_rest = tt;
  };
  items_are = ap (λ (i : Item). i ∷ []) (sym (ended_item line short ∙ is));
}
