-- What a reader has read, octet by octet.
use Rattle.std.proofs.Common.{sym, ap, subst, ◌∙◌, ◌≡◌, ◌≢◌, ◌++◌, ◌∷◌, [], ℕ, List, map}
use Rattle.std.proofs.lemmas.List.{map-append}
use Rattle.ftp_wire.specs.declared.reader.LineReader.{LineReader}
use Rattle.ftp_wire.specs.Items.{Item, line_item}
use Rattle.ftp_wire.specs.Reading.{HasRead, Holds, OnlyReadsAs, ReadsAs}
use Rattle.ftp_wire.specs.Stages.{StripsTo}
use Rattle.ftp_wire.specs.Lines.{Cuts}
use Rattle.ftp_wire.proofs.Cutting.{cuts_end, cuts_more, same_lines}
use Rattle.ftp_wire.proofs.TokensApart.{same_text, strips_of}

-- an octet that stays, and ends no line
pub read_octet : {A : Type 0} (octets : List ℕ) (items : List Item) (octet kept : ℕ) (old new : LineReader A) → HasRead octets items old
    → ((o t : List ℕ) → StripsTo o t old.stage → StripsTo (o ++ octet ∷ []) (t ++ kept ∷ []) new.stage) → kept ≢ 10
    → ((rest : List ℕ) → Holds rest old.line → Holds (rest ++ kept ∷ []) new.line) → HasRead (octets ++ octet ∷ []) items new
read_octet octets items octet kept old new h strips ne holds = record {
  text = h.text ++ kept ∷ [];
  lines = h.lines;
  rest = h.rest ++ kept ∷ [];
  strips = strips octets h.text h.strips;
  cuts = cuts_more h.text h.lines h.rest kept ne h.cuts;
  items_are = h.items_are;
  holds = holds h.rest h.holds;
}

-- an octet that stays, and ends a line
pub read_end : {A : Type 0} (octets : List ℕ) (items : List Item) (octet : ℕ) (item : Item) (old new : LineReader A) → HasRead octets items old
    → ((o t : List ℕ) → StripsTo o t old.stage → StripsTo (o ++ octet ∷ []) (t ++ 10 ∷ []) new.stage)
    → ((rest : List ℕ) → Holds rest old.line → item ≡ line_item rest) → Holds [] new.line → HasRead (octets ++ octet ∷ []) (items ++ item ∷ []) new
read_end octets items octet item old new h strips is holds = record {
  text = h.text ++ 10 ∷ [];
  lines = h.lines ++ h.rest ∷ [];
  rest = [];
  strips = strips octets h.text h.strips;
  cuts = cuts_end h.text h.lines h.rest h.cuts;
  items_are = ap (λ t. t ++ item ∷ []) h.items_are ∙ ap (λ (i : Item). map line_item h.lines ++ i ∷ []) (is h.rest h.holds) ∙ sym (map-append line_item h.lines (h.rest ∷ []));
  holds = holds;
}

reads_as : {A : Type 0} (octets : List ℕ) (items : List Item) (reader : LineReader A) → HasRead octets items reader → ReadsAs octets items
reads_as octets items reader h = record {
  text = h.text;
  lines = h.lines;
  rest = h.rest;
  strips = strips_of octets h.text reader.stage h.strips;
  cuts = h.cuts;
  items_are = h.items_are;
}

pub same_items : (octets : List ℕ) (items others : List Item) → ReadsAs octets items → ReadsAs octets others → others ≡ items
same_items octets items others r s =
    let text : r.text ≡ s.text = same_text octets r.text s.text r.strips s.strips in
    let lines : r.lines ≡ s.lines = same_lines s.text r.lines s.lines r.rest s.rest (subst (λ t. Cuts t r.lines r.rest) text r.cuts) s.cuts in
    s.items_are ∙ ap (map line_item) (sym lines) ∙ sym r.items_are

pub only_reads_as : {A : Type 0} (octets : List ℕ) (items : List Item) (reader : LineReader A) → HasRead octets items reader → OnlyReadsAs octets items
only_reads_as octets items reader h =
    let r = reads_as octets items reader h in
    (r, λ others s. same_items octets items others r s)
