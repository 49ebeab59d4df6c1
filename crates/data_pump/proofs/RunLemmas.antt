-- Runs of text without a line end, sent and received.
use Rattle.std.proofs.Common.{◌≡◌, ◌+◌, ◌<◌, ◌≤◌, ◌++◌, ◌==◌, ℕ, suc, zero, List, [], ◌∷◌, Bool, true, false, length, take, get_or, add-one, refl, sym, ap, ◌∙◌, subst, arith, append_assoc, ⊎_elim}
use Rattle.std.proofs.lemmas.Bool.{cases_Bool}
use Rattle.memchr.specs.Find.{Nowhere, Passes, is_byte}
use Rattle.ftp_terms.specs.declared.data_type.DataType.TheVariants.{Ascii}
use Rattle.data_pump.specs.WireText.{sent_text, received_text, cr_if, ReceivesOctets}
use Rattle.data_pump.specs.Runs.{HoldsNo, held_cr, PutsRun}
use Rattle.data_pump.proofs.WireLemmas.{sent-append, received-no_cr, received-lone_cr, receives-append}

-- what stands before the first place of an octet does not hold it
pub holds_no : (octet : ℕ) (hay : List ℕ) (n : ℕ) → Nowhere (Passes (is_byte octet) hay) 0 n → n ≤ length hay → HoldsNo octet (take n hay)
holds_no octet hay zero h le = tt
holds_no octet [] (suc n) h le = tt
holds_no octet (x ∷ xs) (suc n) h le = (
  ⊎_elim (λ yes. absurd (h 0 (omega arith) (omega arith) yes)) (λ no. no) (cases_Bool (x == octet)),
  holds_no octet xs n (λ k low high passes. h (suc k) (omega arith) (omega (arith, high)) passes) (omega (arith, le)),
)

-- a run without an LF is sent as it stands
pub sent-run : (run : List ℕ) → HoldsNo 10 run → sent_text run ≡ run
sent-run [] h = refl
sent-run (x ∷ xs) h = rw h.0 (ap (λ l. x ∷ l) (sent-run xs h.1))

-- so is one before an LF, which becomes CR LF
pub sent-line : (run : List ℕ) → HoldsNo 10 run → sent_text (run ++ 10 ∷ []) ≡ run ++ 13 ∷ 10 ∷ []
sent-line run h = sent-append Ascii run (10 ∷ []) ∙ ap (λ l. l ++ 13 ∷ 10 ∷ []) (sent-run run h)

-- a run without a CR means itself, whatever follows it
pub received-run : (run later : List ℕ) → HoldsNo 13 run → received_text (run ++ later) ≡ run ++ received_text later
received-run [] later h = refl
received-run (x ∷ xs) later h = received-no_cr x (xs ++ later) h.0 ∙ ap (λ l. x ∷ l) (received-run xs later h.1)

-- a CR that is held stays, unless an LF follows it
received-held : (held : Bool) (x : ℕ) (later : List ℕ) (b : Bool) → (x == 10) ≡ b
    → received_text (cr_if held ++ x ∷ later) ≡ held_cr held x ++ received_text (x ∷ later)
received-held false x later b e = refl
received-held true x later true e = rw e refl
received-held true x later false e = received-lone_cr x later e ∙ rw e refl

-- a run to the end of a piece
pub receives-rest : (held : Bool) (xs : List ℕ) → 0 < length xs → HoldsNo 13 xs
    → ReceivesOctets Ascii (cr_if held) xs (held_cr held (get_or xs 0 0) ++ xs) (cr_if false)
receives-rest held [] some h = absurd (omega (arith, some))
receives-rest held (x ∷ xs) some h = λ later.
    let lone = held_cr held x in
    ap received_text (append_assoc (cr_if held) (x ∷ xs) later)
    ∙ (received-held held x (xs ++ later) (x == 10) refl
    ∙ (ap (λ l. lone ++ l) (received-run (x ∷ xs) later h) ∙ sym (append_assoc lone (x ∷ xs) (received_text later))))

-- a run up to a CR, which is held back
pub receives-cut : (held : Bool) (xs : List ℕ) (n : ℕ) → n < length xs → HoldsNo 13 (take n xs) → take (n + 1) xs ≡ take n xs ++ 13 ∷ []
    → ReceivesOctets Ascii (cr_if held) (take (n + 1) xs) (held_cr held (get_or xs 0 0) ++ take n xs) (cr_if true)
receives-cut held [] n some h e = absurd (omega (arith, some))
receives-cut held (x ∷ xs) n some h e = λ later.
    let lone = held_cr held x in
    let run = take n (x ∷ xs) in
    let first : x ∷ (take n xs ++ later) ≡ take (n + 1) (x ∷ xs) ++ later = sym (ap (λ m. take m (x ∷ xs) ++ later) (add-one n)) in
    let cut : take (n + 1) (x ∷ xs) ++ later ≡ run ++ 13 ∷ later = ap (λ l. l ++ later) e ∙ append_assoc run (13 ∷ []) later in
    ap received_text (append_assoc (cr_if held) (take (n + 1) (x ∷ xs)) later ∙ ap (λ l. cr_if held ++ l) (sym first))
    ∙ (received-held held x (take n xs ++ later) (x == 10) refl
    ∙ (ap (λ l. lone ++ received_text l) (first ∙ cut)
    ∙ (ap (λ l. lone ++ l) (received-run run (13 ∷ later) h) ∙ sym (append_assoc lone run (received_text (13 ∷ later))))))

-- one run more
pub receives-more : (held now next : Bool) (done run before text : List ℕ)
    → ReceivesOctets Ascii (cr_if held) done before (cr_if now) → PutsRun now run before text next
    → ReceivesOctets Ascii (cr_if held) (done ++ run) text (cr_if next)
receives-more held now next done run before text given puts =
    subst (λ t. ReceivesOctets Ascii (cr_if held) (done ++ run) t (cr_if next)) (sym puts.put)
    (receives-append Ascii (cr_if held) done before (cr_if now) run puts.text (cr_if next) given puts.meant)
