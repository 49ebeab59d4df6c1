use Rattle.std.proofs.Common.{◌≡◌, ◌++◌, ◌==◌, ℕ, List, [], ◌∷◌, Bool, true, false, refl, sym, ap, ◌∙◌, append_assoc, append-nil}
use Rattle.std.proofs.lemmas.Bool.{eqb-true}
use Rattle.std.proofs.lemmas.Grind.{flat_map-append}
use Rattle.ftp_terms.specs.declared.data_type.DataType.{DataType}
use Rattle.ftp_terms.specs.declared.data_type.DataType.TheVariants.{Ascii, Image}
use Rattle.data_pump.specs.WireText.{sent, sent_octet, sent_text, received, received_text, ReceivesOctets}

pub sent-append : (data_type : DataType) (xs ys : List ℕ) → sent data_type (xs ++ ys) ≡ sent data_type xs ++ sent data_type ys
sent-append Ascii xs ys = flat_map-append sent_octet xs ys
sent-append Image xs ys = refl

-- an octet that is no CR means itself, whatever follows it
pub received-no_cr : (x : ℕ) (ys : List ℕ) → (x == 13) ≡ false → received_text (x ∷ ys) ≡ x ∷ received_text ys
received-no_cr x [] e = refl
received-no_cr x (y ∷ ys) e = rw e refl

-- a CR before an octet that is no LF stays
pub received-lone_cr : (y : ℕ) (ys : List ℕ) → (y == 10) ≡ false → received_text (13 ∷ y ∷ ys) ≡ 13 ∷ received_text (y ∷ ys)
received-lone_cr y ys e = rw e refl

-- so does one before a text that was sent
cr_sent : (x : ℕ) (xs : List ℕ) (b : Bool) → (x == 10) ≡ b → received_text (13 ∷ sent_text (x ∷ xs)) ≡ 13 ∷ received_text (sent_text (x ∷ xs))
cr_sent x xs true e = let is : x ≡ 10 = eqb-true x 10 e in rw is (received-lone_cr 13 (10 ∷ sent_text xs) refl)
cr_sent x xs false e =
    let is : sent_text (x ∷ xs) ≡ x ∷ sent_text xs = rw e refl in
    ap (λ l. received_text (13 ∷ l)) is ∙ received-lone_cr x (sent_text xs) e ∙ ap (λ l. 13 ∷ received_text l) (sym is)

received-cr_sent : (xs : List ℕ) → received_text (13 ∷ sent_text xs) ≡ 13 ∷ received_text (sent_text xs)
received-cr_sent [] = refl
received-cr_sent (x ∷ xs) = cr_sent x xs (x == 10) refl

received-sent_octet : (x : ℕ) (xs : List ℕ) (b d : Bool) → (x == 10) ≡ b → (x == 13) ≡ d
    → received_text (sent_text (x ∷ xs)) ≡ x ∷ received_text (sent_text xs)
received-sent_octet x xs true d e f = let is : x ≡ 10 = eqb-true x 10 e in rw is (received-no_cr 10 (sent_text xs) refl)
received-sent_octet x xs false true e f = let is : x ≡ 13 = eqb-true x 13 f in rw is (received-cr_sent xs)
received-sent_octet x xs false false e f =
    let is : sent_text (x ∷ xs) ≡ x ∷ sent_text xs = rw e refl in
    ap received_text is ∙ received-no_cr x (sent_text xs) f

received-sent_text : (xs : List ℕ) → received_text (sent_text xs) ≡ xs
received-sent_text [] = refl
received-sent_text (x ∷ xs) = received-sent_octet x xs (x == 10) (x == 13) refl refl ∙ ap (λ l. x ∷ l) (received-sent_text xs)

pub received-sent : (data_type : DataType) (xs : List ℕ) → received data_type (sent data_type xs) ≡ xs
received-sent Ascii xs = received-sent_text xs
received-sent Image xs = refl

-- nothing more
pub receives_none : (data_type : DataType) (held : List ℕ) → ReceivesOctets data_type held [] [] held
receives_none data_type held = λ later. ap (λ l. received data_type (l ++ later)) (append-nil held)

-- one piece, and then another
pub receives-append : (data_type : DataType) (held xs text rest ys more last : List ℕ)
    → ReceivesOctets data_type held xs text rest → ReceivesOctets data_type rest ys more last
    → ReceivesOctets data_type held (xs ++ ys) (text ++ more) last
receives-append data_type held xs text rest ys more last p q = λ later.
    let e : (held ++ (xs ++ ys)) ++ later ≡ (held ++ xs) ++ (ys ++ later) =
    append_assoc held (xs ++ ys) later ∙ (ap (λ l. held ++ l) (append_assoc xs ys later) ∙ sym (append_assoc held xs (ys ++ later))) in
    ap (received data_type) e
    ∙ (p (ys ++ later)
    ∙ (ap (λ l. text ++ received data_type l) (sym (append_assoc rest ys later))
    ∙ (ap (λ l. text ++ l) (q later) ∙ sym (append_assoc text more (received data_type (last ++ later))))))
