-- The numbers that rows of arguments state.
use Rattle.std.proofs.Common.{◌≡◌, ◌<◌, ◌∙◌, ℕ, codes, arith, refl, sym, subst, ap, false, List, [], ◌∷◌, Option, None, Some, inl, inr}
use Rattle.std.specs.Char.{digit_value}
use Rattle.std.specs.Str.{bytes_eq}
use Rattle.std.proofs.lemmas.Slice.Eq.{bytes_eq-Decides}
use Rattle.clap.specs.Words.{Row, Text, first_of}
use Rattle.command_line.specs.Given.{IsPlainWord}
use Rattle.command_line.specs.Numbers.{AreLinesIn, IsNumber, IsNumberOf, IsNumberOr, IsPortIn, IsStated, IsUnnumberedBy}
use Rattle.command_line.specs.Stated.{IsServeUnnumberedIn, IsStatedBy, IsUnnumbered}
use Rattle.command_line.specs.Timed.{IsPatienceIn, IsSeconds, IsUntimedIn, usual_patience}
use Rattle.command_line.specs.Ways.{IsUnknownWayIn, IsWayIn, IsWayOf}
use Rattle.line_rates.specs.declared.share_by.ShareBy.{ShareBy}
use Rattle.line_rates.specs.declared.share_by.ShareBy.TheVariants.{Sessions}
use Rattle.client_patience.specs.declared.patience.Patience.{Patience}
use Rattle.command_line.specs.declared.numbers.NumberForm.{NumberForm}
use Rattle.command_line.specs.declared.numbers.NumberForm.TheVariants.{Seconds, Port, Lines}
use Rattle.command_line.specs.declared.numbers.TheConstants.{ROWS}
use Rattle.command_line.specs.declared.words.WordsFault.{WordsFault}
use Rattle.command_line.specs.declared.words.WordsFault.TheVariants.{Refused, Memory}
use Rattle.command_line.proofs.ServeWords.{AreUnstated}

-- a number is a plain word
pub number_plain : (form : NumberForm) (text : List ℕ) (n : ℕ) → IsNumber form text n → IsPlainWord text
number_plain form [] n is = let none : 0 < 0 = is.0.0 in absurd (omega arith)
number_plain form (c ∷ cs) n is = λ (minus : c ≡ 45). let digit : digit_value c < 10 = is.0.1.0 in let bad : digit_value 45 < 10 = subst (λ d. digit_value d < 10) minus digit in absurd (omega arith)

-- an option states one number
one_number : (form : NumberForm) (default : ℕ) (stated : Option (List ℕ)) (n m : ℕ) → IsNumberOf form default stated n → IsNumberOf form default stated m → n ≡ m
one_number form default None n m is also = is ∙ sym also
one_number form default (Some text) n m is also = sym is.1 ∙ also.1

one_stated : (form : NumberForm) (stated : Option (List ℕ)) (n m : Option ℕ) → IsStated form stated n → IsStated form stated m → n ≡ m
one_stated form None None None is also = refl
one_stated form None None (Some m) is also = absurd also
one_stated form None (Some n) m is also = absurd is
one_stated form (Some text) None m is also = absurd is
one_stated form (Some text) (Some n) None is also = absurd also
one_stated form (Some text) (Some n) (Some m) is also = ap Some (sym is.1 ∙ also.1)

abbrev timed : ℕ → ℕ → ℕ → ℕ → Patience
timed login idle delay drain = record { login_timeout = login; idle_timeout = idle; login_delay = delay; drain_timeout = drain }

pub one_patience : (rows : List Row) (p q : Patience) → IsPatienceIn rows p → IsPatienceIn rows q → p ≡ q
one_patience rows p q is also =
    let login = one_number Seconds _ (first_of (codes "login-timeout") rows) _ _ is.0 also.0 in
    let idle = one_number Seconds _ (first_of (codes "idle-timeout") rows) _ _ is.1 also.1 in
    let delay = one_number Seconds _ (first_of (codes "login-delay") rows) _ _ is.2 also.2 in
    let drain = one_number Seconds _ (first_of (codes "drain-seconds") rows) _ _ is.3 also.3 in
    ap (λ (n : ℕ). timed n p.idle_timeout p.login_delay p.drain_timeout) login
    ∙ (ap (λ (n : ℕ). timed q.login_timeout n p.login_delay p.drain_timeout) idle
    ∙ (ap (λ (n : ℕ). timed q.login_timeout q.idle_timeout n p.drain_timeout) delay ∙ ap (λ (n : ℕ). timed q.login_timeout q.idle_timeout q.login_delay n) drain))

pub one_port : (rows : List Row) (n m : Option ℕ) → IsPortIn rows n → IsPortIn rows m → n ≡ m
one_port rows n m is also = one_stated Port (first_of (codes "status-port") rows) n m is also

pub one_count : (rows : List Row) (n m : ℕ) → AreLinesIn rows n → AreLinesIn rows m → n ≡ m
one_count rows n m is also = one_number Lines ROWS (first_of (codes "rows") rows) n m is also

stated_as : (form : NumberForm) (default : ℕ) (option : Text) (rows : List Row) (stated : Option (List ℕ)) (n : ℕ) → first_of option rows ≡ stated → IsNumberOf form default stated n
    → IsNumberOr form default option rows n
stated_as form default option rows stated n is of = subst (λ (o : Option (List ℕ)). IsNumberOf form default o n) (sym is) of

-- no number is stated
pub usual : (rows : List Row) → AreUnstated rows → IsPatienceIn rows usual_patience
usual rows none =
    (stated_as Seconds _ _ rows None _ none.0 refl, stated_as Seconds _ _ rows None _ none.1 refl, stated_as Seconds _ _ rows None _ none.2 refl, stated_as Seconds _ _ rows None _ none.3 refl)

pub no_port : (rows : List Row) → first_of (codes "status-port") rows ≡ None → IsPortIn rows None
no_port rows none = subst (λ (o : Option (List ℕ)). IsStated Port o None) (sym none) tt

usual_way : (rows : List Row) → first_of (codes "share-by") rows ≡ None → IsWayIn rows Sessions
usual_way rows none = subst (λ (o : Option (List ℕ)). IsWayOf o Sessions) (sym none) refl

pub usual_lines : (rows : List Row) → first_of (codes "rows") rows ≡ None → AreLinesIn rows ROWS
usual_lines rows none = stated_as Lines ROWS (codes "rows") rows None ROWS none refl

-- these numbers are stated
pub patient : (rows : List Row) (p : Patience) (first second third fourth : List ℕ) → first_of (codes "login-timeout") rows ≡ Some first → first_of (codes "idle-timeout") rows ≡ Some second
    → first_of (codes "login-delay") rows ≡ Some third → first_of (codes "drain-seconds") rows ≡ Some fourth → IsSeconds first p.login_timeout → IsSeconds second p.idle_timeout
    → IsSeconds third p.login_delay → IsSeconds fourth p.drain_timeout → IsPatienceIn rows p
patient rows p first second third fourth login idle delay drain one two three four =
    (stated_as Seconds _ _ rows (Some first) _ login one, stated_as Seconds _ _ rows (Some second) _ idle two, stated_as Seconds _ _ rows (Some third) _ delay three, stated_as Seconds _ _ rows (Some fourth) _ drain four)

pub some_port : (rows : List Row) (text : List ℕ) (n : ℕ) → first_of (codes "status-port") rows ≡ Some text → IsNumber Port text n → IsPortIn rows (Some n)
some_port rows text n is number = subst (λ (o : Option (List ℕ)). IsStated Port o (Some n)) (sym is) number

pub some_lines : (rows : List Row) (text : List ℕ) (n : ℕ) → first_of (codes "rows") rows ≡ Some text → IsNumber Lines text n → AreLinesIn rows n
some_lines rows text n is number = stated_as Lines ROWS (codes "rows") rows (Some text) n is number

-- a refusal of an option that states a number is lack of memory
refused_by : (form : NumberForm) (default : ℕ) (option : Text) (rows : List Row) (n : ℕ) (fault : WordsFault) → IsNumberOr form default option rows n → IsUnnumberedBy form option rows fault
    → fault ≡ Memory
refused_by form default option rows n Memory is without = refl
refused_by form default option rows n (Refused text is_help) is without =
    let given = subst (λ (o : Option (List ℕ)). IsNumberOf form default o n) without.1 is in
    absurd (without.2 n given)

refused_port : (rows : List Row) (port : Option ℕ) (fault : WordsFault) → IsPortIn rows port → IsUnnumberedBy Port (codes "status-port") rows fault → fault ≡ Memory
refused_port rows port Memory is without = refl
refused_port rows None (Refused text is_help) is without = absurd (subst (λ (o : Option (List ℕ)). IsStated Port o None) without.1 is)
refused_port rows (Some n) (Refused text is_help) is without =
    absurd (without.2 n (subst (λ (o : Option (List ℕ)). IsStated Port o (Some n)) without.1 is))

untimed : (rows : List Row) (p : Patience) (fault : WordsFault) → IsPatienceIn rows p → IsUntimedIn rows fault → fault ≡ Memory
untimed rows p fault is (inl one) = refused_by Seconds _ _ rows _ fault is.0 one
untimed rows p fault is (inr (inl one)) = refused_by Seconds _ _ rows _ fault is.1 one
untimed rows p fault is (inr (inr (inl one))) = refused_by Seconds _ _ rows _ fault is.2 one
untimed rows p fault is (inr (inr (inr one))) = refused_by Seconds _ _ rows _ fault is.3 one

-- a refusal of an option that states a way of sharing is lack of memory
refused_way : (rows : List Row) (way : ShareBy) (fault : WordsFault) → IsWayIn rows way → IsUnknownWayIn rows fault → fault ≡ Memory
refused_way rows way Memory is without = refl
refused_way rows way (Refused text is_help) is without =
    absurd (without.2 way (subst (λ (o : Option (List ℕ)). IsWayOf o way) without.1 is))

unnumbered : (rows : List Row) (p : Patience) (port : Option ℕ) (way : ShareBy) (fault : WordsFault) → IsPatienceIn rows p → IsPortIn rows port → IsWayIn rows way
    → IsServeUnnumberedIn rows fault → fault ≡ Memory
unnumbered rows p port way fault is also by (inl one) = untimed rows p fault is one
unnumbered rows p port way fault is also by (inr (inl one)) = refused_port rows port fault also one
unnumbered rows p port way fault is also by (inr (inr one)) = refused_way rows way fault by one

pub refused_stated : (found : Option (Text × List Row)) (p : Patience) (port : Option ℕ) (lines : ℕ) (way : ShareBy) (fault : WordsFault) → IsStatedBy found p port lines way → IsUnnumbered found fault
    → fault ≡ Memory
refused_stated found p port lines way fault stated (inl (rows, is, without)) = let states = stated.0 rows is in unnumbered rows p port way fault states.0 states.1 states.2 without
refused_stated found p port lines way fault stated (inr (inl (rows, is, without))) = refused_by Lines _ _ rows _ fault (stated.1 rows is) without
refused_stated found p port lines way fault stated (inr (inr (inl (rows, is, without)))) = refused_way rows way fault (stated.2 rows is) without
refused_stated found p port lines way fault stated (inr (inr (inr (rows, is, without)))) = refused_way rows way fault (stated.3 rows is) without

-- the rows that the parser found
same_found : (found : Option (Text × List Row)) (name also : Text) (rows other : List Row) → found ≡ Some (name, rows) → found ≡ Some (also, other)
    → ◌≡◌ {A = Text × List Row} (name, rows) (also, other)
same_found found name also rows other one two =
    let both : ◌≡◌ {A = Option (Text × List Row)} (Some (name, rows)) (Some (also, other)) = sym one ∙ two in
    cc

apart_found : (found : Option (Text × List Row)) (name also : Text) (rows other : List Row) → bytes_eq name also ≡ false → found ≡ Some (name, rows) → found ≡ Some (also, other) → ⊥
apart_found found name also rows other apart is other_is =
    let yes = (bytes_eq-Decides name also).1 (ap (λ (f : Text × List Row). f.0) (same_found found _ _ rows other is other_is)) in
    absurd (cc)

-- the numbers of `serve` are those of its rows
pub serve_stated : (found : Option (Text × List Row)) (p : Patience) (port : Option ℕ) (rows : List Row) → found ≡ Some (codes "serve", rows) → IsPatienceIn rows p → IsPortIn rows port
    → first_of (codes "share-by") rows ≡ None → IsStatedBy found p port ROWS Sessions
serve_stated found p port rows is states also unshared = (
  λ other equal.
      let same = ap (λ (f : Text × List Row). f.1) (same_found found _ _ rows other is equal) in
      (subst (λ (r : List Row). IsPatienceIn r p) same states, subst (λ (r : List Row). IsPortIn r port) same also, subst (λ (r : List Row). IsWayIn r Sessions) same (usual_way rows unshared)),
  λ other equal. absurd (apart_found found _ _ rows other refl is equal),
  λ other equal. absurd (apart_found found _ _ rows other refl is equal),
  λ other equal. absurd (apart_found found _ _ rows other refl is equal),
)

-- the number of lines of `top` is that of its rows
pub top_stated : (found : Option (Text × List Row)) (lines : ℕ) (rows : List Row) → found ≡ Some (codes "top", rows) → AreLinesIn rows lines → IsStatedBy found usual_patience None lines Sessions
top_stated found lines rows is states = (
  λ other equal. absurd (apart_found found _ _ rows other refl is equal),
  λ other equal.
      let same = ap (λ (f : Text × List Row). f.1) (same_found found _ _ rows other is equal) in
      subst (λ (r : List Row). AreLinesIn r lines) same states,
  λ other equal. absurd (apart_found found _ _ rows other refl is equal),
  λ other equal. absurd (apart_found found _ _ rows other refl is equal),
)

-- `plan` without a way of sharing shares among sessions
pub plan_stated : (found : Option (Text × List Row)) (rows : List Row) → found ≡ Some (codes "plan", rows) → first_of (codes "share-by") rows ≡ None → IsStatedBy found usual_patience None ROWS Sessions
plan_stated found rows is unshared = (
  λ other equal. absurd (apart_found found _ _ rows other refl is equal),
  λ other equal. absurd (apart_found found _ _ rows other refl is equal),
  λ other equal.
      let same = ap (λ (f : Text × List Row). f.1) (same_found found _ _ rows other is equal) in
      subst (λ (r : List Row). IsWayIn r Sessions) same (usual_way rows unshared),
  λ other equal. absurd (apart_found found _ _ rows other refl is equal),
)

-- so does `check-config`
pub config_stated : (found : Option (Text × List Row)) (rows : List Row) → found ≡ Some (codes "check-config", rows) → first_of (codes "share-by") rows ≡ None → IsStatedBy found usual_patience None ROWS Sessions
config_stated found rows is unshared = (
  λ other equal. absurd (apart_found found _ _ rows other refl is equal),
  λ other equal. absurd (apart_found found _ _ rows other refl is equal),
  λ other equal. absurd (apart_found found _ _ rows other refl is equal),
  λ other equal.
      let same = ap (λ (f : Text × List Row). f.1) (same_found found _ _ rows other is equal) in
      subst (λ (r : List Row). IsWayIn r Sessions) same (usual_way rows unshared),
)

-- another command states none
pub refused_other : (found : Option (Text × List Row)) (name : Text) (rows : List Row) (fault : WordsFault) → bytes_eq name (codes "serve") ≡ false → bytes_eq name (codes "top") ≡ false
    → bytes_eq name (codes "plan") ≡ false → bytes_eq name (codes "check-config") ≡ false → found ≡ Some (name, rows) → IsUnnumbered found fault → fault ≡ Memory
refused_other found name rows fault apart also and more is (inl (other, equal, without)) = absurd (apart_found found _ _ rows other apart is equal)
refused_other found name rows fault apart also and more is (inr (inl (other, equal, without))) = absurd (apart_found found _ _ rows other also is equal)
refused_other found name rows fault apart also and more is (inr (inr (inl (other, equal, without)))) = absurd (apart_found found _ _ rows other and is equal)
refused_other found name rows fault apart also and more is (inr (inr (inr (other, equal, without)))) = absurd (apart_found found _ _ rows other more is equal)
