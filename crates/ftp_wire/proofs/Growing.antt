-- What more octets stand for begins with what the first of them stand for.
use Rattle.std.proofs.Common.{refl, sym, ap, subst, ◌∙◌, ◌≡◌, ◌++◌, ◌∷◌, [], ℕ, List, Ok, map, flat_map, append_assoc}
use Rattle.std.specs.List.{AllByRecursion}
use Rattle.std.proofs.lemmas.Grind.{flat_map-append}
use Rattle.std.proofs.lemmas.List.{map-append}
use Rattle.ftp_wire.specs.declared.commands.Command.{Command}
use Rattle.ftp_wire.specs.Items.{Item, line_item}
use Rattle.ftp_wire.specs.Lines.{HasNoEnd, ended}
use Rattle.ftp_wire.specs.Reading.{IsSpelling, ReadsAs}
use Rattle.ftp_wire.specs.Telnet.{IsToken, IsUnfinished, Token, kept, spelling}
use Rattle.ftp_wire.proofs.Cutting.{line_shape, no_end, split}
use Rattle.ftp_wire.proofs.TokensApart.{first_token, no_token, shape}

tokens_grow : (ss ts : List Token) (r q m : List ℕ) → AllByRecursion IsToken ss → AllByRecursion IsToken ts → IsUnfinished q
    → (flat_map spelling ss ++ r) ++ m ≡ flat_map spelling ts ++ q → (more : List Token) × (ts ≡ ss ++ more)
tokens_grow [] ts r q m ps qs v e = (ts, refl)
tokens_grow (s ∷ ss) [] r q m ps qs v e =
    let whole = ap (λ t. t ++ m) (shape s ss r) ∙ append_assoc (spelling s) (flat_map spelling ss ++ r) m in
    absurd (no_token q s ((flat_map spelling ss ++ r) ++ m) v ps.0 (sym e ∙ whole))
tokens_grow (s ∷ ss) (t ∷ ts) r q m ps qs v e =
    let whole = ap (λ t. t ++ m) (shape s ss r) ∙ append_assoc (spelling s) (flat_map spelling ss ++ r) m in
    let both = first_token s t ((flat_map spelling ss ++ r) ++ m) (flat_map spelling ts ++ q) ps.0 qs.0 (sym whole ∙ e ∙ shape t ts q) in
    let (more, is) = tokens_grow ss ts r q m ps.1 qs.1 v both.1 in
    (more, ap (λ (u : Token). u ∷ ts) (sym both.0) ∙ ap (λ (us : List Token). s ∷ us) is)

lines_grow : (ls ms : List (List ℕ)) (r s m : List ℕ) → AllByRecursion HasNoEnd ls → AllByRecursion HasNoEnd ms → HasNoEnd s
    → (flat_map ended ls ++ r) ++ m ≡ flat_map ended ms ++ s → (more : List (List ℕ)) × (ms ≡ ls ++ more)
lines_grow [] ms r s m p q ps e = (ms, refl)
lines_grow (l ∷ ls) [] r s m p q ps e =
    let whole = ap (λ t. t ++ m) (line_shape l ls r) ∙ append_assoc l (10 ∷ (flat_map ended ls ++ r)) m in
    absurd (no_end l s ((flat_map ended ls ++ r) ++ m) ps (sym e ∙ whole))
lines_grow (l ∷ ls) (k ∷ ks) r s m p q ps e =
    let whole = ap (λ t. t ++ m) (line_shape l ls r) ∙ append_assoc l (10 ∷ (flat_map ended ls ++ r)) m in
    let both = split l k ((flat_map ended ls ++ r) ++ m) (flat_map ended ks ++ s) p.0 q.0 (sym whole ∙ e ∙ line_shape k ks s) in
    let (more, is) = lines_grow ls ks r s m p.1 q.1 ps both.1 in
    (more, ap (λ (u : List ℕ). u ∷ ks) (sym both.0) ∙ ap (λ (us : List (List ℕ)). l ∷ us) is)

pub items_grow : (octets m : List ℕ) (items others : List Item) → ReadsAs octets items → ReadsAs (octets ++ m) others → (more : List Item) × (others ≡ items ++ more)
items_grow octets m items others a b =
    let tokens = tokens_grow a.strips.tokens b.strips.tokens a.strips.start b.strips.start m a.strips.each b.strips.each b.strips.unfinished
    (ap (λ t. t ++ m) (sym a.strips.octets_are) ∙ b.strips.octets_are) in
    let text : b.text ≡ a.text ++ flat_map kept tokens.0 =
    b.strips.text_is ∙ ap (flat_map kept) tokens.1 ∙ flat_map-append kept a.strips.tokens tokens.0 ∙ ap (λ t. t ++ flat_map kept tokens.0) (sym a.strips.text_is) in
    let lines = lines_grow a.lines b.lines a.rest b.rest (flat_map kept tokens.0) a.cuts.each b.cuts.each b.cuts.open_rest
    (ap (λ t. t ++ flat_map kept tokens.0) (sym a.cuts.whole) ∙ sym text ∙ b.cuts.whole) in
    (map line_item lines.0, b.items_are ∙ ap (map line_item) lines.1 ∙ map-append line_item a.lines lines.0 ∙ ap (λ t. t ++ map line_item lines.0) (sym a.items_are))

no_more : (a : List ℕ) (x : ℕ) (xs : List ℕ) → [] ≡ a ++ x ∷ xs → ⊥
no_more [] x xs e = cc
no_more (y ∷ a) x xs e = cc

front_grows : (a front : List ℕ) (x last : ℕ) (xs : List ℕ) → front ++ last ∷ [] ≡ a ++ x ∷ xs → (m : List ℕ) × (front ≡ a ++ m)
front_grows [] front x last xs e = (front, refl)
front_grows (y ∷ a) [] x last xs e = absurd (no_more a x xs cc)
front_grows (y ∷ a) (z ∷ front) x last xs e =
    let (m, is) = front_grows a front x last xs cc in
    let heads : z ≡ y = cc in
    (m, ap (λ (u : ℕ). u ∷ front) heads ∙ ap (λ (f : List ℕ). y ∷ f) is)

pub no_prefix : (a b more : List ℕ) (c d : Command (List ℕ)) → IsSpelling a c → IsSpelling b d → b ≡ a ++ more → more ≡ []
no_prefix a b [] c d p q e = refl
no_prefix a b (x ∷ xs) c d p q e =
    let (m, is) = front_grows a q.front x q.last xs (sym q.octets_are ∙ e) in
    let none = items_grow a m (Ok c ∷ []) [] p.after (subst (λ t. ReadsAs t []) is q.before) in
    let impossible = none.1 in cc
