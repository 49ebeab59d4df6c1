-- Which letters decide at a path.
use Rattle.std.proofs.Common.{◌≡◌, ◌⊎◌, ◌↔◌, ℕ, zero, suc, ◌<◌, ◌≤◌, ◌+◌, ◌-◌, Bool, true, false, List, [], ◌∷◌, Option, Some, None, MatchOption, cond, ◌||◌, nat_le, unwrap_or, length, take, refl, sym, ap, subst, ◌∙◌, inl, inr, arith}
use Rattle.std.proofs.lemmas.Bool.{cases_lt, false≢true, true≢false, leb-true, le-leb}
use Rattle.std.specs.FinMap.{get}
use Rattle.virtual_path.specs.Path.{Path, path_text, parent_of, AllNames}
use Rattle.ftp_terms.specs.declared.letters.Letter.{Letter}
use Rattle.ftp_terms.specs.declared.letters.Letters.{Letters}
use Rattle.authorizer.specs.declared.account.Rule.{Rule}
use Rattle.ftp_terms.specs.Letters.{holds}
use Rattle.authorizer.specs.Users.{Overrides, User, Users, Covers, IsCovered, IsDeepest, DecidesAt, Allowed, above, covers, if_covers, letters_above, first_of, first_above, letters_at, holds_at, AllowedByTheDeepest}

-- no override that lies less than so many names above a path covers it
abbrev pub NoneBelow : Overrides → Path → ℕ → Type 0
NoneBelow overrides path up = (lower : ℕ) (rule : Rule) → lower < up → IsCovered overrides path lower rule → ⊥

below_or_here : (lower up : ℕ) → lower < up + 1 → (lower < up) ⊎ (lower ≡ up)
below_or_here lower up less = ⊎_map (cases_lt lower up)
  where
    ⊎_map : (lower < up) ⊎ (up ≤ lower) → (lower < up) ⊎ (lower ≡ up)
    ⊎_map (inl below) = inl below
    ⊎_map (inr past) = inr (omega arith)

pub none_below_more : (overrides : Overrides) (path : Path) (up : ℕ) → NoneBelow overrides path up
    → ((rule : Rule) → get overrides (path_text (above up path)) ≡ Some rule → Covers rule up → ⊥) → NoneBelow overrides path (up + 1)
none_below_more overrides path up none here lower rule less is = elim (below_or_here lower up less) [
  | inl below ↦ none lower rule below is
  | inr same ↦ here rule (ap (λ u. get overrides (path_text (above u path))) (sym same) ∙ is.kept) (subst (Covers rule) same is.covers)
]

-- the letters of the override so many names above, if it covers
abbrev pub IsRuleAt : Overrides → Path → ℕ → Letters → Type 0
IsRuleAt overrides path up letters = (rule : Rule) × (get overrides (path_text (above up path)) ≡ Some rule) × Covers rule up × (letters ≡ rule.letters)

pub deepest_here : (overrides : Overrides) (path : Path) (up : ℕ) (letters : Letters) → up ≤ length path → NoneBelow overrides path up → IsRuleAt overrides path up letters
    → (up : ℕ) × (rule : Rule) × IsDeepest overrides path up rule × (letters ≡ rule.letters)
deepest_here overrides path up letters within none is =
    (up, is.0, record { covered = record { within = within; kept = is.1; covers = is.2 }; deepest = at_least }, is.3)
  where
    at_least : (other : ℕ) (next : Rule) → IsCovered overrides path other next → up ≤ other
    at_least other next covered = elim (cases_lt other up) [ inl below ↦ absurd (none other next below covered) | inr past ↦ past ]

pub none_at_all : (overrides : Overrides) (path : Path) → NoneBelow overrides path (length path + 1) → (up : ℕ) (rule : Rule) → IsCovered overrides path up rule → ⊥
none_at_all overrides path none up rule is = none up rule (let w = is.within in omega arith) is

each-take : (n : ℕ) (path : Path) → AllNames path → AllNames (take n path)
each-take zero path a = tt
each-take (suc n) [] a = tt
each-take (suc n) (name ∷ names) a = (a.0, each-take n names a.1)

pub names_above : (up : ℕ) (path : Path) → AllNames path → AllNames (above up path)
names_above up path a = each-take (length path - up) path a

length-take-less : (n : ℕ) (path : Path) → n ≤ length path → length (take n path) ≡ n
length-take-less zero path h = refl
length-take-less (suc n) [] h = absurd (omega arith)
length-take-less (suc n) (name ∷ names) h = ap suc (length-take-less n names (omega arith))

take-take-less : (m n : ℕ) (path : Path) → m ≤ n → take m (take n path) ≡ take m path
take-take-less zero n path h = refl
take-take-less (suc m) zero path h = absurd (omega arith)
take-take-less (suc m) (suc n) [] h = refl
take-take-less (suc m) (suc n) (name ∷ names) h = ap (λ (rest : Path). name ∷ rest) (take-take-less m n names (omega arith))

pub length-above : (up : ℕ) (path : Path) → length (above up path) ≡ length path - up
length-above up path = length-take-less (length path - up) path (omega arith)

pub parent_of-above : (up : ℕ) (path : Path) → parent_of (above up path) ≡ above (up + 1) path
parent_of-above up path =
    let one_less : length (above up path) - 1 ≡ length path - (up + 1) = let l = length-above up path in omega arith in
    ap (λ n. take n (above up path)) one_less ∙ take-take-less (length path - (up + 1)) (length path - up) path (omega arith)

take_whole : (path : Path) → take (length path) path ≡ path
take_whole [] = refl
take_whole (name ∷ names) = ap (λ (rest : Path). name ∷ rest) (take_whole names)

pub one_deepest : (overrides : Overrides) (path : Path) (up : ℕ) (rule : Rule) (other : ℕ) (next : Rule) → IsDeepest overrides path up rule → IsDeepest overrides path other next → rule ≡ next
one_deepest overrides path up rule other next is are =
    let below : up ≤ other = is.deepest other next are.covered in
    let past : other ≤ up = are.deepest up rule is.covered in
    let same : up ≡ other = omega arith in
    let found : Some rule ≡ Some next = sym is.covered.kept ∙ ap (λ u. get overrides (path_text (above u path))) same ∙ are.covered.kept in
    cc

pub one_decides : (user : User) (path : Path) (letters more : Letters) → DecidesAt user path letters → DecidesAt user path more → letters ≡ more
one_decides user path letters more (inl is) (inl are) = is.3 ∙ ap (λ (rule : Rule). rule.letters) (one_deepest user.overrides path is.0 is.1 are.0 are.1 is.2 are.2) ∙ sym are.3
one_decides user path letters more (inl is) (inr are) = absurd (are.0 is.0 is.1 is.2.covered)
one_decides user path letters more (inr is) (inl are) = absurd (is.0 are.0 are.1 are.2.covered)
one_decides user path letters more (inr is) (inr are) = is.1 ∙ sym are.1

allowed_by : (users : Users) (name : List ℕ) (letter : Letter) (path : Path) (user : User) (letters : Letters) (r : Bool) → get users name ≡ Some user → DecidesAt user path letters → r ≡ holds letters letter
    → (r ≡ true) ↔ Allowed users name letter path
allowed_by users name letter path user letters r found decides is = (λ yes. (user, letters, found, decides, sym is ∙ yes), back)
  where
    back : Allowed users name letter path → r ≡ true
    back (other, more, e, d, h) =
        let both : Some user ≡ Some other = sym found ∙ e in
        let same : user ≡ other = cc in
        is ∙ ap (λ l. holds l letter) (one_decides user path letters more decides (subst (λ u. DecidesAt u path more) (sym same) d)) ∙ h

pub none_is_no_rule : (overrides : Overrides) (text : List ℕ) (rule : Rule) → get overrides text ≡ None → get overrides text ≡ Some rule → ⊥
none_is_no_rule overrides text rule missing found = let none : None ≡ Some rule = sym missing ∙ found in cc

pub one_rule : (overrides : Overrides) (text : List ℕ) (rule next : Rule) → get overrides text ≡ Some rule → get overrides text ≡ Some next → rule ≡ next
one_rule overrides text rule next found is = let both : Some rule ≡ Some next = sym found ∙ is in cc

-- at the root the search ends
pub at_root : (overrides : Overrides) (path : Path) (depth : ℕ) (text : List ℕ) (r : Option Letters) → depth ≡ length path → text ≡ path_text (above depth path) → NoneBelow overrides path depth
    → MatchOption r ((rule : Rule) → get overrides text ≡ Some rule → Covers rule depth → ⊥) (λ letters. (rule : Rule) × (get overrides text ≡ Some rule) × Covers rule depth × (letters ≡ rule.letters))
    → MatchOption r ((up : ℕ) (rule : Rule) → IsCovered overrides path up rule → ⊥) (λ letters. (up : ℕ) × (rule : Rule) × IsDeepest overrides path up rule × (letters ≡ rule.letters))
at_root overrides path depth text None same here none is =
    none_at_all overrides path (subst (λ n. NoneBelow overrides path (n + 1)) same (none_below_more overrides path depth none (λ rule kept covers. is rule (ap (get overrides) here ∙ kept) covers)))
at_root overrides path depth text (Some letters) same here none is =
    deepest_here overrides path depth letters (omega arith) none (is.0, ap (get overrides) (sym here) ∙ is.1, is.2, is.3)

-- ---- the function and the relation

covers_is : (rule : Rule) (up : ℕ) → covers rule up ≡ true → Covers rule up
covers_is rule up is = elim rule.recursive as (λ b. rule.recursive ≡ b → (b || nat_le up 1) ≡ true → Covers rule up) [
  | true ↦ λ recursive _. inl recursive
  | false ↦ λ _ near. inr (leb-true up 1 near)
] refl is

covers_not : (rule : Rule) (up : ℕ) → covers rule up ≡ false → Covers rule up → ⊥
covers_not rule up is (inl recursive) = true≢false (ap (λ b. b || nat_le up 1) (sym recursive) ∙ is)
covers_not rule up is (inr near) = elim rule.recursive as (λ b. (b || nat_le up 1) ≡ false → ⊥) [
  | true ↦ λ no. true≢false no
  | false ↦ λ no. true≢false (sym (le-leb up 1 near) ∙ no)
] is

abbrev IsFound : Overrides → Path → ℕ → Option Letters → Type 0
IsFound overrides path up r = MatchOption r
    ((rule : Rule) → get overrides (path_text (above up path)) ≡ Some rule → Covers rule up → ⊥)
    (λ letters. IsRuleAt overrides path up letters)

found_above : (overrides : Overrides) (path : Path) (up : ℕ) (kept : Option Rule) → get overrides (path_text (above up path)) ≡ kept → IsFound overrides path up (if_covers up kept)
found_above overrides path up None is = λ rule kept _. none_is_no_rule overrides (path_text (above up path)) rule is kept
found_above overrides path up (Some rule) is =
    elim (covers rule up) as (λ b. covers rule up ≡ b → IsFound overrides path up (cond b (Some rule.letters) None)) [
      | true ↦ λ yes. (rule, is, covers_is rule up yes, refl)
      | false ↦ λ no next kept covered. covers_not rule up no (subst (λ r. Covers r up) (one_rule overrides (path_text (above up path)) next rule kept is) covered)
    ] refl

abbrev IsOutcome : Overrides → Path → Option Letters → Type 0
IsOutcome overrides path r = MatchOption r
    ((up : ℕ) (rule : Rule) → IsCovered overrides path up rule → ⊥)
    (λ letters. (up : ℕ) × (rule : Rule) × IsDeepest overrides path up rule × (letters ≡ rule.letters))

outcome_at_root : (overrides : Overrides) (path : Path) (up : ℕ) (r : Option Letters) → up ≡ length path → NoneBelow overrides path up → IsFound overrides path up r → IsOutcome overrides path r
outcome_at_root overrides path up None end none is =
    none_at_all overrides path (subst (λ n. NoneBelow overrides path (n + 1)) end (none_below_more overrides path up none is))
outcome_at_root overrides path up (Some letters) end none is = deepest_here overrides path up letters (omega arith) none is

by_here : (overrides : Overrides) (path : Path) (up : ℕ) (here others : Option Letters) → up ≤ length path → NoneBelow overrides path up → IsFound overrides path up here
    → (NoneBelow overrides path (up + 1) → IsOutcome overrides path others) → IsOutcome overrides path (first_of here others)
by_here overrides path up None others within none is rest = rest (none_below_more overrides path up none is)
by_here overrides path up (Some letters) others within none is rest = deepest_here overrides path up letters within none is

outcome : (overrides : Overrides) (path : Path) (up left : ℕ) → up + left ≡ length path → NoneBelow overrides path up → IsOutcome overrides path (first_above overrides path up left)
outcome overrides path up zero end none =
    outcome_at_root overrides path up (letters_above overrides path up) (omega arith) none (found_above overrides path up _ refl)
outcome overrides path up (suc left) end none =
    by_here overrides path up (letters_above overrides path up) (first_above overrides path (up + 1) left) (omega arith) none (found_above overrides path up _ refl)
    (λ below. outcome overrides path (up + 1) left (omega arith) below)

decides_by : (user : User) (path : Path) (r : Option Letters) → IsOutcome user.overrides path r → DecidesAt user path (unwrap_or r user.letters)
decides_by user path None is = inr (is, refl)
decides_by user path (Some letters) is = inl is

-- the letters of the function are those of the relation
pub letters_decide : (user : User) (path : Path) → DecidesAt user path (letters_at user path)
letters_decide user path =
    decides_by user path (first_above user.overrides path 0 (length path))
    (outcome user.overrides path 0 (length path) (omega arith) (λ lower rule less _. nothing_below lower less))
  where
    nothing_below : (lower : ℕ) → lower < 0 → ⊥
    nothing_below lower less = omega arith

pub one_letters : (user : User) (path : Path) (letters : Letters) → DecidesAt user path letters → letters ≡ letters_at user path
one_letters user path letters is = one_decides user path letters (letters_at user path) is (letters_decide user path)

pub allowed_by_the_deepest : AllowedByTheDeepest
allowed_by_the_deepest users name letter path = by_user (get users name) refl
  where
    by_user : (found : Option User) → get users name ≡ found → (holds_at found letter path ≡ true) ↔ Allowed users name letter path
    by_user None is = (λ e. absurd (false≢true e), λ given. let none : None ≡ Some given.0 = sym is ∙ given.2 in absurd cc)
    by_user (Some user) is = allowed_by users name letter path user (letters_at user path) (holds (letters_at user path) letter) is (letters_decide user path) refl
