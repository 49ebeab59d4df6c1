-- Overrides, as loops find and compare them.
use Rattle.std.proofs.Common.{◌≡◌, ◌≢◌, ◌∙◌, ◌+◌, ◌<◌, ◌≤◌, ◌&&◌, ℕ, Bool, true, false, cond, List, [], ◌∷◌, Vec, Global, length, drop, get_or, bytes_eq, ap, arith, refl}
use Rattle.std.proofs.lemmas.List.{at_drop_all, at_drop_more}
use Rattle.config_file.specs.declared.stated.OverrideTable.{OverrideTable}
use Rattle.config_file.specs.declared.stated.UserTable.{UserTable}
use Rattle.change_report.specs.Changes.{rules_named, same_rule, same_rules}

-- a user of another name is passed over
pub rules_skipped : (users : List UserTable) (overrides : List (Vec OverrideTable Global)) (wanted : List ℕ) (i : ℕ) (d : UserTable) (e : Vec OverrideTable Global) → i < length users → i < length overrides
    → bytes_eq (get_or users i d).name.now wanted ≡ false → rules_named (drop i users) (drop i overrides) wanted ≡ rules_named (drop (i + 1) users) (drop (i + 1) overrides) wanted
rules_skipped users overrides wanted i d e in_users in_overrides apart =
    at_drop_more (λ us. rules_named us (drop i overrides) wanted) users i d in_users
    ∙ at_drop_more (λ rs. rules_named (get_or users i d ∷ drop (i + 1) users) rs wanted) overrides i e in_overrides
    ∙ ap (λ b. cond b (get_or overrides i e).items (rules_named (drop (i + 1) users) (drop (i + 1) overrides) wanted)) apart

-- the user of the name is found
pub rules_found : (users : List UserTable) (overrides : List (Vec OverrideTable Global)) (wanted : List ℕ) (i : ℕ) (d : UserTable) (e : Vec OverrideTable Global) → i < length users → i < length overrides
    → bytes_eq (get_or users i d).name.now wanted ≡ true → rules_named (drop i users) (drop i overrides) wanted ≡ (get_or overrides i e).items
rules_found users overrides wanted i d e in_users in_overrides same =
    at_drop_more (λ us. rules_named us (drop i overrides) wanted) users i d in_users
    ∙ at_drop_more (λ rs. rules_named (get_or users i d ∷ drop (i + 1) users) rs wanted) overrides i e in_overrides
    ∙ ap (λ b. cond b (get_or overrides i e).items (rules_named (drop (i + 1) users) (drop (i + 1) overrides) wanted)) same

-- one override more
pub same_more : (old new : List OverrideTable) (i : ℕ) (d e : OverrideTable) → i < length old → i < length new
    → same_rules (drop i old) (drop i new) ≡ (same_rule (get_or old i d) (get_or new i e) && same_rules (drop (i + 1) old) (drop (i + 1) new))
same_more old new i d e in_old in_new =
    at_drop_more (λ xs. same_rules xs (drop i new)) old i d in_old
    ∙ at_drop_more (λ ys. same_rules (get_or old i d ∷ drop (i + 1) old) ys) new i e in_new

-- no override is left
pub same_all : (old new : List OverrideTable) (i : ℕ) → length old ≤ i → length new ≤ i → same_rules (drop i old) (drop i new) ≡ true
same_all old new i past_old past_new = at_drop_all (λ xs. same_rules xs (drop i new)) old i past_old ∙ at_drop_all (λ ys. same_rules [] ys) new i past_new

-- a user of another name is passed over, whatever the default override list is
pub rules_passed : (users : List UserTable) (overrides : List (Vec OverrideTable Global)) (wanted : List ℕ) (i : ℕ) (d : UserTable) → i < length users → length overrides ≡ length users
    → bytes_eq (get_or users i d).name.now wanted ≡ false → rules_named (drop i users) (drop i overrides) wanted ≡ rules_named (drop (i + 1) users) (drop (i + 1) overrides) wanted
rules_passed users [] wanted i d in_users paired apart = absurd (omega (arith, in_users, paired))
rules_passed users (o ∷ os) wanted i d in_users paired apart = rules_skipped users (o ∷ os) wanted i d o in_users (omega (arith, in_users, paired)) apart

none : (b : Bool) → false ≡ (b && false)
none true = refl
none false = refl

-- lists of different lengths are not the same
pub apart_by_length : (old new : List OverrideTable) → length old ≢ length new → false ≡ same_rules old new
apart_by_length [] [] apart = absurd (apart refl)
apart_by_length [] (after ∷ new) apart = refl
apart_by_length (before ∷ old) [] apart = refl
apart_by_length (before ∷ old) (after ∷ new) apart =
    let rest = apart_by_length old new (λ same. apart (omega (arith, same))) in
    none (same_rule before after) ∙ ap (λ (r : Bool). same_rule before after && r) rest
