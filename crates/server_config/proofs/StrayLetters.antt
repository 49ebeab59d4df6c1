-- Characters that are no permission letters, and the refusals for them alone.
use Rattle.std.proofs.Common.{◌≡◌, ◌≢◌, ℕ, ◌+◌, ◌^◌, Bool, true, false, cond, List, [], ◌++◌, Option, Some, None, Result, Ok, Err, inl, inr, refl, sym, ap, subst, ◌∙◌}
use Rattle.std.specs.Prelude.{nat_lt}
use Rattle.std.specs.FinMap as map
use Rattle.std.specs.List.{list_all}
use Rattle.std.specs.Option.{is_some}
use Rattle.std.proofs.lemmas.List.Folds.{list_all-append}
use Rattle.memory_terms.specs.Lack.{Unless}
use Rattle.ftp_terms.specs.Letters.{is_letter, letters_of}
use Rattle.ftp_terms.specs.declared.letters.Letters.{Letters}
use Rattle.virtual_path.specs.Path.{Path, resolved}
use Rattle.virtual_path.specs.declared.fault.PathFault.{PathFault}
use Rattle.authorizer.specs.Changes.{added, letters_then, new_user, overridden, path_then, placed, user_then}
use Rattle.authorizer.specs.Users.{Accounts, User}
use Rattle.authorizer.specs.declared.fault.AuthorizerFault.{AuthorizerFault}
use Rattle.authorizer.specs.declared.fault.AuthorizerFault.TheVariants as AuthorizerFault
use Rattle.config_file.specs.declared.stated.OverrideTable.{OverrideTable}
use Rattle.config_file.specs.declared.stated.UserTable.{UserTable}
use Rattle.server_config.specs.Users.{IsRefusedAccount}

cond_is : {X : Type 0} (b : Bool) (x : X) → is_some (cond b (Some x) None) ≡ b
cond_is true x = refl
cond_is false x = refl

-- a text has letters if all of its octets are letters
pub has_letters : (text : List ℕ) → is_some (letters_of text) ≡ list_all is_letter text
has_letters text = cond_is (list_all is_letter text) _

pub is_none : {X : Type 0} (found : Option X) → is_some found ≡ false → found ≡ None
is_none None is = refl
is_none (Some x) is = absurd (cc)

pub is_not_none : {X : Type 0} (found : Option X) → is_some found ≡ true → found ≢ None
is_not_none None is = absurd (cc)
is_not_none (Some x) is = λ same. absurd (cc)

pub all_more : (first more : List ℕ) → list_all is_letter first ≡ true → list_all is_letter more ≡ true → list_all is_letter (first ++ more) ≡ true
all_more first more is are = list_all-append is_letter first more ∙ rw (is, are) refl

-- ---- who is refused for letters

letters_lack : {X : Type 0} (found : Option Letters) (next : Letters → Result X AuthorizerFault) → letters_then found next ≡ Err AuthorizerFault.BadLetter
    → ((l : Letters) → next l ≢ Err AuthorizerFault.BadLetter) → found ≡ None
letters_lack None next is never = refl
letters_lack (Some l) next is never = absurd (never l is)

path_never : {X : Type 0} (found : Result Path PathFault) (next : Path → Result X AuthorizerFault) → path_then found next ≡ Err AuthorizerFault.BadLetter
    → ((p : Path) → next p ≢ Err AuthorizerFault.BadLetter) → ⊥
path_never (Err why) next is never = absurd (cc)
path_never (Ok p) next is never = never p is

user_never : {X : Type 0} (found : Option User) (next : User → Result X AuthorizerFault) → user_then found next ≡ Err AuthorizerFault.BadLetter
    → ((u : User) → next u ≢ Err AuthorizerFault.BadLetter) → ⊥
user_never None next is never = absurd (cc)
user_never (Some u) next is never = never u is

user_found : {X : Type 0} (found : Option User) (next : User → Result X AuthorizerFault) → user_then found next ≡ Err AuthorizerFault.BadLetter
    → (u : User) × (next u ≡ Err AuthorizerFault.BadLetter)
user_found None next is = absurd (cc)
user_found (Some u) next is = (u, is)

ok_never : {X : Type 0} (x : X) → Ok x ≢ Err AuthorizerFault.BadLetter
ok_never x is = absurd (cc)

placed_if : (b : Bool) (new : Accounts) → cond b (Ok new) (Err AuthorizerFault.NoNumber) ≢ Err AuthorizerFault.BadLetter
placed_if true new is = absurd (cc)
placed_if false new is = absurd (cc)

placed_never : (old : Accounts) (name : List ℕ) (user : User) → placed old name user ≢ Err AuthorizerFault.BadLetter
placed_never old name user is =
    placed_if (nat_lt old.next (2 ^ 32)) (record { users = map.insert old.users name user; next = old.next + 1 }) is

not_there : (b : Bool) (next : Result Accounts AuthorizerFault) → cond b (Err AuthorizerFault.UserExists) next ≡ Err AuthorizerFault.BadLetter → next ≡ Err AuthorizerFault.BadLetter
not_there true next is = absurd (cc)
not_there false next is = is

added_lack : (old : Accounts) (name password home letters : List ℕ) → added old name password home letters ≡ Err AuthorizerFault.BadLetter → letters_of letters ≡ None
added_lack old name password home letters is =
    letters_lack (letters_of letters) _ (not_there (map.contains_key old.users name) _ is)
    (λ held e. path_never (resolved [] home) _ e (λ path f. placed_never old name (new_user old.next password path held) f))

overridden_lack : (old : Accounts) (name path letters : List ℕ) (recursive : Bool) → overridden old name path letters recursive ≡ Err AuthorizerFault.BadLetter → letters_of letters ≡ None
overridden_lack old name path letters recursive is =
    letters_lack (letters_of letters) _ (user_found (map.get old.users name) _ is).1
    (λ held e. path_never (resolved [] path) _ e (λ place f. ok_never _ f))

not_memory : (fault : AuthorizerFault) → fault ≡ AuthorizerFault.BadLetter → fault ≢ AuthorizerFault.Memory
not_memory fault same memory = absurd (let e : AuthorizerFault.BadLetter ≡ AuthorizerFault.Memory = sym same ∙ memory in cc)

-- an override is refused for letters only if they are none
rule_lacks : (old : Accounts) (name path letters : List ℕ) (recursive : Bool) (fault : AuthorizerFault)
    → Unless AuthorizerFault.Memory (λ why. overridden old name path letters recursive ≡ Err why) fault → fault ≡ AuthorizerFault.BadLetter → letters_of letters ≡ None
rule_lacks old name path letters recursive fault is same =
    overridden_lack old name path letters recursive (is (not_memory fault same) ∙ ap (λ (why : AuthorizerFault). Err why) same)

-- the same by its row
pub row_lacks : (old : Accounts) (name : List ℕ) (rule : OverrideTable) (fault : AuthorizerFault)
    → Unless AuthorizerFault.Memory (λ why. overridden old name rule.path.now rule.perms.now rule.recursive ≡ Err why) fault → fault ≡ AuthorizerFault.BadLetter → letters_of rule.perms.now ≡ None
row_lacks old name rule fault is same = rule_lacks old name rule.path.now rule.perms.now rule.recursive fault is same

refused_lacks : (group : Option ℕ) (user : UserTable) (old : Accounts) → IsRefusedAccount group user old AuthorizerFault.BadLetter → letters_of user.perms.now ≡ None
refused_lacks group user old (inl is) = added_lack old user.name.now user.password.now user.home.now user.perms.now is
refused_lacks group user old (inr (named, adds, inl is)) = absurd (user_never (map.get named.users user.name.now) _ is (λ u e. ok_never _ e))
refused_lacks group user old (inr (named, adds, inr (greeted, greets, is))) = absurd (user_never (map.get greeted.users user.name.now) _ is (λ u e. ok_never _ e))

-- and so is a user
pub account_lacks : (group : Option ℕ) (user : UserTable) (old : Accounts) (fault : AuthorizerFault)
    → Unless AuthorizerFault.Memory (IsRefusedAccount group user old) fault → fault ≡ AuthorizerFault.BadLetter → letters_of user.perms.now ≡ None
account_lacks group user old fault is same =
    refused_lacks group user old (subst (IsRefusedAccount group user old) same (is (not_memory fault same)))
