-- The stored form of users.
use Rattle.std.specs.Prelude.{ℕ, Bool, List, Option, Some, None, map, codes, refl}
use Rattle.std.specs.BTreeMap.{BTreeMap}
use Rattle.std.specs.Coded.{Coded, code_by, coded×, coded_ℕ, coded_bool, coded_list, coded_option}
use Rattle.std.specs.Cmp.Lexicographic.{slice_cmp}
use Rattle.std.specs.FinMap as finite
use Rattle.std.specs.Ordering.{nat_cmp}
use Rattle.std.specs.Prelude.{String}
use Rattle.std.specs.String.{string_bytes}
use Rattle.ftp_terms.specs.LineText.{text_of}
use Rattle.ftp_terms.specs.declared.letters.Letters.{Letters}
use Rattle.ftp_terms.specs.declared.line_text.LineText.{LineText}
use Rattle.authorizer.specs.declared.account.Rule.{Rule}
use Rattle.authorizer.specs.declared.account.Account.{Account}
use Rattle.authorizer.specs.Users.{Overrides, User, Users, Accounts}

-- a map whose keys are texts, by their octets, with its values mapped by v
abbrev pub map_of : {Y X V : Type 0} → (X → V) → BTreeMap (String Y) X
    → finite.FinMap (slice_cmp nat_cmp) V
map_of v m = finite.from_entries (map (λ e. (string_bytes e.0, v e.1)) m.entries)

-- a message, or the default if none was set
abbrev pub message_of : {Y : Type 0} → List ℕ → Option (LineText Y) → List ℕ
message_of plain None = plain
message_of plain (Some text) = text_of text

abbrev pub user_of : {Y : Type 0} → Account Y → User
user_of account = record {
  number = account.number;
  password = string_bytes account.password;
  home = account.home;
  letters = account.letters;
  login = message_of (codes "Welcome") account.login;
  quit = message_of (codes "Goodbye") account.quit;
  overrides = map_of (λ rule. rule) account.overrides;
  group = account.group;
}

-- codes, by which proofs distinguish values
abbrev pub letters_code : Coded Letters
letters_code = code_by (((Bool × Bool) × (Bool × Bool)) × ((Bool × Bool) × (Bool × Bool)))
    (coded× (coded× (coded× coded_bool coded_bool) (coded× coded_bool coded_bool))
    (coded× (coded× coded_bool coded_bool) (coded× coded_bool coded_bool)))
    (λ l. (
      ((l.change_directory, l.listing), (l.retrieve, l.append_to)),
      ((l.delete, l.rename), (l.make_directory, l.store)),
    ))
    (λ p. record {
      change_directory = p.0.0.0;
      listing = p.0.0.1;
      retrieve = p.0.1.0;
      append_to = p.0.1.1;
      delete = p.1.0.0;
      rename = p.1.0.1;
      make_directory = p.1.1.0;
      store = p.1.1.1;
    })
    (λ _. refl)

abbrev pub rule_code : Coded Rule
rule_code =
    code_by (Letters × Bool) (coded× letters_code coded_bool) (λ r. (r.letters, r.recursive))
    (λ p. record { letters = p.0; recursive = p.1 }) (λ _. refl)

abbrev pub overrides_code : Coded Overrides
overrides_code = finite.code (coded_list coded_ℕ) rule_code

abbrev pub user_code : Coded User
user_code =
    code_by (((ℕ × List ℕ) × (List (List ℕ) × Letters))
    × ((List ℕ × List ℕ) × (Overrides × Option ℕ)))
    (coded× (coded× (coded× coded_ℕ (coded_list coded_ℕ))
    (coded× (coded_list (coded_list coded_ℕ)) letters_code))
    (coded× (coded× (coded_list coded_ℕ) (coded_list coded_ℕ))
    (coded× overrides_code (coded_option coded_ℕ))))
    (λ u. (
      ((u.number, u.password), (u.home, u.letters)),
      ((u.login, u.quit), (u.overrides, u.group)),
    ))
    (λ p. record {
      number = p.0.0.0;
      password = p.0.0.1;
      home = p.0.1.0;
      letters = p.0.1.1;
      login = p.1.0.0;
      quit = p.1.0.1;
      overrides = p.1.1.0;
      group = p.1.1.1;
    })
    (λ _. refl)

abbrev pub accounts_code : Coded Accounts
accounts_code =
    code_by (Users × ℕ) (coded× (finite.code (coded_list coded_ℕ) user_code) coded_ℕ)
    (λ a. (a.users, a.next)) (λ p. record { users = p.0; next = p.1 }) (λ _. refl)
