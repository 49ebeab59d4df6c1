-- The lines of a report on the users.
use Rattle.std.specs.Prelude.{ℕ, if◌then◌else◌, nat_eq, List, [], ◌∷◌, ◌++◌, bytes_eq, codes, cond, length, Option, Some, None}
use Rattle.std.specs.Borrow.{Bor}
use Rattle.std.specs.List.{flat_map, list_any}
use Rattle.config_file.specs.declared.stated.OverrideTable.{OverrideTable}
use Rattle.config_file.specs.declared.stated.UserTable.{UserTable}
use Rattle.rate_columns.specs.Columns.{left}
use Rattle.config_report.specs.declared.seen.SeenUser.{SeenUser}

-- ---- permissions

-- a text if the letter is among others
abbrev pub word_if : List ℕ → ℕ → List ℕ → List ℕ
word_if letters letter word = cond (list_any (nat_eq letter) letters) word (codes "")

-- the letters among these in their order, `elradfmw`, each once
abbrev pub ordered : List ℕ → List ℕ
ordered letters =
    word_if letters 101 (codes "e") ++ (word_if letters 108 (codes "l")
    ++ (word_if letters 114 (codes "r") ++ (word_if letters 97 (codes "a")
    ++ (word_if letters 100 (codes "d") ++ (word_if letters 102 (codes "f")
    ++ (word_if letters 109 (codes "m") ++ word_if letters 119 (codes "w")))))))

-- the words of all that the letters permit, each followed by a comma and a blank
unfoldable pub permitted : List ℕ → List ℕ
permitted letters =
    word_if letters 101 (codes "change directory, ") ++ (word_if letters 108 (codes "list, ")
    ++ (word_if letters 114 (codes "retrieve, ") ++ (word_if letters 97 (codes "append, ")
    ++ (word_if letters 100 (codes "delete, ") ++ (word_if letters 102 (codes "rename, ")
    ++ (word_if letters 109 (codes "make directories, ")
    ++ word_if letters 119 (codes "store, ")))))))

-- the words after them
abbrev pub rest_word : List ℕ → List ℕ
rest_word letters = if nat_eq (length letters) 0 then codes "nothing" else codes "nothing else"

-- ---- a user

-- the name of a group; a dash for none
abbrev pub group_text : Option (Bor (List ℕ)) → List ℕ
group_text None = codes "-"
group_text (Some name) = name.now

abbrev pub users_head : List ℕ
users_head =
    10 ∷ left 16 (codes "user") ++ codes " " ++ left 10 (codes "may") ++ codes " "
    ++ left 16 (codes "group") ++ codes " home" ++ 10 ∷ []

abbrev pub user_line : UserTable → List ℕ
user_line user =
    left 16 user.name.now ++ codes " " ++ left 10 (ordered user.perms.now) ++ codes " "
    ++ left 16 (group_text user.group) ++ codes " " ++ user.home.now ++ 10 ∷ []

-- ---- its overrides and texts

-- the paths that an override covers, from its own
abbrev pub reach_text : OverrideTable → List ℕ
reach_text rule =
    if rule.recursive then codes "and all beneath it" else codes "and the entries in it"

abbrev pub override_line : OverrideTable → List ℕ
override_line rule =
    codes "  " ++ left 14 rule.path.now ++ codes " " ++ left 10 (ordered rule.perms.now)
    ++ codes " " ++ reach_text rule ++ 10 ∷ []

-- the text of a reply, unless it is the usual one
abbrev pub text_line : List ℕ → List ℕ → List ℕ → List ℕ
text_line head usual reported = if bytes_eq reported usual then [] else head ++ reported ++ 10 ∷ []

abbrev pub login_line : UserTable → List ℕ
login_line user = text_line (codes "  at login: ") (codes "Welcome") user.msg_login.now

abbrev pub quit_line : UserTable → List ℕ
quit_line user = text_line (codes "  at QUIT: ") (codes "Goodbye") user.msg_quit.now

unfoldable pub user_lines : SeenUser → List ℕ
user_lines row =
    user_line row.user.now ++ flat_map override_line row.overrides.now ++ login_line row.user.now
    ++ quit_line row.user.now
