-- The letters of users' permissions.
use Rattle.std.specs.Prelude.{ℕ, ◌==◌, Bool, cond, ◌||◌, List, Option, Some, None}
use Rattle.std.specs.List.{list_any, list_all}
use Rattle.ftp_terms.specs.declared.letters.Letter.{Letter}
use Rattle.ftp_terms.specs.declared.letters.Letter.TheVariants.{ChangeDirectory, Listing, Retrieve, AppendTo, Delete, Rename, MakeDirectory, Store}
use Rattle.ftp_terms.specs.declared.letters.Letters.{Letters}

abbrev pub holds : Letters → Letter → Bool
holds letters ChangeDirectory = letters.change_directory
holds letters Listing = letters.listing
holds letters Retrieve = letters.retrieve
holds letters AppendTo = letters.append_to
holds letters Delete = letters.delete
holds letters Rename = letters.rename
holds letters MakeDirectory = letters.make_directory
holds letters Store = letters.store

-- one of e, l, r, a, d, f, m, w
abbrev pub is_letter : ℕ → Bool
is_letter octet = octet == 101 || octet == 108 || octet == 114 || octet == 97
    || octet == 100 || octet == 102 || octet == 109 || octet == 119

abbrev pub has_letter : List ℕ → ℕ → Bool
has_letter text letter = list_any (λ octet. octet == letter) text

-- the letters of a text, if it contains nothing else
abbrev pub letters_of : List ℕ → Option Letters
letters_of text = cond (list_all is_letter text)
    (Some (record {
      change_directory = has_letter text 101;
      listing = has_letter text 108;
      retrieve = has_letter text 114;
      append_to = has_letter text 97;
      delete = has_letter text 100;
      rename = has_letter text 102;
      make_directory = has_letter text 109;
      store = has_letter text 119;
    }))
    None
