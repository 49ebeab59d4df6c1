-- Listings and quoted paths stand on one line where the name or path does.
use Rattle.std.proofs.Common.{◌≡◌, ◌≢◌, ℕ, ◌-◌, ◌/◌, ◌%◌, zero, suc, Bool, true, ◌&&◌, if◌then◌else◌, List, [], ◌∷◌, length, refl, arith, codes, unsigned_abs, slice_index_or, ◌==◌}
use Rattle.std.proofs.Math.ListN.{replicate}
use Rattle.std.proofs.lemmas.Bool.{and_from, and_parts}
use Rattle.std.specs.Fmt.{decimal}
use Rattle.std.specs.List.{flat_map, list_all}
use Rattle.jiff_core.specs.declared.civil.date.Date.{Date}
use Rattle.ftp_terms.specs.declared.entries.EntryKind.{EntryKind}
use Rattle.ftp_terms.specs.declared.entries.EntryKind.TheVariants.{Directory, File}
use Rattle.ftp_terms.specs.declared.entries.Meta.{Meta}
use Rattle.ftp_terms.specs.declared.facts.Facts.{Facts}
use Rattle.ftp_terms.specs.declared.letters.Letters.{Letters}
use Rattle.ftp_terms.specs.Lines.{IsLine, is_line}
use Rattle.ftp_terms.proofs.LineLemmas.{IsPlain, both, either, one, plain, plain_decimal}
use Rattle.ftp_reply.specs.Dates.{IsTimeVal, time_val}
use Rattle.ftp_reply.specs.Listings.{IsListLine, IsMlstEntry, entry_facts, fact, has_size, list_text, listed_size, mode_text, month_name, month_names, perms, type_name}
use Rattle.ftp_reply.specs.Numbers.{right_in, spaced, zeroed}
use Rattle.ftp_reply.specs.Quoting.{doubled, quoted}

-- ---- parts

counted : (counts : Bool) {text : List ℕ} → IsPlain text → IsPlain (if counts then text else [])
counted counts line = either counts line (plain [] refl)

repeated : (n octet : ℕ) → octet ≢ 13 → octet ≢ 10 → IsPlain (replicate n octet)
repeated zero octet no_return no_feed = plain [] refl
repeated (suc n) octet no_return no_feed = both (one octet no_return no_feed) (repeated n octet no_return no_feed)

plain_right_in : (filler places n : ℕ) → filler ≢ 13 → filler ≢ 10 → IsPlain (right_in filler places n)
plain_right_in filler places n no_return no_feed =
    both (repeated (places - length (decimal n)) filler no_return no_feed) (plain_decimal n)

plain_spaced : (places n : ℕ) → IsPlain (spaced places n)
plain_spaced places n = plain_right_in 32 places n (omega arith) (omega arith)

plain_zeroed : (places n : ℕ) → IsPlain (zeroed places n)
plain_zeroed places n = plain_right_in 48 places n (omega arith) (omega arith)

plain_at : (texts : List (List ℕ)) (i : ℕ) → list_all is_line texts ≡ true → IsPlain (slice_index_or texts i [])
plain_at [] i line = plain [] refl
plain_at (text ∷ texts) zero line = record { is = (and_parts _ _ line).0 }
plain_at (text ∷ texts) (suc i) line = plain_at texts i (and_parts _ _ line).1

-- ---- whole texts

plain_mode : (kind : EntryKind) → IsPlain (mode_text kind)
plain_mode Directory = plain (mode_text Directory) refl
plain_mode File = plain (mode_text File) refl

plain_list_text : (entry : Meta) (name : List ℕ) (date : Date) → IsPlain name → IsPlain (list_text entry name date)
plain_list_text entry name date line =
    let space = plain (codes " ") refl in
    let mode = plain_mode entry.kind in
    let owner = plain (codes " 1 ftp ftp ") refl in
    let size = plain_spaced 12 (listed_size entry.kind entry.size) in
    let month : IsPlain (month_name date.month) = plain_at month_names _ refl in
    let day = plain_spaced 2 date.day in
    let spaces = plain (codes "  ") refl in
    let year = plain_zeroed 4 (unsigned_abs date.year) in
    both (both (both (both (both (both (both (both (both (both mode owner) size) space) month) space) day) spaces) year) space) line

plain_fact : {name value : List ℕ} → IsPlain name → IsPlain value → IsPlain (fact name value)
plain_fact name value = both (both (both name (plain (codes "=") refl)) value) (plain (codes ";") refl)

plain_type : (kind : EntryKind) → IsPlain (type_name kind)
plain_type Directory = plain (codes "dir") refl
plain_type File = plain (codes "file") refl

plain_perms : (kind : EntryKind) (letters : Letters) → IsPlain (perms kind letters)
plain_perms Directory letters =
    both (counted letters.store (plain (codes "c") refl))
    (both (counted letters.delete (plain (codes "d") refl))
    (both (counted letters.change_directory (plain (codes "e") refl))
    (both (counted letters.rename (plain (codes "f") refl))
    (both (counted letters.listing (plain (codes "l") refl))
    (both (counted letters.make_directory (plain (codes "m") refl))
    (both (counted letters.delete (plain (codes "p") refl)) (plain [] refl)))))))
plain_perms File letters =
    both (counted letters.append_to (plain (codes "a") refl))
    (both (counted letters.delete (plain (codes "d") refl))
    (both (counted letters.rename (plain (codes "f") refl))
    (both (counted letters.retrieve (plain (codes "r") refl))
    (both (counted letters.store (plain (codes "w") refl)) (plain [] refl)))))

plain_time_val : (seconds : ℕ) (date : Date) → IsPlain (time_val seconds date)
plain_time_val seconds date =
    both (both (both (both (both
    (plain_zeroed 4 (unsigned_abs date.year))
    (plain_zeroed 2 date.month))
    (plain_zeroed 2 date.day))
    (plain_zeroed 2 (seconds / 3600 % 24)))
    (plain_zeroed 2 (seconds / 60 % 60)))
    (plain_zeroed 2 (seconds % 60))

plain_facts : (entry : Meta) (facts : Facts) (letters : Letters) (modified : List ℕ)
    → IsPlain modified → IsPlain (entry_facts entry facts letters modified)
plain_facts entry facts letters modified line =
    both (counted facts.kind (plain_fact (plain (codes "type") refl) (plain_type entry.kind)))
    (both (counted (facts.size && has_size entry.kind) (plain_fact (plain (codes "size") refl) (plain_decimal entry.size)))
    (both (counted facts.modify (plain_fact (plain (codes "modify") refl) line))
    (both (counted facts.perm (plain_fact (plain (codes "perm") refl) (plain_perms entry.kind letters)))
    (plain [] refl))))

plain_doubled : (octet : ℕ) → IsPlain (octet ∷ []) → IsPlain (doubled octet)
plain_doubled octet line = either (octet == 34) (plain (codes "\"\"") refl) line

plain_octets : (path : List ℕ) → IsLine path → IsPlain (flat_map doubled path)
plain_octets [] line = plain [] refl
plain_octets (octet ∷ path) line =
    let parts = and_parts _ (is_line path) line in
    both (plain_doubled octet (record { is = and_from _ true parts.0 refl })) (plain_octets path parts.1)

-- ---- what the calls give

pub line_dated : (seconds : ℕ) (text : List ℕ) → IsTimeVal seconds text → IsLine text
line_dated seconds text reported = rw reported.text_is (plain_time_val seconds reported.date).is

pub line_listed : (entry : Meta) (name text : List ℕ) → IsListLine entry name text → IsLine name → IsLine text
line_listed entry name text reported line = rw reported.text_is (plain_list_text entry name reported.date (plain name line)).is

pub line_entry : (entry : Meta) (facts : Facts) (letters : Letters) (path text : List ℕ)
    → IsMlstEntry entry facts letters path text → IsLine path → IsLine text
line_entry entry facts letters path text reported line =
    let modified = plain reported.modified (line_dated entry.modified reported.modified reported.modified_is) in
    let space = plain (codes " ") refl in
    rw reported.text_is (both (both (plain_facts entry facts letters reported.modified modified) space) (plain path line)).is

pub line_quoted : (path text : List ℕ) → text ≡ quoted path → IsLine path → IsLine text
line_quoted path text reported line =
    rw reported (both (both (plain (codes "\"") refl) (plain_octets path line)) (plain (codes "\"") refl)).is
