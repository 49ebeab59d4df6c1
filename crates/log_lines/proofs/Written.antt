-- The line of a transfer, as its words.
use Rattle.std.proofs.Common.{◌≡◌, ◌∙◌, ℕ, zero, suc, ◌==◌, ◌<◌, ◌≤◌, ◌^◌, ◌&&◌, ◌||◌, Bool, true, false, cond, List, [], ◌∷◌, ◌++◌, codes, refl, ap, sym, subst, rules, arith, tests, length, Option, Some, None, append_assoc}
use Rattle.std.specs.Fmt.{decimal}
use Rattle.std.specs.Prelude.{unsigned_abs}
use Rattle.std.specs.List.{AllByRecursion, join_with_byte}
use Rattle.std.specs.Net.Text.{ipv4_text}
use Rattle.std.specs.Option.{option_and_then, option_map}
use Rattle.std.specs.Str.{IsUtf8, bytes_eq, is_utf8}
use Rattle.std.proofs.lemmas.Fmt.{decimal_nonempty}
use Rattle.std.proofs.lemmas.List.{length-append}
use Rattle.std.proofs.lemmas.Str.{is_utf8-from_IsUtf8}
use Rattle.jiff_core.specs.declared.civil.date.Date.{Date}
use Rattle.jiff_core.specs.Date.{weekday_of}
use Rattle.ftp_reply.specs.Dates.{FallsOn}
use Rattle.ftp_reply.specs.Listings.{month_name}
use Rattle.transfer_log.specs.Lines.{IsTransferLine, access_text, ending_text, reported_moment, size_text, type_text, user_text, whole_seconds}
use Rattle.transfer_log.specs.Moments.{IsMoment, clock_text, date_text, day_name, four_digits, two_digits}
use Rattle.transfer_log.specs.Names.{field_text}
use Rattle.transfer_log.specs.declared.line.FileTransfer.{FileTransfer}
use Rattle.log_lines.specs.Kinds.{ending_of, kind_of, kind_taken}
use Rattle.log_lines.specs.Lines.{Line, Size, line_of, line_of_words, name_taken, size_at, size_of, size_taken}
use Rattle.log_lines.specs.Moments.{moment_taken}
use Rattle.log_lines.specs.Names.{is_name}
use Rattle.log_lines.specs.Numbers.{number_of}
use Rattle.log_lines.specs.ReadBack.{IsReadBack, is_public, moment_on, recorded}
use Rattle.log_lines.specs.Words.{Octets, parts}
use Rattle.log_lines.specs.declared.kind.Kind.{Kind}
use Rattle.log_lines.specs.declared.moment.LogMoment.{LogMoment}
use Rattle.log_lines.proofs.Fields.{IsNameText}
use Rattle.log_lines.proofs.Joined.{IsWord, cut_joined, joined_utf8}
use Rattle.log_lines.proofs.MomentsBack.{clock_word, day_name_visible, moment_back, month_visible, year_fits, clock_visible, day_small}
use Rattle.log_lines.proofs.Numerals.{decimal_visible, four_visible, number_back, two_visible, visible_name}
use Rattle.log_lines.proofs.Visible.{IsVisible, visible_both, visible_word}

abbrev pub form_word : Bool → Octets
form_word true = codes "a"
form_word false = codes "b"

abbrev pub way_word : Bool → Octets
way_word true = codes "o"
way_word false = codes "i"

abbrev pub access_word : Bool → Octets
access_word true = codes "a"
access_word false = codes "r"

abbrev pub status_word : Bool → Octets
status_word true = codes "c"
status_word false = codes "i"

kind_back : (t s p : Bool) → kind_of (form_word t) (codes "_") (way_word s) (access_word p) ≡ Some (record { is_text = t; is_sent = s; is_public = p })
kind_back true true true = refl
kind_back true true false = refl
kind_back true false true = refl
kind_back true false false = refl
kind_back false true true = refl
kind_back false true false = refl
kind_back false false true = refl
kind_back false false false = refl

ending_back : (w : Bool) → ending_of (codes "ftp" ∷ codes "0" ∷ codes "*" ∷ status_word w ∷ []) ≡ Some w
ending_back true = refl
ending_back false = refl

sized : (one other : Bool) (os oo : Option ℕ) (s o : ℕ) (address path : Octets) → one ≡ true → other ≡ true → os ≡ Some s → oo ≡ Some o
    → cond (one && other) (option_and_then (λ n. option_map (size_at address path n) oo) os) None ≡ Some (size_at address path s o)
sized one other os oo s o address path a b c d = rw (a, b, c, d) refl

-- what the line says, word by word
abbrev pub rest_words : FileTransfer → Date → List Octets
rest_words t date =
    month_name date.month ∷ two_digits date.day ∷ clock_word (reported_moment t)
    ∷ four_digits (unsigned_abs date.year) ∷ decimal (whole_seconds t.micros) ∷ ipv4_text t.peer ∷ decimal t.octets
    ∷ field_text t.path.now ∷ form_word t.is_text ∷ codes "_" ∷ way_word t.is_sent ∷ access_word (is_public t.user.now)
    ∷ field_text t.user.now ∷ codes "ftp" ∷ codes "0" ∷ codes "*" ∷ status_word t.is_whole ∷ []

abbrev pub words_of : FileTransfer → Date → List Octets
words_of t date = day_name (weekday_of date) ∷ rest_words t date

-- the ranges of a transfer's numbers, and that its texts are UTF-8
pub record IsFine (t : FileTransfer) : Type 0 where
  pub micros : t.micros < 2 ^ 64
  pub octets : t.octets < 2 ^ 64
  pub address : AllByRecursion IsVisible (ipv4_text t.peer)
  pub some : 0 < length (ipv4_text t.peer)
  pub path : IsNameText (field_text t.path.now)
  pub user : IsNameText (field_text t.user.now)

seconds_fit : (micros : ℕ) → micros < 2 ^ 64 → whole_seconds micros < 2 ^ 64
seconds_fit micros fits = grind (arith, fits)

letter_word : (c : ℕ) → IsVisible c → IsWord (c ∷ [])
letter_word c fine = visible_word (c ∷ []) (fine, tt)

form_fine : (b : Bool) → IsWord (form_word b)
form_fine true = letter_word 97 (omega arith, omega arith)
form_fine false = letter_word 98 (omega arith, omega arith)

way_fine : (b : Bool) → IsWord (way_word b)
way_fine true = letter_word 111 (omega arith, omega arith)
way_fine false = letter_word 105 (omega arith, omega arith)

access_fine : (b : Bool) → IsWord (access_word b)
access_fine true = letter_word 97 (omega arith, omega arith)
access_fine false = letter_word 114 (omega arith, omega arith)

status_fine : (b : Bool) → IsWord (status_word b)
status_fine true = letter_word 99 (omega arith, omega arith)
status_fine false = letter_word 105 (omega arith, omega arith)

ftp_fine : IsWord (codes "ftp")
ftp_fine = visible_word (codes "ftp") ((omega arith, omega arith), ((omega arith, omega arith), ((omega arith, omega arith), tt)))

pub first_fine : (date : Date) → IsWord (day_name (weekday_of date))
first_fine date = visible_word (day_name (weekday_of date)) (day_name_visible (weekday_of date))

pub rest_fine : (t : FileTransfer) (date : Date) → IsFine t → AllByRecursion IsWord (rest_words t date)
rest_fine t date fine = (
  visible_word (month_name date.month) (month_visible date.month date.month_in.0 date.month_in.1),
  (
    visible_word (two_digits date.day) (two_visible date.day (day_small date)),
    (
      visible_word (clock_word (reported_moment t)) (clock_visible (reported_moment t)),
      (
        visible_word (four_digits (unsigned_abs date.year)) (four_visible (unsigned_abs date.year) (year_fits date)),
        (
          visible_word (decimal (whole_seconds t.micros)) (decimal_visible (whole_seconds t.micros) (seconds_fit t.micros fine.micros)),
          (
            visible_word (ipv4_text t.peer) fine.address,
            (
              visible_word (decimal t.octets) (decimal_visible t.octets fine.octets),
              (
                fine.path.word,
                (
                  form_fine t.is_text,
                  (
                    letter_word 95 (omega arith, omega arith),
                    (
                      way_fine t.is_sent,
                      (
                        access_fine (is_public t.user.now),
                        (
                          fine.user.word,
                          (
                            ftp_fine,
                            (
                              letter_word 48 (omega arith, omega arith),
                              (
                                letter_word 42 (omega arith, omega arith),
                                (status_fine t.is_whole, tt),
                              ),
                            ),
                          ),
                        ),
                      ),
                    ),
                  ),
                ),
              ),
            ),
          ),
        ),
      ),
    ),
  ),
)

-- the words after the user, the kind, the size and the moment
abbrev after_user : FileTransfer → List Octets
after_user t = codes "ftp" ∷ codes "0" ∷ codes "*" ∷ status_word t.is_whole ∷ []

abbrev after_kind : FileTransfer → List Octets
after_kind t = field_text t.user.now ∷ after_user t

abbrev after_size : FileTransfer → List Octets
after_size t = form_word t.is_text ∷ codes "_" ∷ way_word t.is_sent ∷ access_word (is_public t.user.now) ∷ after_kind t

abbrev after_moment : FileTransfer → List Octets
after_moment t =
    decimal (whole_seconds t.micros) ∷ ipv4_text t.peer ∷ decimal t.octets ∷ field_text t.path.now ∷ after_size t

abbrev the_size : FileTransfer → Size
the_size t = size_at (ipv4_text t.peer) (field_text t.path.now) (whole_seconds t.micros) t.octets

abbrev the_kind : FileTransfer → Kind
the_kind t = record { is_text = t.is_text; is_sent = t.is_sent; is_public = is_public t.user.now }

moment_step : (t : FileTransfer) (date : Date) → FallsOn (reported_moment t) date
    → moment_taken (words_of t date) ≡ Some (moment_on date (reported_moment t), after_moment t)
moment_step t date falls = ap (option_map (λ m. (m, after_moment t))) (moment_back (reported_moment t) date falls)

size_step : (t : FileTransfer) → IsFine t → size_taken (after_moment t) ≡ Some (the_size t, after_size t)
size_step t fine =
    ap (option_map (λ s. (s, after_size t)))
    (sized (is_name (ipv4_text t.peer)) (is_name (field_text t.path.now)) (number_of (decimal (whole_seconds t.micros))) (number_of (decimal t.octets))
    (whole_seconds t.micros) t.octets (ipv4_text t.peer) (field_text t.path.now)
    (visible_name (ipv4_text t.peer) fine.some fine.address) fine.path.name
    (number_back (whole_seconds t.micros) (seconds_fit t.micros fine.micros)) (number_back t.octets fine.octets))

kind_step : (t : FileTransfer) → kind_taken (after_size t) ≡ Some (the_kind t, after_kind t)
kind_step t = ap (option_map (λ k. (k, after_kind t))) (kind_back t.is_text t.is_sent (is_public t.user.now))

name_step : (t : FileTransfer) → IsFine t → name_taken (after_kind t) ≡ Some (field_text t.user.now, after_user t)
name_step t fine = ap (λ (b : Bool). cond b (Some (field_text t.user.now, after_user t)) None) fine.user.name

-- the parts of a line, one after another
put : (words : List Octets) (m : LogMoment) (s : Size) (k : Kind) (u : Octets) (w : Bool) (one two three four : List Octets)
    → moment_taken words ≡ Some (m, one) → size_taken one ≡ Some (s, two) → kind_taken two ≡ Some (k, three)
    → name_taken three ≡ Some (u, four) → ending_of four ≡ Some w
    → line_of_words words ≡ Some (record { ended = m; size = s; kind = k; user = u; is_whole = w })
put words m s k u w one two three four a b c d e = rw a (rw b (rw c (rw d (rw e refl))))

pub words_back : (t : FileTransfer) (date : Date) → FallsOn (reported_moment t) date → IsFine t
    → line_of_words (words_of t date) ≡ Some (recorded t date)
words_back t date falls fine =
    put (words_of t date) (moment_on date (reported_moment t)) (the_size t) (the_kind t) (field_text t.user.now) t.is_whole
    (after_moment t) (after_size t) (after_kind t) (after_user t)
    (moment_step t date falls) (size_step t fine) (kind_step t) (name_step t fine) (ending_back t.is_whole)
