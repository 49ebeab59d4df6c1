-- What is written is read back.
use Rattle.std.proofs.Common.{◌≡◌, ◌∙◌, ℕ, ◌<◌, ◌+◌, ◌||◌, length, arith, Bool, true, false, cond, List, [], ◌∷◌, ◌++◌, codes, refl, ap, sym, subst, append_assoc, Option, Some}
use Rattle.std.specs.Fmt.{decimal}
use Rattle.std.specs.Prelude.{slice_index, unsigned_abs}
use Rattle.std.specs.List.{AllByRecursion, join_with_byte}
use Rattle.std.proofs.lemmas.Fmt.{decimal_nonempty}
use Rattle.std.proofs.lemmas.List.{length-append}
use Rattle.std.specs.Net.Text.{ipv4_text}
use Rattle.std.specs.Str.{IsUtf8, is_utf8}
use Rattle.std.proofs.lemmas.Str.{is_utf8-from_IsUtf8}
use Rattle.jiff_core.specs.declared.civil.date.Date.{Date}
use Rattle.jiff_core.specs.Date.{weekday_of}
use Rattle.ftp_reply.specs.Dates.{FallsOn}
use Rattle.ftp_reply.specs.Listings.{month_name}
use Rattle.transfer_log.specs.Lines.{IsTransferLine, access_text, ending_text, reported_moment, size_text, type_text, user_text, whole_seconds}
use Rattle.transfer_log.specs.Moments.{clock_text, date_text, day_name, four_digits, two_digits}
use Rattle.transfer_log.specs.Names.{field_text}
use Rattle.transfer_log.specs.declared.line.FileTransfer.{FileTransfer}
use Rattle.log_lines.specs.Lines.{line_of, line_of_words}
use Rattle.log_lines.specs.ReadBack.{IsHeld, IsReadBack, WhatIsWrittenIsRead, is_public, recorded}
use Rattle.log_lines.specs.Words.{Octets, parts}
use Rattle.log_lines.proofs.Fields.{field_name}
use Rattle.log_lines.proofs.Joined.{cut_joined, joined_utf8}
use Rattle.log_lines.proofs.MomentsBack.{clock_word}
use Rattle.log_lines.proofs.Numerals.{decimal_visible}
use Rattle.log_lines.proofs.Visible.{IsVisible, visible_both}
use Rattle.log_lines.proofs.Written.{IsFine, access_word, first_fine, form_word, rest_fine, rest_words, status_word, way_word, words_back, words_of}

type_words : (t : FileTransfer) → type_text t ≡ codes " " ++ form_word t.is_text ++ codes " " ++ codes "_" ++ codes " " ++ way_word t.is_sent ++ codes " "
type_words t = go t.is_text t.is_sent refl refl
  where
    go : (a b : Bool) → t.is_text ≡ a → t.is_sent ≡ b
        → type_text t ≡ codes " " ++ form_word t.is_text ++ codes " " ++ codes "_" ++ codes " " ++ way_word t.is_sent ++ codes " "
    go true true one other = rw (one, other) refl
    go true false one other = rw (one, other) refl
    go false true one other = rw (one, other) refl
    go false false one other = rw (one, other) refl

access_words : (b : Bool) → cond b (codes "a ") (codes "r ") ≡ access_word b ++ codes " "
access_words true = refl
access_words false = refl

ending_words : (b : Bool) → ending_text b ≡ codes " ftp 0 * " ++ status_word b ++ codes "\n"
ending_words true = refl
ending_words false = refl

-- words with blanks between them, before a text
abbrev glued : Octets → List Octets → Octets → Octets
glued first [] end = first ++ end
glued first (next ∷ words) end = first ++ 32 ∷ glued next words end

joined_glued : (first : Octets) (words : List Octets) (end : Octets) → join_with_byte 32 (first ∷ words) ++ end ≡ glued first words end
joined_glued first [] end = refl
joined_glued first (next ∷ words) end =
    append_assoc first (32 ∷ join_with_byte 32 (next ∷ words)) end
    ∙ ap (λ (more : Octets). first ++ 32 ∷ more) (joined_glued next words end)

moment_layout : (a b c k y z : Octets)
    → ((a ++ (32 ∷ []) ++ b ++ (32 ∷ []) ++ c ++ (32 ∷ [])) ++ (k ++ (32 ∷ [])) ++ y) ++ z
    ≡ a ++ 32 ∷ (b ++ 32 ∷ (c ++ 32 ∷ (k ++ 32 ∷ (y ++ z))))
moment_layout a b c k y z = simp append_assoc

size_layout : (s i o z : Octets) → ((32 ∷ []) ++ s ++ (32 ∷ []) ++ i ++ (32 ∷ []) ++ o ++ (32 ∷ [])) ++ z ≡ 32 ∷ (s ++ 32 ∷ (i ++ 32 ∷ (o ++ 32 ∷ z)))
size_layout s i o z = simp append_assoc

kind_layout : (f w z : Octets) → ((32 ∷ []) ++ f ++ (32 ∷ []) ++ (95 ∷ []) ++ (32 ∷ []) ++ w ++ (32 ∷ [])) ++ z ≡ 32 ∷ (f ++ 32 ∷ 95 ∷ 32 ∷ (w ++ 32 ∷ z))
kind_layout f w z = simp append_assoc

abbrev ending_part : Octets → Octets
ending_part e = (32 ∷ 102 ∷ 116 ∷ 112 ∷ 32 ∷ 48 ∷ 32 ∷ 42 ∷ 32 ∷ []) ++ e ++ (10 ∷ [])

abbrev kind_part : Octets → Octets → Octets
kind_part f w = (32 ∷ []) ++ f ++ (32 ∷ []) ++ (95 ∷ []) ++ (32 ∷ []) ++ w ++ (32 ∷ [])

abbrev size_part : Octets → Octets → Octets → Octets
size_part s i o = (32 ∷ []) ++ s ++ (32 ∷ []) ++ i ++ (32 ∷ []) ++ o ++ (32 ∷ [])

four : (a b c d : Octets) → a ++ b ++ c ++ d ≡ a ++ (b ++ (c ++ d))
four a b c d = append_assoc (a ++ b) c d ∙ append_assoc a b (c ++ d)

-- the parts of a line, one after another
layout : (a b c k y s i o p f w r u e : Octets)
    → ((a ++ (32 ∷ []) ++ b ++ (32 ∷ []) ++ c ++ (32 ∷ [])) ++ (k ++ (32 ∷ [])) ++ y)
    ++ size_part s i o ++ p ++ (kind_part f w ++ (r ++ (32 ∷ [])) ++ u ++ ending_part e)
    ≡ join_with_byte 32 (a ∷ b ∷ c ∷ k ∷ y ∷ s ∷ i ∷ o ∷ p ∷ f ∷ (95 ∷ []) ∷ w ∷ r ∷ u ∷ (102 ∷ 116 ∷ 112 ∷ []) ∷ (48 ∷ []) ∷ (42 ∷ []) ∷ e ∷ [])
    ++ (10 ∷ [])
layout a b c k y s i o p f w r u e =
    let tail = kind_part f w ++ (r ++ (32 ∷ [])) ++ u ++ ending_part e in
    four ((a ++ (32 ∷ []) ++ b ++ (32 ∷ []) ++ c ++ (32 ∷ [])) ++ (k ++ (32 ∷ [])) ++ y) (size_part s i o) p tail
    ∙ moment_layout a b c k y (size_part s i o ++ (p ++ tail))
    ∙ ap (λ (z : Octets). a ++ 32 ∷ (b ++ 32 ∷ (c ++ 32 ∷ (k ++ 32 ∷ (y ++ z)))))
    (size_layout s i o (p ++ tail)
    ∙ ap (λ (z : Octets). 32 ∷ (s ++ 32 ∷ (i ++ 32 ∷ (o ++ 32 ∷ (p ++ z)))))
    (four (kind_part f w) (r ++ (32 ∷ [])) u (ending_part e)
    ∙ kind_layout f w ((r ++ (32 ∷ [])) ++ (u ++ ending_part e))
    ∙ ap (λ (z : Octets). 32 ∷ (f ++ 32 ∷ 95 ∷ 32 ∷ (w ++ 32 ∷ z))) (append_assoc r (32 ∷ []) (u ++ ending_part e))))
    ∙ sym (joined_glued a (b ∷ c ∷ k ∷ y ∷ s ∷ i ∷ o ∷ p ∷ f ∷ (95 ∷ []) ∷ w ∷ r ∷ u ∷ (102 ∷ 116 ∷ 112 ∷ []) ∷ (48 ∷ []) ∷ (42 ∷ []) ∷ e ∷ []) (10 ∷ []))

text_words : (t : FileTransfer) (date : Date) (moment text : Octets)
    → moment ≡ date_text date ++ clock_text (reported_moment t) ++ four_digits (unsigned_abs date.year)
    → text ≡ moment ++ size_text t ++ field_text t.path.now ++ user_text t
    → text ≡ join_with_byte 32 (words_of t date) ++ codes "\n"
text_words t date moment text is_moment is_text =
    is_text
    ∙ ap (λ (m : Octets). m ++ size_text t ++ field_text t.path.now ++ user_text t) is_moment
    ∙ ap (λ (tail : Octets). (date_text date ++ clock_text (reported_moment t) ++ four_digits (unsigned_abs date.year)) ++ size_text t ++ field_text t.path.now ++ tail) tail_words
    ∙ layout (day_name (weekday_of date)) (month_name date.month) (two_digits date.day) (clock_word (reported_moment t))
    (four_digits (unsigned_abs date.year)) (decimal (whole_seconds t.micros)) (ipv4_text t.peer) (decimal t.octets)
    (field_text t.path.now) (form_word t.is_text) (way_word t.is_sent) (access_word (is_public t.user.now))
    (field_text t.user.now) (status_word t.is_whole)
  where
    tail_words : user_text t
        ≡ (codes " " ++ form_word t.is_text ++ codes " " ++ codes "_" ++ codes " " ++ way_word t.is_sent ++ codes " ")
        ++ (access_word (is_public t.user.now) ++ codes " ") ++ field_text t.user.now
        ++ (codes " ftp 0 * " ++ status_word t.is_whole ++ codes "\n")
    tail_words =
        ap (λ (x : Octets). x ++ access_text t.user.now ++ field_text t.user.now ++ ending_text t.is_whole) (type_words t)
        ∙ ap (λ (x : Octets). (codes " " ++ form_word t.is_text ++ codes " " ++ codes "_" ++ codes " " ++ way_word t.is_sent ++ codes " ") ++ x ++ field_text t.user.now ++ ending_text t.is_whole) (access_words (is_public t.user.now))
        ∙ ap (λ (x : Octets). (codes " " ++ form_word t.is_text ++ codes " " ++ codes "_" ++ codes " " ++ way_word t.is_sent ++ codes " ") ++ (access_word (is_public t.user.now) ++ codes " ") ++ field_text t.user.now ++ x) (ending_words t.is_whole)

line_back : (text : Octets) (ws : List Octets) → is_utf8 text ≡ true → parts 32 text ≡ ws → line_of text ≡ line_of_words ws
line_back text ws fine cut = rw fine (ap line_of_words cut)

read_back : (t : FileTransfer) (text : Octets) → IsFine t → IsTransferLine t text → IsReadBack t text
read_back t text fine written =
    let date = written.is_moment.date in
    let words = words_of t date in
    let first = first_fine date in
    let rest = rest_fine t date fine in
    record {
      date = date;
      falls_on = written.is_moment.falls_on;
      line = join_with_byte 32 words;
      ends = text_words t date written.moment text written.is_moment.text_is written.text_is;
      said =
          line_back (join_with_byte 32 words) words
          (is_utf8-from_IsUtf8 (join_with_byte 32 words) (joined_utf8 (day_name (weekday_of date)) (rest_words t date) first rest))
          (cut_joined (day_name (weekday_of date)) (rest_words t date) first rest)
          ∙ words_back t date written.is_moment.falls_on fine;
    }

dotted : (front last : List ℕ) → AllByRecursion IsVisible front → AllByRecursion IsVisible last → AllByRecursion IsVisible (front ++ codes "." ++ last)
dotted front last one other =
    visible_both (front ++ codes ".") last (visible_both front (codes ".") one ((omega arith, omega arith), tt)) other

address_visible : (octets : List ℕ) → ((i : ℕ) → slice_index octets i < 256) → AllByRecursion IsVisible (ipv4_text octets)
address_visible o small =
    dotted _ (decimal (slice_index o 3))
    (dotted _ (decimal (slice_index o 2))
    (dotted (decimal (slice_index o 0)) (decimal (slice_index o 1)) (one 0) (one 1)) (one 2)) (one 3)
  where
    one : (i : ℕ) → AllByRecursion IsVisible (decimal (slice_index o i))
    one i = decimal_visible (slice_index o i) (let h = small i in omega arith)

address_some : (octets : List ℕ) → ((i : ℕ) → slice_index octets i < 256) → 0 < length (ipv4_text octets)
address_some o small =
    let some = decimal_nonempty (slice_index o 3) (let h = small 3 in omega arith) in
    let front = decimal (slice_index o 0) ++ codes "." ++ decimal (slice_index o 1) ++ codes "." ++ decimal (slice_index o 2) ++ codes "." in
    let long : length (front ++ decimal (slice_index o 3)) ≡ length front + length (decimal (slice_index o 3)) = length-append front (decimal (slice_index o 3)) in
    subst (λ (n : ℕ). 0 < n) (sym long) (omega (arith, some))

pub law : WhatIsWrittenIsRead
law t text held written =
    read_back t text
    (record {
      micros = held.micros;
      octets = held.octets;
      address = address_visible t.peer held.peer;
      some = address_some t.peer held.peer;
      path = field_name t.path.now held.path;
      user = field_name t.user.now held.user;
    })
    written
