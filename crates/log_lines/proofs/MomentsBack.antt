-- Moments as the log has them.
use Rattle.std.proofs.Common.{◌≡◌, ◌≢◌, ◌∙◌, ℕ, zero, suc, ◌==◌, ◌<◌, ◌≤◌, ◌+◌, ◌-◌, ◌*◌, ◌/◌, ◌%◌, ◌&&◌, ◌||◌, Bool, true, false, cond, List, [], ◌∷◌, ◌++◌, codes, refl, ap, sym, subst, rules, arith, tests, length, Option, Some, None}
use Rattle.std.specs.Prelude.{ℤ, pos, negsuc, ◌<ℤ◌, ◌≤ℤ◌, unsigned_abs, bytes_eq, nat_le, nat_lt}
use Rattle.std.specs.Option.{option_and_then}
use Rattle.std.proofs.lemmas.Int.{by_lt_z}
use Rattle.std.proofs.lemmas.Slice.Eq.{bytes_eq-Decides}
use Rattle.std.specs.List.{AllByRecursion}
use Rattle.jiff_core.specs.declared.civil.date.Date.{Date}
use Rattle.jiff_core.specs.Calendar.{IsYear, days_from_civil, days_in_month, weekday_number}
use Rattle.jiff_core.specs.Date.{epoch_day, weekday_of}
use Rattle.jiff_core.proofs.CalendarLemmas.{day_count-lt_year, days_from_civil-day_count, day_count-epoch, days_in_month_bounds}
use Rattle.jiff_core.proofs.DateLemmas.{civil}
use Rattle.jiff_core.proofs.SignedLemmas.{signed_arith}
use Rattle.ftp_reply.specs.Dates.{FallsOn}
use Rattle.ftp_reply.specs.Listings.{month_name}
use Rattle.transfer_log.specs.Moments.{day_name, four_digits, two_digits}
use Rattle.log_lines.specs.Moments.{clock_at, clock_of, day_of, is_day, moment_of, month_of, on_weekday, stated_clock, stated_day, weekday_name}
use Rattle.log_lines.specs.Numbers.{four_of, two_of}
use Rattle.log_lines.specs.declared.moment.LogDay.{LogDay}
use Rattle.log_lines.specs.ReadBack.{moment_on}
use Rattle.log_lines.proofs.Numerals.{four_back, two_back, two_visible}
use Rattle.log_lines.proofs.Visible.{IsVisible, visible_both}

pub month_back : (m : ℕ) → 1 ≤ m → m ≤ 12 → month_of (month_name m) ≡ Some m
month_back zero low high = absurd (omega arith)
month_back (suc zero) low high = refl
month_back (suc (suc zero)) low high = refl
month_back (suc (suc (suc zero))) low high = refl
month_back (suc (suc (suc (suc zero)))) low high = refl
month_back (suc (suc (suc (suc (suc zero))))) low high = refl
month_back (suc (suc (suc (suc (suc (suc zero)))))) low high = refl
month_back (suc (suc (suc (suc (suc (suc (suc zero))))))) low high = refl
month_back (suc (suc (suc (suc (suc (suc (suc (suc zero)))))))) low high = refl
month_back (suc (suc (suc (suc (suc (suc (suc (suc (suc zero))))))))) low high = refl
month_back (suc (suc (suc (suc (suc (suc (suc (suc (suc (suc zero)))))))))) low high = refl
month_back (suc (suc (suc (suc (suc (suc (suc (suc (suc (suc (suc zero))))))))))) low high = refl
month_back (suc (suc (suc (suc (suc (suc (suc (suc (suc (suc (suc (suc zero)))))))))))) low high = refl
month_back (suc (suc (suc (suc (suc (suc (suc (suc (suc (suc (suc (suc (suc m))))))))))))) low high = absurd (omega arith)

three : (a b c : ℕ) → IsVisible a → IsVisible b → IsVisible c → AllByRecursion IsVisible (a ∷ b ∷ c ∷ [])
three a b c one two last = (one, (two, (last, tt)))

pub month_visible : (m : ℕ) → 1 ≤ m → m ≤ 12 → AllByRecursion IsVisible (month_name m)
month_visible zero low high = absurd (omega arith)
month_visible (suc zero) low high = search (rules, arith)
month_visible (suc (suc zero)) low high = search (rules, arith)
month_visible (suc (suc (suc zero))) low high = search (rules, arith)
month_visible (suc (suc (suc (suc zero)))) low high = search (rules, arith)
month_visible (suc (suc (suc (suc (suc zero))))) low high = search (rules, arith)
month_visible (suc (suc (suc (suc (suc (suc zero)))))) low high = search (rules, arith)
month_visible (suc (suc (suc (suc (suc (suc (suc zero))))))) low high = search (rules, arith)
month_visible (suc (suc (suc (suc (suc (suc (suc (suc zero)))))))) low high = search (rules, arith)
month_visible (suc (suc (suc (suc (suc (suc (suc (suc (suc zero))))))))) low high = search (rules, arith)
month_visible (suc (suc (suc (suc (suc (suc (suc (suc (suc (suc zero)))))))))) low high = search (rules, arith)
month_visible (suc (suc (suc (suc (suc (suc (suc (suc (suc (suc (suc zero))))))))))) low high = search (rules, arith)
month_visible (suc (suc (suc (suc (suc (suc (suc (suc (suc (suc (suc (suc zero)))))))))))) low high = search (rules, arith)
month_visible (suc (suc (suc (suc (suc (suc (suc (suc (suc (suc (suc (suc (suc m))))))))))))) low high = absurd (omega arith)

pub day_name_visible : (day : ℕ) → AllByRecursion IsVisible (day_name day)
day_name_visible zero = search (rules, arith)
day_name_visible (suc zero) = search (rules, arith)
day_name_visible (suc (suc zero)) = search (rules, arith)
day_name_visible (suc (suc (suc zero))) = search (rules, arith)
day_name_visible (suc (suc (suc (suc zero)))) = search (rules, arith)
day_name_visible (suc (suc (suc (suc (suc zero))))) = search (rules, arith)
day_name_visible (suc (suc (suc (suc (suc (suc zero)))))) = search (rules, arith)
day_name_visible (suc (suc (suc (suc (suc (suc (suc day))))))) = tt

-- no moment is before 1970
pub year_is : (seconds : ℕ) (date : Date) → FallsOn seconds date → date.year ≡ pos (unsigned_abs date.year)
year_is seconds date falls = by_lt_z date.year (pos 0)
    (λ early.
    let before : date.year <ℤ pos 1970 = omega (arith, signed_arith) in
    let less = day_count-lt_year date.year date.month date.day (pos 1970) 1 1 (civil date) (omega arith) before in
    let parts = days_from_civil-day_count date.year date.month date.day in
    absurd (omega (arith, signed_arith, less, parts, falls, day_count-epoch)))
    (λ late. kept date.year late)
  where
    kept : (z : ℤ) → pos 0 ≤ℤ z → z ≡ pos (unsigned_abs z)
    kept (pos n) late = refl
    kept (negsuc n) late = absurd (omega (arith, signed_arith))

pub year_fits : (date : Date) → unsigned_abs date.year < 10000
year_fits date = go date.year date.year_in
  where
    go : (z : ℤ) → IsYear z → unsigned_abs z < 10000
    go (pos n) inside = omega (arith, signed_arith, inside.0, inside.1)
    go (negsuc n) inside = omega (arith, signed_arith, inside.0, inside.1)

pub same_text : (text : List ℕ) → bytes_eq text text ≡ true
same_text text = (bytes_eq-Decides text text).1 refl

pub same_texts : (one other : List ℕ) → one ≡ other → bytes_eq one other ≡ true
same_texts one other e = subst (λ (text : List ℕ). bytes_eq one text ≡ true) e (same_text one)

stated_back : (oy om od : Option ℕ) (y m d : ℕ) → oy ≡ Some y → om ≡ Some m → od ≡ Some d → stated_day oy om od ≡ day_of y m d
stated_back oy om od y m d one two three = rw (one, two, three) refl

day_fine : (seconds : ℕ) (date : Date) → FallsOn seconds date → is_day (unsigned_abs date.year) date.month date.day ≡ true
day_fine seconds date falls =
    let month = date.month_in in
    let low : nat_le 1 date.month ≡ true = let h = month.0 in search (rules, tests) in
    let high : nat_le date.month 12 ≡ true = let h = month.1 in search (rules, tests) in
    let first : nat_le 1 date.day ≡ true = let h = date.day_in.0 in search (rules, tests) in
    let last : nat_le date.day (days_in_month date.year date.month) ≡ true = let h = date.day_in.1 in search (rules, tests) in
    let last_here : nat_le date.day (days_in_month (pos (unsigned_abs date.year)) date.month) ≡ true =
    subst (λ (z : ℤ). nat_le date.day (days_in_month z date.month) ≡ true) (year_is seconds date falls) last in
    rw (low, high, first, last_here) refl

weekday_back : (seconds : ℕ) (date : Date) → FallsOn seconds date
    → bytes_eq (weekday_name (unsigned_abs date.year) date.month date.day) (day_name (weekday_of date)) ≡ true
weekday_back seconds date falls =
    same_texts _ _ (ap (λ (z : ℤ). day_name (weekday_number (days_from_civil z date.month date.day))) (sym (year_is seconds date falls)))

day_back : (seconds : ℕ) (date : Date) → FallsOn seconds date
    → option_and_then (on_weekday (day_name (weekday_of date))) (day_of (unsigned_abs date.year) date.month date.day)
    ≡ Some (record { year = unsigned_abs date.year; month = date.month; day = date.day })
day_back seconds date falls = rw (day_fine seconds date falls) (rw (weekday_back seconds date falls) refl)

-- the text of a time of day
abbrev pub clock_word : ℕ → List ℕ
clock_word seconds =
    two_digits (seconds / 3600 % 24) ++ codes ":" ++ two_digits (seconds / 60 % 60) ++ codes ":" ++ two_digits (seconds % 60)

pub clock_back : (seconds : ℕ) → clock_of (clock_word seconds) ≡ Some (seconds / 3600 % 24, seconds / 60 % 60, seconds % 60)
clock_back seconds =
    let hour : seconds / 3600 % 24 < 24 = omega arith in
    let minute : seconds / 60 % 60 < 60 = omega arith in
    let second : seconds % 60 < 60 = omega arith in
    let one = two_back (seconds / 3600 % 24) (omega arith) in
    let two = two_back (seconds / 60 % 60) (omega arith) in
    let three = two_back (seconds % 60) (omega arith) in
    stated (two_of (two_digits (seconds / 3600 % 24))) (two_of (two_digits (seconds / 60 % 60))) (two_of (two_digits (seconds % 60))) one two three
    ∙ at_back (seconds / 3600 % 24) (seconds / 60 % 60) (seconds % 60) hour minute second
  where
    stated : {h m s : ℕ} (oh om os : Option ℕ) → oh ≡ Some h → om ≡ Some m → os ≡ Some s → stated_clock oh om os ≡ clock_at h m s
    stated oh om os a b c = rw (a, b, c) refl

    at_back : (h m s : ℕ) → h < 24 → m < 60 → s < 60 → clock_at h m s ≡ Some (h, m, s)
    at_back h m s one two three =
        let first : nat_lt h 24 ≡ true = search (rules, tests) in
        let second : nat_lt m 60 ≡ true = search (rules, tests) in
        let third : nat_lt s 60 ≡ true = search (rules, tests) in
        rw (first, second, third) refl

pub clock_visible : (seconds : ℕ) → AllByRecursion IsVisible (clock_word seconds)
clock_visible seconds =
    let hour = two_visible (seconds / 3600 % 24) (omega arith) in
    let minute = two_visible (seconds / 60 % 60) (omega arith) in
    let second = two_visible (seconds % 60) (omega arith) in
    visible_both (two_digits (seconds / 3600 % 24)) (codes ":" ++ two_digits (seconds / 60 % 60) ++ codes ":" ++ two_digits (seconds % 60))
    hour
    ((omega arith, omega arith), visible_both (two_digits (seconds / 60 % 60)) (codes ":" ++ two_digits (seconds % 60)) minute ((omega arith, omega arith), second))

pub day_small : (date : Date) → date.day < 100
day_small date =
    let most = days_in_month_bounds date.year date.month in
    let last = date.day_in.1 in
    omega (arith, most.0, last)

-- the words of a moment are read as that moment
pub moment_back : (seconds : ℕ) (date : Date) → FallsOn seconds date
    → moment_of (day_name (weekday_of date)) (month_name date.month) (two_digits date.day) (clock_word seconds) (four_digits (unsigned_abs date.year))
    ≡ Some (moment_on date seconds)
moment_back seconds date falls =
    let day = stated_back (four_of (four_digits (unsigned_abs date.year))) (month_of (month_name date.month)) (two_of (two_digits date.day))
    (unsigned_abs date.year) date.month date.day
    (four_back (unsigned_abs date.year) (year_fits date)) (month_back date.month date.month_in.0 date.month_in.1)
    (two_back date.day (day_small date)) in
    rw (day, day_back seconds date falls, clock_back seconds) refl
