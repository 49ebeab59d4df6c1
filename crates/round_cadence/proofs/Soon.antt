-- Rows that a round closes open soon after it.
use Rattle.std.proofs.Common.{ℕ, ◌+◌, ◌-◌, ◌^◌, ◌<◌, ◌≤◌, min, max, nat_eq, Bool, true, false, if◌then◌else◌, List, length, get_or, Option, Some, None, ◌⊎◌, inl, inr, sym, subst, arith}
use Rattle.std.proofs.lemmas.List.{get_or-set_same, set_past}
use Rattle.line_rates.specs.declared.ask.Way.{Way}
use Rattle.line_rates.specs.declared.ask.Way.TheVariants.{Down, Up}
use Rattle.round_pace.specs.declared.credit.Credit.{Credit}
use Rattle.round_pace.specs.declared.rows.TransferRows.{TransferRows}
use Rattle.round_pace.specs.Rows.{has_floor}
use Rattle.round_cadence.specs.declared.beat.Beat.{Beat}
use Rattle.round_cadence.specs.declared.beat.WayBeats.{WayBeats}
use Rattle.round_cadence.specs.Intervals.{next_opening}
use Rattle.round_cadence.specs.Beats.{new_beats, in_way, change, capped, settled, is_drained, interval_after, opens_after}
use Rattle.round_cadence.specs.Cadences.{Beats, opens_at, opens_for, opens_of, change_at, change_for, line_opens, inner_opens, own_opens, aligned, align_if, settled_of, settle_of}
use Rattle.round_cadence.proofs.LeastIntervals.{is_interval}

next_soon : (tick i : ℕ) → i ≤ 32 → min (next_opening tick i) (2 ^ 64 - 1) ≤ tick + 32
next_soon tick i most = omega arith

pick_opens : (x : Bool) (m n : ℕ) → m ≤ n → (if x then m else 0) ≤ n
pick_opens true m n le = le
pick_opens false m n le = omega arith

opens_soon : (tick : ℕ) (c : Credit) (b : Beat) → opens_after tick c b ≤ tick + 32
opens_soon tick c b = pick_opens (is_drained c) (min (next_opening tick (interval_after c b)) (2 ^ 64 - 1)) (tick + 32) (next_soon tick (interval_after c b) (is_interval c.rate _).most)

pick_beat : (x : Bool) (a b : Beat) (n : ℕ) → a.opens ≤ n → b.opens ≤ n → (if x then a else b).opens ≤ n
pick_beat true a b n p q = p
pick_beat false a b n p q = q

settled_soon : (tick : ℕ) (c : Credit) (b : Beat) → b.opens ≤ tick + 32 → (settled tick c b).opens ≤ tick + 32
settled_soon tick c b le = pick_beat b.is_asked _ b (tick + 32) (opens_soon tick c b) le

way_soon : (tick : ℕ) (c : Credit) (way : Way) (b : WayBeats) → (in_way way b).opens ≤ tick + 32 → (in_way way (change way (settled tick c) b)).opens ≤ tick + 32
way_soon tick c Down b le = settled_soon tick c b.down le
way_soon tick c Up b le = settled_soon tick c b.up le

place_soon : (tick : ℕ) (c : Credit) (way : Way) (n : ℕ) (bs : List WayBeats) → (n < length bs) ⊎ (length bs ≤ n) → opens_at way bs n ≤ tick + 32 → opens_at way (change_at way (settled tick c) n bs) n ≤ tick + 32
place_soon tick c way n bs (inl lt) le =
    let changed : WayBeats = change way (settled tick c) (get_or bs n new_beats) in
    subst (λ (b : WayBeats). (in_way way b).opens ≤ tick + 32) (sym (get_or-set_same bs n changed new_beats lt)) (way_soon tick c way (get_or bs n new_beats) le)
place_soon tick c way n bs (inr ge) le =
    let changed : WayBeats = change way (settled tick c) (get_or bs n new_beats) in
    subst (λ (l : List WayBeats). opens_at way l n ≤ tick + 32) (sym (set_past bs n changed ge)) le

at_soon : (tick : ℕ) (c : Credit) (way : Way) (n : ℕ) (bs : List WayBeats) → opens_at way bs n ≤ tick + 32 → opens_at way (change_at way (settled tick c) n bs) n ≤ tick + 32
at_soon tick c way n bs le = place_soon tick c way n bs (grind arith) le

for_soon : (tick : ℕ) (c : Credit) (way : Way) (n : Option ℕ) (bs : List WayBeats) → opens_for way bs n ≤ tick + 32 → opens_for way (change_for way (settled tick c) n bs) n ≤ tick + 32
for_soon tick c way None bs le = le
for_soon tick c way (Some n) bs le = at_soon tick c way n bs le

max_parts : (a b c d e n : ℕ) → max (max a b) (max c (max d e)) ≤ n → (a ≤ n) × (b ≤ n) × (c ≤ n) × (d ≤ n) × (e ≤ n)
max_parts a b c d e n le = (omega arith, omega arith, omega arith, omega arith, omega arith)

max_of_parts : (a b c d e n : ℕ) → a ≤ n → b ≤ n → c ≤ n → d ≤ n → e ≤ n → max (max a b) (max c (max d e)) ≤ n
max_of_parts a b c d e n p q r s t = omega arith

capped_soon : (most n : ℕ) (b : Beat) → b.opens ≤ n → (capped most b).opens ≤ n
capped_soon most n b le = pick (nat_eq most 0)
  where
    lower : (x y n : ℕ) → x ≤ n → min x y ≤ n
    lower x y n h = omega (arith, h)

    pick : (x : Bool) → (if x then b.opens else min b.opens most) ≤ n
    pick true = le
    pick false = lower b.opens most n le

cap_way : (most n : ℕ) (way : Way) (b : WayBeats) → (in_way way b).opens ≤ n → (in_way way (change way (capped most) b)).opens ≤ n
cap_way most n Down b le = capped_soon most n b.down le
cap_way most n Up b le = capped_soon most n b.up le

cap_place : (most n : ℕ) (way : Way) (k : ℕ) (bs : List WayBeats) → (k < length bs) ⊎ (length bs ≤ k) → opens_at way bs k ≤ n → opens_at way (change_at way (capped most) k bs) k ≤ n
cap_place most n way k bs (inl lt) le =
    let changed : WayBeats = change way (capped most) (get_or bs k new_beats) in
    subst (λ (b : WayBeats). (in_way way b).opens ≤ n) (sym (get_or-set_same bs k changed new_beats lt)) (cap_way most n way (get_or bs k new_beats) le)
cap_place most n way k bs (inr ge) le =
    let changed : WayBeats = change way (capped most) (get_or bs k new_beats) in
    subst (λ (l : List WayBeats). opens_at way l k ≤ n) (sym (set_past bs k changed ge)) le

cap_at : (most n : ℕ) (way : Way) (k : ℕ) (bs : List WayBeats) → opens_at way bs k ≤ n → opens_at way (change_at way (capped most) k bs) k ≤ n
cap_at most n way k bs le = cap_place most n way k bs (grind arith) le

cap_for : (most n : ℕ) (way : Way) (k : Option ℕ) (bs : List WayBeats) → opens_for way bs k ≤ n → opens_for way (change_for way (capped most) k bs) k ≤ n
cap_for most n way None bs le = le
cap_for most n way (Some k) bs le = cap_at most n way k bs le

aligned_soon : (way : Way) (user : ℕ) (rows : TransferRows) (n : ℕ) (c : Beats) → opens_of way user rows c ≤ n → opens_of way user rows (aligned way user rows c) ≤ n
aligned_soon way user rows n c le =
    let parts = max_parts c.server.opens (in_way way c.ways).opens (opens_for way c.groups rows.group_number) (opens_at way c.users user) (opens_at way c.sessions user) n le in
    max_of_parts _ _ _ _ _ n
    parts.0
    (cap_way c.server.opens n way c.ways parts.1)
    (cap_for (line_opens way c) n way rows.group_number c.groups parts.2)
    (cap_at (inner_opens way rows c) n way user c.users parts.3)
    (cap_at (own_opens way user rows c) n way user c.sessions parts.4)

align_soon : (x : Bool) (way : Way) (user : ℕ) (rows : TransferRows) (n : ℕ) (c : Beats) → opens_of way user rows c ≤ n → opens_of way user rows (align_if x way user rows c) ≤ n
align_soon true way user rows n c le = aligned_soon way user rows n c le
align_soon false way user rows n c le = le

settled_rows : (way : Way) (user : ℕ) (rows : TransferRows) (tick : ℕ) (c : Beats) → opens_of way user rows c ≤ tick + 32 → opens_of way user rows (settled_of way user rows tick c) ≤ tick + 32
settled_rows way user rows tick c le =
    let parts = max_parts c.server.opens (in_way way c.ways).opens (opens_for way c.groups rows.group_number) (opens_at way c.users user) (opens_at way c.sessions user) (tick + 32) le in
    max_of_parts _ _ _ _ _ (tick + 32)
    (settled_soon tick rows.server c.server parts.0)
    (way_soon tick rows.way way c.ways parts.1)
    (for_soon tick rows.group way rows.group_number c.groups parts.2)
    (at_soon tick rows.user way user c.users parts.3)
    (at_soon tick rows.session way user c.sessions parts.4)

pub rows_soon : (way : Way) (user : ℕ) (rows : TransferRows) (tick : ℕ) (c : Beats) → opens_of way user rows c ≤ tick + 32 → opens_of way user rows (settle_of way user rows tick c) ≤ tick + 32
rows_soon way user rows tick c le = align_soon (has_floor rows) way user rows (tick + 32) (settled_of way user rows tick c) (settled_rows way user rows tick c le)
