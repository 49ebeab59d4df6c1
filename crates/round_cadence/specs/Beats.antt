-- The beat of a row: when it is open, and what its last round granted.
use Rattle.std.specs.Prelude.{ℕ, ◌+◌, ◌-◌, ◌*◌, ◌/◌, ◌%◌, ◌^◌, min, max, Bool, true, false, ◌&&◌, not, nat_eq, nat_le, if◌then◌else◌, refl}
use Rattle.std.specs.Coded.{Coded, code_by, coded×, coded_ℕ, coded_bool}
use Rattle.line_rates.specs.declared.ask.Way.{Way}
use Rattle.line_rates.specs.declared.ask.Way.TheVariants.{Down, Up}
use Rattle.round_pace.specs.declared.credit.Credit.{Credit}
use Rattle.round_cadence.specs.declared.beat.TheConstants.{SHARER_PARTS}
use Rattle.round_cadence.specs.declared.beat.Beat.{Beat}
use Rattle.round_cadence.specs.declared.beat.WayBeats.{WayBeats}
use Rattle.round_cadence.specs.declared.intervals.TheConstants.{HALF_ASK, WORTH}
use Rattle.round_cadence.specs.Intervals.{interval_of, next_opening}

-- a row that has had no round
abbrev pub new_beat : Beat
new_beat = record {
  opens = 0;
  sharers = 1;
  granted = 0;
  greatest = 0;
  kept = 0;
  whole = 0;
  largest = 0;
  floor = 0;
  worth = WORTH;
  is_asked = false;
}

-- a beat after a grant of the current round; sums stop at the greatest number of 64 bits
abbrev pub added : ℕ → ℕ → Beat → Beat
added grant worth b = record {
  opens = b.opens;
  sharers = b.sharers;
  granted = min (b.granted + grant) (2 ^ 64 - 1);
  greatest = max b.greatest grant;
  kept = b.kept;
  whole = min (b.whole + grant) (2 ^ 64 - 1);
  largest = max b.largest grant;
  floor = b.floor;
  worth = if b.is_asked then max b.worth worth else worth;
  is_asked = true;
}

-- the parts of a sharer that one of a crowd adds, which are one sharer together
abbrev pub sharer_parts : ℕ → ℕ
sharer_parts crowd = SHARER_PARTS / max 1 (min crowd SHARER_PARTS)

-- a beat after a grant of the current round to a transfer whose session has a guarantee, which may
-- be far above those of others: it is one of a crowd that is a sharer
abbrev pub kept : ℕ → ℕ → ℕ → ℕ → Beat → Beat
kept grant floor worth crowd b = record {
  opens = b.opens;
  sharers = b.sharers;
  granted = b.granted;
  greatest = b.greatest;
  kept = min (b.kept + sharer_parts crowd) (2 ^ 64 - 1);
  whole = min (b.whole + grant) (2 ^ 64 - 1);
  largest = max b.largest grant;
  floor = max b.floor floor;
  worth = if b.is_asked then max b.worth worth else worth;
  is_asked = true;
}

-- a beat after an ask of a transfer of the current round that shares the rate with no other: no
-- grant is a part of that rate, so the row has one sharer
abbrev pub asked : ℕ → Beat → Beat
asked worth b = record {
  opens = b.opens;
  sharers = b.sharers;
  granted = b.granted;
  greatest = b.greatest;
  kept = b.kept;
  whole = b.whole;
  largest = b.largest;
  floor = b.floor;
  worth = min b.worth worth;
  is_asked = true;
}

-- a quotient, rounded up
abbrev pub div_up : ℕ → ℕ → ℕ
div_up x y = x / y + min 1 (x % y)

-- how many grants as great as the greatest are all that was granted: with equal grants, as many as
-- there are; small ones beside great ones count little; and those with a guarantee, rounded up
abbrev pub parts_of : Beat → ℕ
parts_of b =
    max (min (div_up b.granted (max b.greatest 1) + div_up b.kept SHARER_PARTS) (2 ^ 64 - 1)) 1

-- the sharers after a round: an eighth fewer than before, or as many as shared in it
abbrev pub sharers_after : Beat → ℕ
sharers_after b = max (parts_of b) (b.sharers - div_up b.sharers 8)

-- a rate of which at most a thousandth of a second is left, and at most what is worth sending once
abbrev pub is_drained : Credit → Bool
is_drained c = not (nat_eq c.rate 0) && nat_le c.left (min (c.rate / 1_000) WORTH)

-- These octets, or those of which the largest grant of the round would be half of what a transfer
-- asks for at most, if they are fewer: more than it asks for it is not granted.
abbrev pub within_ask : Beat → ℕ → ℕ
within_ask b octets = if nat_eq b.largest 0 then octets
    else min octets (min (b.whole * HALF_ASK) (2 ^ 64 - 1) / b.largest)

-- These octets, or those that the rate earns while the greatest guarantee earns half of what a
-- transfer asks for at most, if they are fewer.
abbrev pub within_floor : Beat → ℕ → ℕ → ℕ
within_floor b rate octets = if nat_eq b.floor 0 then octets
    else min octets (min (rate * HALF_ASK) (2 ^ 64 - 1) / b.floor)

-- the greatest guarantee after a round: an eighth less, until its transfer asks again
abbrev pub floor_after : Beat → ℕ
floor_after b = b.floor - div_up b.floor 8

-- the interval after a round, in which each sharer earns what one of them is to have
abbrev pub interval_after : Credit → Beat → ℕ
interval_after c b =
    interval_of c.rate
    (within_floor b c.rate (within_ask b (min (b.worth * sharers_after b) (2 ^ 64 - 1))))

abbrev pub opens_after : ℕ → Credit → Beat → ℕ
opens_after tick c b =
    if is_drained c then min (next_opening tick (interval_after c b)) (2 ^ 64 - 1) else 0

-- a beat after a round that was held in a tick and left a credit; nothing changes if the round had
-- no asks within the row
abbrev pub settled : ℕ → Credit → Beat → Beat
settled tick c b = if b.is_asked then record {
  opens = opens_after tick c b;
  sharers = sharers_after b;
  granted = 0;
  greatest = 0;
  kept = 0;
  whole = 0;
  largest = 0;
  floor = floor_after b;
  worth = WORTH;
  is_asked = false;
} else b

-- a beat that opens in a tick at the latest; 0 is no such tick
abbrev pub capped : ℕ → Beat → Beat
capped most b = record {
  opens = if nat_eq most 0 then b.opens else min b.opens most;
  sharers = b.sharers;
  granted = b.granted;
  greatest = b.greatest;
  kept = b.kept;
  whole = b.whole;
  largest = b.largest;
  floor = b.floor;
  worth = b.worth;
  is_asked = b.is_asked;
}

-- Beats of the two directions.

abbrev pub new_beats : WayBeats
new_beats = record { down = new_beat; up = new_beat }

abbrev pub in_way : Way → WayBeats → Beat
in_way Down b = b.down
in_way Up b = b.up

-- one direction's beat is changed
abbrev pub change : Way → (Beat → Beat) → WayBeats → WayBeats
change Down f b = record { down = f b.down; up = b.up }
change Up f b = record { down = b.down; up = f b.up }

-- codes, by which proofs distinguish values
abbrev pub beat_code : Coded Beat
beat_code =
    code_by ((ℕ × ℕ) × ((ℕ × (ℕ × ℕ)) × ((ℕ × ℕ) × (ℕ × (ℕ × Bool)))))
    (coded× (coded× coded_ℕ coded_ℕ)
    (coded× (coded× coded_ℕ (coded× coded_ℕ coded_ℕ))
    (coded× (coded× coded_ℕ coded_ℕ) (coded× coded_ℕ (coded× coded_ℕ coded_bool)))))
    (λ b. (
      (b.opens, b.sharers),
      (
        (b.granted, (b.greatest, b.kept)),
        ((b.whole, b.largest), (b.floor, (b.worth, b.is_asked))),
      ),
    ))
    (λ p. record {
      opens = p.0.0;
      sharers = p.0.1;
      granted = p.1.0.0;
      greatest = p.1.0.1.0;
      kept = p.1.0.1.1;
      whole = p.1.1.0.0;
      largest = p.1.1.0.1;
      floor = p.1.1.1.0;
      worth = p.1.1.1.1.0;
      is_asked = p.1.1.1.1.1;
    })
    (λ _. refl)

abbrev pub beats_code : Coded WayBeats
beats_code = code_by (Beat × Beat) (coded× beat_code beat_code) (λ b. (b.down, b.up))
    (λ p. record { down = p.0; up = p.1 }) (λ _. refl)
