-- The rates of a server's rounds, and what they granted.
use Rattle.std.proofs.Common.{◌≡◌, ℕ, ◌+◌, ◌≤◌, Bool, true, false, ◌||◌, List, [], ◌∷◌, refl, sym, subst, arith}
use Rattle.std.specs.List.{list_all}
use Rattle.std.proofs.lemmas.Bool.{and_parts, false≢true}
use Rattle.line_rates.specs.declared.ask.Name.TheVariants.{Server}
use Rattle.line_rates.specs.Rates.{Rates}
use Rattle.round_pace.specs.Stretches.{Stretch}
use Rattle.paced_rounds.specs.Allowed.{AreAllowed}
use Rattle.paced_rounds.specs.Spans.{HasRate}
use Rattle.ftp_daemon.specs.SameRates.{may_hold, same_rates}
use Rattle.ftp_daemon.proofs.Sameness.{rates_same, same_server}

-- what was issued, by what was carried
pub issued_by : (issued carried before granted : ℕ) → issued ≡ carried + granted → carried ≡ before → issued ≡ before + granted
issued_by issued carried before granted e f = omega (arith, e, f)

pub issued_within : (issued carried before granted bound : ℕ) → issued ≡ carried + granted → carried ≡ before → granted ≤ bound → issued ≤ before + bound
issued_within issued carried before granted bound e f h = omega (arith, e, f, h)

-- rates of which each has one rate of the server
pub has_rate : (allowed : Rates → Bool) (rate : ℕ) → ((rates : Rates) → allowed rates ≡ true → rates.server ≡ rate) → (ss : List Stretch) → AreAllowed allowed ss → HasRate Server rate ss
has_rate allowed rate one [] are = tt
has_rate allowed rate one (s ∷ ss) are =
    let parts : (allowed s.rates ≡ true) × (list_all (λ (x : Stretch). allowed x.rates) ss ≡ true) = and_parts _ _ are in
    (one s.rates parts.0, has_rate allowed rate one ss parts.1)

-- the rates of no rounds
pub none_allowed : (allowed : Rates → Bool) (ss : List Stretch) → ss ≡ [] → AreAllowed allowed ss
none_allowed allowed ss none = subst (AreAllowed allowed) (sym none) refl

-- the rates of the start are among those
pub may_begin : (rates : Rates) (allows : Rates → Bool) → may_hold rates allows rates ≡ true
may_begin rates allows = go (same_rates rates rates) (rates_same rates)
  where
    go : (b : Bool) → b ≡ true → (b || allows rates) ≡ true
    go true is = refl
    go false is = absurd (false≢true is)

-- the owner's are too
pub owner_may : (limits rates : Rates) (allows : Rates → Bool) → allows rates ≡ true → may_hold limits allows rates ≡ true
owner_may limits rates allows may = go (same_rates limits rates)
  where
    go : (b : Bool) → (b || allows rates) ≡ true
    go true = refl
    go false = may

-- all of them have one rate of the server if all that the owner may put in force have it
pub one_server : (limits : Rates) (allows : Rates → Bool) → ((rates : Rates) → allows rates ≡ true → rates.server ≡ limits.server)
    → (rates : Rates) → may_hold limits allows rates ≡ true → rates.server ≡ limits.server
one_server limits allows all rates may = go (same_rates limits rates) refl may
  where
    go : (b : Bool) → same_rates limits rates ≡ b → (b || allows rates) ≡ true → rates.server ≡ limits.server
    go true is m = same_server limits rates is
    go false is m = all rates m
