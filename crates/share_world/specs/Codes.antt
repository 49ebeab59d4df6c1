-- Codes, by which proofs distinguish worlds.
use Rattle.std.specs.Prelude.{◌≡◌, ℕ, zero, suc, Bool, true, false, List, Option, refl}
use Rattle.std.proofs.Common.{ap}
use Rattle.std.specs.Coded.{Coded, code_by, coded×, coded_ℕ, coded_bool, coded_list, coded_option}
use Rattle.line_rates.specs.declared.ask.Ask.{Ask}
use Rattle.line_rates.specs.declared.ask.Way.{Way}
use Rattle.line_rates.specs.declared.ask.Way.TheVariants.{Down, Up}
use Rattle.line_rates.specs.Rates.{Rates, rates_code}
use Rattle.world_terms.specs.declared.event.LaneState.{LaneState}
use Rattle.world_terms.specs.declared.event.LaneState.TheVariants as state
use Rattle.world_terms.specs.Lanes.{Shown, Hidden, Lane, shown, hidden}
use Rattle.share_world.specs.Limited.{Limited}

abbrev pub is_up : Way → Bool
is_up Down = false
is_up Up = true

abbrev pub way_from : Bool → Way
way_from false = Down
way_from true = Up

abbrev pub way_back : (w : Way) → way_from (is_up w) ≡ w
way_back Down = refl
way_back Up = refl

abbrev pub ask_code : Coded Ask
ask_code =
    code_by ((ℕ × ℕ) × (Bool × ℕ)) (coded× (coded× coded_ℕ coded_ℕ) (coded× coded_bool coded_ℕ))
    (λ a. ((a.user, a.session), (is_up a.way, a.want)))
    (λ p. record { user = p.0.0; session = p.0.1; way = way_from p.1.0; want = p.1.1 })
    (λ a. ap (λ (w : Way).
    record { user = a.user; session = a.session; way = w; want = a.want }) (way_back a.way))

abbrev pub state_number : LaneState → ℕ
state_number state.Free = 0
state_number state.Worker = 1
state_number state.Asked = 2
state_number state.Round = 3
state_number state.Granted = 4

abbrev pub state_from : ℕ → LaneState
state_from zero = state.Free
state_from (suc zero) = state.Worker
state_from (suc (suc zero)) = state.Asked
state_from (suc (suc (suc zero))) = state.Round
state_from (suc (suc (suc (suc n)))) = state.Granted

abbrev pub state_back : (s : LaneState) → state_from (state_number s) ≡ s
state_back state.Free = refl
state_back state.Worker = refl
state_back state.Asked = refl
state_back state.Round = refl
state_back state.Granted = refl

abbrev pub state_code : Coded LaneState
state_code = code_by ℕ coded_ℕ state_number state_from state_back

abbrev pub shown_code : Coded Shown
shown_code =
    code_by ((LaneState × Option Ask) × (List ℕ × List ℕ))
    (coded× (coded× state_code (coded_option ask_code))
    (coded× (coded_list coded_ℕ) (coded_list coded_ℕ)))
    (λ x. ((x.state, x.ask), (x.posted, x.taken))) (λ p. shown p.0.0 p.0.1 p.1.0 p.1.1)
    (λ _. refl)

abbrev pub hidden_code : Coded Hidden
hidden_code =
    code_by ((ℕ × ℕ) × (Option ℕ × Option ℕ))
    (coded× (coded× coded_ℕ coded_ℕ) (coded× (coded_option coded_ℕ) (coded_option coded_ℕ)))
    (λ x. ((x.moved, x.back), (x.hand, x.decided))) (λ p. hidden p.0.0 p.0.1 p.1.0 p.1.1)
    (λ _. refl)

abbrev pub lane_code : Coded Lane
lane_code =
    code_by (Shown × Hidden) (coded× shown_code hidden_code) (λ l. (l.shown, l.hidden))
    (λ p. record { shown = p.0; hidden = p.1 }) (λ _. refl)

abbrev pub limited_code : Coded Limited
limited_code =
    code_by (Rates × (List Lane × (Option ℕ × ℕ)))
    (coded× rates_code (coded× (coded_list lane_code) (coded× (coded_option coded_ℕ) coded_ℕ)))
    (λ w. (w.rates, (w.world.lanes, (w.world.last_tick, w.world.issued))))
    (λ p. record {
      rates = p.0;
      world = record { lanes = p.1.0; last_tick = p.1.1.0; issued = p.1.1.1 };
    })
    (λ _. refl)
