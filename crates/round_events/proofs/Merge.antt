-- The merge of all steps of a desk's table.
use Rattle.std.proofs.Common.{◌≡◌, ℕ, zero, suc, ◌+◌, ◌<◌, inr, List, [], ◌∷◌, length, get_or, map, replicate, reverse, sym, refl, ap, ◌∙◌, subst, Option, Some, None, slice_get, IsPermutation}
use Rattle.std.proofs.lemmas.List.{length-replicate}
use Rattle.std.proofs.lemmas.List.Sorted.{IsPermutation-refl}
use mathlib.Core.Option.{some}
use lib.ListN.{length-map}
use Rattle.line_rates.specs.declared.ask.Ask.{Ask}
use Rattle.line_rates.specs.Rates.{Rates}
use Rattle.line_rates.specs.TickTree.{Asker}
use Rattle.world_terms.specs.declared.event.Event.TheVariants as event
use Rattle.world_terms.specs.declared.event.EventAnswer.TheVariants as answer
use Rattle.world_terms.specs.Lanes.{Hidden, World, amount, hidden}
use Rattle.world_terms.specs.Runs.{IsRun}
use Rattle.desk_rule.specs.declared.view.LaneSlot.{LaneSlot}
use Rattle.desk_rule.specs.Steps.{Done}
use Rattle.lane_desk.specs.Tried.{asks_from}
use Rattle.round_events.specs.Desk.{done_event, done_reply, events_of, world_of}
use Rattle.round_events.specs.Merged.{MergedIsRun, RunsAreMerged, opened_desk, opened_table}
use Rattle.round_events.specs.Results.{unasked}
use Rattle.round_events.proofs.DeskEnds.{new_shown, opened_is_new}
use Rattle.round_events.proofs.DeskRuns.{desk_runs}
use Rattle.round_events.proofs.MergeRounds.{end_step, post_step}
use Rattle.round_events.proofs.MergeSpends.{taken_step}
use Rattle.round_events.proofs.MergeState.{Shows}
use Rattle.round_events.proofs.MergeSteps.{Goes, ask_step, got_step, missed_step, rise_step, silent_step, sit_step}
use Rattle.round_events.proofs.SpendLists.{all_fit}
use Rattle.round_events.proofs.TableSteps.{Table, onward}

none_in : (n i : ℕ) → ◌≡◌ {A = Option Ask} (get_or (replicate n None) i None) None
none_in zero i = refl
none_in (suc n) zero = refl
none_in (suc n) (suc i) = none_in n i

none_asked : (n k : ℕ) → asks_from k (replicate n None) ≡ []
none_asked zero k = refl
none_asked (suc n) k = none_asked n (k + 1)

new_at : (n i : ℕ) (y : Hidden) → slice_get (replicate n (hidden 0 0 None None)) i ≡ Some y → y ≡ hidden 0 0 None None
new_at zero i y e = absurd (cc)
new_at (suc n) zero y e = cc
new_at (suc n) (suc i) y e = new_at n i y e

module _ {N : Type 0} (rates : ℕ → Rates) (words : List ℕ) (slots : List (LaneSlot N)) (k : ℕ) (s : Table N) (begun : List Asker) (left : List (ℕ × ℕ)) where
  goes : (ds : List Done) → Goes rates words slots k s begun left ds
  goes [] = end_step rates words slots k s begun left
  goes (None ∷ ds) = silent_step rates words slots k s begun left ds (goes ds)
  goes (Some (event.Sit i, answer.Done) ∷ ds) = sit_step rates words slots k s begun left i ds (goes ds)
  goes (Some (event.Asked i a, answer.Done) ∷ ds) = ask_step rates words slots k s begun left i a ds (goes ds)
  goes (Some (event.Collect i, answer.Got) ∷ ds) = got_step rates words slots k s begun left i ds (goes ds)
  goes (Some (event.Collect i, answer.Missed) ∷ ds) = missed_step rates words slots k s begun left i ds (goes ds)
  goes (Some (event.Post i, answer.Posted n) ∷ ds) = post_step rates words slots k s begun left i n ds (goes ds)
  goes (Some (event.Taken i, answer.Taken n) ∷ ds) = taken_step rates words slots k s begun left i n ds (goes ds)
  goes (Some (event.Rise i, answer.Done) ∷ ds) = rise_step rates words slots k s begun left i ds (goes ds)
  goes (Some (e, a) ∷ ds) = λ x past last os spent kept late had lanes amounts rounds now phase results meets h. absurd h.1

pub runs_merged : (N : Type 0) → RunsAreMerged N
runs_merged N rates s r rounds spent kept fit spends =
    goes rates r.words r.slots r.lanes s fit.begun fit.left (reverse r.past) (opened_desk r) [] unasked (replicate r.lanes None) spent (λ i. 0) (λ i. 0) [] [] [] rounds
    (record {
      rule = kept;
      ran = refl;
      long = length-replicate r.lanes (hidden 0 0 None None) ∙ sym homes;
      wide = length-replicate r.lanes None ∙ sym homes;
      shows = λ i less. subst (Shows unasked (replicate r.lanes None) i) (sym (new_shown (opened_table r) kept r.lanes homes refl i (subst (λ (n : ℕ). i < n) homes less))) (refl, inr (λ e. cc, none_in r.lanes i));
      fits = all_fit spent (reverse r.past) spends;
      hands = λ i y e _. ap (λ (x : Hidden). x.hand) (new_at r.lanes i y e);
    })
    (refl, subst (IsPermutation []) (sym (none_asked r.lanes 0)) (IsPermutation-refl []), λ i y e. let is = new_at r.lanes i y e in (ap (λ (x : Hidden). amount x.decided) is, λ _. ap (λ (x : Hidden). x.decided) is))
    fit.results fit.steps (onward (opened_table r) r.past s r.ran)
  where
    homes : length (map some r.slots) ≡ r.lanes
    homes = length-map r.slots some ∙ r.long

pub merged_run : (N : Type 0) → MergedIsRun N
merged_run N rates s r rounds spent kept m =
    let homes : length (map some r.slots) ≡ r.lanes = length-map r.slots some ∙ r.long in
    let run = desk_runs rates (opened_desk r) m.steps m.end kept (length-replicate r.lanes (hidden 0 0 None None) ∙ sym homes) m.runs in
    (run.0, subst (λ (w : World). IsRun rates w (map done_event (events_of m.steps)) (map done_reply (events_of m.steps)) (world_of run.0 m.end.held)) (opened_is_new N r.words r.slots r.lanes r.long kept) run.2)
