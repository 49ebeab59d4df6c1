-- The step of a merge that takes a grant, with the spending of the grant.
use Rattle.std.proofs.Common.{◌≡◌, ◌≢◌, ℕ, ◌+◌, ◌-◌, ◌<◌, ◌≤◌, Bool, true, false, cond, nat_eq, eq-eqb, ne_eqb, List, [], ◌∷◌, ◌++◌, length, set, sym, refl, ap, ◌∙◌, subst, arith, length-set, Option, Some, None, slice_get}
use mathlib.Core.Logic.{dite}
use native.Mathlib.Decide.{ℕ_discrete}
use Rattle.line_rates.specs.declared.ask.Ask.{Ask}
use Rattle.line_rates.specs.Rates.{Rates}
use Rattle.line_rates.specs.TickTree.{Asker}
use Rattle.world_terms.specs.declared.event.Event.TheVariants as event
use Rattle.world_terms.specs.declared.event.EventAnswer.TheVariants as answer
use Rattle.world_terms.specs.declared.event.LaneState.TheVariants as state
use Rattle.world_terms.specs.Lanes.{Hidden, amount, hidden}
use Rattle.desk_rule.specs.declared.view.LaneSlot.{LaneSlot}
use Rattle.desk_rule.specs.Steps.{Done}
use Rattle.round_events.specs.Desk.{DeskState, DeskStep, HoldStep, Holdings, grant_on, held_lanes}
use Rattle.round_events.specs.Merged.{IsMerged}
use Rattle.round_events.specs.Results.{AreResults, RoundResult}
use Rattle.round_events.specs.Spends.{AreMovedOf, taken_on}
use Rattle.round_events.proofs.Decides.{Waits}
use Rattle.round_events.proofs.MergeState.{Now, Phase, next, phase_after}
use Rattle.round_events.proofs.MergeSteps.{Goes, Meets, other_state, shows_still}
use Rattle.round_events.proofs.Merging.{get_else, get_here, get_same, merged_moved, merged_same, merged_step, there}
use Rattle.round_events.proofs.SpendLists.{tail_of, taken_fits, unspent, with_moved, with_none}
use Rattle.round_events.proofs.TableSteps.{Onward, Table, near}

same_number : (i j : ℕ) → nat_eq i j ≡ true → i ≡ j
same_number i j e = dite (ℕ_discrete i j) (λ same. same) (λ ne. let bad : true ≡ false = sym e ∙ ne_eqb i j ne in absurd (cc))

at_most : (b : Bool) (n m : ℕ) (ms ns : List ℕ) → b ≡ true → AreMovedOf (cond b (n ∷ ns) ns) (m ∷ ms) → m ≤ n
at_most true n m ms ns e h = h.each 0 (omega arith)
at_most false n m ms ns e h = absurd (cc)

-- each lane has the same amount decided
abbrev SameDecided : List Hidden → List Hidden → Type 0
SameDecided xs xs' = (i : ℕ) (z : Hidden) → slice_get xs' i ≡ Some z → (w : Hidden) × (slice_get xs i ≡ Some w) × (z.decided ≡ w.decided)

set_decided : (xs : List Hidden) (i : ℕ) (x y : Hidden) → slice_get xs i ≡ Some x → y.decided ≡ x.decided → SameDecided xs (set xs i y)
set_decided xs i x y at same j z e = dite (ℕ_discrete j i)
    (λ here.
    let is : z ≡ y = get_same xs i y z (subst (λ (n : ℕ). slice_get (set xs i y) n ≡ Some z) here e) in
    (x, subst (λ (n : ℕ). slice_get xs n ≡ Some x) (sym here) at, ap (λ (w : Hidden). w.decided) is ∙ same))
    (λ ne. (z, sym (get_else xs i j y ne) ∙ e, refl))

waits_same : (g : ℕ → Option ℕ) (xs xs' : List Hidden) → SameDecided xs xs' → Waits g xs → Waits g xs'
waits_same g xs xs' same w i z e =
    let r = same i z e in
    let k = w i r.0 r.1 in
    (ap amount r.2 ∙ k.0, λ none. r.2 ∙ k.1 none)

phase_same : (xs xs' : List Hidden) (past : List Done) (os : List (Option Ask)) (had : List Asker) (lanes amounts : List ℕ) → SameDecided xs xs' → Phase xs past os had lanes amounts → Phase xs' past os had lanes amounts
phase_same xs xs' past os had [] amounts same p = (p.0, p.1, waits_same (λ i. None) xs xs' same p.2)
phase_same xs xs' past os had (l ∷ ls) amounts same p = (p.0, record { found = p.1.found; even = p.1.even; waits = waits_same (grant_on (l ∷ ls) amounts) xs xs' same p.1.waits }, p.2)

-- what is still to come after a grant is taken on lane j
abbrev spent_next : ℕ → (ℕ → List ℕ) → ℕ → List ℕ
spent_next j spent i = cond (nat_eq j i) (tail_of (spent i)) (spent i)

abbrev kept_next : ℕ → (ℕ → List ℕ) → (ℕ → ℕ) → ℕ → ℕ
kept_next j spent kept i = cond (nat_eq j i) (unspent (spent i)) (kept i)

kept_here : (j : ℕ) (spent : ℕ → List ℕ) (kept : ℕ → ℕ) → kept_next j spent kept j ≡ unspent (spent j)
kept_here j spent kept = ap (λ (b : Bool). cond b (unspent (spent j)) (kept j)) (eq-eqb j j refl)

kept_else : (j : ℕ) (spent : ℕ → List ℕ) (kept : ℕ → ℕ) (i : ℕ) → i ≢ j → kept_next j spent kept i ≡ kept i
kept_else j spent kept i ne = ap (λ (b : Bool). cond b (unspent (spent i)) (kept i)) (ne_eqb j i (λ e. ne (sym e)))

module _ {N : Type 0} (rates : ℕ → Rates) (words : List ℕ) (slots : List (LaneSlot N)) (k : ℕ) (s : Table N) (begun : List Asker) (left : List (ℕ × ℕ)) where
  module _ (j n : ℕ) (ds : List Done) (go : Goes rates words slots k s begun left ds) (x : DeskState N) (past : List Done) (last : ℕ → Option Ask) (os : List (Option Ask)) (spent : ℕ → List ℕ) (kept late : ℕ → ℕ) (had : List Asker) (lanes amounts : List ℕ) (rounds : List RoundResult)
      (now : Now words slots k x past (Some (event.Taken j, answer.Taken n) ∷ ds) last os spent kept late) (phase : Phase x.held.lanes past os had lanes amounts) (results : AreResults rates x.held.last_tick x.held.issued rounds)
      (meets : Meets rates words slots k s begun left last (Some (event.Taken j, answer.Taken n) ∷ ds) had lanes amounts rounds) (h : Onward x.table (Some (event.Taken j, answer.Taken n) ∷ ds) s) where
    abbrev with_held : List Hidden → DeskState N
    with_held xs = record { table = h.0; held = held_lanes xs x.held }

    goes_on : (xs : List Hidden) → length xs ≡ length x.held.lanes → SameDecided x.held.lanes xs → ((i : ℕ) (z : Hidden) → slice_get xs i ≡ Some z → kept_next j spent kept i ≡ 0 → z.hand ≡ None) → IsMerged rates (with_held xs) ds rounds (spent_next j spent) s
    goes_on xs long same hands =
        let d : Done = Some (event.Taken j, answer.Taken n) in
        go (with_held xs) (d ∷ past) last os (spent_next j spent) (kept_next j spent kept) (λ i. cond (nat_eq j i) 1 (late i)) had lanes amounts rounds
        (next words slots k x past (d ∷ ds) ds (event.Taken j) (answer.Taken n) h.0 (held_lanes xs x.held) last last os os spent (spent_next j spent) kept (kept_next j spent kept) late (λ i. cond (nat_eq j i) 1 (late i)) now h.1 long refl (λ i z ne sh. sh)
        (λ p q c sh. shows_still last os j p q state.Worker p.posted (p.taken ++ n ∷ []) c.2 (other_state p.state state.Granted state.Round c.0 (λ e. cc)) (λ e. cc) sh)
        (λ i. let f = now.fits i in taken_fits (nat_eq j i) n (spent i) (kept i) (late i) i ds f.moves f.all f.one) hands)
        (phase_same x.held.lanes xs (d ∷ past) os had lanes amounts same (phase_after x.held.lanes past (d ∷ past) os had lanes amounts (λ i. refl) phase)) results meets h.2

    module _ (a : Hidden) (at : slice_get x.held.lanes j ≡ Some a) where
      abbrev taken : Hidden
      taken = hidden a.moved a.back (Some n) a.decided

      abbrev lanes_taken : List Hidden
      lanes_taken = set x.held.lanes j taken

      -- a grant that is in hand to the end
      stays : spent j ≡ [] → IsMerged rates (with_held lanes_taken) ds rounds spent s
      stays is = merged_same rates s (with_held lanes_taken) ds rounds spent (spent_next j spent) (λ i. with_none (nat_eq j i) (spent i) (λ e. ap spent (sym (same_number j i e)) ∙ is))
          (goes_on lanes_taken (length-set x.held.lanes j taken) (set_decided x.held.lanes j a taken at refl)
          (λ i z e none. dite (ℕ_discrete i j)
          (λ here. let bad : 1 ≡ 0 = sym (kept_here j spent kept ∙ ap unspent is) ∙ subst (λ (m : ℕ). kept_next j spent kept m ≡ 0) here none in absurd (omega (arith, bad)))
          (λ ne. now.hands i z (sym (get_else x.held.lanes j i taken ne) ∙ e) (sym (kept_else j spent kept i ne) ∙ none))))

      module _ (m : ℕ) (ms : List ℕ) (is : spent j ≡ m ∷ ms) where
        abbrev done : Hidden
        done = hidden (a.moved + m) (a.back + (n - m)) None a.decided

        abbrev lanes_done : List Hidden
        lanes_done = set lanes_taken j done

        within : m ≤ n
        within = at_most (nat_eq j j) n m ms (taken_on j ds) (eq-eqb j j refl) (subst (λ (ns : List ℕ). AreMovedOf (taken_on j (Some (event.Taken j, answer.Taken n) ∷ ds)) ns) is (now.fits j).moves)

        taken_there : slice_get lanes_taken j ≡ Some taken
        taken_there = get_here x.held.lanes j a taken at

        spends : DeskStep rates (Some (event.Moved j m, answer.Done)) (with_held lanes_taken) (with_held lanes_done)
        spends = (refl, record { before = taken; after = done; there = taken_there; step = (n, refl, within, refl); rest = refl })

        -- a grant that is spent
        is_spent : IsMerged rates (with_held lanes_taken) ds rounds spent s
        is_spent = merged_moved rates s j m (with_held lanes_taken) (with_held lanes_done) ds rounds spent (spent_next j spent) spends refl
            (λ i. with_moved (nat_eq j i) m (spent i) (λ e. let here : spent i ≡ m ∷ ms = ap spent (sym (same_number j i e)) ∙ is in here ∙ ap (λ (ns : List ℕ). m ∷ tail_of ns) (sym here)))
            (goes_on lanes_done (length-set lanes_taken j done ∙ length-set x.held.lanes j taken)
            (λ i z e. let r = set_decided lanes_taken j taken done taken_there refl i z e in let q = set_decided x.held.lanes j a taken at refl i r.0 r.1 in (q.0, q.1, r.2 ∙ q.2))
            (λ i z e none. dite (ℕ_discrete i j)
            (λ here. ap (λ (w : Hidden). w.hand) (get_same lanes_taken j done z (subst (λ (q : ℕ). slice_get lanes_done q ≡ Some z) here e)))
            (λ ne. now.hands i z (sym (get_else lanes_taken j i done ne ∙ get_else x.held.lanes j i taken ne) ∙ e) (sym (kept_else j spent kept i ne) ∙ none))))

      by_spent : (ms : List ℕ) → spent j ≡ ms → IsMerged rates (with_held lanes_taken) ds rounds spent s
      by_spent [] is = stays is
      by_spent (m ∷ ms) is = is_spent m ms is

  pub taken_step : (j n : ℕ) (ds : List Done) → Goes rates words slots k s begun left ds → Goes rates words slots k s begun left (Some (event.Taken j, answer.Taken n) ∷ ds)
  taken_step j n ds go x past last os spent kept late had lanes amounts rounds now phase results meets h =
      let d : Done = Some (event.Taken j, answer.Taken n) in
      let close : j < length x.held.lanes = omega (arith, near (event.Taken j) (answer.Taken n) x.table now.rule h.0 h.1, now.long) in
      let t = there x.held.lanes j close in
      let after : Hidden = hidden t.0.moved t.0.back (Some n) t.0.decided in
      let held : Holdings = held_lanes (set x.held.lanes j after) x.held in
      let y : DeskState N = record { table = h.0; held = held } in
      let hold : HoldStep (event.Taken j) (answer.Taken n) x.held held = record { before = t.0; after = after; there = t.1; step = refl; rest = refl } in
      merged_step rates s d x y ds rounds spent (h.1, hold) refl (λ es. refl) (λ es. refl) (λ i es. refl)
      (by_spent j n ds go x past last os spent kept late had lanes amounts rounds now phase results meets h t.0 t.1 (spent j) refl)
