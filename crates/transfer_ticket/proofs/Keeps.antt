-- Each step keeps the rule.
use Rattle.std.proofs.Common.{◌≡◌, ◌≢◌, ℕ, zero, suc, ◌+◌, ◌<◌, eqb, Bool, true, false, List, [], ◌∷◌, ◌++◌, map, length, get_or, set, ◌⊎◌, inl, inr, true≢false, sym, refl, ap, ◌∙◌, subst, ⊎_elim, arith, length-set, get_or-set_same}
use mathlib.Core.Option.{Option, none, some, some-injective, some-ne-none}
use native.Mathlib.Decide.{ℕ_discrete}
use lib.ListN.{get_elem?}
use lib.Seq.{set-get_or}
use prog.Atomic.{either}
use Rattle.atomic_table.specs.Table.{State, Me, step, rest, Act, keeps, takes, gives, Valid, carried_after, stepped, Allows, Enters, opening}
use Rattle.atomic_table.proofs.Lists.{at_set, at_snoc, set_here, set_again, exchanged}
use Rattle.transfer_ticket.specs.declared.view.TicketSlot.{TicketSlot}
use Rattle.transfer_ticket.specs.declared.view.TicketSlot.TheVariants.{Blank, WithJob, WithEnd}
use Rattle.transfer_ticket.specs.declared.view.TicketView.{TicketView}
use Rattle.transfer_ticket.specs.declared.view.TicketView.TheVariants.{Away, Missed, Idle, Busy, Runs}
use Rattle.transfer_ticket.specs.Tickets.{Phase, free, idle, waiting, running, ended, running_code, code, home_of, IsSession, IsLane, Knows, Bears, Kept, IsPermitted, MayReport, is_busy, is_begun, is_runner, held_by, tried, begun, asking, looked}
use Rattle.transfer_ticket.specs.Tickets as spec

off : false ≡ true → ⊥
off e = true≢false (sym e)

module _ {J E : Type 0} where
  is_idle : (ph : Phase J E) (by : ℕ) → IsSession by Idle ph → ph ≡ idle by
  is_idle free by k = absurd k
  is_idle (idle o) by k = ap idle k.0
  is_idle (waiting o j) by k = let e = k.2 in absurd (cc)
  is_idle (running o r j asked) by k = let e = k.3 in absurd (cc)
  is_idle (ended o j asked seen e) by k = let f = k.3 in absurd (cc)

  is_free : (ph : Phase J E) → 0 ≡ code ph → ph ≡ free
  is_free free e = refl
  is_free (idle o) e = absurd (omega arith)
  is_free (waiting o j) e = absurd (omega arith)
  is_free (running o r j false) e = absurd (omega arith)
  is_free (running o r j true) e = absurd (omega arith)
  is_free (ended o j asked seen f) e = absurd (omega arith)

  is_waiting : (ph : Phase J E) → 2 ≡ code ph → (o : ℕ) × (j : J) × (ph ≡ waiting o j)
  is_waiting free e = absurd (omega arith)
  is_waiting (idle o) e = absurd (omega arith)
  is_waiting (waiting o j) e = (o, j, refl)
  is_waiting (running o r j false) e = absurd (omega arith)
  is_waiting (running o r j true) e = absurd (omega arith)
  is_waiting (ended o j asked seen f) e = absurd (omega arith)

  is_running : (ph : Phase J E) → 3 ≡ code ph → (o : ℕ) × (r : ℕ) × (j : J) × (ph ≡ running o r j false)
  is_running free e = absurd (omega arith)
  is_running (idle o) e = absurd (omega arith)
  is_running (waiting o j) e = absurd (omega arith)
  is_running (running o r j false) e = (o, r, j, refl)
  is_running (running o r j true) e = absurd (omega arith)
  is_running (ended o j asked seen f) e = absurd (omega arith)

  is_ended : (ph : Phase J E) → 5 ≡ code ph → (o : ℕ) × (j : J) × (asked : Bool) × (seen : Bool) × (f : E) × (ph ≡ ended o j asked seen f)
  is_ended free e = absurd (omega arith)
  is_ended (idle o) e = absurd (omega arith)
  is_ended (waiting o j) e = absurd (omega arith)
  is_ended (running o r j false) e = absurd (omega arith)
  is_ended (running o r j true) e = absurd (omega arith)
  is_ended (ended o j asked seen f) e = (o, j, asked, seen, f, refl)

  -- the phase in which this seat runs the job
  is_lane : (ph : Phase J E) (by : ℕ) (i : J) (seen : Bool) → IsLane by i seen ph → (o : ℕ) × (asked : Bool) × (ph ≡ running o by i asked) × (seen ≡ true → asked ≡ true)
  is_lane free by i seen k = absurd k
  is_lane (idle o) by i seen k = absurd k
  is_lane (waiting o j) by i seen k = absurd k
  is_lane (running o r j asked) by i seen k = (o, asked, (λ q. running o (k.0 q) (k.1 q) asked), k.2)
  is_lane (ended o j asked reported e) by i seen k = absurd k

  -- one seat is the session's
  one_session : (ph : Phase J E) (a b : ℕ) (v w : TicketView J) → IsSession a v ph → IsSession b w ph → b ≡ a
  one_session free a b v w k l = absurd k
  one_session (idle o) a b v w k l = sym l.0 ∙ k.0
  one_session (waiting o j) a b v w k l = sym l.1 ∙ k.1
  one_session (running o r j asked) a b v w k l = sym l.2 ∙ k.2
  one_session (ended o j asked seen e) a b v w k l = sym l.2 ∙ k.2

  -- tries that find nothing
  tries : (ph : Phase J E) (by : ℕ) (j : J) (a b : Bool) (n : ℕ) → IsSession by (Busy j a b n) ph → IsSession by (Busy j a b (n + 1)) ph
  tries free by j a b n k = absurd k
  tries (idle o) by j a b n k = let e = k.1 in absurd (cc)
  tries (waiting o i) by j a b n k = (k.0 + 1, k.1, ap tried k.2)
  tries (running o r i asked) by j a b n k = (k.0, k.1 + 1, k.2, ap tried k.3)
  tries (ended o i asked seen e) by j a b n k = (k.0, k.1 + 1, k.2, ap tried k.3)

  begins : (ph : Phase J E) (by : ℕ) (j : J) (a b : Bool) (n : ℕ) → 2 ≢ code ph → IsSession by (Busy j a b n) ph → IsSession by (Busy j a true (n + 1)) ph
  begins free by j a b n ne k = absurd k
  begins (idle o) by j a b n ne k = let e = k.1 in absurd (cc)
  begins (waiting o i) by j a b n ne k = absurd (ne refl)
  begins (running o r i asked) by j a b n ne k = (true, k.1 + 1, k.2, ap begun k.3)
  begins (ended o i asked seen e) by j a b n ne k = (true, k.1 + 1, k.2, ap begun k.3)

  asks_again : (ph : Phase J E) (by : ℕ) (j : J) (a b : Bool) (n : ℕ) → b ≡ true → 3 ≢ code ph → 5 ≢ code ph → IsSession by (Busy j a b n) ph → IsSession by (Busy j true b (n + 1)) ph
  asks_again free by j a b n is ne ne' k = absurd k
  asks_again (idle o) by j a b n is ne ne' k = let e = k.1 in absurd (cc)
  asks_again (waiting o i) by j a b n is ne ne' k = absurd (off (sym (ap is_begun k.2) ∙ is))
  asks_again (running o r i false) by j a b n is ne ne' k = absurd (ne refl)
  asks_again (running o r i true) by j a b n is ne ne' k = (k.0, k.1 + 1, k.2, ap asking k.3)
  asks_again (ended o i asked seen e) by j a b n is ne ne' k = absurd (ne' refl)

  -- what the other seats know, when the session moves
  session_else : (ph ph' : Phase J E) (id by : ℕ) (v u : TicketView J) → IsSession id v ph → ((i : J) (seen : Bool) → IsLane by i seen ph → IsLane by i seen ph') → by ≢ id → Knows ph by u → Knows ph' by u
  session_else ph ph' id by v Away mine on other k = tt
  session_else ph ph' id by v Missed mine on other k = tt
  session_else ph ph' id by v Idle mine on other k = absurd (other (one_session ph id by v Idle mine k))
  session_else ph ph' id by v (Busy j asked b n) mine on other k = absurd (other (one_session ph id by v (Busy j asked b n) mine k))
  session_else ph ph' id by v (Runs j seen n) mine on other k = on j seen k

  -- what the other seats know, when a lane moves
  lane_else : (ph ph' : Phase J E) (by : ℕ) (u : TicketView J) → ((w : TicketView J) → IsSession by w ph → IsSession by w ph') → ((i : J) (seen : Bool) → IsLane by i seen ph → ⊥) → Knows ph by u → Knows ph' by u
  lane_else ph ph' by Away on none_runs k = tt
  lane_else ph ph' by Missed on none_runs k = tt
  lane_else ph ph' by Idle on none_runs k = on Idle k
  lane_else ph ph' by (Busy j asked b n) on none_runs k = on (Busy j asked b n) k
  lane_else ph ph' by (Runs j seen n) on none_runs k = absurd (none_runs j seen k)

  job_at : List (ℕ × TicketSlot J E) → J → J
  job_at [] d = d
  job_at ((k, Blank) ∷ xs) d = d
  job_at ((k, WithJob j) ∷ xs) d = j
  job_at ((k, WithEnd e) ∷ xs) d = d

  module _ (permits : J → Bool → E → Type 0) where
    module _ (s : State (TicketSlot J E) (TicketView J)) (r : Kept permits s) (id : ℕ) (v w : TicketView J) (at : get_elem? s.views id ≡ some v) where
      -- the table after a step of the seat
      moves : (ph ph' : Phase J E) (n : ℕ) (hs : List (Option (TicketSlot J E))) → r.phase ≡ ph → n ≡ code ph' → 0 < length hs → get_elem? hs 0 ≡ some (home_of ph') → Bears permits ph' → Knows ph' id w
          → ((by : ℕ) (u : TicketView J) → by ≢ id → Knows ph by u → Knows ph' by u) → Kept permits record { words = set s.words 0 n; homes = hs; views = set s.views id w }
      moves ph ph' n hs is word_is full home_is bears mine others = record {
        phase = ph';
        wide = omega (arith, r.wide, length-set s.words 0 n);
        full = full;
        word_is = get_or-set_same s.words 0 n 0 r.wide ∙ word_is;
        home_is = home_is;
        bears = bears;
        each_view = λ by u e. ⊎_elim
            (λ (t : (by ≡ id) × (w ≡ u)). subst (λ (z : ℕ × TicketView J). Knows ph' z.0 z.1) (λ q. (sym t.0 q, t.1 q)) mine)
            (λ (t : (by ≢ id) × (get_elem? s.views by ≡ some u)). others by u t.0 (subst (λ (p : Phase J E). Knows p by u) is (r.each_view by u t.1)))
            (at_set s.views id by w u e);
      }

      taken_len : 0 < length (set s.homes 0 none)
      taken_len = omega (arith, r.full, length-set s.homes 0 none)

      put_len : (x : TicketSlot J E) → 0 < length (set s.homes 0 (some x))
      put_len x = omega (arith, r.full, length-set s.homes 0 (some x))

    -- only what the seat knows changes
    watches : (s : State (TicketSlot J E) (TicketView J)) (r : Kept permits s) (id : ℕ) (v w : TicketView J) → get_elem? s.views id ≡ some v → Knows r.phase id w → Kept permits record { words = set s.words 0 (get_or s.words 0 0); homes = s.homes; views = set s.views id w }
    watches s r id v w at mine = moves s r id v w at r.phase r.phase (get_or s.words 0 0) s.homes refl r.word_is r.full r.home_is r.bears mine (λ by u other k. k)

    abbrev Goes : State (TicketSlot J E) (TicketView J) → ℕ → Me (TicketSlot J E) (TicketView J) → (ℕ → Me (TicketSlot J E) (TicketView J) → Type 0) → ℕ → Type 0
    Goes s id m then k = (w : TicketView J) × (a : Act (TicketSlot J E)) × Valid s.homes m.1 a × Kept permits (stepped s 0 k id m.1 w a) × then (get_or s.words 0 0) (w, carried_after m.1 a)

    pub enters : (n : ℕ) → Enters (Kept permits) n 0 (λ k w. spec.enters {J = J} {E = E} (step n 0 0 0 none) (Away, []) k (w, []))
    enters n s r wide _ = (
      Away,
      record {
        phase = r.phase;
        wide = r.wide;
        full = r.full;
        word_is = r.word_is;
        home_is = r.home_is;
        bears = r.bears;
        each_view = λ by u e. ⊎_elim (λ old. r.each_view by u old) (λ (new : Away ≡ u). subst (Knows r.phase by) new tt) (at_snoc s.views Away u by e);
      },
      refl,
    )

    pub sits : (n id : ℕ) (c : List (ℕ × TicketSlot J E)) → Allows (Kept permits) n id (Away, c) 0 (λ y. either (eqb y 0) 1 y) (spec.sits (step n 0 0 1 none) (Away, c))
    sits n id c s r wide at _ =
        let y : ℕ = get_or s.words 0 0 in
        exchanged y 0 1 (Goes s id (Away, c) (spec.sits (step n 0 0 1 none) (Away, c)))
        (λ hit. let f = is_free r.phase (sym hit ∙ r.word_is) in (
          Idle,
          takes 0 Blank,
          subst (λ (p : Phase J E). get_elem? s.homes 0 ≡ some (home_of p)) f r.home_is,
          moves s r id Away Idle at free (idle id) 1 (set s.homes 0 none) f refl (taken_len s r id Away Idle at) (set_here s.homes 0 none r.full) tt (refl, refl) (λ by u other k. lane_else free (idle id) by u (λ w l. absurd l) (λ i seen l. l) k),
          ((λ _. refl), λ miss. absurd (miss hit)),
        ))
        (λ miss. (Missed, keeps, tt, watches s r id Away Missed at tt, ((λ hit. absurd (miss hit)), λ _. refl)))

    pub leaves : (n id : ℕ) (c : List (ℕ × TicketSlot J E)) → Allows (Kept permits) n id (Idle, (0, Blank) ∷ c) 0 (λ _. 0) (λ _. spec.leaves (step n 0 0 0 none) (Idle, (0, Blank) ∷ c) 0)
    leaves n id c s r wide at _ =
        let mine = r.each_view id Idle at in
        let f = is_idle r.phase id mine in (
          Away,
          gives,
          tt,
          moves s r id Idle Away at (idle id) free 0 (set s.homes 0 (some Blank)) f refl (put_len s r id Idle Away at Blank) (set_here s.homes 0 (some Blank) r.full) tt tt
              (λ by u other k. session_else (idle id) free id by Idle u (refl, refl) (λ i seen l. l) other k),
          refl,
        )

    pub puts : (n id : ℕ) (c : List (ℕ × TicketSlot J E)) (j : J) → Allows (Kept permits) n id (Idle, (0, WithJob j) ∷ c) 0 (λ _. 2) (λ _. spec.puts (step n 0 2 0 none) (Idle, (0, WithJob j) ∷ c) 2)
    unfolding job_at
    puts n id c j s r wide at _ =
        let mine = r.each_view id Idle at in
        let f = is_idle r.phase id mine in (
          Busy j false false 0,
          gives,
          tt,
          moves s r id Idle (Busy j false false 0) at (idle id) (waiting id j) 2 (set s.homes 0 (some (WithJob j))) f refl (put_len s r id Idle (Busy j false false 0) at (WithJob j)) (set_here s.homes 0 (some (WithJob j)) r.full) tt (0, refl, refl)
              (λ by u other k. session_else (idle id) (waiting id j) id by Idle u (refl, refl) (λ i seen l. l) other k),
          λ k e. ap (λ (xs : List (ℕ × TicketSlot J E)). (Busy (job_at xs j) false false 0, c)) e,
        )

    pub cancels : (n id : ℕ) (c : List (ℕ × TicketSlot J E)) (v : TicketView J) → is_busy v ≡ true → Allows (Kept permits) n id (v, c) 0 (λ y. either (eqb y 2) 1 y) (spec.cancels (step n 0 2 1 none) (v, c))
    cancels n id c Away b s r wide at _ = absurd (off b)
    cancels n id c Missed b s r wide at _ = absurd (off b)
    cancels n id c Idle b s r wide at _ = absurd (off b)
    cancels n id c (Runs j seen n') b s r wide at _ = absurd (off b)
    cancels n id c (Busy j asked b k) busy s r wide at _ =
        let v : TicketView J = Busy j asked b k in
        let y : ℕ = get_or s.words 0 0 in
        exchanged y 2 1 (Goes s id (v, c) (spec.cancels (step n 0 2 1 none) (v, c)))
        (λ hit. let f = is_waiting r.phase (sym hit ∙ r.word_is) in
        let mine = subst (λ (p : Phase J E). IsSession id v p) f.2 (r.each_view id v at) in (
          Idle,
          takes 0 (WithJob f.1),
          subst (λ (p : Phase J E). get_elem? s.homes 0 ≡ some (home_of p)) f.2 r.home_is,
          moves s r id v Idle at (waiting f.0 f.1) (idle id) 1 (set s.homes 0 none) f.2 refl (taken_len s r id v Idle at) (set_here s.homes 0 none r.full) tt (refl, refl)
              (λ by u other k. session_else (waiting f.0 f.1) (idle id) id by v u mine (λ i seen l. l) other k),
          ((λ _. (f.1, mine.0, mine.2, refl)), λ miss. absurd (miss hit)),
        ))
        (λ miss. (begun v, keeps, tt, watches s r id v (begun v) at (begins r.phase id j asked b k (λ e. miss (r.word_is ∙ sym e)) (r.each_view id v at)), ((λ hit. absurd (miss hit)), λ _. refl)))

    stops_miss : (n id : ℕ) (c : List (ℕ × TicketSlot J E)) (j : J) (asked b : Bool) (k : ℕ) → b ≡ true → (s : State (TicketSlot J E) (TicketView J)) (r : Kept permits s) → get_elem? s.views id ≡ some (Busy j asked b k) → get_or s.words 0 0 ≢ 3 → Dec (get_or s.words 0 0 ≡ 5)
        → Goes s id (Busy j asked b k, c) (spec.stops (step n 0 3 4 none) (Busy j asked b k, c)) (get_or s.words 0 0)
    stops_miss n id c j asked b k is s r at miss (yes over) =
        let v : TicketView J = Busy j asked b k in (tried v, keeps, tt, watches s r id v (tried v) at (tries r.phase id j asked b k (r.each_view id v at)), ((λ _. refl), λ not. absurd (not over)))
    stops_miss n id c j asked b k is s r at miss (no not) =
        let v : TicketView J = Busy j asked b k in (
          asking v,
          keeps,
          tt,
          watches s r id v (asking v) at (asks_again r.phase id j asked b k is (λ e. miss (r.word_is ∙ sym e)) (λ e. not (r.word_is ∙ sym e)) (r.each_view id v at)),
          ((λ over. absurd (not over)), λ _. refl),
        )

    pub stops : (n id : ℕ) (c : List (ℕ × TicketSlot J E)) (v : TicketView J) → is_begun v ≡ true → Allows (Kept permits) n id (v, c) 0 (λ y. either (eqb y 3) 4 y) (spec.stops (step n 0 3 4 none) (v, c))
    stops n id c Away b s r wide at _ = absurd (off b)
    stops n id c Missed b s r wide at _ = absurd (off b)
    stops n id c Idle b s r wide at _ = absurd (off b)
    stops n id c (Runs j seen n') b s r wide at _ = absurd (off b)
    stops n id c (Busy j asked b k) is s r wide at _ =
        let v : TicketView J = Busy j asked b k in
        let y : ℕ = get_or s.words 0 0 in
        exchanged y 3 4 (Goes s id (v, c) (spec.stops (step n 0 3 4 none) (v, c)))
        (λ hit. let f = is_running r.phase (sym hit ∙ r.word_is) in
        let mine = subst (λ (p : Phase J E). IsSession id v p) f.3 (r.each_view id v at) in (
          asking v,
          keeps,
          tt,
          moves s r id v (asking v) at (running f.0 f.1 f.2 false) (running f.0 f.1 f.2 true) 4 s.homes f.3 refl r.full (subst (λ (p : Phase J E). get_elem? s.homes 0 ≡ some (home_of p)) f.3 r.home_is) tt
              (mine.0, mine.1 + 1, mine.2, ap asking mine.3)
              (λ by u other l. session_else (running f.0 f.1 f.2 false) (running f.0 f.1 f.2 true) id by v u mine (λ i seen l. (l.0, l.1, λ _. refl)) other l),
          ((λ over. let e = sym hit ∙ over in absurd (omega arith)), λ _. refl),
        ))
        (λ miss. stops_miss n id c j asked b k is s r at miss (ℕ_discrete y 5))

    pub takes_end : (n id : ℕ) (c : List (ℕ × TicketSlot J E)) (v : TicketView J) → is_busy v ≡ true → Allows (Kept permits) n id (v, c) 0 (λ y. either (eqb y 5) 1 y) (spec.takes_end permits (step n 0 5 1 none) (v, c))
    takes_end n id c Away b s r wide at _ = absurd (off b)
    takes_end n id c Missed b s r wide at _ = absurd (off b)
    takes_end n id c Idle b s r wide at _ = absurd (off b)
    takes_end n id c (Runs j seen n') b s r wide at _ = absurd (off b)
    takes_end n id c (Busy j asked b k) busy s r wide at _ =
        let v : TicketView J = Busy j asked b k in
        let y : ℕ = get_or s.words 0 0 in
        exchanged y 5 1 (Goes s id (v, c) (spec.takes_end permits (step n 0 5 1 none) (v, c)))
        (λ hit. let f = is_ended r.phase (sym hit ∙ r.word_is) in
        let ph : Phase J E = ended f.0 f.1 f.2 f.3 f.4 in
        let mine = subst (λ (p : Phase J E). IsSession id v p) f.5 (r.each_view id v at) in
        let reported = subst (Bears permits) f.5 r.bears in (
          Idle,
          takes 0 (WithEnd f.4),
          subst (λ (p : Phase J E). get_elem? s.homes 0 ≡ some (home_of p)) f.5 r.home_is,
          moves s r id v Idle at ph (idle id) 1 (set s.homes 0 none) f.5 refl (taken_len s r id v Idle at) (set_here s.homes 0 none r.full) tt (refl, refl)
              (λ by u other k. session_else ph (idle id) id by v u mine (λ i seen l. l) other k),
          ((λ _. (f.4, subst (λ (x : TicketView J). IsPermitted permits x f.4) (sym mine.3) (f.3, reported.0, reported.1), refl)), λ miss. absurd (miss hit)),
        ))
        (λ miss. (tried v, keeps, tt, watches s r id v (tried v) at (tries r.phase id j asked b k (r.each_view id v at)), ((λ hit. absurd (miss hit)), λ _. refl)))

    pub takes_job : (n id : ℕ) (c : List (ℕ × TicketSlot J E)) → Allows (Kept permits) n id (Away, c) 0 (λ y. either (eqb y 2) 3 y) (spec.takes_job (step n 0 2 3 none) (Away, c))
    takes_job n id c s r wide at _ =
        let y : ℕ = get_or s.words 0 0 in
        exchanged y 2 3 (Goes s id (Away, c) (spec.takes_job (step n 0 2 3 none) (Away, c)))
        (λ hit. let f = is_waiting r.phase (sym hit ∙ r.word_is) in (
          Runs f.1 false 0,
          takes 0 (WithJob f.1),
          subst (λ (p : Phase J E). get_elem? s.homes 0 ≡ some (home_of p)) f.2 r.home_is,
          moves s r id Away (Runs f.1 false 0) at (waiting f.0 f.1) (running f.0 id f.1 false) 3 (set s.homes 0 none) f.2 refl (taken_len s r id Away (Runs f.1 false 0) at) (set_here s.homes 0 none r.full) tt (refl, refl, λ e. e)
              (λ by u other k. lane_else (waiting f.0 f.1) (running f.0 id f.1 false) by u (λ w l. (false, l.0, l.1, l.2)) (λ i seen l. l) k),
          ((λ _. (f.1, refl)), λ miss. absurd (miss hit)),
        ))
        (λ miss. (Missed, keeps, tt, watches s r id Away Missed at tt, ((λ hit. absurd (miss hit)), λ _. refl)))

    -- the word of the phase in which this seat runs a job
    asked_of : (asked : Bool) → running_code asked ≡ 4 → asked ≡ true
    asked_of false e = absurd (omega arith)
    asked_of true e = refl

    looks_at : (n id : ℕ) (c : List (ℕ × TicketSlot J E)) (j : J) (seen : Bool) (k : ℕ) (s : State (TicketSlot J E) (TicketView J)) (r : Kept permits s) → get_elem? s.views id ≡ some (Runs j seen k) → Dec (get_or s.words 0 0 ≡ 4)
        → Goes s id (Runs j seen k, c) (spec.looks (step n 0 0 0 none) (Runs j seen k, c)) (get_or s.words 0 0)
    looks_at n id c j seen k s r at (yes hit) =
        let f = is_lane r.phase id j seen (r.each_view id (Runs j seen k) at) in
        let asked_is = asked_of f.1 (sym (r.word_is ∙ ap code f.2) ∙ hit) in
        let ph : Phase J E = running f.0 id j f.1 in (
          Runs j true (k + 1),
          keeps,
          tt,
          moves s r id (Runs j seen k) (Runs j true (k + 1)) at ph ph (get_or s.words 0 0) s.homes f.2 (r.word_is ∙ ap code f.2) r.full (subst (λ (p : Phase J E). get_elem? s.homes 0 ≡ some (home_of p)) f.2 r.home_is) tt (refl, refl, λ _. asked_is) (λ by u other l. l),
          ((λ _. refl), λ miss. absurd (miss hit)),
        )
    looks_at n id c j seen k s r at (no miss) = (Runs j seen (k + 1), keeps, tt, watches s r id (Runs j seen k) (Runs j seen (k + 1)) at (r.each_view id (Runs j seen k) at), ((λ hit. absurd (miss hit)), λ _. refl))

    pub looks : (n id : ℕ) (c : List (ℕ × TicketSlot J E)) (j : J) (seen : Bool) (k : ℕ) → Allows (Kept permits) n id (Runs j seen k, c) 0 (λ y. y) (spec.looks (step n 0 0 0 none) (Runs j seen k, c))
    looks n id c j seen k s r wide at _ = looks_at n id c j seen k s r at (ℕ_discrete (get_or s.words 0 0) 4)

    pub reports : (n id : ℕ) (c : List (ℕ × TicketSlot J E)) (j : J) (seen : Bool) (k : ℕ) (e : E) → permits j seen e → Allows (Kept permits) n id (Runs j seen k, (0, WithEnd e) ∷ c) 0 (λ _. 5) (λ _. spec.reports (step n 0 5 0 none) (Runs j seen k, (0, WithEnd e) ∷ c) 5)
    reports n id c j seen k e reported s r wide at _ =
        let v : TicketView J = Runs j seen k in
        let f = is_lane r.phase id j seen (r.each_view id v at) in
        let ph : Phase J E = running f.0 id j f.1 in
        let ph' : Phase J E = ended f.0 j f.1 seen e in (
          Away,
          gives,
          tt,
          moves s r id v Away at ph ph' 5 (set s.homes 0 (some (WithEnd e))) f.2 refl (put_len s r id v Away at (WithEnd e)) (set_here s.homes 0 (some (WithEnd e)) r.full) (f.3, reported) tt
              (λ by u other q. lane_else ph ph' by u (λ w l. l) (λ i z l. other (sym l.0)) q),
          refl,
        )

    one_view : (v : TicketView J) (j : ℕ) (u : TicketView J) → get_elem? (v ∷ []) j ≡ some u → (j ≡ 0) × (v ≡ u)
    one_view v zero u e = (refl, some-injective v u e)
    one_view v (suc j) u e = absurd (some-ne-none u (sym e))

    -- the table at the start
    pub opens : Kept permits (opening (0 ∷ []) (Blank ∷ []) Away)
    opens = record {
      phase = free;
      wide = omega arith;
      full = omega arith;
      word_is = refl;
      home_is = refl;
      bears = tt;
      each_view = λ by u e. subst (Knows {E = E} free by) (one_view Away by u e).1 tt;
    }

    -- the steps at a seat whose view is known
    pub leaves_of : (n id : ℕ) (m : Me (TicketSlot J E) (TicketView J)) → m.0 ≡ Idle → m.1 ≡ held_by m.0 → Allows (Kept permits) n id m 0 (λ _. 0) (λ _. spec.leaves (step n 0 0 0 none) m 0)
    leaves_of n id m is held = subst (λ (u : Me (TicketSlot J E) (TicketView J)). Allows (Kept permits) n id u 0 (λ _. 0) (λ _. spec.leaves (step n 0 0 0 none) u 0)) (λ q. (sym is q, sym (held ∙ ap held_by is) q)) (leaves n id [])

    pub puts_of : (n id : ℕ) (m m' : Me (TicketSlot J E) (TicketView J)) (j : J) → m.0 ≡ Idle → m' ≡ (m.0, (0, WithJob j) ∷ rest m.1) → Allows (Kept permits) n id m' 0 (λ _. 2) (λ _. spec.puts (step n 0 2 0 none) m' 2)
    puts_of n id m m' j is put = subst (λ (u : Me (TicketSlot J E) (TicketView J)). Allows (Kept permits) n id u 0 (λ _. 2) (λ _. spec.puts (step n 0 2 0 none) u 2)) (sym (put ∙ λ q. (is q, (0, WithJob j) ∷ rest m.1))) (puts n id (rest m.1) j)

    pub looks_of : (n id : ℕ) (c : List (ℕ × TicketSlot J E)) (v : TicketView J) → is_runner v ≡ true → Allows (Kept permits) n id (v, c) 0 (λ y. y) (spec.looks (step n 0 0 0 none) (v, c))
    looks_of n id c Away b = absurd (off b)
    looks_of n id c Missed b = absurd (off b)
    looks_of n id c Idle b = absurd (off b)
    looks_of n id c (Busy j asked begun k) b = absurd (off b)
    looks_of n id c (Runs j seen k) b = looks n id c j seen k

    reports_at : (n id : ℕ) (c : List (ℕ × TicketSlot J E)) (v : TicketView J) (e : E) → MayReport permits v e → Allows (Kept permits) n id (v, (0, WithEnd e) ∷ c) 0 (λ _. 5) (λ _. spec.reports (step n 0 5 0 none) (v, (0, WithEnd e) ∷ c) 5)
    reports_at n id c Away e may = absurd may
    reports_at n id c Missed e may = absurd may
    reports_at n id c Idle e may = absurd may
    reports_at n id c (Busy j asked begun k) e may = absurd may
    reports_at n id c (Runs j seen k) e may = reports n id c j seen k e may

    pub reports_of : (n id : ℕ) (m m' : Me (TicketSlot J E) (TicketView J)) (e : E) → MayReport permits m.0 e → m' ≡ (m.0, (0, WithEnd e) ∷ rest m.1) → Allows (Kept permits) n id m' 0 (λ _. 5) (λ _. spec.reports (step n 0 5 0 none) m' 5)
    reports_of n id m m' e may put = subst (λ (u : Me (TicketSlot J E) (TicketView J)). Allows (Kept permits) n id u 0 (λ _. 5) (λ _. spec.reports (step n 0 5 0 none) u 5)) (sym put) (reports_at n id (rest m.1) m.0 e may)

    pub sits_of : (n id : ℕ) (m : Me (TicketSlot J E) (TicketView J)) → m ≡ (Away, []) → Allows (Kept permits) n id m 0 (λ y. either (eqb y 0) 1 y) (spec.sits (step n 0 0 1 none) m)
    sits_of n id m is = subst (λ (u : Me (TicketSlot J E) (TicketView J)). Allows (Kept permits) n id u 0 (λ y. either (eqb y 0) 1 y) (spec.sits (step n 0 0 1 none) u)) (sym is) (sits n id [])

    pub takes_job_of : (n id : ℕ) (m : Me (TicketSlot J E) (TicketView J)) → m ≡ (Away, []) → Allows (Kept permits) n id m 0 (λ y. either (eqb y 2) 3 y) (spec.takes_job (step n 0 2 3 none) m)
    takes_job_of n id m is = subst (λ (u : Me (TicketSlot J E) (TicketView J)). Allows (Kept permits) n id u 0 (λ y. either (eqb y 2) 3 y) (spec.takes_job (step n 0 2 3 none) u)) (sym is) (takes_job n id [])

    pub opens_with : (ws : List ℕ) (xs : List (TicketSlot J E)) → ws ≡ 0 ∷ [] → xs ≡ Blank ∷ [] → Kept permits (opening ws xs Away)
    opens_with ws xs is is' = subst (λ (u : List ℕ × List (TicketSlot J E)). Kept permits (opening u.0 u.1 Away)) (λ q. (sym is q, sym is' q)) opens

module _ {J E : Type 0} where
  -- a seat that took a slot can read it
  pub front : (m' : Me (TicketSlot J E) (TicketView J)) (v : TicketView J) (x : TicketSlot J E) (c : List (ℕ × TicketSlot J E)) → m' ≡ (v, (0, x) ∷ c) → (y : TicketSlot J E) × (m'.1 ≡ (0, y) ∷ rest m'.1)
  front m' v x c is = (x, ap (λ (u : Me (TicketSlot J E) (TicketView J)). u.1) is ∙ sym (ap (λ (u : Me (TicketSlot J E) (TicketView J)). (0, x) ∷ rest u.1) is))
