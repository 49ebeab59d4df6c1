use Rattle.std.proofs.Common.{◌≡◌, ◌/◌, sum, ℕ, Bool, List, map, ap, ◌∙◌, sym, subst, arith}
use Rattle.limit_tree.specs.Outline.{limits as seen}
use Rattle.line_rates.specs.TickTree.{Asker, lane_in}
use Rattle.fair_shares.specs.Asked.{AreApart, IsAskedPlan}
use Rattle.lane_desk.specs.Refusals.{IsRefused}
use Rattle.lane_desk.specs.Traces.{traces}
use Rattle.lane_desk.specs.Posted.{AreDue, posted_all, nothing_for}
use Rattle.lane_desk.specs.Tried.{is_given}
use Rattle.lane_desk.specs.Rounded.{IsRoundOver, IsRefusedRoundOver}
use Rattle.lane_desk.proofs.AskedLemmas.{found_apart}
use Rattle.lane_desk.proofs.RoundLemmas.{due_plan, due_asks, posted_mid, rounded, round_total, answered_round, refused, refused_total, answered_refused}
use Rattle.lane_desk.proofs.round.RoundDesk.round_of.Goals as goal

pub decide-requires : goal.decide-requires
decide-requires g c =
    let t = c.collect_all.ensures.tried in
    record { apart = subst AreApart (sym c.as_slice.ensures.asks) (found_apart t.0 c.collect_all.new.asks.asks t.1.asks_are) }

pub post_all-requires-clause-due : goal.post_all-requires-clause-due
post_all-requires-clause-due g c =
    let t = c.collect_all.ensures.tried in
    let given : ℕ → Bool = is_given c.args.given.now in
    let old = traces c.args.self.now in
    let mid = traces c.collect_all.new.round in
    let asks = c.collect_all.new.asks.asks in
    let marks = c.collect_all.new.asks.answered in
    let rates = c.args.limits.now in
    let tick : ℕ = c.args.moment / 100 in
    let d = c.in-Ok.decision in
    let tree = seen d.sealed.tree in
    let own = subst (λ (xs : List Asker). IsAskedPlan rates tick xs tree d.lanes.items d.asks.items) c.as_slice.ensures.asks c.in-Ok.ensures.plan in
    subst (λ (ls : List ℕ). AreDue ls mid) (sym c.deref.ensures.value) (due_plan rates tick tree d.lanes.items given t.0 old mid asks marks t.1 c.requires.answered own.plan)

pub post_all-requires-clause-most : goal.post_all-requires-clause-most
post_all-requires-clause-most g c =
    let t = c.collect_all.ensures.tried in
    let given : ℕ → Bool = is_given c.args.given.now in
    let old = traces c.args.self.now in
    let mid = traces c.collect_all.new.round in
    let asks = c.collect_all.new.asks.asks in
    let marks = c.collect_all.new.asks.answered in
    let rates = c.args.limits.now in
    let tick : ℕ = c.args.moment / 100 in
    omega (arith, posted_mid given t.0 old mid asks marks t.1, c.requires.issued, c.in-Ok.ensures.most, ap sum c.grants.ensures.grants)

pub refuse_all-requires-clause-due : goal.refuse_all-requires-clause-due
refuse_all-requires-clause-due g c =
    let t = c.collect_all.ensures.tried in
    let given : ℕ → Bool = is_given c.args.given.now in
    let old = traces c.args.self.now in
    let mid = traces c.collect_all.new.round in
    let asks = c.collect_all.new.asks.asks in
    let marks = c.collect_all.new.asks.answered in
    let rates = c.args.limits.now in
    let tick : ℕ = c.args.moment / 100 in
    subst (λ (xs : List Asker). AreDue (map lane_in xs) mid) (sym c.as_slice-in-Err.ensures.asks) (due_asks given t.0 old mid asks marks t.1 c.requires.answered)

pub returns-in-Ok-clause-round : goal.returns-in-Ok-clause-round
returns-in-Ok-clause-round g c =
    let t = c.collect_all.ensures.tried in
    let given : ℕ → Bool = is_given c.args.given.now in
    let old = traces c.args.self.now in
    let mid = traces c.collect_all.new.round in
    let asks = c.collect_all.new.asks.asks in
    let marks = c.collect_all.new.asks.answered in
    let rates = c.args.limits.now in
    let tick : ℕ = c.args.moment / 100 in
    let d = c.in-Ok.decision in
    let tree = seen d.sealed.tree in
    let own = subst (λ (xs : List Asker). IsAskedPlan rates tick xs tree d.lanes.items d.asks.items) c.as_slice.ensures.asks c.in-Ok.ensures.plan in
    let new = traces c.post_all.new.round in
    let is : new ≡ posted_all d.lanes.items d.sealed.grants mid = c.post_all.ensures.posted ∙ (λ q. posted_all (c.deref.ensures.value q) (c.grants.ensures.grants q) mid) in
    subst (λ (n : ℕ). IsRoundOver given rates tick old new n tree d.lanes.items d.asks.items d.sealed.grants) (sym c.answered-answered.ensures.answered)
    (rounded rates tick tree d.lanes.items d.asks.items d.sealed.grants given t.0 old mid new asks marks t.1 c.requires.answered own c.in-Ok.ensures.each is)

pub returns-in-Ok-clause-answered : goal.returns-in-Ok-clause-answered
returns-in-Ok-clause-answered g c =
    let t = c.collect_all.ensures.tried in
    let given : ℕ → Bool = is_given c.args.given.now in
    let old = traces c.args.self.now in
    let mid = traces c.collect_all.new.round in
    let asks = c.collect_all.new.asks.asks in
    let marks = c.collect_all.new.asks.answered in
    let rates = c.args.limits.now in
    let tick : ℕ = c.args.moment / 100 in
    let d = c.in-Ok.decision in
    let tree = seen d.sealed.tree in
    let own = subst (λ (xs : List Asker). IsAskedPlan rates tick xs tree d.lanes.items d.asks.items) c.as_slice.ensures.asks c.in-Ok.ensures.plan in
    let new = traces c.post_all.new.round in
    let is : new ≡ posted_all d.lanes.items d.sealed.grants mid = c.post_all.ensures.posted ∙ (λ q. posted_all (c.deref.ensures.value q) (c.grants.ensures.grants q) mid) in
    answered_round given rates tick tree d.lanes.items d.asks.items d.sealed.grants old new marks (rounded rates tick tree d.lanes.items d.asks.items d.sealed.grants given t.0 old mid new asks marks t.1 c.requires.answered own c.in-Ok.ensures.each is) c.requires.answered

pub returns-in-Ok-clause-total : goal.returns-in-Ok-clause-total
returns-in-Ok-clause-total g c =
    let t = c.collect_all.ensures.tried in
    let given : ℕ → Bool = is_given c.args.given.now in
    let old = traces c.args.self.now in
    let mid = traces c.collect_all.new.round in
    let asks = c.collect_all.new.asks.asks in
    let marks = c.collect_all.new.asks.answered in
    let rates = c.args.limits.now in
    let tick : ℕ = c.args.moment / 100 in
    let d = c.in-Ok.decision in
    let tree = seen d.sealed.tree in
    let own = subst (λ (xs : List Asker). IsAskedPlan rates tick xs tree d.lanes.items d.asks.items) c.as_slice.ensures.asks c.in-Ok.ensures.plan in
    let new = traces c.post_all.new.round in
    let is : new ≡ posted_all d.lanes.items d.sealed.grants mid = c.post_all.ensures.posted ∙ (λ q. posted_all (c.deref.ensures.value q) (c.grants.ensures.grants q) mid) in
    round_total rates tick tree d.lanes.items d.sealed.grants given t.0 old mid new asks marks t.1 c.requires.answered own.plan c.in-Ok.ensures.each is

pub returns-in-Err-clause-refused : goal.returns-in-Err-clause-refused
returns-in-Err-clause-refused g c =
    let t = c.collect_all.ensures.tried in
    let given : ℕ → Bool = is_given c.args.given.now in
    let old = traces c.args.self.now in
    let mid = traces c.collect_all.new.round in
    let asks = c.collect_all.new.asks.asks in
    let marks = c.collect_all.new.asks.answered in
    let rates = c.args.limits.now in
    let tick : ℕ = c.args.moment / 100 in
    let new = traces c.refuse_all.new.round in
    let is : new ≡ posted_all (map lane_in asks) (map nothing_for asks) mid = c.refuse_all.ensures.posted ∙ ap (λ (xs : List Asker). posted_all (map lane_in xs) (map nothing_for xs) mid) c.as_slice-in-Err.ensures.asks in
    let why = subst (λ (xs : List Asker). IsRefused g.row.A.Denot rates tick xs c.args.book.now c.in-Err.reason) c.as_slice.ensures.asks c.in-Err.ensures.refused in
    subst (λ (n : ℕ). IsRefusedRoundOver g.row.A.Denot given rates tick c.args.book.now old new n c.in-Err.reason) (sym c.answered-answered.ensures.answered)
    (refused g.row.A.Denot rates tick c.args.book.now c.in-Err.reason given t.0 old mid new asks marks t.1 c.requires.answered why is)

pub returns-in-Err-clause-answered : goal.returns-in-Err-clause-answered
returns-in-Err-clause-answered g c =
    let t = c.collect_all.ensures.tried in
    let given : ℕ → Bool = is_given c.args.given.now in
    let old = traces c.args.self.now in
    let mid = traces c.collect_all.new.round in
    let asks = c.collect_all.new.asks.asks in
    let marks = c.collect_all.new.asks.answered in
    let rates = c.args.limits.now in
    let tick : ℕ = c.args.moment / 100 in
    let new = traces c.refuse_all.new.round in
    let is : new ≡ posted_all (map lane_in asks) (map nothing_for asks) mid = c.refuse_all.ensures.posted ∙ ap (λ (xs : List Asker). posted_all (map lane_in xs) (map nothing_for xs) mid) c.as_slice-in-Err.ensures.asks in
    let why = subst (λ (xs : List Asker). IsRefused g.row.A.Denot rates tick xs c.args.book.now c.in-Err.reason) c.as_slice.ensures.asks c.in-Err.ensures.refused in
    answered_refused g.row.A.Denot given rates tick c.args.book.now c.in-Err.reason old new marks (refused g.row.A.Denot rates tick c.args.book.now c.in-Err.reason given t.0 old mid new asks marks t.1 c.requires.answered why is) c.requires.answered

pub returns-in-Err-clause-unposted : goal.returns-in-Err-clause-unposted
returns-in-Err-clause-unposted g c =
    let t = c.collect_all.ensures.tried in
    let given : ℕ → Bool = is_given c.args.given.now in
    let old = traces c.args.self.now in
    let mid = traces c.collect_all.new.round in
    let asks = c.collect_all.new.asks.asks in
    let marks = c.collect_all.new.asks.answered in
    let rates = c.args.limits.now in
    let tick : ℕ = c.args.moment / 100 in
    let new = traces c.refuse_all.new.round in
    let is : new ≡ posted_all (map lane_in asks) (map nothing_for asks) mid = c.refuse_all.ensures.posted ∙ ap (λ (xs : List Asker). posted_all (map lane_in xs) (map nothing_for xs) mid) c.as_slice-in-Err.ensures.asks in
    refused_total given t.0 old mid new asks marks t.1 c.requires.answered is
