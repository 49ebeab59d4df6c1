use Rattle.std.proofs.Common.{◌≡◌, ◌<◌, ◌/◌, ℕ, Bool, true, false, List, length, replicate, arith}
use Rattle.std.proofs.lemmas.List.{get_or-replicate}
use Rattle.std.proofs.lemmas.Result.{IfOk-weaker, IfErr-weaker}
use Rattle.limit_tree.specs.Outline.{limits as seen}
use Rattle.lane_desk.specs.Traces.{traces}
use Rattle.lane_desk.specs.Tried.{is_given}
use Rattle.lane_desk.proofs.RoundLemmas.{whole_round, whole_refusal}
use Rattle.lane_desk.proofs.round.RoundDesk.round.Goals as goal

pub returns-clause-round : goal.returns-clause-round
returns-clause-round g c =
    let given : ℕ → Bool = is_given (replicate 64 true) in
    let old = traces c.args.self.now in
    let new = traces c.round_of.new.self in
    let alike : (i : ℕ) → i < length old → given i ≡ true = λ i near. get_or-replicate 64 i true false (omega (arith, near, c.args.self.now.few, c.args.self.now.knows.wide)) in
    IfOk-weaker c.round_of.result _ _
    (λ r w. whole_round given c.args.limits.now (c.args.moment / 100) old new r.answered alike (seen r.sealed.tree) r.lanes.items r.asks.items r.sealed.grants w)
    c.round_of.ensures.round

pub returns-clause-refused : goal.returns-clause-refused
returns-clause-refused g c =
    let given : ℕ → Bool = is_given (replicate 64 true) in
    let old = traces c.args.self.now in
    let new = traces c.round_of.new.self in
    let alike : (i : ℕ) → i < length old → given i ≡ true = λ i near. get_or-replicate 64 i true false (omega (arith, near, c.args.self.now.few, c.args.self.now.knows.wide)) in
    IfErr-weaker c.round_of.result _ _
    (λ f w. whole_refusal given c.args.limits.now (c.args.moment / 100) old new f.answered alike g.row.A.Denot c.args.book.now f.reason w)
    c.round_of.ensures.refused
