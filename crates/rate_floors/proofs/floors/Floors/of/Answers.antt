use Rattle.std.proofs.Common.{◌≡◌, ◌∙◌, sym, ap, subst, List, ℕ, map}
use Rattle.std.specs.List.{All}
use Rattle.line_rates.specs.declared.row.GroupRate.{GroupRate}
use Rattle.line_rates.specs.declared.row.UserRate.{UserRate}
use Rattle.line_rates.specs.declared.share_by.ShareBy.{ShareBy}
use Rattle.line_rates.specs.Rates.{Rates, shared_by}
use Rattle.line_rates.specs.Stated.{by_number, stated, group_number, user_number}
use Rattle.rate_floors.specs.declared.find.GroupPromise.{GroupPromise}
use Rattle.rate_floors.specs.declared.find.UserSessions.{UserSessions}
use Rattle.rate_floors.specs.Promises.{group_row, user_row, no_session, no_promise, IsReported, PromisesFit, seen}
use Rattle.rate_floors.proofs.FitLemmas.{fit_none}
use Rattle.rate_floors.proofs.FloorLemmas.{reported_none, same_limits, none_counted}
use Rattle.rate_floors.proofs.floors.Floors.of.Goals as goal

same_of : (r : Rates) (by : ShareBy) (server down up : ℕ) (gs : List GroupPromise) (us : List UserSessions) (groups : List GroupRate) (users : List UserRate) → by ≡ r.share_by → server ≡ r.server → down ≡ r.down → up ≡ r.up
    → gs ≡ map no_promise groups → us ≡ map no_session users → by_number group_number groups ≡ r.groups → by_number user_number users ≡ r.users → shared_by by (stated server down up (map group_row gs) (map user_row us)) ≡ r
same_of r by server down up gs us groups users y s d u g t a b =
    ap (λ x. shared_by x (stated server down up (map group_row gs) (map user_row us))) y
    ∙ ap (λ x. shared_by r.share_by (stated x down up (map group_row gs) (map user_row us))) s
    ∙ ap (λ x. shared_by r.share_by (stated r.server x up (map group_row gs) (map user_row us))) d
    ∙ ap (λ x. shared_by r.share_by (stated r.server r.down x (map group_row gs) (map user_row us))) u
    ∙ ap (λ x. shared_by r.share_by (stated r.server r.down r.up (map group_row x) (map user_row us))) g
    ∙ ap (λ x. shared_by r.share_by (stated r.server r.down r.up (map group_row (map no_promise groups)) (map user_row x))) t
    ∙ same_limits r groups users a b

pub invariant_of-result : goal.invariant_of-result
invariant_of-result g c = record {
  reported = subst (λ (gs : List GroupPromise). IsReported 0 0 gs c.in_ok-users.users.items) (sym c.in_ok-groups.ensures.none)
      (subst (λ (us : List UserSessions). IsReported 0 0 (map no_promise c.groups.result.now) us) (sym c.in_ok-users.ensures.none)
      (reported_none c.groups.result.now c.users.result.now c.groups.ensures.rising c.users.ensures.rising c.users.ensures.fit));
  fit = subst (λ (us : List UserSessions). PromisesFit (seen c.share_by.result c.rate.result c.rate-2.result c.rate-3.result c.in_ok-groups.groups.items us)) (sym c.in_ok-users.ensures.none)
      (fit_none c.share_by.result c.rate.result c.rate-2.result c.rate-3.result c.in_ok-groups.groups.items c.users.result.now c.users.ensures.rising);
}

pub returns-clause-rates : goal.returns-clause-rates
returns-clause-rates g c =
    same_of c.args.limits.now c.share_by.result c.rate.result c.rate-2.result c.rate-3.result c.in_ok-groups.groups.items c.in_ok-users.users.items c.groups.result.now c.users.result.now
    c.share_by.ensures.share_by c.rate.ensures.rate c.rate-2.ensures.rate c.rate-3.ensures.rate c.in_ok-groups.ensures.none c.in_ok-users.ensures.none c.groups.ensures.rows c.users.ensures.rows

pub returns-clause-none : goal.returns-clause-none
returns-clause-none g c = subst (All (λ (entry : UserSessions). entry.sessions ≡ 0)) (sym c.in_ok-users.ensures.none) (none_counted c.users.result.now)
