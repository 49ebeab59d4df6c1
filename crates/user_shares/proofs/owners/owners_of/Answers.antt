use Rattle.std.proofs.Common.{◌≡◌, ◌+◌, ◌<◌, ◌≤◌, ℕ, List, length, drop, sym, ap, ◌∙◌, subst, arith, inl, inr}
use Rattle.std.specs.Prelude.{slice_index}
use Rattle.std.proofs.lemmas.Bool.{cases_eq, cases_lt}
use Rattle.user_shares.specs.InRow.{IsNext, StandFrom}
use Rattle.user_shares.specs.Nodes.{AreUsers, IsUserNode}
use Rattle.user_shares.proofs.Alike.{has-users}
use Rattle.user_shares.proofs.Grown.{node-kept, node-new, same-leaves, stand-next}
use Rattle.user_shares.proofs.owners.owners_of.Goals as goal

pub returns-in-None-clause-none : goal.returns-in-None-clause-none
returns-in-None-clause-none g c = λ row.
    let outline = c.args.flat.now in
    let users = c.args.users.now in
    let user = c.loop-user.user in
    let next = stand-next outline users user (length c.loop-user.owners.items) (omega arith) (c.loop-user.invariant.rest row) in
    let long : c.len.result ≡ length c.loop-user.owners.items = omega arith in
    c.in-None.ensures.none next.0 (subst (λ (n : ℕ). IsNext outline (slice_index users user) n next.0) (sym long) next.1)

pub loop-user-preserved : goal.loop-user-preserved
loop-user-preserved g c =
    let outline = c.args.flat.now in
    let users = c.args.users.now in
    let user = c.loop-user.user in
    let old = c.loop-user.owners.items in
    let new = c.push_leaves.new.owners.items in
    let own = c.in-Some.own in
    let grown = c.in_ok-push_leaves-in-Some.ensures.grown in
    let long : c.len.result ≡ length old = omega arith in
    let next : IsNext outline (slice_index users user) (length old) own = subst (λ (n : ℕ). IsNext outline (slice_index users user) n own) long c.in-Some.ensures.next in
    let before = c.loop-user.invariant in
    record {
      most = omega (arith, before.most, grown.long, next.some, next.count);
      inside = omega (arith, grown.long, c.in-Some.ensures.inside);
      few = λ i l. elim (cases_lt i (length old)) [
        | inl low ↦ omega (arith, before.few i low, grown.before i low)
        | inr high ↦ omega (arith, grown.own i (omega (arith, high)) l)
      ];
      node = λ u l. elim (cases_eq u user) [
        | inl e ↦ subst (λ (v : ℕ). IsUserNode outline new v (slice_index users v)) (sym e) (node-new outline old new user own (slice_index users user) grown before.few next)
        | inr ne ↦ node-kept outline old new user own u (slice_index users u) grown ne (before.node u (elim (cases_lt u user) [ inl low ↦ low | inr high ↦ absurd (ne (omega (arith, l, high))) ]))
      ];
      rest = λ row.
          let at = stand-next outline users user (length old) (omega arith) (before.rest row) in
          let same : own ≡ at.0 = same-leaves outline (slice_index users user) (length old) own at.0 next at.1 in
          subst (λ (n : ℕ). StandFrom outline n (drop (user + 1) users)) (sym (grown.long ∙ ap (λ (n : ℕ). length old + n) same)) at.2;
    }

pub returns-then-len-leaves-clause-users : goal.returns-then-len-leaves-clause-users
returns-then-len-leaves-clause-users g c =
    let before = c.loop-user.invariant in
    let us : AreUsers c.args.flat.now c.args.users.now c.loop-user.owners.items = record {
      each = omega arith;
      few = λ i l. omega (arith, before.few i l);
      node = λ u l. before.node u (omega (arith, l));
    } in
    has-users c.args.flat.now c.args.users.now c.loop-user.owners.items c.leaves-leaves.ensures.limit_tree.branches us
