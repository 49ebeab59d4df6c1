use Rattle.std.proofs.Common.{arith, inl, inr}
use Rattle.std.specs.Prelude.{slice_index}
use Rattle.std.proofs.lemmas.Bool.{MatchBool-at_true, MatchBool-at_false, false≢true}
use Rattle.grant_certificate.proofs.UserChecks.{exact-none, rich-exact, greater-near}
use Rattle.grant_certificate.proofs.by_users.holds_among.Goals as goal

pub returns-then-not-are_in : goal.returns-then-not-are_in
returns-then-not-are_in c =
    let bad = MatchBool-at_false _ _ c.if-not-are_in.true c.are_in.ensures.all in
    record {
      holds = (
        λ told. absurd (false≢true told),
        λ outer. let at = outer.all bad.0 bad.1 bad.2 in absurd (elim bad.3 [ inl low ↦ omega (arith, low, at.0) | inr high ↦ omega (arith, high, at.1) ]),
      );
    }

pub returns-then-not-are_near : goal.returns-then-not-are_near
returns-then-not-are_near c =
    let bad = MatchBool-at_false _ _ c.if-not-are_near.true c.are_near.ensures.all in
    record {
      holds = (
        λ told. absurd (false≢true told),
        λ outer. absurd (greater-near c.args.of.grants.now c.args.of.floors.now (slice_index c.args.of.grants.now c.args.leaf) bad.0 bad.3 (outer.greatest bad.0 bad.1 bad.2)),
      );
    }

pub returns : goal.returns
returns c =
    let p = c.args.place in
    let of = c.args.of in
    let exact = exact-none c.none_greater.result p.first p.leaves of.totals.now of.floor_totals.now (slice_index of.totals.now c.args.leaf) c.none_greater.ensures.none in
    let rich = rich-exact c.args.of.owners.now c.args.of.grants.now c.args.of.floors.now of.totals.now of.floor_totals.now p.first p.leaves c.args.leaf c.requires.leaf c.requires.inside of.granted of.guaranteed in
    record {
      holds = (
        λ told. record {
          all = MatchBool-at_true _ _ c.if-not-are_in.false c.are_in.ensures.all;
          greatest = MatchBool-at_true _ _ c.if-not-are_near.false c.are_near.ensures.all;
          richest = rich.0 (exact.0 told);
        },
        λ outer. exact.1 (rich.1 outer.richest),
      );
    }
