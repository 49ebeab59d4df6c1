use Rattle.std.proofs.Common.{◌≡◌, take, ap, subst, ◌∙◌, arith}
use Rattle.std.proofs.lemmas.List.{length-take-le}
use Rattle.data_pump.specs.Counts.{CallCounts}
use Rattle.data_pump.specs.Uploads.{Gives}
use Rattle.data_pump.proofs.UploadLemmas.{front_of, moves_from, moves_none, no_read_fault}
use Rattle.data_pump.proofs.inflow.Inflow.take.Goals as goal

pub returns-then-most-eq0 : goal.returns-then-most-eq0
returns-then-most-eq0 g c = record { moved = moves_none g.K.Read.remaining g.T.Sink.collected g.T.Sink.target c.args.most c.args.self.now c.if-most-eq0.true }

pub returns-in-Ok : goal.returns-in-Ok
returns-in-Ok g c =
    let read = take c.in-Ok.count c.read_once.new.octets in
    let piece : c.deref.result.now ≡ c.read_once.new.octets =
    c.deref.ensures.value ∙ front_of c.read_once.new.octets _ _ (omega (arith, c.deref_mut.ensures.len, c.read_once.auto.octets)) in
    record {
      moved = moves_from g.K.Read.remaining g.T.Sink.collected g.T.Sink.target c.args.most _ _ _ _ c.self.view_is (record {
        most = omega (arith, c.in-Ok.ensures.bound, c.min-limit.ensures);
        read = read;
        count = length-take-le c.in-Ok.count c.read_once.new.octets
            (omega (arith, c.in-Ok.ensures.bound, c.min-limit.ensures, c.read_once.auto.octets, c.deref_mut.ensures.len, c.self.invariant.octets_room));
        consumed = c.in-Ok.ensures.read;
        no_call = λ e. absurd (omega (arith, e, c.if-most-eq0.false));
        once = λ some. ap (λ (calls : CallCounts). calls.made) c.in-Ok.ensures.counts;
        lent = λ some. omega (arith, c.read_once.ensures.lent, c.min-limit.ensures);
        reads_failed =
            ap (λ (calls : CallCounts). calls.failed) c.in-Ok.ensures.counts
            ∙ no_read_fault c.give.result c.self.inside.connection.calls.failed c.give.ensures.own.1;
        writes_once = c.give.ensures.once;
        writes_failed = c.give.ensures.failed;
        some = λ e some. omega (arith, c.in-Ok.count-test.1);
        given = λ e.
            subst (λ xs. Gives c.self.inside.wire.data_type c.self.inside.wire.held xs (g.T.Sink.collected c.self.inside.sink.end) (g.T.Sink.collected c.give.new.sink.end) c.give.new.wire.held)
            (ap (take c.in-Ok.count) piece) (c.give.ensures.given e);
        ended = λ e. absurd (c.give.ensures.own.0 e);
        failed = λ e. absurd (c.give.ensures.own.1 e);
        refused = c.give.ensures.refused;
        same_target = c.give.ensures.target;
        same_type = c.give.ensures.data_type;
      });
    }
