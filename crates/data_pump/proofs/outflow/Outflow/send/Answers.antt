use Rattle.std.proofs.Common.{◌≡◌, ◌<◌, ◌≤◌, length, take, inl, inr, refl, sym, ap, ◌∙◌, subst, arith, length-drop}
use Rattle.std.proofs.lemmas.List.{take-take, length-take}
use Rattle.std.proofs.KnownBytes.{Consumes-kept}
use Rattle.std.specs.Io.KnownBytes.{Appends, Consumes}
use Rattle.line_rates.specs.declared.ask.Way.TheVariants.{Down}
use Rattle.data_pump.specs.declared.pumped.FailedPart.TheVariants.{Connection}
use Rattle.data_pump.specs.Counts.{Counted, next_if, is_part, failed_part}
use Rattle.data_pump.specs.Downloads.{OutFlow, still_to_come}
use Rattle.data_pump.proofs.DownloadLemmas.{to_come-consume, moves_from}
use Rattle.data_pump.proofs.outflow.Outflow.send.Goals as goal

pub returns-then-moved-count : goal.returns-then-moved-count
returns-then-moved-count g c =
    let waits = c.self.inside.buffer in
    let moved = c.write_front-moved.result in
    let count = c.min-count.result in
    let known = g.S.Source.remaining c.self.inside.source.end in
    let few : moved ≤ count =
    omega (arith, c.write_front-moved.ensures.bound, ap length c.front.ensures.front, length-take count waits.octets) in
    let fewer : moved < length c.front.result.now =
    omega (arith, c.if-moved-count.true, ap length c.front.ensures.front, length-take count waits.octets, c.min-count.ensures, c.len.ensures.len) in
    record {
      moved = moves_from g.S.Source.remaining g.K.Write.contents c.args.most _ _ _ _ c.self.view_is (record {
        most = omega (arith, few, c.min-count.ensures, c.len.ensures.len);
        fewer = λ h. refl;
        failed = λ e. omega (arith, c.if-moved-count.true, c.min-count.ensures, c.len.ensures.len);
        written =
            subst (λ xs. Appends (g.K.Write.contents c.self.inside.connection.end) (g.K.Write.contents c.write_front-moved.new.connection.end) xs)
            (ap (take moved) c.front.ensures.front ∙ take-take moved count waits.octets few) c.write_front-moved.ensures.written;
        come =
            subst (λ t. Consumes (still_to_come waits.data_type waits.octets known) (still_to_come t c.consume.new.self.octets known) (take moved waits.octets))
            (sym c.consume.ensures.data_type)
            (subst (λ l. Consumes (still_to_come waits.data_type waits.octets known) (still_to_come waits.data_type l known) (take moved waits.octets))
            (sym c.consume.ensures.left) (to_come-consume waits.data_type moved waits.octets known));
        no_call = λ e.
            let none : count ≡ 0 = omega (arith, e, c.min-count.ensures) in
            let same = c.write_front-moved.ensures.no_call (c.front.ensures.front ∙ ap (λ n. take n waits.octets) none) in
            (ap (λ (k : Counted g.row.K.Denot). k.end) same, ap (λ (k : Counted g.row.K.Denot). k.calls) same);
        left = λ h. (c.consume.ensures.left, refl, refl);
        once = inl refl;
        lent = inl (refl, refl);
        reads_failed = refl;
        writes_failed = c.write_front-moved.ensures.failed fewer;
        more = λ e. absurd (cc e);
        ended = λ e. absurd (cc e);
        at_end = λ e. absurd (cc e);
        fault = λ e. elim e [ inl p ↦ absurd (cc p) | inr p ↦ absurd (cc p) ];
        data_type = c.consume.ensures.data_type;
        room = c.consume.ensures.room;
      });
    }

pub returns : goal.returns
returns g c =
    let waits = c.self.inside.buffer in
    let moved = c.write_front-moved.result in
    let count = c.min-count.result in
    let known = g.S.Source.remaining c.self.inside.source.end in
    let few : moved ≤ count =
    omega (arith, c.write_front-moved.ensures.bound, ap length c.front.ensures.front, length-take count waits.octets) in
    let all : moved ≡ length c.front.result.now =
    omega (arith, few, c.if-moved-count.false, c.write_front-moved.ensures.bound, ap length c.front.ensures.front, length-take count waits.octets, c.min-count.ensures, c.len.ensures.len) in
    let first : Consumes (still_to_come waits.data_type waits.octets known) (still_to_come c.consume.new.self.data_type c.consume.new.self.octets known) (take moved waits.octets) =
    subst (λ t. Consumes (still_to_come waits.data_type waits.octets known) (still_to_come t c.consume.new.self.octets known) (take moved waits.octets))
    (sym c.consume.ensures.data_type)
    (subst (λ l. Consumes (still_to_come waits.data_type waits.octets known) (still_to_come waits.data_type l known) (take moved waits.octets))
    (sym c.consume.ensures.left) (to_come-consume waits.data_type moved waits.octets known)) in
    let kept = c.refill.ensures.connection in
    record {
      moved = moves_from g.S.Source.remaining g.K.Write.contents c.args.most _ _ _ _ c.self.view_is (record {
        most = omega (arith, few, c.min-count.ensures, c.len.ensures.len);
        fewer = λ h. absurd (omega (arith, h, c.if-moved-count.false, c.min-count.ensures, c.len.ensures.len));
        failed = λ e. absurd (c.refill.ensures.own e);
        written =
            subst (λ k. Appends (g.K.Write.contents c.self.inside.connection.end) (g.K.Write.contents k) (take moved waits.octets)) (sym kept.0)
            (subst (λ xs. Appends (g.K.Write.contents c.self.inside.connection.end) (g.K.Write.contents c.write_front-moved.new.connection.end) xs)
            (ap (take moved) c.front.ensures.front ∙ take-take moved count waits.octets few) c.write_front-moved.ensures.written);
        come = Consumes-kept _ _ _ (take moved waits.octets) first c.refill.ensures.come;
        no_call = λ e.
            let none : count ≡ 0 = omega (arith, e, c.min-count.ensures) in
            let same = c.write_front-moved.ensures.no_call (c.front.ensures.front ∙ ap (λ n. take n waits.octets) none) in
            (kept.0 ∙ ap (λ (k : Counted g.row.K.Denot). k.end) same, kept.1 ∙ ap (λ (k : Counted g.row.K.Denot). k.calls) same);
        left = λ h.
            let some : 0 < length c.consume.new.self.octets =
            omega (arith, h, ap length c.consume.ensures.left, length-drop moved waits.octets) in
            let same = c.refill.ensures.left some in (
              ap (λ (f : OutFlow g.row.S.Denot g.row.K.Denot). f.waiting) same ∙ c.consume.ensures.left,
              ap (λ (f : OutFlow g.row.S.Denot g.row.K.Denot). f.source) same,
              ap (λ (f : OutFlow g.row.S.Denot g.row.K.Denot). f.reads) same,
            );
        once = c.refill.ensures.once;
        lent = c.refill.ensures.lent;
        reads_failed = c.refill.ensures.reads_failed;
        writes_failed =
            c.refill.ensures.writes_failed
            ∙ ap (next_if (is_part Connection (failed_part Down c.refill.result))) (c.write_front-moved.ensures.passed all);
        more = c.refill.ensures.more;
        ended = λ e. (c.refill.ensures.ended e).0;
        at_end = λ e. (c.refill.ensures.ended e).1;
        fault = c.refill.ensures.fault;
        data_type = c.refill.ensures.data_type ∙ c.consume.ensures.data_type;
        room = c.refill.ensures.room ∙ c.consume.ensures.room;
      });
    }
