use Rattle.std.proofs.Common.{[], None, refl, true}
use Rattle.control_session.specs.Standing.{stand}
use Rattle.control_session.specs.Turns.{asked_as, at}
use Rattle.control_session.proofs.Going.{on_ok_to}
use Rattle.control_session.proofs.Listening.{on_err_to}
use Rattle.control_session.proofs.session.run_session.Goals as goal

pub returns : goal.returns
returns g c =
    let said = c.carry_all-lost.ensures.carries in
    let far = c.converse-outcome.ensures.went in
    let talk = c.converse-outcome.new.talk in
    record {
      whole = record {
        actions = c.args.actions.items;
        said = said.0;
        lost = c.carry_all-lost.result;
        mid = c.carry_all-lost.new.host;
        turned = c.converse-outcome.new.host;
        stood = stand talk far.0 far.1;
        last = at c.close.new.talk.session None far.0 (asked_as true far.1) [] talk.closed talk.lost;
        row = c.requires.greeting;
        greets = said.2;
        greeted = said.1;
        went = far.2;
        closing = c.close.ensures.closing far.0 far.1;
        closed_then = c.close.ensures.closed;
        answered = refl;
        paid = refl;
        heard = on_ok_to c.converse-outcome.result _ _ (λ ok. c.reads_as.ensures.only _ _ ok.0) far.5;
        cut = on_err_to c.converse-outcome.result _ _ (λ cut. (cut.0, cut.1, cut.2, c.reads_as.ensures.only _ _ cut.3)) far.6;
        all = on_ok_to c.converse-outcome.result _ _ (λ ok. ok.1) far.5;
        whole = c.converse-outcome.ensures.whole;
        reads = far.3;
        read_fault = far.4;
        lost_to = c.converse-outcome.ensures.lost;
      };
    }
