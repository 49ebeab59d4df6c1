use Rattle.std.proofs.Common.{ap, true}
use Rattle.control_session.specs.Sides.{came_of}
use Rattle.control_session.specs.Standing.{owed}
use Rattle.control_session.specs.Turns.{asked_as}
use Rattle.control_session.proofs.Going.{went_more}
use Rattle.control_session.proofs.Turning.{came_as, leaves_went, pay_went, settles_went}
use Rattle.control_session.proofs.closing.close.Goals as goal

pub returns-clause-went : goal.returns-clause-went
returns-clause-went g c taken heard =
    let closed = c.args.talk.now.closed in
    let lost = c.args.talk.now.lost in
    let left = c.leave-left.result in
    went_more _ _ _ _ _ _ _ _ (leaves_went _ _ _ _ _ _ _ (came_of c.args.talk.now.came) taken heard closed lost c.close-leaving.result left c.leave-left.ensures.owes c.close-leaving.ensures.row (c.leave-left.ensures.carries lost))
    (went_more _ _ _ _ _ _ _ _ (came_as _ _ _ _ _ (came_of c.replace-came.result) (came_of c.args.talk.now.came) taken heard (owed left) closed lost _ (ap came_of c.replace-came.ensures.value) (c.end.ensures.went taken heard (owed left) closed lost))
    (went_more _ _ _ _ _ _ _ _ (settles_went _ _ _ _ _ taken heard (owed left) closed lost (came_of c.settle-last.result) c.end.ensures.closed c.settle-last.ensures)
    (went_more _ _ _ _ _ _ _ _ (c.end-2.ensures.went taken (asked_as true heard) (owed left) closed lost)
    (pay_went _ _ _ _ _ _ taken (asked_as true heard) left closed lost c.pay.ensures.paid))))

pub returns-clause-closing : goal.returns-clause-closing
returns-clause-closing g c taken heard =
    let closed = c.args.talk.now.closed in
    let lost = c.args.talk.now.lost in
    let left = c.leave-left.result in
    record {
      mid = c.end.new.host;
      mid' = c.settle-last.new.self;
      session = c.end.new.session;
      owes = owed left;
      event = came_of c.settle-last.result;
      first = went_more _ _ _ _ _ _ _ _ (leaves_went _ _ _ _ _ _ _ (came_of c.args.talk.now.came) taken heard closed lost c.close-leaving.result left c.leave-left.ensures.owes c.close-leaving.ensures.row (c.leave-left.ensures.carries lost))
          (came_as _ _ _ _ _ (came_of c.replace-came.result) (came_of c.args.talk.now.came) taken heard (owed left) closed lost _ (ap came_of c.replace-came.ensures.value) (c.end.ensures.went taken heard (owed left) closed lost));
      closed_then = c.end.ensures.closed;
      settled = c.settle-last.ensures;
      rest = went_more _ _ _ _ _ _ _ _ (c.end-2.ensures.went taken (asked_as true heard) (owed left) closed lost)
          (pay_went _ _ _ _ _ _ taken (asked_as true heard) left closed lost c.pay.ensures.paid);
    }
