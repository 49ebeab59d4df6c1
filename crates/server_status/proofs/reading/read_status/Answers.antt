use Rattle.std.proofs.lemmas.Result.{IfErr-weaker, IfOk-weaker}
use Rattle.std.proofs.Common.{◌≡◌, ◌⊎◌, ◌∙◌, ap, sym}
use Rattle.serde_json.specs.Read.{read}
use Rattle.serde_json.specs.View.{view}
use Rattle.server_status.specs.declared.fault.StatusFault.TheVariants.{Memory}
use Rattle.server_status.specs.ReadBack.{HasStatus, IsReadFault}
use Rattle.server_status.specs.StatusRead.{IsFaultOf, IsStatusOf}
use Rattle.server_status.proofs.Texts.{fault_read, read_as, unread}
use Rattle.server_status.proofs.reading.read_status.Goals as goal

pub returns-in-Ok-clause-status : goal.returns-in-Ok-clause-status
returns-in-Ok-clause-status c =
    let d = view c.in-Ok.value in
    IfOk-weaker c.status_in.result (IsStatusOf d) (HasStatus c.args.octets.now)
    (λ status has. (d, ap read (sym c.without_feed.ensures.octets) ∙ c.in-Ok.ensures.value, has)) c.status_in.ensures.status

pub returns-in-Ok-clause-fault : goal.returns-in-Ok-clause-fault
returns-in-Ok-clause-fault c =
    let d = view c.in-Ok.value in
    IfErr-weaker c.status_in.result (λ fault. (fault ≡ Memory) ⊎ IsFaultOf d fault) (IsReadFault c.args.octets.now)
    (λ fault reported. fault_read c.args.octets.now c.without_feed.result.now d fault c.without_feed.ensures.octets c.in-Ok.ensures.value reported) c.status_in.ensures.fault

pub returns-in-Ok-clause-read_back : goal.returns-in-Ok-clause-read_back
returns-in-Ok-clause-read_back c s peers written =
    read_as s c.args.octets.now c.without_feed.result.now (view c.in-Ok.value) c.status_in.result peers written c.without_feed.ensures.octets c.in-Ok.ensures.value
    c.status_in.ensures.status c.status_in.ensures.fault

pub returns-in-Err-clause-read_back : goal.returns-in-Err-clause-read_back
returns-in-Err-clause-read_back c s peers written = unread s c.args.octets.now c.without_feed.result.now c.in-Err.fault written c.without_feed.ensures.octets c.in-Err.ensures.fault
