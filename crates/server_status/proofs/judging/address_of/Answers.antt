use Rattle.serde_json.specs.View.{view}
use Rattle.server_status.proofs.Addresses.{no_address}
use Rattle.server_status.proofs.judging.address_of.Goals as goal

pub returns-in-Some-clause-none : goal.returns-in-Some-clause-none
returns-in-Some-clause-none c none is =
    no_address (view c.args.value.now) c.in-Some.text.now c.parse.result c.ok.result c.in-Some.ensures c.parse.ensures.value c.ok.ensures.value none is
