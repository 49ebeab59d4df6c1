use Rattle.script_session.proofs.Stores.{served_by, broken_by}
use Rattle.script_session.proofs.serving.serve_memory.Goals as goal

pub returns-clause-served : goal.returns-clause-served
returns-clause-served g c =
    served_by c.args.users.now.users c.args.limits.now c.args.store c.serve_text.new.store c.args.settings c.args.port _ _ _ _ c.in_ok-floors.floors
    c.in_ok-floors.ensures.rates c.in_ok-floors.ensures.none c.serve_text.result c.serve_text.ensures.script

pub returns-clause-broken : goal.returns-clause-broken
returns-clause-broken g c =
    broken_by c.args.users.now.users c.args.limits.now c.args.store c.serve_text.new.store c.args.settings c.args.port _ _ _ _ c.in_ok-floors.floors
    c.in_ok-floors.ensures.rates c.in_ok-floors.ensures.none c.serve_text.result c.serve_text.ensures.script
