use Rattle.session_rows.proofs.Floors.{entered}
use Rattle.session_rows.proofs.login.enter.Goals as goal

pub returns-clause-row : goal.returns-clause-row
returns-clause-row g c =
    entered c.args.users.now.users c.args.state.now c.args.floors.now c.admit-fits.new.self c.number_of-number.result c.admit-fits.result c.settle.new.state c.settle.result.items
    c.settle.ensures.row c.admit-fits.ensures.admits c.admit-fits.ensures.counted c.number_of-number.ensures.number
