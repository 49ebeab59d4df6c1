use Rattle.config_change.proofs.fixed.CountFaultDisplay.fmt.Goals as goal

pub returns-in-NoRoom-clause-writes : goal.returns-in-NoRoom-clause-writes
returns-in-NoRoom-clause-writes g c = rw c.in-NoRoom.is c.write.ensures.writes

pub returns-in-TooMany-clause-writes : goal.returns-in-TooMany-clause-writes
returns-in-TooMany-clause-writes g c = rw c.in-TooMany.is c.write-in-TooMany.ensures.writes
