use Rattle.config_report.proofs.warning.WarningDisplay.fmt.Goals as goal

pub returns-in-NoHome-clause-writes : goal.returns-in-NoHome-clause-writes
returns-in-NoHome-clause-writes g c = rw c.in-NoHome.is c.write-in-NoHome.ensures.writes

pub returns-in-PortAmongPassive-clause-writes : goal.returns-in-PortAmongPassive-clause-writes
returns-in-PortAmongPassive-clause-writes g c = rw c.in-PortAmongPassive.is c.write-in-PortAmongPassive.ensures.writes

pub returns-in-PromisedDown-clause-writes : goal.returns-in-PromisedDown-clause-writes
returns-in-PromisedDown-clause-writes g c = rw c.in-PromisedDown.is c.write-in-PromisedDown.ensures.writes

pub returns-in-PromisedUp-clause-writes : goal.returns-in-PromisedUp-clause-writes
returns-in-PromisedUp-clause-writes g c = rw c.in-PromisedUp.is c.write-in-PromisedUp.ensures.writes

pub returns-in-PromisedBoth-clause-writes : goal.returns-in-PromisedBoth-clause-writes
returns-in-PromisedBoth-clause-writes g c = rw c.in-PromisedBoth.is c.write-in-PromisedBoth.ensures.writes

pub returns-in-NoPassword-clause-writes : goal.returns-in-NoPassword-clause-writes
returns-in-NoPassword-clause-writes g c = rw c.in-NoPassword.is c.write-in-NoPassword.ensures.writes
