use Rattle.config_change.proofs.fixed.FixedKeyDisplay.fmt.Goals as goal

pub returns-in-Address-clause-writes : goal.returns-in-Address-clause-writes
returns-in-Address-clause-writes g c = rw c.in-Address.is c.write.ensures.writes

pub returns-in-Port-clause-writes : goal.returns-in-Port-clause-writes
returns-in-Port-clause-writes g c = rw c.in-Port.is c.write-in-Port.ensures.writes

pub returns-in-Root-clause-writes : goal.returns-in-Root-clause-writes
returns-in-Root-clause-writes g c = rw c.in-Root.is c.write-in-Root.ensures.writes

pub returns-in-Capacity-clause-writes : goal.returns-in-Capacity-clause-writes
returns-in-Capacity-clause-writes g c = rw c.in-Capacity.is c.write-in-Capacity.ensures.writes

pub returns-in-PassiveFirst-clause-writes : goal.returns-in-PassiveFirst-clause-writes
returns-in-PassiveFirst-clause-writes g c = rw c.in-PassiveFirst.is c.write-in-PassiveFirst.ensures.writes

pub returns-in-PassiveLast-clause-writes : goal.returns-in-PassiveLast-clause-writes
returns-in-PassiveLast-clause-writes g c = rw c.in-PassiveLast.is c.write-in-PassiveLast.ensures.writes

pub returns-in-Lanes-clause-writes : goal.returns-in-Lanes-clause-writes
returns-in-Lanes-clause-writes g c = rw c.in-Lanes.is c.write-in-Lanes.ensures.writes
