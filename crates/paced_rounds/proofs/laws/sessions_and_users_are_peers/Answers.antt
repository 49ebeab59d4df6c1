use Rattle.paced_rounds.proofs.PeerNames.{sessions_are_peers, users_are_peers}
use Rattle.paced_rounds.proofs.laws.sessions_and_users_are_peers.Goals as goal

pub returns : goal.returns
returns c = record { sessions = sessions_are_peers; users = users_are_peers }
