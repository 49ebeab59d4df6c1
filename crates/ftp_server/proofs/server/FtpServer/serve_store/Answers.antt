use Rattle.ftp_server.proofs.Served.{alone}
use Rattle.ftp_server.proofs.server.FtpServer.serve_store.Goals as goal

pub returns-clause-seconds : goal.returns-clause-seconds
returns-clause-seconds g c = alone c.args.self.rate c.serve_with.result c.serve_with.ensures.seconds
