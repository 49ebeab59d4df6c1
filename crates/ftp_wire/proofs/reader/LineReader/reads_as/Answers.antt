use Rattle.ftp_wire.proofs.Reading.{only_reads_as}
use Rattle.ftp_wire.proofs.reader.LineReader.reads_as.Goals as goal

pub returns : goal.returns
returns g c = record { only = λ octets items h. only_reads_as octets items c.args.self.now h }
