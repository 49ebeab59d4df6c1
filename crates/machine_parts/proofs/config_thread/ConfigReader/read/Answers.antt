use Rattle.std.proofs.Common.{◌≡◌, ℕ, List, subst}
use Rattle.std.specs.Prelude.{IfErr, IfOk, option_map, string_bytes}
use Rattle.machine_parts.specs.FileReading.{IsNotHad, ReadsOnce}
use Rattle.machine_parts.proofs.config_thread.ConfigReader.read.Goals as goal

pub returns-clause-octets : goal.returns-clause-octets
returns-clause-octets g c = subst (λ (path : List ℕ). IfOk c.read_once.result (λ octets. ReadsOnce g.M.FolderMachine.Does (λ f. g.M.File.Read.remaining f) c.args.self.now.removes c.args.machine.now path octets.items c.read_once.new.machine)) c.as_str.ensures.value c.read_once.ensures.octets

pub returns-clause-refused : goal.returns-clause-refused
returns-clause-refused g c = subst (λ (path : List ℕ). IfErr c.read_once.result (λ words. IsNotHad g.M.FolderMachine.Does (λ f. g.M.File.Read.remaining f) c.args.self.now.removes c.args.machine.now path (option_map string_bytes words) c.read_once.new.machine)) c.as_str.ensures.value c.read_once.ensures.refused
