-- The words of the reasons for which a running server does not take a configuration.
use Rattle.std.specs.Prelude.{ℕ, List, ◌++◌, codes}
use Rattle.std.specs.Fmt.{decimal}
use Rattle.std.specs.Net.Addr.{ipv4_octets}
use Rattle.std.specs.Net.Text.{ipv4_text}
use Rattle.config_change.specs.declared.fixed.CountFault.{CountFault}
use Rattle.config_change.specs.declared.fixed.CountFault.TheVariants.{NoRoom, TooMany}
use Rattle.config_change.specs.declared.fixed.FixedKey.{FixedKey}
use Rattle.config_change.specs.declared.fixed.FixedKey.TheVariants.{Address, Port, Root, Capacity, PassiveFirst, PassiveLast, Lanes}

abbrev pub key_text : FixedKey → List ℕ
key_text (Address old new) =
    codes "`address` cannot change while the server runs: it is "
    ++ (ipv4_text (ipv4_octets old)
    ++ (codes "; restart the server to listen on " ++ ipv4_text (ipv4_octets new)))
key_text (Port old new) =
    codes "`port` cannot change while the server runs: it is "
    ++ (decimal old ++ (codes "; restart the server to serve on " ++ decimal new))
key_text (Root old new) =
    codes "`root` cannot change while the server runs: it is "
    ++ (old.now ++ (codes "; restart the server to serve " ++ new.now))
key_text (Capacity old new) =
    codes "`capacity` cannot change while the server runs: it is "
    ++ (decimal old ++ (codes "; restart the server for " ++ decimal new))
key_text (PassiveFirst old new) =
    codes "`passive_first` cannot change while the server runs: it is "
    ++ (decimal old ++ (codes "; restart the server for ports from " ++ decimal new))
key_text (PassiveLast old new) =
    codes "`passive_last` cannot change while the server runs: it is "
    ++ (decimal old ++ (codes "; restart the server for ports up to " ++ decimal new))
key_text (Lanes old new) =
    codes "`lanes` cannot change while the server runs: it is "
    ++ (decimal old ++ (codes "; restart the server for " ++ decimal new))

abbrev pub count_text : CountFault → List ℕ
count_text (NoRoom room stated) =
    codes "`max_cons` cannot be above "
    ++ (decimal room
    ++ (codes " while the server runs: restart the server to take "
    ++ (decimal stated ++ codes " connections")))
count_text (TooMany connected stated) =
    codes "`max_cons` cannot be "
    ++ (decimal stated
    ++ (codes " now: "
    ++ (decimal connected
    ++ codes " clients are connected; reload again when fewer are, or restart the server")))
