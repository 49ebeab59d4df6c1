-- A configuration that is read again: what the server is to take of it, and what is kept until it
-- has taken it.
use Rattle.std.specs.Prelude.{◌≡◌, ℕ, List}
use Rattle.std.specs.Arc.{arc_value}
use Rattle.ftp_daemon.specs.declared.reloading.Reload.{Reload}
use Rattle.machine_parts.specs.Reloads.{IsNext}
use Rattle.machine_parts.specs.declared.following.AtStart.{AtStart}
use Rattle.machine_parts.specs.declared.following.NextConfig.{NextConfig}
use Rattle.machine_parts.specs.declared.known.Known.{Known}
use Rattle.ftpd.specs.declared.reload_file.KeptNext.{KeptNext}

-- each part is that of the configuration
pub record AreParted (next : NextConfig) (reload : Reload) (kept : KeptNext) : Type 0 where
  pub terms : reload.terms ≡ next.terms
  pub limits_are : reload.limits ≡ next.limits
  pub connections : reload.max_cons ≡ next.numbers.max_cons
  pub of_address : reload.max_cons_per_address ≡ next.numbers.max_cons_per_address
  pub known_are : kept.known ≡ next.known
  pub facts_are : kept.facts ≡ next.facts

-- all parts are those of one configuration, which the octets are
pub record TakesNext (octets : List ℕ) (start : AtStart) (known : Known) (reload : Reload)
    (kept : KeptNext) : Type 0 where
  pub next : NextConfig
  pub is_next : IsNext octets start known next
  pub parts : AreParted next reload kept
  pub octets_are : (arc_value kept.octets).items ≡ octets
