-- What a server takes next is whole, and why it takes nothing.
use Rattle.std.proofs.Common.{◌≡◌, ℕ, List, Option, Some, None, IfSome, Result, Ok, Err, IfOk, inl, inr, map, subst, sym}
use Rattle.std.specs.Prelude.{string_bytes, IsPermutation}
use Rattle.authorizer.proofs.Keeping.{numbers_are_kept}
use Rattle.authorizer.specs.Renumbered.{regrouped}
use Rattle.authorizer.specs.Users.{Accounts}
use Rattle.config_change.specs.Past.{KeepPast, known_after, named_item}
use Rattle.config_change.specs.Renumbered.{IsRenumbered, group_places}
use Rattle.line_rates.specs.Rates.{Rates}
use Rattle.server_config.specs.Configs.{IsConfigText}
use Rattle.server_config.specs.declared.config.Config.{Config}
use Rattle.status_keeper.specs.declared.facts.StatusFacts.{StatusFacts}
use Rattle.machine_parts.specs.Facts.{AreFacts}
use Rattle.machine_parts.specs.Following.{AreParts, IsHindered, IsNumberedAs, IsPastFault, IsUnhindered, IsUnnumbered}
use Rattle.machine_parts.specs.Names.{HasNumbers}
use Rattle.machine_parts.specs.Reloads.{IsNext, IsNotTaken, KeepsNames}
use Rattle.machine_parts.specs.declared.following.AtStart.{AtStart}
use Rattle.machine_parts.specs.declared.following.NextConfig.{NextConfig}
use Rattle.machine_parts.specs.declared.known.Known.{Known}
use Rattle.machine_parts.proofs.KeptNames.{below-in, names-fresh, names-kept, next-kept}

module _ (path octets : List ℕ) (start : AtStart) (known : Known) (read : Config) (text : IsConfigText octets read) where
  pub hindered : (words : Option (List ℕ)) → IsHindered start read words → IsNotTaken path octets start known words
  hindered None is = tt
  hindered (Some words) is = inr (read, text, inl is)

  pub unnumbered : IsUnhindered start read → (words : Option (List ℕ)) → IsUnnumbered read known words → IsNotTaken path octets start known words
  unnumbered free None is = tt
  unnumbered free (Some words) is = inr (read, text, inr (free, inl is))

  pub past-fault : IsUnhindered start read → (config : Config) → IsNumberedAs read known config → (words : Option (List ℕ)) → IsPastFault config known words
      → IsNotTaken path octets start known words
  past-fault free config numbered None is = tt
  past-fault free config numbered (Some words) is = inr (read, text, inr (free, inr (config, numbered, is)))

module _ (octets : List ℕ) (start : AtStart) (known : Known) (read config : Config) (limits : Rates) (text : IsConfigText octets read) (free : IsUnhindered start read)
    (numbered : IsNumberedAs read known config) (past : KeepPast config.limits known.limits limits) where
  pub is-next : {E : Type 0} (made : Result NextConfig E) (facts : Option StatusFacts) → IfOk made (AreParts config limits known) → IfOk made (λ next. next.facts ≡ facts)
      → IfSome facts (AreFacts start.start config limits) → IfOk made (IsNext octets start known)
  is-next (Ok next) facts parts same shown = record {
    read = read;
    is_read = text;
    unhindered = free;
    config = config;
    numbered = numbered;
    limits = limits;
    past = past;
    parts = parts;
    facts = subst (λ (facts : Option StatusFacts). IfSome facts (AreFacts start.start config limits)) (sym same) shown;
  }
  is-next (Err reason) facts parts same shown = tt

  keeps : (next : NextConfig) → AreParts config limits known next → KeepsNames known next.known
  keeps next parts =
      let has : HasNumbers known.users.items known.next numbered.0 = numbered.1 in
      let is : IsRenumbered read numbered.0 (map string_bytes known.groups.items) config = numbered.2 in
      let places = group_places (map string_bytes known.groups.items) read in
      let kept = numbers_are_kept read.users numbered.0 is.kept is.keeps in
      let after : IsPermutation (known_after (regrouped places is.kept) (map named_item known.users.items)) (map named_item next.known.users.items) =
      subst (λ (users : Accounts). IsPermutation (known_after users (map named_item known.users.items)) (map named_item next.known.users.items)) is.users parts.names in
      record {
        kept = names-kept known.users.items next.known.users.items known.next next.known.next read.users numbered.0 is.kept places has kept after;
        fresh = λ name number none found. (
          names-fresh known.users.items next.known.users.items known.next next.known.next read.users numbered.0 is.kept places has kept after name number none found,
          below-in next.known.users.items next.known.next name number next.known.below found,
        );
        next = next-kept known.users.items next.known.users.items known.next next.known.next read.users numbered.0 is.kept places has kept after known.least next.known.below;
      }

  pub keeps-names : {E : Type 0} (made : Result NextConfig E) → IfOk made (AreParts config limits known) → IfOk made (λ next. KeepsNames known next.known)
  keeps-names (Ok next) parts = keeps next parts
  keeps-names (Err reason) parts = tt
