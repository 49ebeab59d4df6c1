-- Settlements of books under which no round was held.
use Rattle.std.specs.Prelude.{◌≡◌, ℕ, []}
use Rattle.paced_rounds.specs.Settled.{rounds_of}
use Rattle.paced_rounds.specs.declared.account.Settlement.{Settlement}

module _ {N A : Type 0} where
  -- there was none, and these octets were issued before
  abbrev pub IsUnheld : ℕ → Settlement N A → Type 0
  IsUnheld carried s = (s.carried ≡ carried) × (rounds_of s ≡ [])
