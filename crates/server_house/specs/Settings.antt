-- Copies of settings.
use Rattle.std.specs.Prelude.{◌≡◌, ℕ, zero, List, [], ◌∷◌}
use Rattle.std.specs.declared.alloc.Global.{Global}
use Rattle.ftp_terms.specs.LineText.{text_of}
use Rattle.session_table.specs.declared.settings.Settings.{Settings}

-- the address of replies to PASV: the stated one, or that at which the client arrived if it is
-- 0.0.0.0
abbrev pub announced : List ℕ → List ℕ → List ℕ
announced (zero ∷ zero ∷ zero ∷ zero ∷ []) arrived = arrived
announced stated arrived = stated

-- the same settings, with a banner of its own of the same text, for a client that arrived there
pub record AreSettingsAt (settings : Settings Global) (arrived : List ℕ) (copy : Settings Global)
    : Type 0 where
  pub banner : text_of copy.banner ≡ text_of settings.banner
  pub attempts : copy.login_attempts ≡ settings.login_attempts
  pub foreign : copy.permits_foreign_addresses ≡ settings.permits_foreign_addresses
  pub privileged : copy.permits_privileged_ports ≡ settings.permits_privileged_ports
  pub address : copy.address ≡ announced settings.address arrived
