-- The words of sessions that are there, and of those that are to end.
use Rattle.std.specs.Prelude.{ℕ, ◌≡◌, ◌+◌, ◌*◌, ◌%◌, ◌<◌, ◌^◌, ◌-◌, min, Bool, true, false, ◌&&◌, nat_lt, nat_eq}

-- the largest word
abbrev pub most : ℕ
most = 2 ^ 64 - 1

-- the session of a number is there, and it is to end
abbrev pub there : ℕ → ℕ
there serial = min (min (serial * 2) most + 2) most

abbrev pub to_end : ℕ → ℕ
to_end serial = min (min (serial * 2) most + 3) most

-- the word is that of a session that is to end
abbrev pub ends : ℕ → Bool
ends word = nat_lt 2 word && nat_eq (word % 2) 1
