-- The calls of the store that a session makes.
use Rattle.std.specs.Prelude.{ℕ, Bool, true, false, List, Result}
use Rattle.ftp_terms.specs.declared.entries.Meta.{Meta}
use Rattle.virtual_path.specs.Path.{Path}
use Rattle.virtual_tree.specs.Calls.{Entry, Exchange}
use Rattle.virtual_tree.specs.declared.fault.StoreFault.{StoreFault}
use Rattle.virtual_tree.specs.declared.mode.WriteMode.{WriteMode}

-- a call of a store with sinks K
pub data Call (K : Type 0) : Type 0 where
  Stat : Path → Call K
  Listing : Path → Call K
  OpenRead : Path → ℕ → Call K
  OpenWrite : Path → WriteMode → ℕ → Call K
  Finish : K → ℕ → Call K
  MakeDir : Path → Call K
  RemoveDir : Path → Call K
  RemoveFile : Path → Call K
  Rename : Path → Path → Call K

-- the answers of a store with sources R
abbrev pub AnswerOf : (R : Type 0) {K : Type 0} → Call K → Type 0
AnswerOf R (Stat path) = Result Meta StoreFault
AnswerOf R (Listing path) = Result (List Entry) StoreFault
AnswerOf R (OpenRead path offset) = Result R StoreFault
AnswerOf R {K} (OpenWrite path mode moment) = Result K StoreFault
AnswerOf R _ = Result (Unit {0}) StoreFault

-- the call with its answer
abbrev pub answered : {R K : Type 0} (call : Call K) → AnswerOf R call → Exchange R K
answered (Stat path) answer = Exchange.Stat path answer
answered (Listing path) answer = Exchange.Listing path answer
answered (OpenRead path offset) answer = Exchange.OpenRead path offset answer
answered (OpenWrite path mode moment) answer = Exchange.OpenWrite path mode moment answer
answered (Finish sink moment) answer = Exchange.Finish sink moment answer
answered (MakeDir path) answer = Exchange.MakeDir path answer
answered (RemoveDir path) answer = Exchange.RemoveDir path answer
answered (RemoveFile path) answer = Exchange.RemoveFile path answer
answered (Rename from to) answer = Exchange.Rename from to answer

-- the calls that change nothing
abbrev pub is_look : {K : Type 0} → Call K → Bool
is_look (Stat path) = true
is_look (Listing path) = true
is_look _ = false
