-- All that one connection sends: an answer of the routes, a refusal of the server's own, or
-- nothing.
use Rattle.std.specs.Prelude.{◌≡◌, ◌⊎◌, ◌++◌, ℕ, false, List, [], Result, OnOk}
use Rattle.http_server.specs.declared.state.Refusal.{Refusal}
use Rattle.http_server.specs.Exchange.{Call, Exchanges, IsInterim}
use Rattle.http_server.specs.History.{History, Justifies}
use Rattle.http_server.specs.Refusal.{refusal_text}
use Rattle.status_page.specs.Answers.{Answers, Shown}
use Rattle.status_page.specs.declared.serving.TheConstants.{CONFIG}

-- the output is all that is sent for the request that begins the input: what the routes answer.
-- The connection closes after it
pub record IsExchanged (shown : Shown) (input output : List ℕ) : Type 0 where
  pub call : Call
  pub answers : Answers shown call.0 call.1
  pub rest : List ℕ
  pub exchanges : Exchanges CONFIG false input call output rest

-- the output refuses what begins the input, for a reason of HTTP
pub record IsRefused (input output : List ℕ) : Type 0 where
  pub why : Refusal
  pub history : History
  pub justifies : Justifies why CONFIG history [] input
  pub interim : List ℕ
  pub is_interim : IsInterim CONFIG.limits input interim
  pub text : output ≡ interim ++ refusal_text why

-- the output is at most a part of `100 Continue`, for a request that waits for it: nothing was
-- asked for, or memory ran out, or the connection failed
abbrev pub IsSilent : List ℕ → List ℕ → Type 0
IsSilent input output = (cut : List ℕ) × IsInterim CONFIG.limits input (output ++ cut)

abbrev pub IsOutcome : Shown → List ℕ → List ℕ → Type 0
IsOutcome shown input output =
    IsExchanged shown input output ⊎ (IsRefused input output ⊎ IsSilent input output)

-- octets were read and written; with those that were lost, which are none after success, what was
-- written is an outcome of what was read
pub record IsAnswered {A E : Type 0} (shown : Shown) (Reads Writes : List ℕ → Type 0)
    (result : Result A E) : Type 0 where
  pub input : List ℕ
  pub reads : Reads input
  pub output : List ℕ
  pub writes : Writes output
  pub lost : List ℕ
  pub whole : OnOk result (lost ≡ [])
  pub outcome : IsOutcome shown input (output ++ lost)
