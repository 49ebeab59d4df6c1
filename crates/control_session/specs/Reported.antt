-- The texts of actions, the floors that they release, and whether they close the control
-- connection.
use Rattle.std.specs.Prelude.{ℕ, List, [], Bool, false, true}
use Rattle.std.specs.List.{flat_map, list_any}
use Rattle.ftp_reply.specs.Replies.{reply_text}
use Rattle.session_table.specs.Answers.{answer_form}
use Rattle.session_table.specs.declared.actions.Action.{Action}
use Rattle.session_table.specs.declared.actions.Action.TheVariants.{Say, CloseControl}

-- the text of an action
abbrev pub text_of : {A R K : Type 0} → Action A R K → List ℕ
text_of (Say answer) = reply_text (answer_form answer)
text_of _ = []

abbrev pub texts : {A R K : Type 0} → List (Action A R K) → List ℕ
texts = flat_map text_of

abbrev pub is_close : {A R K : Type 0} → Action A R K → Bool
is_close CloseControl = true
is_close _ = false

-- one of the actions closes the control connection
abbrev pub closes : {A R K : Type 0} → List (Action A R K) → Bool
closes = list_any is_close
