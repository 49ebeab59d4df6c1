use Rattle.std.proofs.Common.{◌≡◌, ◌++◌, [], ◌∷◌, string_bytes}
use Rattle.std.proofs.lemmas.Result.{IfOk-weaker}
use Rattle.serde_json.specs.View.{view}
use Rattle.server_status.specs.StatusData.{IsStatusText}
use Rattle.server_status.proofs.Texts.{written}
use Rattle.server_status.proofs.writing.status_text.Goals as goal

pub returns : goal.returns
returns c =
    let s = c.args.status.now in
    let line = c.as_str.result.now in
    record {
      text =
          IfOk-weaker c.line_of.result (λ text. string_bytes text ≡ line ++ 10 ∷ []) (λ text. IsStatusText s (string_bytes text))
          (λ text ends. written s (string_bytes c.in_ok-json.json) line (string_bytes text) (view c.in_ok-value.value) c.as_str.ensures.value ends c.as_str.utf8
          c.in_ok-json.ensures.reads_back c.in_ok-value.ensures.status)
          c.line_of.ensures.line;
    }
