use Rattle.std.proofs.Common.{◌≡◌, ◌∙◌, subst}
use Rattle.std.specs.Io.KnownBytes.{Appends, Consumes}
use Rattle.http_server.specs.Connection.{config_of, history}
use Rattle.http_server.proofs.Theorems.{always_served}
use Rattle.status_page.specs.Answers.{Answers, Shown, shown_at}
use Rattle.status_page.proofs.Outcomes.{answered}
use Rattle.status_page.proofs.serving.serve_request.Goals as goal

pub returns : goal.returns
returns g c =
    let connection = c.serve.new.connection in
    record {
      answered = answered (λ old request response new. (new ≡ old) × Answers (shown_at old.status.now old.date) request response) c.new-routes.result c.serve.new.service (shown_at c.args.status.now c.args.date)
          (λ next request response is. subst (λ (s : Shown). Answers s request response) c.new-routes.ensures.shown is.1)
          (Consumes (g.R.Read.remaining c.args.reader.now) (g.R.Read.remaining c.serve.new.reader)) (Appends (g.W.Write.contents c.args.writer.now) (g.W.Write.contents c.serve.new.writer))
          c.serve.result (history c.new-connection.result) (history connection) c.new-connection.ensures.history
          (record { read = c.serve.ensures.read; written = c.serve.ensures.written; calls = c.serve.ensures.calls })
          c.serve.ensures.done (config_of connection) (c.serve.ensures.config ∙ c.new-connection.ensures.config) (always_served connection);
    }
