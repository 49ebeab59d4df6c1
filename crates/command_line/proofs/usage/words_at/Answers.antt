use Rattle.std.proofs.Common.{◌≡◌, ◌∙◌, ℕ, List, [], Option, None, Some, map, ap}
use Rattle.std.specs.Borrow.{Bor}
use Rattle.std.specs.Option.{unwrap_or}
use Rattle.std.proofs.lemmas.Result.{IfOk-weaker}
use Rattle.clap.specs.Words.{Text, all_of, found_of, rows_of}
use Rattle.clap.proofs.WalkLemmas.{raw_values-rows}
use Rattle.command_line.proofs.usage.words_at.Goals as goal

pub returns-in-Some : goal.returns-in-Some
returns-in-Some c =
    let found : Some (map (λ w. w.now) c.in-Some.words.now) ≡ all_of c.args.id.now (rows_of (found_of c.args.inner.now)) =
    c.in-Some.ensures ∙ raw_values-rows (found_of c.args.inner.now) c.args.id.now in
    let all = ap (λ (o : Option (List Text)). unwrap_or o []) found in
    record {
      words = IfOk-weaker c.from_slice.result _ _ (λ v is. ap (map (λ w. w.now)) is ∙ all) c.from_slice.ensures.items;
    }

pub returns-in-None : goal.returns-in-None
returns-in-None c =
    let found : None ≡ all_of c.args.id.now (rows_of (found_of c.args.inner.now)) =
    c.in-None.ensures ∙ raw_values-rows (found_of c.args.inner.now) c.args.id.now in
    record {
      words = ap (map (λ w. w.now)) c.new.ensures.items ∙ ap (λ (o : Option (List Text)). unwrap_or o []) found;
    }
