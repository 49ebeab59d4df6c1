use Rattle.std.proofs.Common.{◌∙◌, ◌++◌, sym, ap, drop, map, string_bytes, append-nil}
use Rattle.std.proofs.lemmas.List.{at_drop_all}
use Rattle.config_change.proofs.Places.{rows_by, rows-by-names}
use Rattle.config_change.proofs.rows.user_rows.Goals as goal

pub returns : goal.returns
returns c =
    let i = c.loop-index.index in
    let rows = c.loop-index.rows.items in
    record {
      rows = λ before limits is.
          sym (append-nil rows)
          ∙ ap (λ more. rows ++ more) (sym (at_drop_all (λ ns. rows_by c.args.users.now c.args.numbers.now (map string_bytes ns) (drop i c.args.rates.now)) c.args.names.now i c.loop-index-test.false))
          ∙ c.loop-index.invariant
          ∙ ap (rows_by c.args.users.now c.args.numbers.now (map string_bytes c.args.names.now)) is
          ∙ rows-by-names before c.args.users.now limits c.args.numbers.now c.args.names.now;
    }
