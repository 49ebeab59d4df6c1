use Rattle.std.proofs.Common.{◌∙◌, ap, refl, sym, Some}
use Rattle.config_file.specs.Keys.{first_stray, keys_of}
use Rattle.config_file.specs.Seen.{rows_of}
use Rattle.config_file.proofs.KnownKeys.{keys_in-view, first_stray-known, first_stray-other}
use Rattle.config_file.proofs.judge.only_known.Goals as goal

pub loop-key-init : goal.loop-key-init
loop-key-init c =
    (tt, tt, ap (first_stray (keys_of c.args.grouped (rows_of c.args.rows.now))) (keys_in-view c.args.table.now.entries) ∙ cc)

pub loop-key-preserved : goal.loop-key-preserved
loop-key-preserved c = (
  tt,
  tt,
  c.loop-key.invariant.2
      ∙ first_stray-known (keys_of c.args.grouped (rows_of c.args.rows.now)) _ _ c.in-Some.key.now _ c.in-Some.ensures.steps c.as_str.ensures.value (sym c.if-not-is_among.false ∙ c.is_among.ensures.among),
)

pub returns-then-not-is_among : goal.returns-then-not-is_among
returns-then-not-is_among c = record {
  known = (
    c.loop-key.invariant.2
        ∙ first_stray-other (keys_of c.args.grouped (rows_of c.args.rows.now)) _ _ c.in-Some.key.now _ c.in-Some.ensures.steps c.as_str.ensures.value (sym c.if-not-is_among.true ∙ c.is_among.ensures.among)
        ∙ ap Some (c.as_str.ensures.value ∙ sym c.as_str-then-not-is_among.ensures.value),
    refl,
  );
}
