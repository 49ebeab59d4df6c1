use Rattle.std.proofs.Common.{inl}
use Rattle.std.proofs.lemmas.Result.{err_from_is_err_and}
use Rattle.server_config.proofs.StoreMade.{filled}
use Rattle.server_config.proofs.StoreRefused.{not_filled}
use Rattle.server_config.proofs.store.put_text.Goals as goal

pub returns : goal.returns
returns c = record {
  filled = filled c.args.path.now c.args.text.now c.as_bytes.result.now c.args.moment c.args.store.now c.open_write.new.self c.finish.new.self c.in_ok-sink.sink c.write.new.self c.finish.result
      c.as_bytes.ensures.value c.in_ok-sink.ensures c.in_ok-write.ensures.target c.in_ok-write.ensures.octets c.finish.ensures;
  refused = not_filled c.args.path.now c.args.text.now c.as_bytes.result.now c.args.moment c.args.store.now c.open_write.new.self c.finish.new.self c.in_ok-sink.sink c.write.new.self c.finish.result
      c.as_bytes.ensures.value c.in_ok-sink.ensures c.in_ok-write.ensures.target c.in_ok-write.ensures.octets c.finish.ensures;
}

pub returns-in_err-sink-clause-refused : goal.returns-in_err-sink-clause-refused
returns-in_err-sink-clause-refused c =
    let failed = err_from_is_err_and c.from_residual.result c.from_residual.ensures.1 in
    rw (failed.1, failed.2) (λ _. inl (c.open_write.new.self, c.in_err-sink.ensures))
