use Rattle.std.proofs.Common.{◌<◌, ◌≤◌, length, take, sym, arith}
use Rattle.std.proofs.lemmas.List.{length-take-le}
use Rattle.data_pump.proofs.BufferLemmas.{grown, kept}
use Rattle.data_pump.proofs.buffer.read_after.Goals as goal

pub returns-in_err-count-clause-front : goal.returns-in_err-count-clause-front
returns-in_err-count-clause-front g c =
    let within : c.args.waiting ≤ length c.args.octets.now = omega (arith, c.requires.room) in
    kept c.args.octets.now c.fetch.new.buffer 0 c.args.waiting _ (omega arith) within

pub returns-clause-front : goal.returns-clause-front
returns-clause-front g c =
    let within : c.args.waiting ≤ length c.args.octets.now = omega (arith, c.requires.room) in
    kept c.args.octets.now c.fetch.new.buffer 0 c.args.waiting _ (omega arith) within

pub returns-clause-filled : goal.returns-clause-filled
returns-clause-filled g c =
    let within : c.args.waiting ≤ length c.args.octets.now = omega (arith, c.requires.room) in
    let n = c.in_ok-count.count in
    let bound = c.in_ok-count.ensures.bound in
    let some : 0 < length c.fetch.new.buffer = omega (arith, c.requires.room, c.fetch.auto.buffer) in
    record {
      read = take n c.fetch.new.buffer;
      appended = grown c.args.octets.now c.fetch.new.buffer 0 c.args.waiting _ n (omega arith) within bound;
      count_is = sym (length-take-le n c.fetch.new.buffer bound);
      consumed = c.in_ok-count.ensures.octets.0;
      at_end = λ e. c.in_ok-count.ensures.octets.1 e some;
    }
