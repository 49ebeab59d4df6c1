use Rattle.std.proofs.Common.{◌≡◌, ℕ, ◌+◌, ◌<◌, true, false, List, length, take, drop, slice_index_or, sym, ap, ◌∙◌, arith}
use Rattle.std.proofs.lemmas.List.{take_more_set}
use Rattle.line_mender.specs.Mended.{Open, after, after_all, is_stray}
use Rattle.line_mender.proofs.Taking.{all_more, next_kept, next_rest, next_stray, rest_kept, same_next}
use Rattle.line_mender.proofs.mender.Mender.mend.Goals as goal
use Rattle.line_mender.proofs.mender.Mender.mend.Goals.{then-not-take, else-not-take}

pub loop-place-preserved : goal.loop-place-preserved
loop-place-preserved c =
    let known : Open = c.args.self.now in
    let all : List ℕ = c.args.buffer.now in
    let i : ℕ = c.loop-place.place in
    let x : ℕ = slice_index_or c.loop-place.buffer i 0 in
    let same : x ≡ slice_index_or all i 0 = same_next c.loop-place.buffer all i 0 c.loop-place.invariant.rest in
    let within : i < length all = c.loop-place-test.true in
    let state : c.take.new.self ≡ after c.loop-place.self x = c.take.ensures.after in
    let last : c.take.new.self ≡ after_all known (take (i + 1) all) = state ∙ all_more known all c.loop-place.self i x c.loop-place.invariant.after same within in
    elim c.if-not-take.branch [
      | then-not-take w ↦
          let stays : is_stray c.loop-place.self x ≡ false = sym c.take.ensures.stray ∙ w.if-not-take.true in
          let room : c.loop-place.count < length c.loop-place.buffer = omega arith in
          record {
            kept = ap (λ (n : ℕ). take n c.if-not-take.buffer) w.count-is
                ∙ (ap (take (c.loop-place.count + 1)) w.buffer-is
                ∙ (take_more_set c.loop-place.buffer c.loop-place.count x room
                ∙ next_kept known all c.loop-place.self i x (take c.loop-place.count c.loop-place.buffer) c.loop-place.invariant.after same within c.loop-place.invariant.kept stays));
            rest = ap (drop (i + 1)) w.buffer-is ∙ rest_kept c.loop-place.buffer all i c.loop-place.count x c.loop-place.invariant.rest c.loop-place.invariant.count;
            count = let e : c.if-not-take.count ≡ c.loop-place.count + 1 = w.count-is in omega arith;
            after = last;
          }
      | else-not-take w ↦
          let stray : is_stray c.loop-place.self x ≡ true = sym c.take.ensures.stray ∙ w.if-not-take.false in
          record {
            kept = ap (λ (n : ℕ). take n c.if-not-take.buffer) w.count-is
                ∙ (ap (take c.loop-place.count) w.buffer-is
                ∙ next_stray known all c.loop-place.self i x (take c.loop-place.count c.loop-place.buffer) c.loop-place.invariant.after same within c.loop-place.invariant.kept stray);
            rest = ap (drop (i + 1)) w.buffer-is ∙ next_rest c.loop-place.buffer all i c.loop-place.invariant.rest;
            count = let e : c.if-not-take.count ≡ c.loop-place.count = w.count-is in omega arith;
            after = last;
          }
    ]
