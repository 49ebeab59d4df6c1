use Rattle.std.proofs.Common.{◌≡◌, ◌+◌, ◌-◌, ◌≤◌, ℕ, List, length, take, drop, sym, ap, ◌∙◌, arith}
use Rattle.std.specs.Prelude.{slice_range}
use Rattle.std.proofs.lemmas.List.{drop-take, drop-drop, length-take}
use Rattle.data_pump.specs.Buffers.{Waiting}
use Rattle.data_pump.proofs.buffer.WireBuffer.consume.Goals as goal

-- the octets after the first n of a range
slice_range-drop : (xs : List ℕ) (from to n : ℕ) → from + n ≤ to → slice_range xs (from + n) to ≡ drop n (slice_range xs from to)
slice_range-drop xs from to n h =
    let e : to - from ≡ n + (to - (from + n)) = omega (arith, h) in
    sym
    (ap (λ m. drop n (take m (drop from xs))) e
    ∙ (drop-take n (to - (from + n)) (drop from xs) ∙ ap (λ l. take (to - (from + n)) l) (drop-drop n from xs)))

pub returns-clause-left : goal.returns-clause-left
returns-clause-left g c =
    let b = c.self.inside in
    let seen : slice_range b.octets.items b.from b.to ≡ c.args.self.now.octets = ap (λ (w : Waiting). w.octets) c.self.view_is in
    let within : b.from + c.args.count ≤ b.to =
    omega (arith, c.requires.some, ap length seen, length-take (b.to - b.from) (drop b.from b.octets.items), c.self.invariant.in_order) in
    slice_range-drop b.octets.items b.from b.to c.args.count within ∙ ap (drop c.args.count) seen
