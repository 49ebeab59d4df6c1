use Rattle.std.proofs.Common.{◌≡◌, ◌<◌, ◌+◌, ℕ, List, ap, arith, count_by, get_or, length, nat_eq, not, refl, rules, take, ◌∙◌}
use Rattle.std.specs.Int.{from_bool}
use Rattle.std.specs.List.{list_any}
use Rattle.machine_parts.proofs.Searching.{count-more, one-most}
use Rattle.machine_parts.proofs.known.Known.gone.Goals as goal

pub loop-number-preserved : goal.loop-number-preserved
loop-number-preserved c =
    let items = c.args.self.now.present.items in
    let others = c.args.next.now.present.items in
    let i = c.loop-number.number-index in
    let within : i < length items = first_of (search rules, omega (arith, ap length c.deref-number-items.ensures.value)) in
    let there : c.is_among-is_there.result ≡ list_any (λ other. nat_eq other (get_or items i 0)) others =
    c.is_among-is_there.ensures.among
    ∙ ap (λ (xs : List ℕ). list_any (λ other. nat_eq other (get_or c.deref-number-items.result.now i 0)) xs) c.as_slice.ensures.value
    ∙ ap (λ (ys : List ℕ). list_any (λ other. nat_eq other (get_or ys i 0)) others) c.deref-number-items.ensures.value in
    let one : c.from-count.result ≡ from_bool (not c.is_among-is_there.result) = c.from-count.ensures in
    let more : c.loop-number.count + from_bool (not c.is_among-is_there.result) ≡ count_by (λ number. not (list_any (λ other. nat_eq other number) others)) (take (i + 1) items) =
    count-more (λ number. not (list_any (λ other. nat_eq other number) others)) items i (get_or items i 0) c.loop-number.count (not c.is_among-is_there.result) within refl c.loop-number.invariant.count (ap not there) in
    let most = one-most (not c.is_among-is_there.result) in
    record {
      count = ap (λ n. c.loop-number.count + n) one ∙ more;
      most = omega (arith, one, most, c.loop-number.invariant.most);
    }
