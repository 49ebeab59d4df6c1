use Rattle.std.proofs.Common.{◌≡◌, ◌<◌, ◌≤◌, length, get_or, [], ◌∷◌, ap, arith, rules}
use Rattle.machine_parts.proofs.Numbers.{all-known, below-next, next-after, none-named, none-next, one-further, owned-all, owned-more, owned-none}
use Rattle.machine_parts.proofs.known.Known.authorizer.Goals as goal

pub loop-user-init : goal.loop-user-init
loop-user-init c = record {
  next = none-next c.in_ok-users.users c.in_ok-users.ensures.none;
  most = omega arith;
  own = owned-none;
  numbers = none-named c.in_ok-users.users c.in_ok-users.ensures.none;
}

pub loop-user-preserved : goal.loop-user-preserved
loop-user-preserved c =
    let items = c.args.self.now.users.items in
    let came = c.in_ok-add_user.ensures.users in
    let inside : c.loop-user.user-index < length items = first_of (search rules, omega (arith, ap length c.deref-user-items.ensures.value)) in
    let is : c.user-item.result ≡ get_or items c.loop-user.user-index c.user-item.result = first_of (cc, search rules) in
    let after : c.add_user.new.self.next ≡ _ = next-after c.skip.new.users c.add_user.new.self c.as_str.result.now [] (47 ∷ []) [] came in
    let low : c.user-item.result.number < c.args.self.now.next = below-next items c.args.self.now.next c.loop-user.user-index c.user-item.result c.args.self.now.below inside is in
    let skipped : c.skip.new.users.next ≡ c.user-item.result.number = omega (arith, c.in_ok-skip.ensures.next, c.from-number.ensures) in
    record {
      next = omega (arith, after, skipped, c.from-number.ensures);
      most = omega (arith, low, c.from-number.ensures);
      own = owned-more items c.loop-user.user-index c.user-item.result inside is
          c.loop-user.users c.skip.new.users c.add_user.new.self c.as_str.result.now [] (47 ∷ []) [] came c.as_str.ensures.value
          c.in_ok-skip.ensures.users c.loop-user.invariant.numbers c.loop-user.invariant.own;
      numbers = one-further items c.loop-user.user-index c.user-item.result inside is
          c.loop-user.users c.skip.new.users c.add_user.new.self c.as_str.result.now [] (47 ∷ []) [] came c.as_str.ensures.value
          c.in_ok-skip.ensures.users skipped c.loop-user.invariant.numbers;
    }

pub returns : goal.returns
returns c =
    let items = c.args.self.now.users.items in
    let past : length items ≤ c.loop-user.user-index = first_of (search rules, omega (arith, ap length c.deref-user-items.ensures.value)) in
    record {
      numbers = record {
        next_number = omega (arith, c.in_ok-skip-2.ensures.next, c.loop-user.invariant.next, c.loop-user.invariant.most);
        numbers = all-known items c.loop-user.user-index past c.loop-user.users c.skip-2.new.users c.in_ok-skip-2.ensures.users c.loop-user.invariant.numbers;
        own = owned-all items c.loop-user.user-index past c.loop-user.invariant.own;
      };
    }
