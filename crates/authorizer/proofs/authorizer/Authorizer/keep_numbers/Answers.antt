use Rattle.std.proofs.Common.{◌≡◌, ◌∙◌, ◌+◌, ◌<◌, ◌≤◌, ◌^◌, ℕ, List, Result, Ok, Err, length, map, refl, sym, ap, subst, arith, rules}
use Rattle.authorizer.specs.declared.fault.AuthorizerFault.{AuthorizerFault}
use Rattle.authorizer.specs.declared.fault.AuthorizerFault.TheVariants.{NoNumber}
use Rattle.authorizer.specs.Renumbered.{each_user, new_numbers, kept_number, numbered_item, renumbered}
use Rattle.authorizer.specs.Stored.{map_of, user_of}
use Rattle.authorizer.specs.Users.{User, Users, Accounts}
use Rattle.authorizer.proofs.Renumbering.{renumbered-ok, renumbered-none}
use Rattle.authorizer.proofs.authorizer.Authorizer.keep_numbers.Goals as goal

abbrev accounts_of : Users → ℕ → Accounts
accounts_of users next = record { users = users; next = next }

abbrev ok_of : Users → ℕ → Result Accounts AuthorizerFault
ok_of users next = Ok (accounts_of users next)

pub returns-then-next-gt-MOST_NUMBERS : goal.returns-then-next-gt-MOST_NUMBERS
returns-then-next-gt-MOST_NUMBERS g c =
    let old : Accounts = accounts_of (map_of user_of c.self.inside.accounts) c.self.inside.next in
    let earlier : Accounts = accounts_of (map_of user_of c.earlier.inside.accounts) c.earlier.inside.next in
    let many : c.len.result ≡ length c.in_ok-numbers.numbers.items = search rules in
    let over : 2 ^ 32 < c.earlier.inside.next + length c.in_ok-numbers.numbers.items = let more = c.if-next-gt-MOST_NUMBERS.true in omega arith in
    record {
      users = (
        refl,
        λ _. subst (λ (e : Accounts). renumbered c.args.self.now e ≡ Err NoNumber) c.earlier.view_is
            (subst (λ (o : Accounts). renumbered o earlier ≡ Err NoNumber) c.self.view_is
            (renumbered-none old earlier c.in_ok-numbers.numbers.items c.in_ok-numbers.ensures.numbers over)),
      );
    }

pub returns : goal.returns
returns g c =
    let old : Accounts = accounts_of (map_of user_of c.self.inside.accounts) c.self.inside.next in
    let earlier : Accounts = accounts_of (map_of user_of c.earlier.inside.accounts) c.earlier.inside.next in
    let many : c.len.result ≡ length c.in_ok-numbers.numbers.items = search rules in
    let room : c.earlier.inside.next + length c.in_ok-numbers.numbers.items ≤ 2 ^ 32 = let most = c.if-next-gt-MOST_NUMBERS.false in omega arith in
    let change = λ (name : List ℕ) (user : User). kept_number earlier (new_numbers earlier.users old.users) name user.number in
    let users = c.renumber.ensures.users change (ap (map numbered_item) c.deref-2.ensures.value ∙ c.in_ok-plan.ensures.plan) in
    let inside = renumbered-ok old earlier c.in_ok-numbers.numbers.items c.in_ok-numbers.ensures.numbers room
    ∙ ap (ok_of (each_user (λ name user. record user { number = change name user }) old.users)) (ap (λ n. c.earlier.inside.next + n) (sym many))
    ∙ ap (λ us. ok_of us (c.earlier.inside.next + c.len.result)) (sym users) in
    record {
      users = subst (λ (e : Accounts). renumbered c.args.self.now e ≡ ok_of (map_of user_of c.renumber.new.accounts) (c.earlier.inside.next + c.len.result)) c.earlier.view_is
          (subst (λ (o : Accounts). renumbered o earlier ≡ ok_of (map_of user_of c.renumber.new.accounts) (c.earlier.inside.next + c.len.result)) c.self.view_is inside);
    }
