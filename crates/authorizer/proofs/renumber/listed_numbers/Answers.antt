use Rattle.std.proofs.Common.{◌≡◌, ◌∙◌, ◌++◌, ◌∷◌, [], List, ℕ, true, false, sym, ap, append_assoc, append-nil}
use Rattle.std.proofs.lemmas.Map.Iter.{rest_more, rest_all}
use Rattle.std.specs.FinMap as finite
use Rattle.std.specs.Map.Iter.{deref_pair}
use Rattle.std.specs.String.{string_bytes}
use Rattle.authorizer.specs.Stored.{map_of, user_of}
use Rattle.authorizer.proofs.Renumbering.{listed, listed-new, listed-earlier, listed-next, is-found}
use Rattle.authorizer.proofs.renumber.listed_numbers.Goals as goal

pub loop-name-preserved-then-is_some : goal.loop-name-preserved-then-is_some
loop-name-preserved-then-is_some g c =
    let earlier = map_of user_of c.args.earlier.now in
    let rest = rest_more deref_pair c.loop-name.name-iterator c.next.new.self c.next.result (c.in-Some.name, c.in-Some.account) c.in-Some.is c.next.ensures.steps in
    let has : finite.contains_key earlier (string_bytes c.in-Some.name.now) ≡ true =
    ap (finite.contains_key earlier) (sym c.as_str.ensures.value) ∙ is-found c.find.result _ c.find.ensures.found ∙ sym c.is_some.ensures ∙ c.if-is_some.true in
    ap (λ (ns : List ℕ). c.loop-name.numbers.items ++ ns) (sym (listed-earlier earlier (c.in-Some.name.now, c.in-Some.account.now) c.next.new.self has) ∙ ap (listed earlier) (sym rest))
    ∙ c.loop-name.invariant

pub loop-name-preserved : goal.loop-name-preserved
loop-name-preserved g c =
    let earlier = map_of user_of c.args.earlier.now in
    let rest = rest_more deref_pair c.loop-name.name-iterator c.next.new.self c.next.result (c.in-Some.name, c.in-Some.account) c.in-Some.is c.next.ensures.steps in
    let has : finite.contains_key earlier (string_bytes c.in-Some.name.now) ≡ false =
    ap (finite.contains_key earlier) (sym c.as_str.ensures.value) ∙ is-found c.find.result _ c.find.ensures.found ∙ sym c.is_some.ensures ∙ c.if-is_some.false in
    ap (λ (ns : List ℕ). ns ++ listed earlier c.next.new.self) c.in_ok-push.ensures.items
    ∙ append_assoc c.loop-name.numbers.items (c.in-Some.account.now.number ∷ []) (listed earlier c.next.new.self)
    ∙ ap (λ (ns : List ℕ). c.loop-name.numbers.items ++ ns) (sym (listed-next earlier (c.in-Some.name.now, c.in-Some.account.now) c.next.new.self has) ∙ ap (listed earlier) (sym rest))
    ∙ c.loop-name.invariant

pub returns : goal.returns
returns g c =
    let earlier = map_of user_of c.args.earlier.now in
    let none = rest_all deref_pair c.loop-name.name-iterator c.next.new.self c.next.result c.in-None.is c.next.ensures.steps in
    record {
      numbers = sym (append-nil c.loop-name.numbers.items)
          ∙ ap (λ es. c.loop-name.numbers.items ++ listed earlier es) (sym none)
          ∙ c.loop-name.invariant
          ∙ listed-new earlier c.args.accounts.now c.into_iter-name-iterator.ensures.into_iter_gives.5;
    }
