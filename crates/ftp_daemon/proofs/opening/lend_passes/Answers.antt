use Rattle.std.proofs.Common.{rules, arith, ◌≡◌, ◌∙◌, ap, List, [], ◌∷◌, ◌++◌, length, append_assoc, length-append}
use Rattle.ftp_daemon.proofs.Lists.{first_left}
use Rattle.ftp_daemon.proofs.opening.lend_passes.Goals as goal

pub loop-pass-preserved-in-Some-pop : goal.loop-pass-preserved-in-Some-pop
loop-pass-preserved-in-Some-pop g c =
    let l = c.loop-pass in
    let here : l.yielded ++ c.in-Some.pass ∷ c.next.new.self.rest.items ≡ c.args.passes.others.items = search rules in
    let few = l.invariant.2 in (
      append_assoc l.yielded (c.in-Some.pass ∷ []) c.next.new.self.rest.items ∙ here,
      first_left _ _ _ _ c.pop.ensures.items l.invariant.1,
      omega (arith, ap length c.push_reserved.ensures.items, length-append l.lent.items (c.new.result ∷ []), length-append l.yielded (c.in-Some.pass ∷ []), few),
      search rules,
    )
