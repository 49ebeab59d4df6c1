use Rattle.std.proofs.Common.{refl}
use Rattle.grant_certificate.specs.declared.user_look.UserLook.{UserLook}
use Rattle.grant_certificate.proofs.UserLooks.{neck-nothing}
use Rattle.grant_certificate.proofs.user_look.look_at_necks.Goals as goal

pub returns : goal.returns
returns g c =
    let of = c.args.of in
    let start : UserLook = record { of = of; entries = c.args.entries; marks = c.no_marks.result; few = c.requires.few; entered = c.requires.entries } in
    let saw = c.walk.ensures.saw start (record {
      owners = refl;
      grants = refl;
      floors = refl;
      entries = refl;
      marked = λ i. (λ marked. absurd (c.no_marks.ensures.none i marked), λ neck. absurd (neck-nothing of.owners.now of.grants.now of.floors.now c.args.entries.now i neck));
    }) in
    record { necks = saw.marked }
