use Rattle.std.proofs.Common.{◌≡◌, ◌++◌, ℕ, refl, subst}
use Rattle.transfer_log.specs.Lines.{size_text, user_text}
use Rattle.transfer_log.specs.Moments.{IsMoment}
use Rattle.transfer_log.specs.Names.{field_text}
use Rattle.transfer_log.proofs.Joins.{four, on_ok}
use Rattle.transfer_log.proofs.line.push_fields.Goals as goal

pub returns : goal.returns
returns c =
    let t = c.args.transfer.now in
    let m = c.in_ok-push_moment.ensures.appended in
    record {
      line = on_ok c.push_user.result _ _
          (λ last. (
            m.0 ++ size_text t ++ field_text t.path.now ++ user_text t,
            record { moment = m.0; is_moment = subst (λ (n : ℕ). IsMoment n m.0) c.min.ensures m.1; text_is = refl },
            four _ _ _ _ _ _ _ _ _ m.2 c.in_ok-push_size.ensures.appended c.in_ok-push_field.ensures.appended last,
          ))
          c.push_user.ensures.appended;
    }
