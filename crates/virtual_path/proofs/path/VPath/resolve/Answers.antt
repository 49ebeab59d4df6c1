use Rattle.std.proofs.Common.{◌≤◌, ◌<◌, ◌∙◌, sym, ap, subst, length, Ok}
use Rattle.std.specs.String.{string_bytes}
use Rattle.virtual_path.specs.Path.{slashed, AllNames}
use Rattle.virtual_path.proofs.Walks.{is_walked, resolved-long, resolved-short, walked_names, is_path_text, names_in-slashed}
use Rattle.virtual_path.proofs.path.VPath.resolve.Goals as goal

pub returns-then-as_str-gt-LONGEST_PATH : goal.returns-then-as_str-gt-LONGEST_PATH
returns-then-as_str-gt-LONGEST_PATH g c =
    let names = subst AllNames c.self.view_is c.self.invariant.names in
    let walked = is_walked c.args.self.now c.args.text.now c.as_str.result.now (string_bytes c.in_ok-whole.whole) (string_bytes c.walk.new.text) names
    (ap slashed (sym c.self.view_is) ∙ c.self.invariant.slashes ∙ sym c.as_str.ensures.value) c.in_ok-look_over.ensures.refusal c.in_ok-whole.ensures.start c.in_ok-walk.ensures.walks in
    record { names = tt; path = λ _. resolved-long _ _ _ walked (subst (λ t. 4096 < length t) c.as_str-2.ensures.value c.if-as_str-gt-LONGEST_PATH.true) }

pub invariant_of-result : goal.invariant_of-result
invariant_of-result g c =
    let names = subst AllNames c.self.view_is c.self.invariant.names in
    let walked = is_walked c.args.self.now c.args.text.now c.as_str.result.now (string_bytes c.in_ok-whole.whole) (string_bytes c.walk.new.text) names
    (ap slashed (sym c.self.view_is) ∙ c.self.invariant.slashes ∙ sym c.as_str.ensures.value) c.in_ok-look_over.ensures.refusal c.in_ok-whole.ensures.start c.in_ok-walk.ensures.walks in
    is_path_text _ _ (walked_names _ _ _ walked names) walked.walked (subst (λ t. length t ≤ 4096) c.as_str-2.ensures.value c.if-as_str-gt-LONGEST_PATH.false)

pub returns : goal.returns
returns g c =
    let names = subst AllNames c.self.view_is c.self.invariant.names in
    let walked = is_walked c.args.self.now c.args.text.now c.as_str.result.now (string_bytes c.in_ok-whole.whole) (string_bytes c.walk.new.text) names
    (ap slashed (sym c.self.view_is) ∙ c.self.invariant.slashes ∙ sym c.as_str.ensures.value) c.in_ok-look_over.ensures.refusal c.in_ok-whole.ensures.start c.in_ok-walk.ensures.walks in
    record {
      names = (is_path_text _ _ (walked_names _ _ _ walked names) walked.walked (subst (λ t. length t ≤ 4096) c.as_str-2.ensures.value c.if-as_str-gt-LONGEST_PATH.false)).names;
      path = resolved-short _ _ _ walked (subst (λ t. length t ≤ 4096) c.as_str-2.ensures.value c.if-as_str-gt-LONGEST_PATH.false)
          ∙ ap Ok (sym (names_in-slashed _ _ (walked_names _ _ _ walked names) walked.walked));
    }
