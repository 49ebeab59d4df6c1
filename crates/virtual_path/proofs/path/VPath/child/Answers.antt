use Rattle.std.proofs.Common.{◌∙◌, ◌++◌, ◌∷◌, sym, ap, Ok, arith}
use Rattle.std.specs.String.{string_bytes}
use Rattle.virtual_path.proofs.Parts.{is_text_of, kept, names_in_text, child_text, child_of-short, child_of-long_name, child_of-long}
use Rattle.virtual_path.proofs.path.VPath.child.Goals as goal
use Rattle.virtual_path.proofs.path.VPath.child.Goals.{then-name-gt-LONGEST_NAME-via-then-name-gt-LONGEST_NAME, then-name-gt-LONGEST_NAME-via-else-name-gt-LONGEST_NAME+then-name-as_str}

pub returns-then-name-gt-LONGEST_NAME : goal.returns-then-name-gt-LONGEST_NAME
returns-then-name-gt-LONGEST_NAME g c =
    let one = sym c.if-not-is_one_name.ensures.one in
    record {
      path = λ _. elim c.then-name-gt-LONGEST_NAME.branch [
        | then-name-gt-LONGEST_NAME-via-then-name-gt-LONGEST_NAME w ↦ child_of-long_name _ _ one w.if-name-gt-LONGEST_NAME.true
        | then-name-gt-LONGEST_NAME-via-else-name-gt-LONGEST_NAME+then-name-as_str w ↦
            let is = is_text_of w.as_str.result.now _ c.args.self.now c.self.invariant c.self.view_is w.as_str.ensures.value in
            child_of-long w.as_str.result.now c.args.name.now c.args.self.now is one (let more = w.if-name-as_str.true in let short = is.short in omega arith)
      ];
    }

pub invariant_of-result : goal.invariant_of-result
invariant_of-result g c =
    let one = sym c.if-not-is_one_name.ensures.one in
    let is = is_text_of c.as_str.result.now _ c.args.self.now c.self.invariant c.self.view_is c.as_str.ensures.value in
    let built = c.in_ok-enter.ensures.enters ∙ ap (λ t. t ++ 47 ∷ c.args.name.now) (c.in_ok-text.ensures.ok ∙ c.as_str-2.ensures.value ∙ sym c.as_str.ensures.value) in
    let child = child_text c.as_str.result.now (string_bytes c.enter.new.text) c.args.name.now c.args.self.now is one c.if-name-gt-LONGEST_NAME.false built (let fits = c.if-name-as_str.false in let short = is.short in omega arith) in
    kept _ _ child

pub returns : goal.returns
returns g c =
    let one = sym c.if-not-is_one_name.ensures.one in
    let is = is_text_of c.as_str.result.now _ c.args.self.now c.self.invariant c.self.view_is c.as_str.ensures.value in
    let built = c.in_ok-enter.ensures.enters ∙ ap (λ t. t ++ 47 ∷ c.args.name.now) (c.in_ok-text.ensures.ok ∙ c.as_str-2.ensures.value ∙ sym c.as_str.ensures.value) in
    let child = child_text c.as_str.result.now (string_bytes c.enter.new.text) c.args.name.now c.args.self.now is one c.if-name-gt-LONGEST_NAME.false built (let fits = c.if-name-as_str.false in let short = is.short in omega arith) in
    record { path = child_of-short _ c.args.name.now c.args.self.now one c.if-name-gt-LONGEST_NAME.false child ∙ ap Ok (sym (names_in_text _ _ child)) }
