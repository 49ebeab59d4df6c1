use Rattle.std.proofs.Common.{◌≡◌, ℕ, ◌<◌, ◌≤◌, length, subst, arith}
use Rattle.std.specs.Str.{chars}
use Rattle.server_config.specs.Similar.{edits}
use Rattle.server_config.proofs.similar.edits_between.Goals as goal

positive : (n : ℕ) → (n ≡ 0 → ⊥) → 0 < n
positive n other = omega arith

pub returns-clause-near : goal.returns-clause-near
returns-clause-near c =
    let is : c.in_ok-edits.edits ≡ edits c.args.key.now c.args.other.now = c.in_ok-edits.ensures.value in
    record {
      some = subst (λ n. 0 < n) is (positive c.in_ok-edits.edits c.if-edits-eq0.false);
      few = subst (λ n. n ≤ 2) is c.if-edits-gt-MOST_EDITS.false;
      fewer = subst (λ n. n < length (chars c.args.key.now)) is (subst (λ n. c.in_ok-edits.edits < n) c.letters_of-letters.ensures c.if-edits-letters.false);
    }
