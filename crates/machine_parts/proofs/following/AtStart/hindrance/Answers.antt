use Rattle.std.proofs.Common.{inl, inr, refl}
use Rattle.config_change.specs.Words.{count_text, key_text}
use Rattle.config_change.specs.declared.fixed.FixedValues.{FixedValues}
use Rattle.machine_parts.proofs.Taking.{are-words}
use Rattle.machine_parts.proofs.following.AtStart.hindrance.Goals as goal

pub returns-in-Some : goal.returns-in-Some
returns-in-Some c =
    let before : FixedValues = record { numbers = c.args.self.now.numbers; root = c.as_str.result; capacity = c.args.self.now.capacity } in
    let after : FixedValues = record { numbers = c.args.config.now.numbers; root = c.root_of.result; capacity = c.capacity_of.result } in
    record {
      hindrance = (
        before,
        after,
        record { numbers_are = refl; root_is = c.as_str.ensures.value; capacity_is = refl },
        record { numbers_are = refl; root_is = c.root_of.ensures.root; capacity_is = c.capacity_of.ensures.capacity },
        inl (c.in-Some.key, c.in-Some.ensures.key, are-words (key_text c.in-Some.key) c.words.result c.words.ensures.words),
      );
    }

pub returns-in-Some-count_fault : goal.returns-in-Some-count_fault
returns-in-Some-count_fault c =
    let before : FixedValues = record { numbers = c.args.self.now.numbers; root = c.as_str.result; capacity = c.args.self.now.capacity } in
    let after : FixedValues = record { numbers = c.args.config.now.numbers; root = c.root_of.result; capacity = c.capacity_of.result } in
    record {
      hindrance = (
        before,
        after,
        record { numbers_are = refl; root_is = c.as_str.ensures.value; capacity_is = refl },
        record { numbers_are = refl; root_is = c.root_of.ensures.root; capacity_is = c.capacity_of.ensures.capacity },
        inr (
          c.in_default.ensures.key,
          (
            c.in-Some-count_fault.fault,
            c.in-Some-count_fault.ensures.fault,
            are-words (count_text c.in-Some-count_fault.fault) c.words-in-Some-count_fault.result c.words-in-Some-count_fault.ensures.words,
          ),
        ),
      );
    }
