use Rattle.std.proofs.Common.{◌≡◌, ◌∙◌, ◌<◌, ◌≤◌, ℕ, ◌+◌, ◌&&◌, ◌∷◌, [], List, Bool, true, false, zero, suc, length, drop, get_or, nat_eq, bytes_eq, sym, ap, refl, arith, add-one, drop-cons}
use Rattle.authorizer.proofs.password.is_same.Goals as goal

and_assoc : (a b c : Bool) → ((a && b) && c) ≡ (a && (b && c))
and_assoc true b c = refl
and_assoc false b c = refl

and_true : (a : Bool) → (a && true) ≡ a
and_true true = refl
and_true false = refl

bytes_eq-drop : (a b : List ℕ) (i : ℕ) → i < length a → i < length b → bytes_eq (drop i a) (drop i b) ≡ (nat_eq (get_or a i 0) (get_or b i 0) && bytes_eq (drop (i + 1) a) (drop (i + 1) b))
bytes_eq-drop a b i h k =
    ap (λ xs. bytes_eq xs (drop i b)) (drop-cons a i 0 h ∙ ap (λ j. get_or a i 0 ∷ drop j a) (sym (add-one i)))
    ∙ ap (λ ys. bytes_eq (get_or a i 0 ∷ drop (i + 1) a) ys) (drop-cons b i 0 k ∙ ap (λ j. get_or b i 0 ∷ drop j b) (sym (add-one i)))

drop_whole : (a : List ℕ) (i : ℕ) → length a ≤ i → drop i a ≡ []
drop_whole [] zero h = refl
drop_whole [] (suc i) h = refl
drop_whole (x ∷ a) zero h = absurd (omega arith)
drop_whole (x ∷ a) (suc i) h = drop_whole a i (omega arith)

pub loop-index-preserved : goal.loop-index-preserved
loop-index-preserved c =
    let here = c.loop-index-test.true in
    let same_length = c.if-given-kept.false in
    and_assoc c.loop-index.same _ _
    ∙ ap (λ b. c.loop-index.same && b) (sym (bytes_eq-drop c.args.given.now c.args.kept.now c.loop-index.index here (omega arith)))
    ∙ c.loop-index.invariant

pub returns : goal.returns
returns c =
    let past = c.loop-index-test.false in
    let same_length = c.if-given-kept.false in
    let given_over = drop_whole c.args.given.now c.loop-index.index past in
    let kept_over = drop_whole c.args.kept.now c.loop-index.index (omega arith) in
    record {
      same = sym (and_true c.loop-index.same)
          ∙ ap (λ t. c.loop-index.same && bytes_eq t []) (sym given_over)
          ∙ ap (λ t. c.loop-index.same && bytes_eq (drop c.loop-index.index c.args.given.now) t) (sym kept_over)
          ∙ c.loop-index.invariant;
    }
