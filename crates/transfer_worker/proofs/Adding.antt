-- How what a worker has done grows.
use Rattle.std.proofs.Common.{◌≡◌, ℕ, ◌+◌, ◌++◌, List, [], ◌∷◌, sym, refl, ap, ◌∙◌, arith, append_assoc, append-nil}
use Rattle.std.specs.Prelude.{Option, Some}
use Rattle.line_rates.specs.declared.ask.Ask.{Ask}
use Rattle.grant_ledger.specs.Books.{capped}
use Rattle.transfer_worker.specs.Passes.{PassCall, Passes}
use Rattle.transfer_worker.specs.Runs.{WorkerView, counted, Adds}

pub counted_append : (n : ℕ) (a b : List ℕ) → counted n (a ++ b) ≡ counted (counted n a) b
counted_append n [] b = refl
counted_append n (m ∷ a) b = counted_append (capped n m) a b

pub passes_none : (t : Option (List PassCall)) → Passes t t []
passes_none t = λ before e. e ∙ ap (λ (l : List PassCall). Some l) (sym (append-nil before))

pub passes_then : (t u w : Option (List PassCall)) (c d : List PassCall) → Passes t u c → Passes u w d → Passes t w (c ++ d)
passes_then t u w c d p q = λ before e. q (before ++ c) (p before e) ∙ ap (λ (l : List PassCall). Some l) (append_assoc before c d)

pub passes_are : (t u : Option (List PassCall)) (c d : List PassCall) → c ≡ d → Passes t u c → Passes t u d
passes_are t u c d e p = λ before f. p before f ∙ ap (λ (l : List PassCall). Some (before ++ l)) e

pub adds_none : (v : WorkerView) → Adds [] [] 0 [] [] v v
adds_none v = record {
  asks_are = sym (append-nil v.lane.asks);
  taken_are = sym (append-nil v.lane.taken);
  looks_are = omega arith;
  moved_is = refl;
  passes = passes_none v.passed;
}

module _ (a b : List Ask) (t r : List ℕ) (l k : ℕ) (m n : List ℕ) (c d : List PassCall) where
  pub adds_then : (v u w : WorkerView) → Adds a t l m c v u → Adds b r k n d u w → Adds (a ++ b) (t ++ r) (l + k) (m ++ n) (c ++ d) v w
  adds_then v u w p q = record {
    asks_are = q.asks_are ∙ ap (λ (x : List Ask). x ++ b) p.asks_are ∙ append_assoc v.lane.asks a b;
    taken_are = q.taken_are ∙ ap (λ (x : List ℕ). x ++ r) p.taken_are ∙ append_assoc v.lane.taken t r;
    looks_are = omega (arith, p.looks_are, q.looks_are);
    moved_is = q.moved_is ∙ ap (λ (x : ℕ). counted x n) p.moved_is ∙ sym (counted_append v.tally.moved m n);
    passes = passes_then v.passed u.passed w.passed c d p.passes q.passes;
  }

  -- the same, told otherwise
  pub adds_as : (v w : WorkerView) → a ≡ b → t ≡ r → l ≡ k → m ≡ n → c ≡ d → Adds a t l m c v w → Adds b r k n d v w
  adds_as v w asks taken looks moves calls p = record {
    asks_are = p.asks_are ∙ ap (λ (x : List Ask). v.lane.asks ++ x) asks;
    taken_are = p.taken_are ∙ ap (λ (x : List ℕ). v.lane.taken ++ x) taken;
    looks_are = omega (arith, p.looks_are, looks);
    moved_is = p.moved_is ∙ ap (λ (x : List ℕ). counted v.tally.moved x) moves;
    passes = passes_are v.passed w.passed c d calls p.passes;
  }

module _ (a : List Ask) (t : List ℕ) (l : ℕ) (m : List ℕ) (c : List PassCall) where
  -- nothing of that changes any more
  pub adds_still : (v w z : WorkerView) → Adds a t l m c v w → z.lane.asks ≡ w.lane.asks → z.lane.taken ≡ w.lane.taken → z.lane.looks ≡ w.lane.looks → z.tally.moved ≡ w.tally.moved → z.passed ≡ w.passed → Adds a t l m c v z
  adds_still v w z p asks taken looks moved passed = record {
    asks_are = asks ∙ p.asks_are;
    taken_are = taken ∙ p.taken_are;
    looks_are = looks ∙ p.looks_are;
    moved_is = moved ∙ p.moved_is;
    passes = λ before e. passed ∙ p.passes before e;
  }
