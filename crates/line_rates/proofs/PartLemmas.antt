-- What stands where when a part of a list is written.
use Rattle.std.proofs.Common.{◌≡◌, ℕ, List, ◌++◌, length, take, drop, refl, ap, ◌∙◌}
use Rattle.std.proofs.Math.Seq.{take-append_seam, drop-append_seam}
use borrow.Rule.Slice.PartMut.{put_mid}

module _ {X : Type 0} where
  pub take_at : (xs ys zs : List X) (n : ℕ) → zs ≡ xs ++ ys → n ≡ length xs → take n zs ≡ xs
  take_at xs ys zs n e l = ap (λ (m : ℕ). take m zs) l ∙ ap (take (length xs)) e ∙ take-append_seam xs ys

  pub drop_at : (xs ys zs : List X) (n : ℕ) → zs ≡ xs ++ ys → n ≡ length xs → drop n zs ≡ ys
  drop_at xs ys zs n e l = ap (λ (m : ℕ). drop m zs) l ∙ ap (drop (length xs)) e ∙ drop-append_seam xs ys

  pub put_at : (xs ys zs all new : List X) (a k : ℕ) → all ≡ xs ++ (ys ++ zs) → a ≡ length xs → k ≡ length ys → put_mid a k all new ≡ xs ++ (new ++ zs)
  put_at xs ys zs all new a k e la lk =
      ap (λ us. us ++ (new ++ drop k (drop a all))) (take_at xs (ys ++ zs) all a e la)
      ∙ ap (λ us. xs ++ (new ++ us)) (ap (drop k) (drop_at xs (ys ++ zs) all a e la) ∙ drop_at ys zs (ys ++ zs) k refl lk)
