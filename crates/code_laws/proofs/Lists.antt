-- Lists that agree at each place of a third one are equal.
use Rattle.std.proofs.Common.{◌≡◌, ℕ, zero, suc, List, [], ◌∷◌, length, Some, slice_get, refl, arith}

pub same_lists :
    {A B : Type 0} (zs : List A) (xs ys : List B)
    → length xs ≡ length zs
    → length ys ≡ length zs
    → ((k : ℕ) (z : A) (x y : B) → slice_get zs k ≡ Some z → slice_get xs k ≡ Some x → slice_get ys k ≡ Some y → x ≡ y)
    → xs ≡ ys
same_lists [] [] [] m n each = refl
same_lists [] [] (y ∷ ys) m n each = absurd (omega arith)
same_lists [] (x ∷ xs) ys m n each = absurd (omega arith)
same_lists (z ∷ zs) [] ys m n each = absurd (omega arith)
same_lists (z ∷ zs) (x ∷ xs) [] m n each = absurd (omega arith)
same_lists (z ∷ zs) (x ∷ xs) (y ∷ ys) m n each =
    let here = each zero z x y refl refl refl in
    let rest = same_lists zs xs ys (omega arith) (omega arith) (λ k b v w. each (suc k) b v w) in
    λ t. here t ∷ rest t
