-- A number times so many units, as the code computes it.
use Rattle.std.proofs.Common.{◌≡◌, ◌∙◌, ℕ, suc, ◌<◌, ◌≤◌, ◌^◌, ℤ, pos, negsuc, ◌*ℤ◌, SFits, to_z, of_z, unsigned_abs, w64, ap, arith}
use Rattle.std.specs.Int.{w128}
use Rattle.std.proofs.lemmas.Int.{fits_signed_from_abs, fits_signed_mul, to_z-of_z}

few : (n : ℤ) → SFits w64 n → unsigned_abs n ≤ 2 ^ 63
few (pos n) fits =
    let low : n < 2 ^ 63 = fits.sfits in
    let most : n ≤ 2 ^ 63 = omega (arith, low) in most
few (negsuc n) fits =
    let low : n < 2 ^ 63 = fits.sfits in
    let most : suc n ≤ 2 ^ 63 = omega (arith, low) in most

exact : (n : ℤ) (u : ℕ) → SFits w64 n → u < 2 ^ 32
    → to_z w128 (of_z w128 (to_z w128 (of_z w128 n) *ℤ to_z w128 (of_z w128 (pos u)))) ≡ n *ℤ pos u
exact n u fits small =
    let low : unsigned_abs n ≤ 2 ^ 63 = few n fits in
    let wide_n : SFits w128 n = fits_signed_from_abs w128 n (omega (arith, low)) in
    let wide_u : SFits w128 (pos u) = fits_signed_from_abs w128 (pos u) (omega (arith, small)) in
    let product : SFits w128 (n *ℤ pos u) = fits_signed_mul w128 n (pos u) (2 ^ 63) (2 ^ 32) (omega (arith, low)) (omega (arith, small)) (omega arith) in
    let read : to_z w128 (of_z w128 n) *ℤ to_z w128 (of_z w128 (pos u)) ≡ n *ℤ pos u =
    ap (λ x. x *ℤ to_z w128 (of_z w128 (pos u))) (to_z-of_z w128 n wide_n) ∙ ap (λ x. n *ℤ x) (to_z-of_z w128 (pos u) wide_u) in
    ap (λ x. to_z w128 (of_z w128 x)) read ∙ to_z-of_z w128 (n *ℤ pos u) product

pub product_is : (n : ℤ) (u : ℕ) (a b : ℤ) → SFits w64 n → u < 2 ^ 32 → a ≡ n → b ≡ pos u
    → to_z w128 (of_z w128 (to_z w128 (of_z w128 a) *ℤ to_z w128 (of_z w128 b))) ≡ n *ℤ pos u
product_is n u a b fits small from units =
    ap (λ x. to_z w128 (of_z w128 (to_z w128 (of_z w128 x) *ℤ to_z w128 (of_z w128 b)))) from
    ∙ ap (λ x. to_z w128 (of_z w128 (to_z w128 (of_z w128 n) *ℤ to_z w128 (of_z w128 x)))) units
    ∙ exact n u fits small
