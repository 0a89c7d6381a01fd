-- Sums and products of integers, as numbers of 32 bits.
use Rattle.std.proofs.Common.{◌≡◌, ℕ, ℤ, suc, pos, negsuc, ◌+◌, ◌-◌, ◌*◌, ◌/◌, ◌%◌, ◌^◌, ◌+ℤ◌, ◌*ℤ◌, ◌<◌, ap, arith, add-mul}
use Rattle.std.proofs.lemmas.Int.{ints}
use Rattle.machine.specs.Numbers.{low_word, span}

-- a natural number further
pub low_sum : (x : ℤ) (n : ℕ) (y : ℤ) → y ≡ x +ℤ pos n → low_word y ≡ (low_word x + n) % 2 ^ 32
low_sum (pos a) n (pos b) is = let same : b ≡ a + n = omega (arith, ints, is) in omega (arith, same)
low_sum (pos a) n (negsuc b) is = absurd (omega (arith, ints, is))
low_sum (negsuc a) n (pos b) is = let same : b + suc a ≡ n = omega (arith, ints, is) in omega (arith, same)
low_sum (negsuc a) n (negsuc b) is = let same : a ≡ b + n = omega (arith, ints, is) in omega (arith, same)

low_low : (x : ℤ) → low_word x < 2 ^ 32
low_low (pos n) = omega arith
low_low (negsuc n) = omega arith

-- a product's low word is that of the low words' product
pos_product : (m n : ℕ) → (m * n) % 2 ^ 32 ≡ ((m % 2 ^ 32) * n) % 2 ^ 32
pos_product m n =
    let parts : m ≡ 2 ^ 32 * (m / 2 ^ 32) + m % 2 ^ 32 = omega arith in
    let product : m * n ≡ (2 ^ 32 * (m / 2 ^ 32) + m % 2 ^ 32) * n = ap (λ (x : ℕ). x * n) parts in
    let opened : (2 ^ 32 * (m / 2 ^ 32) + m % 2 ^ 32) * n ≡ 2 ^ 32 * ((m / 2 ^ 32) * n) + (m % 2 ^ 32) * n = omega arith in
    omega (arith, product, opened)

-- so many times a number, further
pub low_product : (x c : ℤ) (n : ℕ) (y : ℤ) → y ≡ x +ℤ c *ℤ pos n → low_word y ≡ (low_word x + span c n) % 2 ^ 32
low_product x (pos m) n y is =
    let sum : low_word y ≡ (low_word x + m * n) % 2 ^ 32 = low_sum x (m * n) y is in
    let product = pos_product m n in
    omega (arith, sum, product)
low_product x (negsuc m) n y is =
    let back : x ≡ y +ℤ pos (suc m * n) = omega (arith, ints, is) in
    let sum : low_word x ≡ (low_word y + suc m * n) % 2 ^ 32 = low_sum y (suc m * n) x back in
    let parts : (2 ^ 32 - 1 - m % 2 ^ 32) + suc m ≡ 2 ^ 32 * (1 + m / 2 ^ 32) = omega arith in
    let product : ((2 ^ 32 - 1 - m % 2 ^ 32) + suc m) * n ≡ (2 ^ 32 * (1 + m / 2 ^ 32)) * n = ap (λ (k : ℕ). k * n) parts in
    let opened : ((2 ^ 32 - 1 - m % 2 ^ 32) + suc m) * n ≡ (2 ^ 32 - 1 - m % 2 ^ 32) * n + suc m * n = add-mul (2 ^ 32 - 1 - m % 2 ^ 32) (suc m) n in
    let small = low_low y in
    omega (arith, sum, product, opened, small)
