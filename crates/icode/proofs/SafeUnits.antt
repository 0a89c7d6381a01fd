-- Sums of the units of locals.
use Rattle.std.proofs.Common.{◌≡◌, ◌∙◌, ℕ, zero, suc, ◌+◌, ◌<◌, ◌≤◌, Bool, true, false, List, [], ◌∷◌, length, take, get_or, Some, slice_get, if◌then◌else◌, sym, ap, arith, add-one}
use Rattle.std.proofs.lemmas.Option.{none-some, same_Some, slice_get-get_or}
use Rattle.machine.specs.declared.code.CodeLocal.{CodeLocal}
use Rattle.machine.specs.Stands.{safe_part, safe_units}
use Rattle.machine.specs.ValidCode.{CodeLocalsLie, code_local_units}

part_by : (s : Bool) (n : ℕ) → (if s then n else 0) ≤ n
part_by true n = omega arith
part_by false n = omega arith

pub part_le : (l : CodeLocal) → safe_part l ≤ l.units
part_le l = part_by l.safe l.units

pub safe_le : (ls : List CodeLocal) → safe_units ls ≤ code_local_units ls
safe_le [] = omega arith
safe_le (l ∷ ls) = let here = part_le l in let rest = safe_le ls in omega (arith, here, rest)

pub take_le : (n : ℕ) (ls : List CodeLocal) → safe_units (take n ls) ≤ code_local_units ls
take_le zero ls = omega arith
take_le (suc n) [] = omega arith
take_le (suc n) (l ∷ ls) = let here = part_le l in let rest = take_le n ls in omega (arith, here, rest)

take_next_by : (ls : List CodeLocal) (n : ℕ) (l : CodeLocal) → slice_get ls n ≡ Some l → safe_units (take (suc n) ls) ≡ safe_units (take n ls) + safe_part l
take_next_by [] n l is = absurd (none-some l is)
take_next_by (x ∷ ls) zero l is =
    let same : safe_part x ≡ safe_part l = ap safe_part (same_Some x l is) in omega (arith, same)
take_next_by (x ∷ ls) (suc n) l is = let rest = take_next_by ls n l is in omega (arith, rest)

-- one local more
pub take_next : (ls : List CodeLocal) (n : ℕ) (l : CodeLocal) → slice_get ls n ≡ Some l → safe_units (take (n + 1) ls) ≡ safe_units (take n ls) + safe_part l
take_next ls n l is = rw add-one (take_next_by ls n l is)

-- as the code reads it
pub take_next_read : (ls : List CodeLocal) (n : ℕ) (d : CodeLocal) (part : ℕ) → n < length ls → part ≡ safe_part (get_or ls n d)
    → safe_units (take n ls) + part ≡ safe_units (take (n + 1) ls)
take_next_read ls n d part low is =
    ap (λ x. safe_units (take n ls) + x) is ∙ sym (take_next ls n (get_or ls n d) (slice_get-get_or ls n d low))

-- as each has a unit
pub count_le : (at : ℕ) (ls : List CodeLocal) → CodeLocalsLie at ls → length ls ≤ code_local_units ls
count_le at [] lie = omega arith
count_le at (l ∷ ls) lie = let rest = count_le (at + l.units) ls lie.2 in omega (arith, lie.1, rest)

pub units_le : (ls : List CodeLocal) (v : ℕ) (l : CodeLocal) → slice_get ls v ≡ Some l → l.units ≤ code_local_units ls
units_le [] v l is = absurd (none-some l is)
units_le (x ∷ ls) zero l is = let same : x.units ≡ l.units = ap (λ (y : CodeLocal). y.units) (same_Some x l is) in omega (arith, same)
units_le (x ∷ ls) (suc v) l is = let rest = units_le ls v l is in omega (arith, rest)
