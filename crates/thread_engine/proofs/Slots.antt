-- The slots of a new frame: arguments, and nothing in the others. What is told of them is told of the arguments.
use Rattle.std.proofs.Common.{◌≡◌, ℕ, zero, suc, ◌+◌, ◌-◌, ◌≤◌, ◌<◌, min, List, [], ◌∷◌, ◌++◌, length, take, replicate, slice_index_or, refl, sym, ap, ◌∙◌, arith}
use Rattle.std.proofs.lemmas.List.{append-nil, append_assoc, length-take, take_all, take_min, take_more}
use Rattle.meaning.specs.declared.note.Note.{Note}
use Rattle.meaning.specs.declared.value.Value.{Value}
use Rattle.machine.specs.Protected.{protected}
use Rattle.machine.specs.Shapes.{blank}
use Rattle.machine.specs.Threads.{slot_told, slots_told}
use Rattle.machine.specs.Values.{told_function}

pub first_of : {V : Type 0} (n : ℕ) (xs : List V) → take (min n (length xs)) xs ≡ take n xs
first_of n xs = take_min n xs

take_replicate : {V : Type 0} (n m : ℕ) (v : V) → n ≤ m → take n (replicate m v) ≡ replicate n v
take_replicate zero m v le = refl
take_replicate (suc n) zero v le = absurd (omega arith)
take_replicate {V} (suc n) (suc m) v le = ap {B = List V} (λ r. v ∷ r) (take_replicate n m v (omega arith))

-- a list that is filled up
pub filled_up :
    {V : Type 0} (n m : ℕ) (xs : List V) (v : V)
    → n ≤ m
    → take n (xs ++ replicate m v) ≡ take n xs ++ replicate (n - length xs) v
filled_up zero m xs v le =
    let none : 0 ≡ 0 - length xs = omega arith in
    ap (λ (k : ℕ). replicate k v) none
filled_up (suc n) m [] v le =
    let all : suc n ≡ suc n - 0 = omega arith in
    take_replicate (suc n) m v le ∙ ap (λ (k : ℕ). replicate k v) all
filled_up {V} (suc n) m (x ∷ xs) v le =
    let rest : n - length xs ≡ suc n - suc (length xs) = omega arith in
    ap {B = List V} (λ r. x ∷ r) (filled_up n m xs v (omega arith) ∙ ap (λ (k : ℕ). take n xs ++ replicate k v) rest)

pub slots_filled : (n : ℕ) (xs : List Value) (v : Value) → take n (xs ++ replicate n v) ≡ take n xs ++ replicate (n - length xs) v
slots_filled n xs v = filled_up n n xs v (omega arith)

-- no function is in a slot to which nothing was written
told_blanks : (depth s n : ℕ) → slots_told protected depth s (replicate n (blank protected)) ≡ []
told_blanks depth s zero = refl
told_blanks depth s (suc n) = told_blanks depth (suc s) n

told_append :
    (depth s : ℕ) (xs ys : List Value)
    → slots_told protected depth s (xs ++ ys)
    ≡ slots_told protected depth s xs ++ slots_told protected depth (s + length xs) ys
told_append depth s [] ys =
    let same : s ≡ s + 0 = omega arith in
    ap (λ (k : ℕ). slots_told protected depth k ys) same
told_append depth s (x ∷ xs) ys =
    let here = slot_told protected depth s (told_function x) in
    let rest = slots_told protected depth (suc s) xs in
    let same : suc s + length xs ≡ s + suc (length xs) = omega arith in
    ap (λ (r : List Note). here ++ r) (told_append depth (suc s) xs ys)
    ∙ sym (append_assoc here rest (slots_told protected depth (suc s + length xs) ys))
    ∙ ap (λ (k : ℕ). here ++ rest ++ slots_told protected depth k ys) same

-- one slot more
pub told_step :
    (depth i : ℕ) (values : List Value) (value : Value)
    → i < length values
    → slots_told protected depth 0 (take (i + 1) values)
    ≡ slots_told protected depth 0 (take i values) ++ slot_told protected depth i (told_function (slice_index_or values i value))
told_step depth i values value low =
    let so_far : 0 + length (take i values) ≡ i = omega (arith, length-take i values) in
    let told = told_function (slice_index_or values i value) in
    ap (slots_told protected depth 0) (take_more values i value low)
    ∙ told_append depth 0 (take i values) (slice_index_or values i value ∷ [])
    ∙ ap (λ (k : ℕ). slots_told protected depth 0 (take i values) ++ (slot_told protected depth k told ++ [])) so_far
    ∙ ap (λ (r : List Note). slots_told protected depth 0 (take i values) ++ r) (append-nil (slot_told protected depth i told))

-- what is told of a new frame's slots is told of its arguments
pub told_are_arguments :
    (depth n p : ℕ) (arguments : List Value)
    → slots_told protected depth 0 (take n (take p arguments))
    ≡ slots_told protected depth 0 (take n (take p arguments ++ replicate n (blank protected)))
told_are_arguments depth n p arguments =
    let given = take n (take p arguments) in
    let more = n - length (take p arguments) in
    let filled : take n (take p arguments ++ replicate n (blank protected)) ≡ given ++ replicate more (blank protected) =
    filled_up n n (take p arguments) (blank protected) (omega arith) in
    sym (
    ap (slots_told protected depth 0) filled
    ∙ told_append depth 0 given (replicate more (blank protected))
    ∙ ap (λ (r : List Note). slots_told protected depth 0 given ++ r) (told_blanks depth (0 + length given) more)
    ∙ append-nil (slots_told protected depth 0 given))

pub few_are_told : (n p : ℕ) (arguments : List Value) → p ≤ 8 → length (take n (take p arguments)) ≤ 8
few_are_told n p arguments few =
    omega (arith, few, length-take n (take p arguments), length-take p arguments)

-- all of them
pub all_told : (depth n : ℕ) (values : List Value) → length values ≤ n → slots_told protected depth 0 (take n values) ≡ slots_told protected depth 0 values
all_told depth n values all = ap (slots_told protected depth 0) (take_all n values all)
