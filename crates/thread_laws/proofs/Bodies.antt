-- What valid code says of its functions and their places.
use Rattle.std.proofs.Common.{◌≡◌, ◌⊎◌, inl, inr, ℕ, zero, suc, ◌+◌, ◌≤◌, ◌<◌, Bool, true, false, ◌&&◌, List, [], ◌∷◌, length, Option, Some, None, All, slice_get, slice_index_or, refl, sym, ap, ◌∙◌, subst, arith}
use Rattle.machine.specs.declared.code.Code.{Code}
use Rattle.machine.specs.declared.code.CodeFunction.{CodeFunction}
use Rattle.machine.specs.declared.code.CodeLocal.{CodeLocal}
use Rattle.machine.specs.declared.code.CodePlace.{CodePlace}
use Rattle.machine.specs.Threads.{body_in, place_at}
use Rattle.machine.specs.ValidCode.{CodeLocalsLie, IsValidCodeFunction, ValidCode, code_local_units}

pub both : (a b : Bool) → (a && b) ≡ true → (a ≡ true) × (b ≡ true)
both true b is = (refl, is)
both false b is = absurd (cc)

-- one of two numbers is less, or they are the same
pub order : (m n : ℕ) → (m < n) ⊎ ((n < m) ⊎ (m ≡ n))
order zero zero = inr (inr refl)
order zero (suc n) = inl (omega arith)
order (suc m) zero = inr (inl (omega arith))
order (suc m) (suc n) =
    elim (order m n) [
      | inl less ↦ inl (omega arith)
      | inr other ↦ elim other [ inl more ↦ inr (inl (omega arith)) | inr same ↦ inr (inr (ap suc same)) ]
    ]

pub stands_within : {A : Type 0} (xs : List A) (i : ℕ) (x : A) → slice_get xs i ≡ Some x → i < length xs
stands_within [] i x there = absurd (cc)
stands_within (y ∷ ys) zero x there = omega arith
stands_within (y ∷ ys) (suc i) x there =
    let rest : i < length ys = stands_within ys i x there in omega arith

read_at : {A : Type 0} (xs : List A) (i : ℕ) (x : A) → slice_get xs i ≡ Some x → slice_index_or xs i x ≡ x
read_at [] i x there = refl
read_at (y ∷ ys) zero x there = cc
read_at (y ∷ ys) (suc i) x there = read_at ys i x there

pub at_place : {A : Type 0} (P : A → Type 0) (xs : List A) (i : ℕ) (x : A) → All P xs → slice_get xs i ≡ Some x → P x
at_place P xs i x all there = subst P (read_at xs i x there) (all i x (stands_within xs i x there))

pub valid_function : (code : Code) (f : ℕ) (c : CodeFunction) → ValidCode code → slice_get code.functions f ≡ Some c → IsValidCodeFunction code c
valid_function code f c valid there = at_place (IsValidCodeFunction code) code.functions f c valid.functions there

-- the function in which an instruction stands
pub record StandsIn (code : Code) (f k : ℕ) (i : CodePlace) : Type 0 where
  pub function : CodeFunction
  pub there : slice_get code.functions f ≡ Some function
  pub at : slice_get function.body k ≡ Some i

stands_by : (code : Code) (f k : ℕ) (i : CodePlace) (o : Option CodeFunction) → slice_get code.functions f ≡ o → slice_get (body_in o) k ≡ Some i → StandsIn code f k i
stands_by code f k i None is at = absurd (cc)
stands_by code f k i (Some c) is at = record { function = c; there = is; at = at }

pub stands_in : (code : Code) (f k : ℕ) (i : CodePlace) → place_at code f k ≡ Some i → StandsIn code f k i
stands_in code f k i at = stands_by code f k i (slice_get code.functions f) refl at

-- an instruction of a function is the one at its place
pub place_is : (code : Code) (f k : ℕ) (c : CodeFunction) (i : CodePlace) → slice_get code.functions f ≡ Some c → place_at code f k ≡ Some i → slice_get c.body k ≡ Some i
place_is code f k c i there at = ap (λ (o : Option CodeFunction). slice_get (body_in o) k) (sym there) ∙ at

-- a local lies within the units of all
local_within :
    (at : ℕ) (ls : List CodeLocal) (v : ℕ) (l : CodeLocal)
    → CodeLocalsLie at ls
    → slice_get ls v ≡ Some l
    → l.offset + l.units ≤ at + code_local_units ls
local_within at [] v l lie there = absurd (cc)
local_within at (m ∷ ms) zero l lie there =
    let same : m ≡ l = cc in
    let here : m.offset + m.units ≤ at + code_local_units (m ∷ ms) = omega (arith, lie.0) in
    subst (λ (x : CodeLocal). x.offset + x.units ≤ at + code_local_units (m ∷ ms)) same here
local_within at (m ∷ ms) (suc v) l lie there =
    let rest : l.offset + l.units ≤ (at + m.units) + code_local_units ms = local_within (at + m.units) ms v l lie.2 there in
    omega (arith, rest)

pub local_in_frame :
    (code : Code) (c : CodeFunction) (v : ℕ) (l : CodeLocal)
    → IsValidCodeFunction code c
    → slice_get c.locals v ≡ Some l
    → l.offset + l.units ≤ c.frame_units
local_in_frame code c v l valid there =
    omega (arith, local_within 0 c.locals v l valid.locals_lie there, valid.frame_is_its_locals)
