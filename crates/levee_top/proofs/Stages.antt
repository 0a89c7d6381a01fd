-- Steps that each have one answer have one together.
use Rattle.std.proofs.Common.{◌≡◌, ◌⊎◌, Result, Ok, Err, sym, ap, subst, ◌∙◌, ⊎_elim}
use Rattle.levee_top.specs.declared.refusal.Refusal.{Refusal}

-- a step: what it may answer of what it is given
abbrev pub Stage : Type 0 → Type 0 → Type 1
Stage X Y = X → Result Y Refusal → Type 0

-- it has at most one answer
abbrev pub IsOne : {X Y : Type 0} → Stage X Y → Type 0
IsOne {X = X} {Y = Y} S = (x : X) (a b : Result Y Refusal) → S x a → S x b → a ≡ b

-- one step behind another
abbrev pub Then : {X Y Z : Type 0} → Stage X Y → Stage Y Z → Stage X Z
Then {X = X} {Y = Y} {Z = Z} S T x z =
    ((y : Y) × S x (Ok y) × T y z) ⊎ ((why : Refusal) × S x (Err why) × (z ≡ Err why))

abbrev pub IsSame : {Y : Type 0} → Result Y Refusal → Result Y Refusal → Type 0
IsSame a b = a ≡ b

pub same_found : {Y : Type 0} (a b : Y) → IsSame (Ok a) (Ok b) → a ≡ b
same_found a b e = cc

pub same_refusal : {Y : Type 0} (x y : Refusal) → IsSame {Y = Y} (Err x) (Err y) → x ≡ y
same_refusal x y e = cc

pub never_both : {Y : Type 0} (a : Y) (why : Refusal) → IsSame (Ok a) (Err why) → ⊥
never_both a why e = cc

pub then_is_one : {X Y Z : Type 0} (S : Stage X Y) (T : Stage Y Z) → IsOne S → IsOne T → IsOne (Then S T)
then_is_one {Y = Y} {Z = Z} S T s t x a b p q =
    ⊎_elim
    (λ f. ⊎_elim
    (λ g. t g.0 a b (subst (λ (y : Y). T y a) (same_found f.0 g.0 (s x (Ok f.0) (Ok g.0) f.1 g.1)) f.2) g.2)
    (λ g. absurd (never_both f.0 g.0 (s x (Ok f.0) (Err g.0) f.1 g.1))) q)
    (λ f. ⊎_elim
    (λ g. absurd (never_both g.0 f.0 (s x (Ok g.0) (Err f.0) g.1 f.1)))
    (λ g. f.2 ∙ (ap Err (same_refusal {Y = Y} f.0 g.0 (s x (Err f.0) (Err g.0) f.1 g.1)) ∙ sym g.2)) q)
    p
