-- The code of a body, one place on.
use Rattle.std.proofs.Common.{◌≡◌, ◌∙◌, ◌⊎◌, inl, inr, ℕ, zero, suc, ◌+◌, ◌<◌, IfSome, List, [], ◌∷◌, ◌++◌, length, map, get_or, Some, slice_get, refl, sym, ap, subst, arith}
use Rattle.std.specs.Option.{option_map}
use Rattle.std.proofs.lemmas.List.{length-append}
use Rattle.std.proofs.lemmas.Option.{IfSome_then, none-some, same_Some, slice_get-map, slice_get_read}
use Rattle.core_ir.specs.declared.instr.Instr.{Instr}
use Rattle.core_ir.specs.declared.program.Function.{Function}
use Rattle.core_ir.specs.declared.program.Local.{Local}
use Rattle.core_ir.specs.declared.program.Program.{Program}
use Rattle.core_ir.specs.Flow.{Stands}
use Rattle.core_ir.specs.Instructions.{outline_of}
use Rattle.core_ir.specs.Outline.{Outline}
use Rattle.core_ir.specs.Valid.{IsValidFunction}
use Rattle.sensitivity.specs.declared.class.Class.{Class}
use Rattle.machine.specs.declared.code.CodeFunction.{CodeFunction}
use Rattle.machine.specs.declared.code.CodeLocal.{CodeLocal}
use Rattle.machine.specs.declared.code.CodePlace.{CodePlace}
use Rattle.machine.specs.Stands.{LocalStands}
use Rattle.instrument.specs.inner.Places.{AreMade, AreStanding, IsMade, StandUpto, StandsBy}

-- an element of a list and one more
pub appended : {A : Type 0} (xs : List A) (x : A) (n : ℕ) (y : A) → slice_get (xs ++ x ∷ []) n ≡ Some y → (slice_get xs n ≡ Some y) ⊎ ((n ≡ length xs) × (x ≡ y))
appended [] x zero y e = inr (refl, same_Some x y e)
appended [] x (suc n) y e = absurd (none-some y e)
appended (z ∷ xs) x zero y e = inl e
appended (z ∷ xs) x (suc n) y e = elim (appended xs x n y e) [
  | inl f ↦ inl f
  | inr f ↦ inr (ap suc f.0, f.1)
]

pub no_locals : (f : Function) → StandUpto f 0 []
no_locals f = record { count = refl; each = λ v l m there is. absurd (none-some m is) }

pub one_more_local : (f : Function) (n : ℕ) (locals : List CodeLocal) (l : Local) (m : CodeLocal)
    → StandUpto f n locals → slice_get f.locals n ≡ Some l → LocalStands f n l m → StandUpto f (n + 1) (locals ++ m ∷ [])
one_more_local f n locals l m stand at now = record {
  count = length-append locals (m ∷ []) ∙ ap (λ x. x + 1) stand.count;
  each = λ v k p there is. elim (appended locals m v p is) [
    | inl e ↦ stand.each v k p there e
    | inr e ↦
        let here : v ≡ n = e.0 ∙ stand.count in
        let same : l ≡ k = same_Some l k (sym at ∙ ap (λ x. slice_get f.locals x) (sym here) ∙ there) in
        subst (λ x. LocalStands f x k p) (sym here) (subst (λ x. LocalStands f n x p) same (subst (LocalStands f n l) e.1 now))
  ];
}

-- what an access of the code gives
pub place_here : {A : Type 0} (outline : A → Outline) (code : List A) (k : ℕ) (x : A) → k < length code → x ≡ get_or code k x → Stands (map outline code) 0 k (outline x)
place_here outline code k x inside is = record {
  from = omega arith;
  there = ap (λ n. slice_get (map outline code) n) (omega arith) ∙ slice_get-map outline code k ∙ ap (λ o. option_map outline o) (slice_get_read code (length code) k x refl inside is);
}

-- a valid function's body defines few registers
pub few_registers : (program : Program) (f : Function) → IsValidFunction program f → (u : ℕ) (i : Outline) → Stands (map outline_of f.body) 0 u i → IfSome i.defined (λ d. d < 1024)
few_registers program f valid u i there =
    IfSome_then i.defined (valid.well_formed.numbers u i there).defined (λ d low. omega (arith, low, valid.within_limits.registers))

pub none_made : (program : Program) (f : Function) (classes : List Class) (locals : List CodeLocal) → AreMade program f classes locals 0 []
none_made program f classes locals = record { count = refl; each = λ k i place there is. absurd (none-some place is) }

pub one_more : (program : Program) (f : Function) (classes : List Class) (locals : List CodeLocal) (n : ℕ) (places : List CodePlace) (i : Instr) (place : CodePlace)
    → AreMade program f classes locals n places → slice_get f.body n ≡ Some i → IsMade program f classes locals n i place → AreMade program f classes locals (n + 1) (places ++ place ∷ [])
one_more program f classes locals n places i place made at now = record {
  count = length-append places (place ∷ []) ∙ ap (λ m. m + 1) made.count;
  each = λ k j p there is. elim (appended places place k p is) [
    | inl e ↦ made.each k j p there e
    | inr e ↦
        let here : k ≡ n = e.0 ∙ made.count in
        let same : i ≡ j = same_Some i j (sym at ∙ ap (λ m. slice_get f.body m) (sym here) ∙ there) in
        subst (λ m. IsMade program f classes locals m j p) (sym here) (subst (λ x. IsMade program f classes locals n x p) same (subst (IsMade program f classes locals n i) e.1 now))
  ];
}

pub none_standing : (program : Program) (classes : List Class) → AreStanding program classes 0 []
none_standing program classes = record { count = refl; each = λ k f c there is. absurd (none-some c is) }

pub one_more_standing : (program : Program) (classes : List Class) (n : ℕ) (functions : List CodeFunction) (f : Function) (c : CodeFunction)
    → AreStanding program classes n functions → slice_get program.functions n ≡ Some f → StandsBy program classes f c → AreStanding program classes (n + 1) (functions ++ c ∷ [])
one_more_standing program classes n functions f c standing at now = record {
  count = length-append functions (c ∷ []) ∙ ap (λ m. m + 1) standing.count;
  each = λ k g d there is. elim (appended functions c k d is) [
    | inl e ↦ standing.each k g d there e
    | inr e ↦
        let here : k ≡ n = e.0 ∙ standing.count in
        let same : f ≡ g = same_Some f g (sym at ∙ ap (λ m. slice_get program.functions m) (sym here) ∙ there) in
        subst (λ x. StandsBy program classes x d) same (subst (StandsBy program classes f) e.1 now)
  ];
}
