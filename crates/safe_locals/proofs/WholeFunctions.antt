-- From the answers for a body to those for a function, and for the functions of a program.
use Rattle.std.proofs.Common.{◌≡◌, ◌∙◌, ◌⊎◌, inl, inr, ◌↔◌, ℕ, zero, suc, Bool, false, IsTrue, List, [], ◌∷◌, ◌++◌, length, map, Some, slice_get, slice_index_or, refl, sym, ap, subst, arith}
use Rattle.std.specs.Option.{option_map}
use Rattle.std.proofs.lemmas.List.{length-map}
use Rattle.std.proofs.lemmas.Option.{none-some, same_Some, slice_get-map, slice_get_cases}
use Rattle.core_ir.specs.declared.program.Function.{Function}
use Rattle.core_ir.specs.declared.program.Local.{Local}
use Rattle.core_ir.specs.Instructions.{outline_of}
use Rattle.core_ir.specs.SafeLocal.{IsSafe, IsSafeLocal}
use Rattle.safe_locals.specs.Safe.{AreSafe, AreSafeIn}

exact_of : (f : Function) (units : List ℕ) (safe : List Bool) → units ≡ map (λ (v : Local). v.units) f.locals → AreSafeIn (map outline_of f.body) units safe
    → (v : ℕ) (l : Local) → slice_get f.locals v ≡ Some l → IsTrue (slice_index_or safe v false) ↔ IsSafeLocal f v
exact_of f units safe is are v l at =
    let there : slice_get units v ≡ Some l.units =
    ap (λ us. slice_get us v) is ∙ slice_get-map (λ (x : Local). x.units) f.locals v ∙ ap (λ o. option_map (λ (x : Local). x.units) o) at in
    let e = are.exact v l.units there in (
      λ yes. record { local = l; there = at; safe = e.0 yes },
      λ s. e.1 (subst (λ (x : Local). IsSafe (map outline_of f.body) v x.units) (same_Some s.local l (sym s.there ∙ at)) s.safe),
    )

pub safe_function : (f : Function) (units : List ℕ) (safe : List Bool) → units ≡ map (λ (v : Local). v.units) f.locals → AreSafeIn (map outline_of f.body) units safe → AreSafe f safe
safe_function f units safe is are = record {
  each = are.each ∙ ap length is ∙ length-map f.locals (λ (v : Local). v.units);
  exact = λ v low. elim (slice_get_cases f.locals v).1 [
    | inl found ↦ exact_of f units safe is are v found.0 found.2
    | inr past ↦ absurd (omega (arith, past.0, low))
  ];
}

-- an element of a list and one more
appended : {A : Type 0} (xs : List A) (x : A) (n : ℕ) (y : A) → slice_get (xs ++ x ∷ []) n ≡ Some y → (slice_get xs n ≡ Some y) ⊎ ((n ≡ length xs) × (x ≡ y))
appended [] x zero y e = inr (refl, same_Some x y e)
appended [] x (suc n) y e = absurd (none-some y e)
appended (z ∷ xs) x zero y e = inl e
appended (z ∷ xs) x (suc n) y e = elim (appended xs x n y e) [
  | inl f ↦ inl f
  | inr f ↦ inr (ap suc f.0, f.1)
]

pub all_more :
    (fs : List Function) (table : List (List Bool)) (k : ℕ) (f : Function) (safe : List Bool)
    → length table ≡ k → slice_get fs k ≡ Some f → AreSafe f safe
    → ((n : ℕ) (g : Function) (s : List Bool) → slice_get fs n ≡ Some g → slice_get table n ≡ Some s → AreSafe g s)
    → (n : ℕ) (g : Function) (s : List Bool) → slice_get fs n ≡ Some g → slice_get (table ++ safe ∷ []) n ≡ Some s → AreSafe g s
all_more fs table k f safe long at now before n g s there is = elim (appended table safe n s is) [
  | inl e ↦ before n g s there e
  | inr e ↦
      let same : f ≡ g = same_Some f g (sym at ∙ ap (λ x. slice_get fs x) (sym (e.0 ∙ long)) ∙ there) in
      subst (λ x. AreSafe x s) same (subst (λ x. AreSafe f x) e.1 now)
]
