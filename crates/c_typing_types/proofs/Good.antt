-- Tests of types that what types are made of decides, and what they say of a type's parts.
use Rattle.std.proofs.Common.{◌≡◌, ◌∙◌, ◌<◌, ◌≤◌, ℕ, Bool, true, false, ◌&&◌, ◌||◌, nat_le, List, [], ◌∷◌, length, Option, Some, None, refl, ap, sym, subst, arith}
use Rattle.std.specs.List.{AllByRecursion}
use Rattle.std.specs.Option.{option_map, option_or}
use Rattle.c_layers.specs.Shapes.{function}
use Rattle.c_types.specs.declared.structs.StructDef.{StructDef}
use Rattle.c_types.specs.declared.ty.FnTy.{FnTy, out-FnTy}
use Rattle.c_types.specs.declared.ty.Ty.{Ty, out-Ty, roll-Ty, roll-out-Ty}
use Rattle.c_types.specs.declared.ty.Ty.TheOpen.{Ty-F}
use Rattle.c_types.specs.declared.ty.Ty.TheVariants as ty
use Rattle.c_types.specs.Kinds.{Outer, decay, decay_at, function_at, function_of, is_pointer, is_scalar, is_scalar_at, is_void, is_void_at, target_at, target_of}
use Rattle.c_types.specs.Same.{same}
use Rattle.c_tree.specs.declared.operator.BinaryOperator.{BinaryOperator}
use Rattle.c_tree.specs.declared.operator.BinaryOperator.TheVariants as op
use Rattle.c_typed.specs.declared.entity.BuiltIn.{BuiltIn}
use Rattle.c_typed.specs.declared.entity.BuiltIn.TheVariants as built_in
use Rattle.c_scope.specs.BuiltIns.{built_in_type, spawn_type, void_pointer}
use Rattle.c_scope.specs.Declarations.{most_parameters}
use Rattle.c_operators.specs.Operators.{added, chosen_type, common_type, compared, if_fits, integers, operated_types, ordered, subtracted, tested}

pub both : (a b : Bool) → (a && b) ≡ true → (a ≡ true) × (b ≡ true)
both true b is = (refl, is)
both false b is = cc

pub both_true : (a b : Bool) → a ≡ true → b ≡ true → (a && b) ≡ true
both_true true b first second = second
both_true false b first second = cc

-- a function may return it
abbrev pub IsResult : Ty → Type 0
IsResult t = (is_scalar t || is_void t) ≡ true

-- A test of types. Structs of the first so many pass it, arrays of so many elements as are allowed, or of any number where nothing is asked,
-- and functions that declarators make, whose parts do.
pub record Good : Type 0 where
  pub count : ℕ
  pub free : Bool
  pub good : Ty → Bool
  pub good_function : FnTy → Bool
  pub int : good ty.Int ≡ true
  pub char : good ty.Char ≡ true
  pub void : good ty.Void ≡ true
  pub struct_below : (s : ℕ) → s < count → good (ty.Struct s) ≡ true
  pub pointer : (t : Ty) → good (ty.Pointer t) ≡ good t
  pub element : (t : Ty) (bound : ℕ) → good (ty.Array t bound) ≡ true → good t ≡ true
  pub array : (t : Ty) (bound : ℕ) → good t ≡ true → (free || nat_le 1 bound) ≡ true → good (ty.Array t bound) ≡ true
  pub as_type : (f : FnTy) → good (ty.Function f) ≡ good_function f
  pub made :
      (t : Ty) (ts : List Ty)
      → good t ≡ true
      → IsResult t
      → AllByRecursion (λ u. (good u ≡ true) × (is_scalar u ≡ true)) ts
      → length ts ≤ most_parameters
      → good_function (function t ts) ≡ true
  pub result : (f : FnTy) → good_function f ≡ true → good (out-FnTy f).result ≡ true

abbrev pub Fine : Good → Ty → Type 0
Fine g t = g.good t ≡ true

abbrev pub FunctionFine : Good → FnTy → Type 0
FunctionFine g f = g.good_function f ≡ true

-- so many elements are allowed
abbrev pub Allowed : Good → ℕ → Type 0
Allowed g n = (g.free || nat_le 1 n) ≡ true

-- of a parameter's type
abbrev pub ParamFine : Good → Ty → Type 0
ParamFine g t = Fine g t × (is_scalar t ≡ true)

-- ---- kinds

int-scalar : is_scalar ty.Int ≡ true
unfolding is_scalar
int-scalar = ap is_scalar_at ty.outs-Int

pointer-scalar : (t : Ty) → is_scalar (ty.Pointer t) ≡ true
unfolding is_scalar
pointer-scalar t = ap is_scalar_at (ty.outs-Pointer t)

scalar-result : (t : Ty) → is_scalar t ≡ true → IsResult t
scalar-result t is = ap (λ b. b || is_void t) is

void-result : IsResult ty.Void
unfolding is_scalar is_void
void-result = ap (λ o. is_scalar_at o || is_void_at o) ty.outs-Void

module _ (g : Good) where
  -- ---- functions

  pub pointer-fine : (t : Ty) → Fine g t → Fine g (ty.Pointer t)
  pointer-fine t fine = g.pointer t ∙ fine

  pub function_type-fine : (f : FnTy) → FunctionFine g f → Fine g (ty.Function f)
  function_type-fine f fine = g.as_type f ∙ fine

  void_pointer-fine : ParamFine g void_pointer
  void_pointer-fine = (pointer-fine ty.Void g.void, pointer-scalar ty.Void)

  int_pointer-fine : ParamFine g (ty.Pointer ty.Int)
  int_pointer-fine = (pointer-fine ty.Int g.int, pointer-scalar ty.Int)

  int-fine : ParamFine g ty.Int
  int-fine = (g.int, int-scalar)

  -- of one parameter
  one-fine : (t u : Ty) → Fine g t → IsResult t → ParamFine g u → FunctionFine g (function t (u ∷ []))
  one-fine t u fine result param = g.made t (u ∷ []) fine result (param, tt) (omega arith)

  started-fine : ParamFine g (ty.Pointer (ty.Function (function ty.Void (void_pointer ∷ []))))
  started-fine = (
    pointer-fine (ty.Function (function ty.Void (void_pointer ∷ []))) (function_type-fine (function ty.Void (void_pointer ∷ [])) (one-fine ty.Void void_pointer g.void void-result void_pointer-fine)),
    pointer-scalar (ty.Function (function ty.Void (void_pointer ∷ []))),
  )

  spawn-fine : FunctionFine g spawn_type
  spawn-fine = g.made ty.Int (ty.Pointer (ty.Function (function ty.Void (void_pointer ∷ []))) ∷ void_pointer ∷ []) g.int (scalar-result ty.Int int-scalar) (started-fine, (void_pointer-fine, tt)) (omega arith)

  pub built_in-fine : (b : BuiltIn) → FunctionFine g (built_in_type b)
  unfolding built_in_type
  built_in-fine built_in.Spawn = spawn-fine
  built_in-fine built_in.Join = one-fine ty.Void ty.Int g.void void-result int-fine
  built_in-fine built_in.Lock = one-fine ty.Void (ty.Pointer ty.Int) g.void void-result int_pointer-fine
  built_in-fine built_in.Unlock = one-fine ty.Void (ty.Pointer ty.Int) g.void void-result int_pointer-fine
  built_in-fine built_in.Print = one-fine ty.Void ty.Int g.void void-result int-fine
  built_in-fine built_in.Input = one-fine ty.Int ty.Int g.int (scalar-result ty.Int int-scalar) int-fine
  built_in-fine built_in.Malloc = one-fine void_pointer ty.Int void_pointer-fine.0 (scalar-result void_pointer (pointer-scalar ty.Void)) int-fine
  built_in-fine built_in.Free = one-fine ty.Void void_pointer g.void void-result void_pointer-fine

  -- ---- what a type becomes

  decay_at-fine : (t : Ty) (o : Outer) → roll-Ty o ≡ t → Fine g t → Fine g (decay_at t o)
  decay_at-fine t (Ty-F.Array e bound) is fine = pointer-fine e (g.element e bound (ap g.good (sym (ty.rolls-Array e bound) ∙ is) ∙ fine))
  decay_at-fine t (Ty-F.Function f) is fine = pointer-fine t fine
  decay_at-fine t Ty-F.Int is fine = fine
  decay_at-fine t Ty-F.Char is fine = fine
  decay_at-fine t Ty-F.Void is fine = fine
  decay_at-fine t (Ty-F.Struct s) is fine = fine
  decay_at-fine t (Ty-F.Pointer u) is fine = fine

  pub decay-fine : (t : Ty) → Fine g t → Fine g (decay t)
  unfolding decay
  decay-fine t fine = decay_at-fine t (out-Ty t) (roll-out-Ty t) fine

  target_at-fine : (o : Outer) (u : Ty) → target_at o ≡ Some u → g.good (roll-Ty o) ≡ true → Fine g u
  target_at-fine (Ty-F.Pointer t) u is fine =
      let same : t ≡ u = cc in
      subst (Fine g) same (sym (g.pointer t) ∙ ap g.good (sym (ty.rolls-Pointer t)) ∙ fine)
  target_at-fine _ u is fine = cc

  pub target-fine : (t u : Ty) → target_of t ≡ Some u → Fine g t → Fine g u
  unfolding target_of
  target-fine t u is fine = target_at-fine (out-Ty t) u is (ap g.good (roll-out-Ty t) ∙ fine)

  function_at-fine : (o : Outer) (f : FnTy) → function_at o ≡ Some f → g.good (roll-Ty o) ≡ true → FunctionFine g f
  function_at-fine (Ty-F.Function h) f is fine =
      let same : h ≡ f = cc in
      subst (FunctionFine g) same (sym (g.as_type h) ∙ ap g.good (sym (ty.rolls-Function h)) ∙ fine)
  function_at-fine _ f is fine = cc

  pub called-fine : (t : Ty) (f : FnTy) → function_of t ≡ Some f → Fine g t → FunctionFine g f
  unfolding function_of
  called-fine t f is fine = function_at-fine (out-Ty t) f is (ap g.good (roll-out-Ty t) ∙ fine)

  -- ---- what operators give

  -- what is given, if something is, passes
  abbrev pub Gives : Option Ty → Type 0
  Gives o = (t : Ty) → o ≡ Some t → Fine g t

  fits-give : (b : Bool) (u : Ty) → Fine g u → Gives (if_fits b u)
  fits-give true u fine t is = let same : u ≡ t = cc in subst (Fine g) same fine
  fits-give false u fine t is = cc

  or-gives : (o p : Option Ty) → Gives o → Gives p → Gives (option_or o p)
  or-gives (Some u) p first second = first
  or-gives None p first second = second

  int-given : (o : Option Ty) → Gives (option_map (λ t. ty.Int) o)
  int-given None t is = cc
  int-given (Some u) t is = let same : ty.Int ≡ t = cc in subst (Fine g) same g.int

  integers-give : (a b : Ty) → Gives (integers a b)
  unfolding integers
  integers-give a b = fits-give _ ty.Int g.int

  added-gives : (defs : List StructDef) (a b : Ty) → Fine g a → Fine g b → Gives (added defs a b)
  unfolding added
  added-gives defs a b fa fb = or-gives (integers a b) _ (integers-give a b) (or-gives _ _ (fits-give _ a fa) (fits-give _ b fb))

  subtracted-gives : (defs : List StructDef) (a b : Ty) → Fine g a → Gives (subtracted defs a b)
  unfolding subtracted
  subtracted-gives defs a b fa = or-gives (integers a b) _ (integers-give a b) (or-gives _ _ (fits-give _ a fa) (fits-give _ ty.Int g.int))

  ordered-gives : (a b : Ty) → Gives (ordered a b)
  unfolding ordered
  ordered-gives a b = fits-give _ ty.Int g.int

  compared-gives : (a : Ty) (p : Bool) (b : Ty) (q : Bool) → Gives (compared a p b q)
  unfolding compared
  compared-gives a p b q = int-given (common_type a p b q)

  tested-gives : (a b : Ty) → Gives (tested a b)
  unfolding tested
  tested-gives a b = fits-give _ ty.Int g.int

  pub operated-gives : (defs : List StructDef) (o : BinaryOperator) (a : Ty) (p : Bool) (b : Ty) (q : Bool) → Fine g a → Fine g b → Gives (operated_types defs o a p b q)
  operated-gives defs op.LogicalOr a p b q fa fb = tested-gives a b
  operated-gives defs op.LogicalAnd a p b q fa fb = tested-gives a b
  operated-gives defs op.Equal a p b q fa fb = compared-gives a p b q
  operated-gives defs op.NotEqual a p b q fa fb = compared-gives a p b q
  operated-gives defs op.Less a p b q fa fb = ordered-gives a b
  operated-gives defs op.Greater a p b q fa fb = ordered-gives a b
  operated-gives defs op.LessEqual a p b q fa fb = ordered-gives a b
  operated-gives defs op.GreaterEqual a p b q fa fb = ordered-gives a b
  operated-gives defs op.Add a p b q fa fb = added-gives defs a b fa fb
  operated-gives defs op.Subtract a p b q fa fb = subtracted-gives defs a b fa
  operated-gives defs _ a p b q fa fb = integers-give a b

  pub chosen-gives : (a : Ty) (p : Bool) (b : Ty) (q : Bool) → Fine g a → Fine g b → Gives (chosen_type a p b q)
  unfolding chosen_type
  chosen-gives a p b q fa fb =
      or-gives (integers a b) _ (integers-give a b)
      (or-gives _ _ (fits-give (is_pointer a && same a b) a fa) (or-gives _ _ (fits-give (is_pointer a && q) a fa) (fits-give (p && is_pointer b) b fb)))
