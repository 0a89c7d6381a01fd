-- The scalars of an array of `char` are integers.
use Rattle.std.proofs.Common.{◌≡◌, ◌∙◌, ℕ, zero, suc, Bool, true, false, List, [], ◌∷◌, ◌++◌, length, Option, None, refl, ap, sym, subst}
use Rattle.std.specs.Prelude.{if◌then◌else◌}
use Rattle.c_types.specs.declared.structs.StructDef.{StructDef}
use Rattle.c_types.specs.declared.ty.FnTy.{FnTy, fold-FnTy}
use Rattle.c_types.specs.declared.ty.Ty.{Ty, fold-Ty, fold_out-Ty, map-Ty, out-Ty}
use Rattle.c_types.specs.declared.ty.Ty.TheOpen.{Ty-F}
use Rattle.c_types.specs.declared.ty.Ty.TheVariants as ty
use Rattle.c_types.specs.Kinds.{Outer, bound_of, element_at, element_of, is_char, is_char_at, is_integer, is_integer_at, passes}
use Rattle.c_typed_rows.specs.Initialisers.{char_bound}
use Rattle.elab_rows.specs.Units.{function_step as fold_step, repeated, scalars, scalars_in, scalars_step, struct_scalars}
use Rattle.elab_valid.proofs.TypeKinds.{out-Array}

abbrev pub AllIntegers : List Ty → Type 0
AllIntegers [] = Unit {0}
AllIntegers (x ∷ xs) = (is_integer x ≡ true) × AllIntegers xs

both-integers : (xs ys : List Ty) → AllIntegers xs → AllIntegers ys → AllIntegers (xs ++ ys)
both-integers [] ys hx hy = hy
both-integers (x ∷ xs) ys hx hy = (hx.0, both-integers xs ys hx.1 hy)

repeated-integers : (n : ℕ) (xs : List Ty) → AllIntegers xs → AllIntegers (repeated n xs)
repeated-integers zero xs h = tt
repeated-integers (suc n) xs h = both-integers xs (repeated n xs) h (repeated-integers n xs h)

char-out : (o : Outer) → is_char_at o ≡ true → o ≡ Ty-F.Char
char-out Ty-F.Char h = refl
char-out Ty-F.Int h = absurd (cc)
char-out Ty-F.Void h = absurd (cc)
char-out (Ty-F.Struct s) h = absurd (cc)
char-out (Ty-F.Pointer u) h = absurd (cc)
char-out (Ty-F.Array u n) h = absurd (cc)
char-out (Ty-F.Function f) h = absurd (cc)

char-integer : is_integer ty.Char ≡ true
unfolding is_integer
char-integer = ap is_integer_at ty.outs-Char

module _ (of : ℕ → List Ty) where
  abbrev folded : Ty → Ty × List Ty
  folded = fold-Ty (Ty × List Ty) FnTy (scalars_step of) (fold_step of)

  abbrev folded_fn : FnTy → FnTy
  folded_fn = fold-FnTy (Ty × List Ty) FnTy (scalars_step of) (fold_step of)

  folded-out : (t : Ty) → folded t ≡ scalars_step of (map-Ty Ty FnTy (Ty × List Ty) FnTy folded folded_fn (out-Ty t))
  folded-out t = fold_out-Ty (Ty × List Ty) FnTy (scalars_step of) (fold_step of) t

  char-list : (t : Ty) → is_char t ≡ true → (folded t).1 ≡ ty.Char ∷ []
  unfolding is_char
  char-list t h = ap (λ z. z.1) (folded-out t ∙ ap (λ o. scalars_step of (map-Ty Ty FnTy (Ty × List Ty) FnTy folded folded_fn o)) (char-out (out-Ty t) h))

  array-integers : (t e : Ty) (n : ℕ) → out-Ty t ≡ Ty-F.Array e n → is_char e ≡ true → AllIntegers (scalars_in of t)
  unfolding scalars_in
  array-integers t e n out h =
      subst AllIntegers (sym (ap (λ z. z.1) (folded-out t ∙ ap (λ o. scalars_step of (map-Ty Ty FnTy (Ty × List Ty) FnTy folded folded_fn o)) out)))
      (repeated-integers n (folded e).1 (subst AllIntegers (sym (char-list e h)) (char-integer, tt)))

bounded : (b : Bool) (o : Option ℕ) (test : ℕ → Bool) → passes test (if b then o else None) ≡ true → b ≡ true
bounded true o test h = refl
bounded false o test h = absurd (cc)

by-element : (defs : List StructDef) (t : Ty) (o : Outer) → out-Ty t ≡ o → passes is_char (element_at o) ≡ true → AllIntegers (scalars defs t)
unfolding scalars
by-element defs t Ty-F.Int e h = absurd (cc)
by-element defs t Ty-F.Char e h = absurd (cc)
by-element defs t Ty-F.Void e h = absurd (cc)
by-element defs t (Ty-F.Struct s) e h = absurd (cc)
by-element defs t (Ty-F.Pointer u) e h = absurd (cc)
by-element defs t (Ty-F.Array u n) e h = array-integers (struct_scalars (length defs) defs) t u n e h
by-element defs t (Ty-F.Function f) e h = absurd (cc)

-- of a type that a string may fill
pub text-integers : (defs : List StructDef) (t : Ty) (test : ℕ → Bool) → passes test (char_bound t) ≡ true → AllIntegers (scalars defs t)
unfolding char_bound element_of
text-integers defs t test h = by-element defs t (out-Ty t) refl (bounded (passes is_char (element_of t)) (bound_of t) test h)

char-is : is_char ty.Char ≡ true
unfolding is_char
char-is = ap is_char_at ty.outs-Char

-- and of a string's own type
pub char-array-integers : (defs : List StructDef) (n : ℕ) → AllIntegers (scalars defs (ty.Array ty.Char n))
char-array-integers defs n = by-element defs (ty.Array ty.Char n) (Ty-F.Array ty.Char n) (out-Array ty.Char n) char-is
