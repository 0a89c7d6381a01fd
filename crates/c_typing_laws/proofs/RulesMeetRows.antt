-- What the rules of each form give meets its row, where the parts do.
use Rattle.std.proofs.Common.{◌≡◌, ◌∙◌, ℕ, zero, suc, ℤ, Bool, true, false, ◌&&◌, ◌||◌, ◌⊎◌, inl, inr, if◌then◌else◌, IsTrue, List, [], ◌∷◌, length, map, Option, Some, None, slice_get, Result, Ok, Err, pos, nat_eq, refl, ap, sym, subst}
use Rattle.std.specs.List.{AllByRecursion, list_all}
use Rattle.std.specs.Option.{option_map, option_or}
use Rattle.std.specs.Result.{result_ok}
use Rattle.std.specs.Str.{bytes_eq}
use Rattle.tables.specs.Places.{first_named}
use Rattle.c_tree.specs.declared.operator.AssignOperator.{AssignOperator}
use Rattle.c_tree.specs.declared.operator.BinaryOperator.{BinaryOperator}
use Rattle.c_tree.specs.declared.operator.BinaryOperator.TheVariants as op
use Rattle.c_tree.specs.declared.operator.UnaryOperator.{UnaryOperator}
use Rattle.c_tree.specs.declared.operator.UnaryOperator.TheVariants as unary
use Rattle.c_tree.specs.Operators.{binary_operator}
use Rattle.c_types.specs.declared.error.LayoutRefusal.{LayoutRefusal}
use Rattle.c_types.specs.declared.ty.FnTy.{out-FnTy}
use Rattle.c_types.specs.declared.ty.Ty.{Ty, out-Ty}
use Rattle.c_types.specs.declared.ty.Ty.TheVariants as ty
use Rattle.c_types.specs.declared.ty.Ty.TheOpen.{Ty-F}
use Rattle.c_types.specs.Kinds.{Outer, is_function, target_of}
use Rattle.c_types.specs.Theorems.{TablesGrow, UnitsStay}
use Rattle.c_types.specs.Units.{has_units, units_of}
use Rattle.c_typed.specs.declared.entity.BuiltIn.{BuiltIn}
use Rattle.c_typed.specs.declared.entity.Constant.{Constant}
use Rattle.c_typed.specs.declared.entity.Constant.TheVariants as constant
use Rattle.c_typed.specs.declared.entity.Entity.{Entity}
use Rattle.c_typed.specs.declared.entity.Entity.TheVariants as entity
use Rattle.c_typed.specs.declared.expression.TypedExpr.{TypedExpr, out-roll-TypedExpr}
use Rattle.c_typed.specs.declared.expression.TypedForm.{TypedForm, out-TypedForm}
use Rattle.c_typed.specs.declared.expression.TypedForm.TheVariants as form
use Rattle.c_typed.specs.declared.expression.TypedDirect.TheOpen.{TypedForm-F}
use Rattle.c_typed.specs.declared.expression.TypedTypeWord.{TypedTypeWord, out-TypedTypeWord}
use Rattle.c_typed.specs.declared.unit.Local.{Local}
use Rattle.c_scope.specs.declared.rule.Rule.{Rule}
use Rattle.c_scope.specs.declared.rule.Rule.TheVariants as broken
use Rattle.c_scope.specs.declared.scopes.Binding.{Binding}
use Rattle.c_scope.specs.declared.scopes.Meaning.{Meaning}
use Rattle.c_scope.specs.declared.scopes.Meaning.TheVariants as means
use Rattle.c_scope.specs.declared.world.KnownFunction.{KnownFunction}
use Rattle.c_scope.specs.declared.world.World.{World}
use Rattle.c_scope.specs.BuiltIns.{Name, built_in_named, built_in_type}
use Rattle.c_scope.specs.Definitions.{mark_used}
use Rattle.c_scope.specs.Scopes.{known_function, meaning_here, meaning_of}
use Rattle.c_scope.specs.Walk.{Outcome, found}
use Rattle.c_rules.specs.declared.place.Place.{Place}
use Rattle.c_rules.specs.declared.place.Place.TheVariants.{Callee, Value}
use Rattle.c_operators.specs.Constants.{of_and, of_binary, of_both, of_cast, of_conditional, of_or, of_unary, of_value}
use Rattle.c_operators.specs.Operators.{FormLayer, chosen, constant_of, form_of, is_assignable, is_integer_value, is_lvalue, is_scalar_value, operated, type_of, typed, value_type}
use Rattle.c_rules.specs.Rules.{address, all_convert, arithmetic, arrow, assigned_by, assignment, binary, call, called, called_type, cast, conditional, conditional_type, dereference, dereferenced, identifier, identifier_by, index, has_address, indexed, mark_addressed, mark_at, may_be_cast, means_function, member, member_behind, member_found, member_of, mentioned, mentioned_by, named, negation, number, one, operand_rule, plain, pointed, size_of_type, size_of_value, stepped, takes, takes_type, text, unary_of, updated, variable}
use Rattle.c_typed_rows.specs.Contexts.{Context, global_type, local_addressed, local_type}
use Rattle.c_typed_rows.specs.Expressions.{AssignmentRow, CallRow, ConditionalRow, DereferenceRow, ExprLevel, IndexRow, IsTypedExpr, MemberRow, NameRow, NamedAddressed, PlainRow, UnaryRow, UpdateRow, is_value, is_value_at}
use Rattle.c_typing_laws.specs.Worlds.{Below, EntityFits, HaveNoParameter, LocalStands, MeaningFits, MeansNoParameter, local_types}
use Rattle.c_typing_laws.specs.inner.Goes.{Goes, Sound, after, ends, finds, never, ruled, weaker}
use Rattle.c_typing_laws.specs.inner.TypedTrees.{IsTypedForm, IsTypedTypeWord}
use Rattle.c_typing_laws.proofs.RowsStay as stays
use Rattle.c_typing_laws.proofs.TypedParts as parts
use Rattle.c_typing_laws.proofs.WorldSteps.{IsQuiet, addressed-there, below-addressed, below-text, below-used, at_seam, changed, defined-now, quiet, quiet-addressed, quiet-text, quiet-used}

-- ---- constants

abbrev pub has_constant : Constant → Bool
has_constant constant.Other = false
has_constant _ = true

-- where an expression of two operands is built of the forms of a constant, both are
both_constant : (o : BinaryOperator) (a b : Constant) → IsTrue (has_constant (of_both o a b)) → IsTrue (has_constant a) × IsTrue (has_constant b)
both_constant o constant.Other b is = cc
both_constant o constant.Divides constant.Other is = cc
both_constant o (constant.Value x) constant.Other is = cc
both_constant o constant.Divides constant.Divides is = (refl, refl)
both_constant o constant.Divides (constant.Value y) is = (refl, refl)
both_constant o (constant.Value x) constant.Divides is = (refl, refl)
both_constant o (constant.Value x) (constant.Value y) is = (refl, refl)

and_constant : (a b : Constant) → IsTrue (has_constant (of_and a b)) → IsTrue (has_constant a) × IsTrue (has_constant b)
and_constant constant.Other b is = cc
and_constant constant.Divides constant.Other is = cc
and_constant (constant.Value x) constant.Other is = cc
and_constant constant.Divides constant.Divides is = (refl, refl)
and_constant constant.Divides (constant.Value y) is = (refl, refl)
and_constant (constant.Value x) constant.Divides is = (refl, refl)
and_constant (constant.Value x) (constant.Value y) is = (refl, refl)

or_constant : (a b : Constant) → IsTrue (has_constant (of_or a b)) → IsTrue (has_constant a) × IsTrue (has_constant b)
or_constant constant.Other b is = cc
or_constant constant.Divides constant.Other is = cc
or_constant (constant.Value x) constant.Other is = cc
or_constant constant.Divides constant.Divides is = (refl, refl)
or_constant constant.Divides (constant.Value y) is = (refl, refl)
or_constant (constant.Value x) constant.Divides is = (refl, refl)
or_constant (constant.Value x) (constant.Value y) is = (refl, refl)

binary_constant : (o : BinaryOperator) (a b : Constant) → IsTrue (has_constant (of_binary o a b)) → IsTrue (has_constant a) × IsTrue (has_constant b)
binary_constant op.LogicalOr a b is = or_constant a b is
binary_constant op.LogicalAnd a b is = and_constant a b is
binary_constant op.BitwiseOr a b is = both_constant op.BitwiseOr a b is
binary_constant op.BitwiseExclusiveOr a b is = both_constant op.BitwiseExclusiveOr a b is
binary_constant op.BitwiseAnd a b is = both_constant op.BitwiseAnd a b is
binary_constant op.Equal a b is = both_constant op.Equal a b is
binary_constant op.NotEqual a b is = both_constant op.NotEqual a b is
binary_constant op.Less a b is = both_constant op.Less a b is
binary_constant op.Greater a b is = both_constant op.Greater a b is
binary_constant op.LessEqual a b is = both_constant op.LessEqual a b is
binary_constant op.GreaterEqual a b is = both_constant op.GreaterEqual a b is
binary_constant op.ShiftLeft a b is = both_constant op.ShiftLeft a b is
binary_constant op.ShiftRight a b is = both_constant op.ShiftRight a b is
binary_constant op.Add a b is = both_constant op.Add a b is
binary_constant op.Subtract a b is = both_constant op.Subtract a b is
binary_constant op.Multiply a b is = both_constant op.Multiply a b is
binary_constant op.Divide a b is = both_constant op.Divide a b is
binary_constant op.Remainder a b is = both_constant op.Remainder a b is

conditional_constant : (c a b : Constant) → IsTrue (has_constant (of_conditional c a b)) → IsTrue (has_constant c) × IsTrue (has_constant a) × IsTrue (has_constant b)
conditional_constant constant.Other a b is = cc
conditional_constant constant.Divides constant.Other b is = cc
conditional_constant constant.Divides constant.Divides constant.Other is = cc
conditional_constant constant.Divides constant.Divides constant.Divides is = (refl, refl, refl)
conditional_constant constant.Divides constant.Divides (constant.Value z) is = (refl, refl, refl)
conditional_constant constant.Divides (constant.Value y) constant.Other is = cc
conditional_constant constant.Divides (constant.Value y) constant.Divides is = (refl, refl, refl)
conditional_constant constant.Divides (constant.Value y) (constant.Value z) is = (refl, refl, refl)
conditional_constant (constant.Value x) constant.Other b is = cc
conditional_constant (constant.Value x) constant.Divides constant.Other is = cc
conditional_constant (constant.Value x) constant.Divides constant.Divides is = (refl, refl, refl)
conditional_constant (constant.Value x) constant.Divides (constant.Value z) is = (refl, refl, refl)
conditional_constant (constant.Value x) (constant.Value y) constant.Other is = cc
conditional_constant (constant.Value x) (constant.Value y) constant.Divides is = (refl, refl, refl)
conditional_constant (constant.Value x) (constant.Value y) (constant.Value z) is = (refl, refl, refl)

value_constant : (f : ℤ → ℤ) (c : Constant) → IsTrue (has_constant (of_value f c)) → IsTrue (has_constant c)
value_constant f constant.Other is = is
value_constant f constant.Divides is = refl
value_constant f (constant.Value x) is = refl

unary_constant : (o : UnaryOperator) (c : Constant) → IsTrue (has_constant (of_unary o c)) → IsTrue (has_constant c)
unary_constant unary.Negate c is = value_constant _ c is
unary_constant unary.Complement c is = value_constant _ c is
unary_constant unary.Not c is = value_constant _ c is
unary_constant unary.Address c is = cc
unary_constant unary.Dereference c is = cc

cast_constant : (o : Outer) (c : Constant) → IsTrue (has_constant (of_cast o c)) → IsTrue (has_constant c)
cast_constant Ty-F.Int c is = is
cast_constant Ty-F.Char c is = value_constant _ c is
cast_constant _ c is = cc

-- ---- names in scope

fits_first : (P : Meaning → Type 0) (b : Binding) (o : Option Binding) (named : Bool) (m : Meaning) → P b.meaning
    → (option_map (λ c. c.meaning) o ≡ Some m → P m)
    → option_map (λ c. c.meaning) (if named then Some b else o) ≡ Some m → P m
fits_first P b o true m first rest is = let same : b.meaning ≡ m = cc in subst P same first
fits_first P b o false m first rest is = rest is

fits_here : (P : Meaning → Type 0) (bs : List Binding) (x : Name) (m : Meaning) → AllByRecursion (λ b. P b.meaning) bs → meaning_here bs x ≡ Some m → P m
fits_here P [] x m fit is = cc
fits_here P (b ∷ bs) x m fit is = fits_first P b (first_named (λ c. c.name) bs x) (bytes_eq b.name x) m fit.0 (fits_here P bs x m fit.1) is

fits_by : (P : Meaning → Type 0) (s : List Binding) (x : Name) (m : Meaning) (o there : Option Meaning) → meaning_here s x ≡ o
    → AllByRecursion (λ b. P b.meaning) s → (there ≡ Some m → P m) → option_or o there ≡ Some m → P m
fits_by P s x m None there is here rest found = rest found
fits_by P s x m (Some n) there is here rest found = fits_here P s x m here (is ∙ found)

fits_in : (P : Meaning → Type 0) (ss : List (List Binding)) (x : Name) (m : Meaning) → AllByRecursion (AllByRecursion (λ b. P b.meaning)) ss → meaning_of ss x ≡ Some m → P m
fits_in P [] x m fit is = cc
fits_in P (s ∷ ss) x m fit is = fits_by P s x m (meaning_here s x) (meaning_of ss x) refl fit.0 (fits_in P ss x m fit.1) is

-- ---- lists of tests

two_true : (a b : Bool) → IsTrue a → IsTrue b → IsTrue (a && (b && true))
two_true true true first second = refl
two_true true false first second = cc
two_true false b first second = cc

pub one_true : (a : Bool) → IsTrue a → IsTrue (a && true)
one_true true first = refl
one_true false first = cc

pub and_true : (a b : Bool) → IsTrue a → IsTrue b → IsTrue (a && b)
and_true true b first second = second
and_true false b first second = cc

three_true : (a b c : Bool) → IsTrue a → IsTrue b → IsTrue c → IsTrue (a && (b && (c && true)))
three_true true b c first second third = two_true b c second third
three_true false b c first second third = cc

typed_at : (ls : List Local) (n : ℕ) (t : Ty) → slice_get (map (λ l. l.ty) ls) n ≡ Some t → (l : Local) × ((slice_get ls n ≡ Some l) × (l.ty ≡ t))
typed_at [] n t is = cc
typed_at (l ∷ ls) zero t is = let same : l.ty ≡ t = cc in (l, (refl, same))
typed_at (l ∷ ls) (suc n) t is = typed_at ls n t is

-- ---- rules

-- in these scopes, with locals of these types
module _ (stay : UnitsStay) (grow : TablesGrow) (k : Context) (gs : List Ty) (ahead : (n : ℕ) (t : Ty) → slice_get gs n ≡ Some t → global_type k n ≡ Some t) (ss : List (List Binding)) (ls : List Ty) where
  -- no name in scope stands for a parameter of a declarator
  abbrev pub C : Type 0
  C = HaveNoParameter ss

  -- a local that is named is one of these
  abbrev pub LocalThere : FormLayer → Type 0
  LocalThere (TypedForm-F.Identifier x (entity.Local n)) = (t : Ty) × (slice_get ls n ≡ Some t)
  LocalThere _ = Unit {0}

  -- what such an expression needs to be typed: that no such name is in scope, or that it is built of the forms of a constant
  abbrev pub Reads : Constant → Type 0
  Reads c = C ⊎ IsTrue (has_constant c)

  -- an expression whose value may be used
  pub record Ready (x : TypedExpr) : Type 0 where
    pub value : IsTrue (is_value x)
    pub there : LocalThere (out-TypedForm (form_of x))
    pub typed : Reads (constant_of x) → IsTypedExpr k x

  form-typed : (f : TypedForm) (t : Ty) (c : Constant) → form_of (typed f t c) ≡ f
  unfolding typed form_of
  form-typed f t c = ap (λ e. e.form) (out-roll-TypedExpr (record { form = f; ty = t; constant = c }))

  constant-typed : (f : TypedForm) (t : Ty) (c : Constant) → constant_of (typed f t c) ≡ c
  unfolding typed constant_of
  constant-typed f t c = ap (λ e. e.constant) (out-roll-TypedExpr (record { form = f; ty = t; constant = c }))

  value-typed : (f : TypedForm) (node : FormLayer) (t : Ty) (c : Constant) → out-TypedForm f ≡ node → IsTrue (is_value_at node) → IsTrue (is_value (typed f t c))
  unfolding is_value
  value-typed f node t c is value = subst (λ n. IsTrue (is_value_at n)) (sym (ap out-TypedForm (form-typed f t c) ∙ is)) value

  there-typed : (f : TypedForm) (node : FormLayer) (t : Ty) (c : Constant) → out-TypedForm f ≡ node → LocalThere node → LocalThere (out-TypedForm (form_of (typed f t c)))
  there-typed f node t c is there = subst LocalThere (sym (ap out-TypedForm (form-typed f t c) ∙ is)) there

  typed_by : (f : TypedForm) (node : FormLayer) (t : Ty) (c : Constant) → out-TypedForm f ≡ node
      → (Reads c → IsTypedForm k f × ExprLevel k node t c) → Reads (constant_of (typed f t c)) → IsTypedExpr k (typed f t c)
  typed_by f node t c is holds reads =
      let h = holds (subst Reads (constant-typed f t c) reads) in
      parts.expr-made k f t c h.0 (subst (λ n. ExprLevel k n t c) (sym is) h.1)

  made : (f : TypedForm) (node : FormLayer) (t : Ty) (c : Constant) → out-TypedForm f ≡ node → IsTrue (is_value_at node) → LocalThere node
      → (Reads c → IsTypedForm k f × ExprLevel k node t c) → Ready (typed f t c)
  made f node t c is value there holds = record { value = value-typed f node t c is value; there = there-typed f node t c is there; typed = typed_by f node t c is holds }

  -- with a constant that is none, only the first is left
  only_scope : Reads constant.Other → C
  only_scope (inl c) = c
  only_scope (inr is) = cc

  reads-both : (o : BinaryOperator) (a b : Constant) → Reads (of_binary o a b) → Reads a × Reads b
  reads-both o a b (inl c) = (inl c, inl c)
  reads-both o a b (inr is) = let h = binary_constant o a b is in (inr h.0, inr h.1)

  reads-conditional : (c a b : Constant) → Reads (of_conditional c a b) → Reads c × Reads a × Reads b
  reads-conditional c a b (inl s) = (inl s, inl s, inl s)
  reads-conditional c a b (inr is) = let h = conditional_constant c a b is in (inr h.0, inr h.1, inr h.2)

  reads-unary : (o : UnaryOperator) (a : Constant) → Reads (of_unary o a) → Reads a
  reads-unary o a (inl c) = inl c
  reads-unary o a (inr is) = inr (unary_constant o a is)

  reads-cast : (o : Outer) (a : Constant) → Reads (of_cast o a) → Reads a
  reads-cast o a (inl c) = inl c
  reads-cast o a (inr is) = inr (cast_constant o a is)

  -- ---- names

  abbrev pub FoundAt : Place → TypedExpr → Type 0
  FoundAt Value x = Ready x
  FoundAt Callee x = Reads (constant_of x) → IsTypedExpr k x

  pub ready-at : (place : Place) (x : TypedExpr) → Ready x → FoundAt place x
  ready-at Value x r = r
  ready-at Callee x r = r.typed

  named-value : (x : Name) (e : Entity) (t : Ty) → IsTrue (is_value_at (TypedForm-F.Identifier x e)) → LocalThere (TypedForm-F.Identifier x e) → (C → NameRow k x e t) → Ready (named x e t)
  unfolding named
  named-value x e t value there row = made (form.Identifier x e) (TypedForm-F.Identifier x e) t constant.Other (form.outs-Identifier x e) value there
      (λ reads. (parts.form-Identifier k x e, record { row = (row (only_scope reads), refl); values = refl }))

  named-callee : (x : Name) (b : BuiltIn) → Reads (constant_of (named x (entity.BuiltIn b) (ty.Function (built_in_type b)))) → IsTypedExpr k (named x (entity.BuiltIn b) (ty.Function (built_in_type b)))
  unfolding named
  named-callee x b = typed_by (form.Identifier x (entity.BuiltIn b)) (TypedForm-F.Identifier x (entity.BuiltIn b)) _ constant.Other (form.outs-Identifier x (entity.BuiltIn b))
      (λ reads. (parts.form-Identifier k x (entity.BuiltIn b), record { row = (refl, refl); values = refl }))

  function-goes : (x : Name) (o : Option KnownFunction) (w : World) → known_function w.functions x ≡ o → Goes k gs quiet w (mentioned_by x o w) Ready
  unfolding mark_used
  function-goes x None w is = never k gs
  function-goes x (Some f) w is = changed grow k gs w _ (quiet-used grow k gs w x)
      (λ b. (below-used grow k gs w x b, named-value x entity.Function (ty.Function f.ty) refl tt (λ c. (f.ty, defined-now grow k gs w x f is b, refl))))

  -- what is known of a variable's name in a sound world
  abbrev VariableFits : Entity → Ty → Type 0
  VariableFits e t = EntityFits gs ls e t × (C → MeansNoParameter (means.Variable e t))

  local-row : (n : ℕ) (t : Ty) (l : Local) (o : Option Local) → slice_get k.locals n ≡ o → LocalStands l o → l.ty ≡ t → local_type k n ≡ Some t
  local-row n t l None is stands same = absurd stands
  local-row n t l (Some m) is stands same = ap (option_map (λ l. l.ty)) is ∙ ap Some (stands.0 ∙ same)

  variable-row : (x : Name) (e : Entity) (t : Ty) (w : World) → local_types w ≡ ls → Below k w → VariableFits e t → Ready (named x e t)
  variable-row x (entity.Global n) t w types b fits = named-value x (entity.Global n) t refl tt (λ c. ahead n t fits.0)
  variable-row x (entity.Local n) t w types b fits =
      let l = typed_at w.locals n t (subst (λ us. slice_get us n ≡ Some t) (sym types) fits.0) in
      named-value x (entity.Local n) t refl (t, fits.0) (λ c. local-row n t l.0 (slice_get k.locals n) refl (b.locals n l.0 l.1.0) l.1.1)
  variable-row x entity.Parameter t w types b fits = named-value x entity.Parameter t refl tt (λ c. fits.1 c)
  variable-row x entity.Function t w types b fits = absurd fits.0
  variable-row x (entity.BuiltIn n) t w types b fits = absurd fits.0

  variable-goes : (x : Name) (o : Option Meaning) (w : World) → local_types w ≡ ls
      → ((e : Entity) (t : Ty) → o ≡ Some (means.Variable e t) → VariableFits e t) → Goes k gs quiet w (variable x o w) Ready
  variable-goes x (Some (means.Variable e t)) w types fits = ends k gs (λ b. variable-row x e t w types b (fits e t refl))
  variable-goes x (Some means.Function) w types fits = never k gs
  variable-goes x (Some (means.TypeName t)) w types fits = never k gs
  variable-goes x None w types fits = never k gs

  -- the scopes and the locals are those of this world
  pub record Here (w : World) : Type 0 where
    pub scopes : w.scopes ≡ ss
    pub locals : local_types w ≡ ls

  pub here-later : (w v : World) → IsQuiet w v → Here w → Here v
  here-later w v q here = record { scopes = q.scopes ∙ here.scopes; locals = q.steady.locals ∙ here.locals }

  meant-goes : (x : Name) (is_function : Bool) (w : World) → Here w → Sound k gs w
      → Goes k gs quiet w ((if is_function then mentioned x else variable x (meaning_of w.scopes x)) w) Ready
  meant-goes x true w here sound = function-goes x (known_function w.functions x) w refl
  meant-goes x false w here sound = variable-goes x (meaning_of w.scopes x) w here.locals (λ e t is. (
    subst (λ us. EntityFits gs us e t) here.locals (fits_in (MeaningFits gs (local_types w)) w.scopes x (means.Variable e t) sound is),
    λ c. fits_in MeansNoParameter w.scopes x (means.Variable e t) (subst HaveNoParameter (sym here.scopes) c) is,
  ))

  if_sound : {A : Type 0} {Q : A → Type 0} (w : World) (o : Outcome (A × World)) → (Sound k gs w → Goes k gs quiet w o Q) → Goes k gs quiet w o Q
  if_sound w o goes = record { found = λ r is sound. (goes sound).found r is sound }

  named-goes : (x : Name) (place : Place) (o : Option BuiltIn) (w : World) → Here w → Goes k gs quiet w (identifier_by x place o w) (FoundAt place)
  unfolding named
  named-goes x Value None w here = if_sound w _ (meant-goes x (means_function w x) w here)
  named-goes x Callee None w here = weaker k gs _ (ready-at Callee) (if_sound w _ (meant-goes x (means_function w x) w here))
  named-goes x Value (Some b) w here = never k gs
  named-goes x Callee (Some b) w here = ends k gs (λ below. named-callee x b)

  pub identifier-goes : (x : Name) (place : Place) (w : World) → Here w → Goes k gs quiet w (identifier x place w) (FoundAt place)
  unfolding identifier
  identifier-goes x place w here = named-goes x place (built_in_named x) w here

  -- ---- literals

  pub number-goes : (n : ℤ) (w : World) → Goes k gs quiet w (number n w) Ready
  unfolding number
  number-goes n w = ends k gs (λ b. made (form.Number n) (TypedForm-F.Number n) ty.Int (constant.Value n) (form.outs-Number n) refl tt
      (λ reads. (parts.form-Number k n, record { row = (refl, refl); values = refl })))

  pub text-goes : (bytes : List ℕ) (w : World) → Goes k gs quiet w (text bytes w) Ready
  unfolding text
  text-goes bytes w = changed grow k gs w _ (quiet-text grow k gs w bytes)
      (λ b. (
        below-text grow k gs w bytes b,
        made (form.Text bytes (length w.strings)) (TypedForm-F.Text bytes (length w.strings)) _ constant.Other (form.outs-Text bytes (length w.strings)) refl tt
            (λ reads. (parts.form-Text k bytes (length w.strings), record { row = (record { object = b.strings (length w.strings) bytes (at_seam w.strings bytes); ty = refl }, refl); values = refl })),
      ))

  -- ---- operators

  pub binary-goes : (x y : TypedExpr) (o : BinaryOperator) (w : World) → Goes k gs quiet w (binary x o y w) (λ z. Ready x × Ready y → Ready z)
  unfolding binary
  binary-goes x y o w = finds k gs (operand_rule o) (operated w.structs o x y) _ (λ t is. ends k gs (λ b both.
      made (form.Binary x o y) (TypedForm-F.Binary x o y) t _ (form.outs-Binary x o y) refl tt (λ reads.
      let r = reads-both o (constant_of x) (constant_of y) reads in (
        parts.form-Binary k x o y (both.0.typed r.0) (both.1.typed r.1),
        record { row = (stays.operated-stays stay w.structs k.structs b.structs o x y t is, refl); values = two_true (is_value x) (is_value y) both.0.value both.1.value },
      ))))

  chosen-goes : (e x y : TypedExpr) (w : World) → Goes k gs quiet w (conditional_type e x y w) (ConditionalRow e x y)
  unfolding conditional_type
  chosen-goes e x y w = finds k gs broken.Operands (chosen x y) _ (λ t is. ruled k gs broken.NotScalar (is_scalar_value e) _ (λ scalar. ends k gs (λ b. record { scalar = scalar; chosen = is })))

  pub conditional-goes : (e x y : TypedExpr) (w : World) → Goes k gs quiet w (conditional e x y w) (λ z. Ready e × Ready x × Ready y → Ready z)
  unfolding conditional
  conditional-goes e x y w = after k gs _ _ (chosen-goes e x y w) (λ t v quiet_so. ends k gs (λ b row all.
      made (form.Conditional e x y) (TypedForm-F.Conditional e x y) t _ (form.outs-Conditional e x y) refl tt (λ reads.
      let r = reads-conditional (constant_of e) (constant_of x) (constant_of y) reads in (
        parts.form-Conditional k e x y (all.0.typed r.0) (all.1.typed r.1) (all.2.typed r.2),
        record { row = (row, refl); values = three_true (is_value e) (is_value x) (is_value y) all.0.value all.1.value all.2.value },
      ))))

  -- ---- casts and sizes

  pub cast-goes : (t : TypedTypeWord) (x : TypedExpr) (w : World) → Goes k gs quiet w (cast t x w) (λ z. IsTypedTypeWord k t × Ready x → Ready z)
  unfolding cast
  cast-goes t x w = ruled k gs broken.Cast (may_be_cast x (out-TypedTypeWord t).ty) _ (λ castable. ends k gs (λ b both.
      made (form.Cast t x) (TypedForm-F.Cast t x) (out-TypedTypeWord t).ty _ (form.outs-Cast t x) refl tt (λ reads. (
        parts.form-Cast k t x both.0 (both.1.typed (reads-cast (out-Ty (out-TypedTypeWord t).ty) (constant_of x) reads)),
        record { row = (record { castable = castable; ty = refl }, refl); values = one_true (is_value x) both.1.value },
      ))))

  pub size_of_value-goes : (x : TypedExpr) (w : World) → Goes k gs quiet w (size_of_value x w) (λ z. Ready x → Ready z)
  unfolding size_of_value
  size_of_value-goes x w = ruled k gs broken.Unsized (has_units w.structs (type_of x)) _ (λ units. ends k gs (λ b hx.
      made (form.SizeofExpr x) (TypedForm-F.SizeofExpr x) ty.Int constant.Other (form.outs-SizeofExpr x) refl tt (λ reads. (
        parts.form-SizeofExpr k x (hx.typed (inl (only_scope reads))),
        record { row = (record { units = stays.has_units-stays stay w.structs k.structs b.structs (type_of x) units; ty = refl }, refl); values = one_true (is_value x) hx.value },
      ))))

  answered_units : (r : Result ℕ LayoutRefusal) (n : ℕ) → result_ok r ≡ Some n → r ≡ Ok n
  answered_units (Ok m) n is = let same : m ≡ n = cc in ap Ok same
  answered_units (Err e) n is = cc

  pub size_of_type-goes : (t : TypedTypeWord) (w : World) → Goes k gs quiet w (size_of_type t w) (λ z. IsTypedTypeWord k t → Ready z)
  unfolding size_of_type
  size_of_type-goes t w = finds k gs broken.Unsized (result_ok (units_of w.structs (out-TypedTypeWord t).ty)) _ (λ n is. ends k gs (λ b ht.
      made (form.SizeofType t) (TypedForm-F.SizeofType t) ty.Int (constant.Value (pos n)) (form.outs-SizeofType t) refl tt (λ reads. (
        parts.form-SizeofType k t ht,
        record { row = record { units = n; are = stays.units_of-stays stay w.structs k.structs b.structs (out-TypedTypeWord t).ty n (answered_units (units_of w.structs (out-TypedTypeWord t).ty) n is); ty = refl; value = refl }; values = refl },
      ))))

  -- ---- pointers

  indexed-goes : (x i : TypedExpr) (w : World) → Goes k gs quiet w (indexed x i w) (IndexRow k x i)
  unfolding indexed pointed
  indexed-goes x i w = ruled k gs broken.Operands (is_integer_value i) _ (λ integer. finds k gs broken.Pointer (target_of (value_type x)) _ (λ t is. ruled k gs broken.Pointer (has_units w.structs t) _ (λ units. ends k gs (λ b.
      record { integer = integer; target = is; units = stays.has_units-stays stay w.structs k.structs b.structs t units }))))

  pub index-goes : (x i : TypedExpr) (w : World) → Goes k gs quiet w (index x i w) (λ z. Ready x × Ready i → Ready z)
  unfolding index
  index-goes x i w = after k gs _ _ (indexed-goes x i w) (λ t v quiet_so. ends k gs (λ b row both.
      made (form.Index x i) (TypedForm-F.Index x i) t constant.Other (form.outs-Index x i) refl tt (λ reads.
      let c = only_scope reads in (
        parts.form-Index k x i (both.0.typed (inl c)) (both.1.typed (inl c)),
        record { row = (row, refl); values = two_true (is_value x) (is_value i) both.0.value both.1.value },
      ))))

  unary-made : (o : UnaryOperator) (x : TypedExpr) (t : Ty) → UnaryRow k o x t → Ready x → Ready (typed (form.Unary o x) t (of_unary o (constant_of x)))
  unary-made o x t row hx = made (form.Unary o x) (TypedForm-F.Unary o x) t (of_unary o (constant_of x)) (form.outs-Unary o x) refl tt (λ reads. (
    parts.form-Unary k o x (hx.typed (reads-unary o (constant_of x) reads)),
    record { row = (row, refl); values = one_true (is_value x) hx.value },
  ))

  dereferenced-goes : (x : TypedExpr) (w : World) → Goes k gs quiet w (dereferenced x w) (DereferenceRow k x)
  unfolding dereferenced pointed
  dereferenced-goes x w = finds k gs broken.Pointer (target_of (value_type x)) _ (λ t is. ruled k gs broken.Pointer (is_function t || has_units w.structs t) _ (λ units. ends k gs (λ b.
      record { target = is; units = stays.known_or_units-stays stay w.structs k.structs b.structs (is_function t) t units })))

  dereference-goes : (x : TypedExpr) (w : World) → Goes k gs quiet w (dereference x w) (λ z. Ready x → Ready z)
  unfolding dereference
  dereference-goes x w = after k gs _ _ (dereferenced-goes x w) (λ t v quiet_so. ends k gs (λ b row hx. unary-made unary.Dereference x t row hx))

  negation-goes : (x : TypedExpr) (w : World) → Goes k gs quiet w (negation x w) (λ z. Ready x → Ready z)
  unfolding negation
  negation-goes x w = ruled k gs broken.NotScalar (is_scalar_value x) _ (λ scalar. ends k gs (λ b hx. unary-made unary.Not x ty.Int (record { scalar = scalar; ty = refl }) hx))

  negate-goes : (x : TypedExpr) (w : World) → Goes k gs quiet w (arithmetic unary.Negate x w) (λ z. Ready x → Ready z)
  unfolding arithmetic
  negate-goes x w = ruled k gs broken.Operands (is_integer_value x) _ (λ integer. ends k gs (λ b hx. unary-made unary.Negate x ty.Int (record { integer = integer; ty = refl }) hx))

  complement-goes : (x : TypedExpr) (w : World) → Goes k gs quiet w (arithmetic unary.Complement x w) (λ z. Ready x → Ready z)
  unfolding arithmetic
  complement-goes x w = ruled k gs broken.Operands (is_integer_value x) _ (λ integer. ends k gs (λ b hx. unary-made unary.Complement x ty.Int (record { integer = integer; ty = refl }) hx))

  -- ---- addresses

  addressed-row : (n : ℕ) (l : Local) (o : Option Local) → slice_get k.locals n ≡ o → LocalStands l o → l.is_addressed ≡ true → local_addressed k n ≡ Some true
  addressed-row n l None is stands was = absurd stands
  addressed-row n l (Some m) is stands was = ap (option_map (λ l. l.is_addressed)) is ∙ ap Some (stands.1 was)

  mark_at-goes : (node : FormLayer) (w : World) → local_types w ≡ ls → Goes k gs quiet w (mark_at node w) (λ u. LocalThere node → NamedAddressed k node)
  mark_at-goes (TypedForm-F.Identifier y (entity.Local n)) w types =
      changed grow k gs w _ (quiet-addressed grow k gs w n) (λ b. (
        below-addressed grow k gs w n b,
        λ there.
            let l = typed_at w.locals n there.0 (subst (λ us. slice_get us n ≡ Some there.0) (sym types) there.1) in
            let m = addressed-there n w.locals l.0 l.1.0 in
            addressed-row n m.0 (slice_get k.locals n) refl (b.locals n m.0 m.1.0) m.1.1,
      ))
  mark_at-goes (TypedForm-F.Identifier y (entity.Global n)) w types = ends k gs (λ b there. tt)
  mark_at-goes (TypedForm-F.Identifier y entity.Parameter) w types = ends k gs (λ b there. tt)
  mark_at-goes (TypedForm-F.Identifier y entity.Function) w types = ends k gs (λ b there. tt)
  mark_at-goes (TypedForm-F.Identifier y (entity.BuiltIn n)) w types = ends k gs (λ b there. tt)
  mark_at-goes _ w types = ends k gs (λ b there. tt)

  address-goes : (x : TypedExpr) (w : World) → Here w → Goes k gs quiet w (address x w) (λ z. Ready x → Ready z)
  unfolding address mark_addressed
  address-goes x w here = ruled k gs broken.NotLvalue (has_address x) _ (λ lvalue. after k gs _ _ (mark_at-goes (out-TypedForm (form_of x)) w here.locals) (λ u v quiet_so. ends k gs (λ b marked hx.
      unary-made unary.Address x (ty.Pointer (type_of x)) (record { lvalue = lvalue; addressed = marked hx.there; ty = refl }) hx)))

  pub unary-goes : (o : UnaryOperator) (x : TypedExpr) (w : World) → Here w → Goes k gs quiet w (unary_of o x w) (λ z. Ready x → Ready z)
  unfolding unary_of
  unary-goes unary.Address x w here = address-goes x w here
  unary-goes unary.Dereference x w here = dereference-goes x w
  unary-goes unary.Not x w here = negation-goes x w
  unary-goes unary.Negate x w here = negate-goes x w
  unary-goes unary.Complement x w here = complement-goes x w

  -- ---- members

  found-goes : {A : Type 0} {P : A → Type 0} {w : World} (r : Rule) (o : Option A) → ((a : A) → o ≡ Some a → Below k w → P a) → Goes k gs quiet w (found r o w) P
  found-goes r None holds = never k gs
  found-goes r (Some a) holds = ends k gs (holds a refl)

  member_found-goes : (x : TypedExpr) (n : Name) (w : World) → Goes k gs quiet w (member_found x n w) (λ m. MemberRow k x n m.0 m.1)
  unfolding member_found
  member_found-goes x n w = ruled k gs broken.Member (is_lvalue x) _ (λ lvalue. found-goes broken.Member (member_of w.structs n (type_of x)) (λ m is b.
      record { lvalue = lvalue; member = stays.member_of-stays stay w.structs k.structs b.structs n (type_of x) m is }))

  pub member-goes : (x : TypedExpr) (n : Name) (w : World) → Goes k gs quiet w (member x n w) (λ z. Ready x → Ready z)
  unfolding member
  member-goes x n w = after k gs _ _ (member_found-goes x n w) (λ m v quiet_so. ends k gs (λ b row hx.
      made (form.Member x n m.0) (TypedForm-F.Member x n m.0) m.1 constant.Other (form.outs-Member x n m.0) refl tt (λ reads.
      (parts.form-Member k x n m.0 (hx.typed (inl (only_scope reads))), record { row = (row, refl); values = one_true (is_value x) hx.value }))))

  pub arrow-goes : (x : TypedExpr) (n : Name) (w : World) → Goes k gs quiet w (arrow x n w) (λ z. Ready x → Ready z)
  unfolding arrow
  arrow-goes x n w = finds k gs broken.Member (member_behind w.structs x n) _ (λ m is. ends k gs (λ b hx.
      made (form.Arrow x n m.0) (TypedForm-F.Arrow x n m.0) m.1 constant.Other (form.outs-Arrow x n m.0) refl tt (λ reads. (
        parts.form-Arrow k x n m.0 (hx.typed (inl (only_scope reads))),
        record { row = (stays.member_behind-stays stay w.structs k.structs b.structs x n m is, refl); values = one_true (is_value x) hx.value },
      ))))

  -- ---- calls

  -- what is called, which may be a built-in
  abbrev pub Callable : TypedExpr → Type 0
  Callable x = Reads (constant_of x) → IsTypedExpr k x

  pub values-of : (ys : List TypedExpr) → AllByRecursion Ready ys → IsTrue (list_all is_value ys)
  values-of [] hs = refl
  values-of (y ∷ ys) hs = and_true (is_value y) (list_all is_value ys) hs.0.value (values-of ys hs.1)

  held : (c : C) (ys : List TypedExpr) → AllByRecursion Ready ys → List ((x : TypedExpr) × IsTypedExpr k x)
  held c [] hs = []
  held c (y ∷ ys) hs = (y, hs.0.typed (inl c)) ∷ held c ys hs.1

  held-are : (c : C) (ys : List TypedExpr) (hs : AllByRecursion Ready ys) → map (λ h. h.0) (held c ys hs) ≡ ys
  unfolding held
  held-are c [] hs = refl
  held-are c (y ∷ ys) hs = ap (λ zs. y ∷ zs) (held-are c ys hs.1)

  call-form : (x : TypedExpr) (ys : List TypedExpr) → C → Callable x → AllByRecursion Ready ys → IsTypedForm k (form.Call x ys)
  call-form x ys c hx hs = subst (λ zs. IsTypedForm k (form.Call x zs)) (held-are c ys hs) (parts.form-Call k x (hx (inl c)) (held c ys hs))

  called-goes : (x : TypedExpr) (ys : List TypedExpr) (w : World) → Goes k gs quiet w (called x ys w) (CallRow x ys)
  unfolding called
  called-goes x ys w = finds k gs broken.Call (called_type x) _ (λ f is. ruled k gs broken.Unconverted (all_convert ys (out-FnTy f).params) _ (λ convert.
      ruled k gs broken.Call (nat_eq (length ys) (length (out-FnTy f).params)) _ (λ count. ends k gs (λ b.
      record { callee = f; called = is; convert = convert; count = count; ty = refl }))))

  pub call-goes : (x : TypedExpr) (ys : List TypedExpr) (w : World) → Goes k gs quiet w (call x ys w) (λ z. Callable x × AllByRecursion Ready ys → Ready z)
  unfolding call
  call-goes x ys w = after k gs _ _ (called-goes x ys w) (λ t v quiet_so. ends k gs (λ b row both.
      made (form.Call x ys) (TypedForm-F.Call x ys) t constant.Other (form.outs-Call x ys) refl tt (λ reads.
      let c = only_scope reads in
      (call-form x ys c both.0 both.1, record { row = (row, refl); values = values-of ys both.1 }))))

  -- ---- assignments

  plain-goes : (x y : TypedExpr) (w : World) → Goes k gs quiet w (plain x y w) (λ t. PlainRow x y t)
  unfolding plain
  plain-goes x y w = ruled k gs broken.Unconverted (takes x y) _ (λ converts. ruled k gs broken.NotLvalue (is_assignable x) _ (λ lvalue. ends k gs (λ b. record { converts = converts; lvalue = lvalue; ty = refl })))

  updated-goes : (o : BinaryOperator) (x y : TypedExpr) (w : World) → Goes k gs quiet w (updated o x y w) (λ t. UpdateRow k o x y t)
  unfolding updated
  updated-goes o x y w = finds k gs broken.Operands (operated w.structs o x y) _ (λ t is. ruled k gs broken.Unconverted (takes_type x t) _ (λ converts. ruled k gs broken.NotLvalue (is_assignable x) _ (λ lvalue. ends k gs (λ b.
      record { value = t; operated = stays.operated-stays stay w.structs k.structs b.structs o x y t is; converts = converts; lvalue = lvalue; ty = refl }))))

  assigned-goes : (x y : TypedExpr) (o : Option BinaryOperator) (w : World) → Goes k gs quiet w (assigned_by x y o w) (λ t. AssignmentRow k o x y t)
  assigned-goes x y None w = plain-goes x y w
  assigned-goes x y (Some o) w = updated-goes o x y w

  pub assignment-goes : (x y : TypedExpr) (a : AssignOperator) (w : World) → Goes k gs quiet w (assignment x a y w) (λ z. Ready x × Ready y → Ready z)
  unfolding assignment
  assignment-goes x y a w = after k gs _ _ (assigned-goes x y (binary_operator a) w) (λ t v quiet_so. ends k gs (λ b row both.
      made (form.Assign x a y) (TypedForm-F.Assign x a y) t constant.Other (form.outs-Assign x a y) refl tt (λ reads.
      let c = only_scope reads in (
        parts.form-Assign k x a y (both.0.typed (inl c)) (both.1.typed (inl c)),
        record { row = (row, refl); values = two_true (is_value x) (is_value y) both.0.value both.1.value },
      ))))

  -- `++` and `--`, of a form whose row this is
  pub stepped-goes : (o : BinaryOperator) (f : TypedExpr → TypedForm) (node : TypedExpr → FormLayer) (x : TypedExpr) (w : World)
      → out-TypedForm (f x) ≡ node x → IsTrue (is_value_at (node x)) → LocalThere (node x) → (IsTypedExpr k x → IsTypedForm k (f x))
      → ((t : Ty) → UpdateRow k o x one t → Ready x → ExprLevel k (node x) t constant.Other)
      → Goes k gs quiet w (stepped o f x w) (λ z. Ready x → Ready z)
  unfolding stepped
  stepped-goes o f node x w is value there forms level = after k gs _ _ (updated-goes o x one w) (λ t v quiet_so. ends k gs (λ b row hx.
      made (f x) (node x) t constant.Other is value there (λ reads. (forms (hx.typed (inl (only_scope reads))), level t row hx))))
