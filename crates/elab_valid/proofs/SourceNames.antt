-- What a typed source declares, as its rows and as its program have it: global variables, definitions and their names.
use Rattle.std.proofs.Common.{◌≡◌, ◌∙◌, ℕ, suc, ◌<◌, Bool, true, false, List, [], ◌∷◌, ◌++◌, append_assoc, length, map, Some, option_map, refl, ap, sym, subst, slice_get, arith, bytes_eq}
use Rattle.std.proofs.lemmas.Option.{same_Some}
use Rattle.std.specs.List.{AllByRecursion}
use Rattle.std.specs.Prelude.{if◌then◌else◌}
use Rattle.c_types.specs.declared.structs.StructDef.{StructDef}
use Rattle.c_types.specs.declared.ty.FnTy.{FnTy}
use Rattle.c_types.specs.declared.ty.Ty.{Ty}
use Rattle.c_types.specs.Sound.{names_below}
use Rattle.c_types.specs.Units.{has_units}
use Rattle.c_typed.specs.declared.entity.Entity.{Entity}
use Rattle.c_typed.specs.declared.entity.Entity.TheVariants as entity
use Rattle.c_typed.specs.declared.expression.Declared.{Declared, every_here-Declared, fold_out-Declared, out-Declared}
use Rattle.c_typed.specs.declared.statement.TypedInitDeclarator.{TypedInitDeclarator}
use Rattle.c_typed.specs.declared.unit.TypedFn.{TypedFn}
use Rattle.c_typed.specs.declared.unit.TypedItem.{TypedItem}
use Rattle.c_typed.specs.declared.unit.TypedItem.TheVariants as item
use Rattle.c_typed_rows.specs.Contexts.{Context, defined_as}
use Rattle.c_typed_rows.specs.Sources as rows
use Rattle.c_typed_rows.specs.Sources.{IsTypedItem, signature}
use Rattle.c_typed_rows.specs.Initialisers.{IsTypedInit}
use Rattle.c_typed_rows.specs.Statements.{DeclaredRow, IfInit, IsTypedInitDeclarator}
use Rattle.core_ir.specs.declared.program.Function.{Function}
use Rattle.elab_rows.specs.declared.scope.Scope.{Scope}
use Rattle.elab_pieces.specs.Functions.{function_code}
use Rattle.elab_pieces.specs.Globals as pieces
use Rattle.elab_pieces.specs.Globals.{Global, with_global}
use Rattle.elab_pieces.specs.Program.{declarator_name, definitions, name_of}
use Rattle.c_typed_rows.specs.Types as types
use Rattle.c_typed_rows.specs.Types.{DeclaredTypes, InitDeclaratorTypes, ItemTypes, OptionalInitTypes}
use Rattle.elab_valid.specs.Types.{TellsTypes}
use Rattle.tables.specs.Places.{place_of}

-- ---- global variables

with-types : (d : TypedInitDeclarator) (e : Entity) (t : Ty) (rs : List rows.Global) (gs : List Global) → (out-Declared d.declared).ty ≡ t → map (λ (g : rows.Global). g.ty) rs ≡ map (λ (g : Global). g.ty) gs
    → map (λ (g : rows.Global). g.ty) (rows.global_by e t ++ rs) ≡ map (λ (g : Global). g.ty) (with_global d e gs)
with-types d (entity.Global n) t rs gs is same = λ i. sym is i ∷ same i
with-types d (entity.Local n) t rs gs is same = same
with-types d entity.Parameter t rs gs is same = same
with-types d entity.Function t rs gs is same = same
with-types d (entity.BuiltIn b) t rs gs is same = same

declared-types : (ds : List TypedInitDeclarator) (rs : List rows.Global) (gs : List Global) → map (λ (g : rows.Global). g.ty) rs ≡ map (λ (g : Global). g.ty) gs
    → map (λ (g : rows.Global). g.ty) (rows.declared_globals ds ++ rs) ≡ map (λ (g : Global). g.ty) (pieces.declared_globals ds gs)
declared-types [] rs gs same = same
declared-types (d ∷ ds) rs gs same =
    ap (map (λ (g : rows.Global). g.ty)) (append_assoc (rows.global_by d.entity (out-Declared d.declared).ty) (rows.declared_globals ds) rs)
    ∙ with-types d d.entity (out-Declared d.declared).ty (rows.declared_globals ds ++ rs) (pieces.declared_globals ds gs) refl (declared-types ds rs gs same)

-- both have the same types
pub global-types : (is : List TypedItem) → map (λ (g : rows.Global). g.ty) (rows.globals is) ≡ map (λ (g : Global). g.ty) (pieces.globals is)
global-types [] = refl
global-types (item.Decl d ∷ is) = declared-types d.declarators (rows.globals is) (pieces.globals is) (global-types is)
global-types (item.Typedef s ds ∷ is) = global-types is
global-types (item.Function f ∷ is) = global-types is

pub declared-test : (test : Ty → Bool) (d : Declared) → DeclaredTypes test d → test (out-Declared d).ty ≡ true
unfolding DeclaredTypes
declared-test test d h = every_here-Declared (λ _. Unit {0}) (λ _. Unit {0}) (types.ParamLevel test) (λ _. Unit {0}) (λ _. Unit {0}) (λ _. Unit {0})
    (types.DeclaredLevel test) (λ _. Unit {0}) (λ _. Unit {0}) (types.ExprLevel test) (λ _. Unit {0}) (types.TypeWordLevel test) d h

module _ (k : Context) (defs : List StructDef) (same : k.structs ≡ defs) (test : Ty → Bool) (tells : TellsTypes defs test) where
  -- what is known of a global variable
  pub record GlobalHolds (g : Global) : Type 0 where
    pub units : has_units defs g.ty ≡ true
    pub named : names_below (length defs) g.ty ≡ true
    pub typed : IfInit (IsTypedInit k g.ty) g.init
    pub fit : OptionalInitTypes test g.init

  with-holds : (d : TypedInitDeclarator) (e : Entity) (gs : List Global) → DeclaredRow k e (out-Declared d.declared).ty d.init → InitDeclaratorTypes test d → AllByRecursion GlobalHolds gs → AllByRecursion GlobalHolds (with_global d e gs)
  with-holds d (entity.Global n) gs row fit h =
      (record { units = subst (λ ds. has_units ds (out-Declared d.declared).ty ≡ true) same row.1.units; named = tells.named (out-Declared d.declared).ty (declared-test test d.declared fit.declared); typed = row.1.init; fit = fit.init }, h)
  with-holds d (entity.Local n) gs row fit h = h
  with-holds d entity.Parameter gs row fit h = h
  with-holds d entity.Function gs row fit h = h
  with-holds d (entity.BuiltIn b) gs row fit h = h

  declared-hold : (ds : List TypedInitDeclarator) (gs : List Global) → AllByRecursion (IsTypedInitDeclarator k) ds → AllByRecursion (InitDeclaratorTypes test) ds → AllByRecursion GlobalHolds gs
      → AllByRecursion GlobalHolds (pieces.declared_globals ds gs)
  declared-hold [] gs typed fit h = h
  declared-hold (d ∷ ds) gs typed fit h = with-holds d d.entity (pieces.declared_globals ds gs) typed.0.row fit.0 (declared-hold ds gs typed.1 fit.1 h)

  pub globals-hold : (is : List TypedItem) → AllByRecursion (IsTypedItem k) is → AllByRecursion (ItemTypes test) is → AllByRecursion GlobalHolds (pieces.globals is)
  globals-hold [] typed fit = tt
  globals-hold (item.Decl d ∷ is) typed fit = declared-hold d.declarators (pieces.globals is) typed.0.declarators fit.0.declarators (globals-hold is typed.1 fit.1)
  globals-hold (item.Typedef s ds ∷ is) typed fit = globals-hold is typed.1 fit.1
  globals-hold (item.Function f ∷ is) typed fit = globals-hold is typed.1 fit.1

-- ---- definitions

pub same-definitions : (is : List TypedItem) → rows.definitions is ≡ definitions is
same-definitions [] = refl
same-definitions (item.Decl d ∷ is) = same-definitions is
same-definitions (item.Typedef s ds ∷ is) = same-definitions is
same-definitions (item.Function f ∷ is) = ap (λ fs. f ∷ fs) (same-definitions is)

same-name : (d : Declared) → rows.name_of d ≡ name_of d
unfolding rows.name_of name_of declarator_name
same-name d = fold_out-Declared _ _ _ _ _ _ _ _ _ _ _ _ rows.direct_name (λ _. tt) (λ _. tt) (λ _. tt) (λ _. tt) (λ _. tt)
    (λ d. d.declarator) (λ _. tt) (λ d. d.direct) (λ _. tt) (λ _. tt) (λ _. tt) d

-- the number of a name has its function
pub record Numbered (file : Scope) (fs : List TypedFn) (others : List Function) (name : List ℕ) (t : FnTy) : Type 0 where
  pub number : ℕ
  pub below : number < length fs
  pub at : place_of (λ (x : List ℕ). x) (map (λ (f : TypedFn). name_of f.declared) fs) name ≡ Some number
  pub function : Function
  pub there : slice_get (map (function_code file) fs ++ others) number ≡ Some function
  pub ty : function.ty ≡ t

code-type : (file : Scope) (f : TypedFn) → (function_code file f).ty ≡ rows.type_of f
unfolding function_code
code-type file f = refl

one-further : (file : Scope) (f : TypedFn) (fs : List TypedFn) (others : List Function) (name : List ℕ) (t : FnTy) (b : Bool) → bytes_eq (name_of f.declared) name ≡ b
    → (if b then Some (rows.type_of f) else defined_as (map signature fs) name) ≡ Some t → (defined_as (map signature fs) name ≡ Some t → Numbered file fs others name t) → Numbered file (f ∷ fs) others name t
one-further file f fs others name t true is found rest = record {
  number = 0;
  below = omega arith;
  at = ap (λ (b : Bool). if b then Some 0 else option_map suc (place_of (λ (x : List ℕ). x) (map (λ (f : TypedFn). name_of f.declared) fs) name)) is;
  function = function_code file f;
  there = refl;
  ty = code-type file f ∙ same_Some (rows.type_of f) t found;
}
one-further file f fs others name t false is found rest =
    let h = rest found in
    record {
      number = suc h.number;
      below = omega (arith, h.below);
      at = ap (λ (b : Bool). if b then Some 0 else option_map suc (place_of (λ (x : List ℕ). x) (map (λ (f : TypedFn). name_of f.declared) fs) name)) is ∙ ap (option_map suc) h.at;
      function = h.function;
      there = h.there;
      ty = h.ty;
    }

pub numbered : (file : Scope) (fs : List TypedFn) (others : List Function) (name : List ℕ) (t : FnTy) → defined_as (map signature fs) name ≡ Some t → Numbered file fs others name t
numbered file [] others name t found = absurd (cc)
numbered file (f ∷ fs) others name t found =
    one-further file f fs others name t (bytes_eq (name_of f.declared) name) refl
    (ap (λ x. if bytes_eq x name then Some (rows.type_of f) else defined_as (map signature fs) name) (sym (same-name f.declared)) ∙ found) (numbered file fs others name t)
