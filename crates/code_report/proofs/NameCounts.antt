-- The names of one thing are no more than those of it and others.
use Rattle.std.proofs.Common.{ℕ, ◌≤◌, Bool, true, false, if◌then◌else◌, List, [], ◌∷◌, length, arith}
use Rattle.c_typed.specs.declared.entity.Entity.{Entity}
use Rattle.c_typed.specs.declared.entity.Entity.TheVariants as entity
use Rattle.c_typed.specs.declared.expression.Declared.{Declared}
use Rattle.c_typed.specs.declared.statement.TypedInitDeclarator.{TypedInitDeclarator}
use Rattle.c_typed.specs.declared.unit.Local.{Local as Variable}
use Rattle.c_typed.specs.declared.unit.TypedItem.{TypedItem}
use Rattle.c_typed.specs.declared.unit.TypedItem.TheVariants as item
use Rattle.elab_rows.specs.Scope.{is_slot_local}
use Rattle.code_report.specs.Names.{declared_names, frame_names, global_names, with_global}

-- ---- global variables

grows : (d : Declared) (e : Entity) (few many : List (List ℕ)) → length few ≤ length many → length (with_global d e few) ≤ length (with_global d e many)
grows d (entity.Global n) few many h = omega (arith, h)
grows d _ few many h = h

declared_grows : (ds : List TypedInitDeclarator) (names : List (List ℕ)) → length (declared_names ds []) ≤ length (declared_names ds names)
declared_grows [] names = omega arith
declared_grows (d ∷ ds) names = grows d.declared d.entity (declared_names ds []) (declared_names ds names) (declared_grows ds names)

pub one_declarator : (d : TypedInitDeclarator) (ds : List TypedInitDeclarator) → length (declared_names (d ∷ []) []) ≤ length (declared_names (d ∷ ds) [])
one_declarator d ds = grows d.declared d.entity [] (declared_names ds []) (omega arith)

pub one_item : (i : TypedItem) (is : List TypedItem) → length (global_names (i ∷ [])) ≤ length (global_names (i ∷ is))
one_item (item.Decl d) is = declared_grows d.declarators (global_names is)
one_item (item.Function f) is = omega arith
one_item (item.Typedef s ds) is = omega arith

-- ---- frame locals

one_test : (b : Bool) (x : List ℕ) (xs : List (List ℕ)) → length (if b then [] else x ∷ []) ≤ length (if b then xs else x ∷ xs)
one_test true x xs = omega arith
one_test false x xs = omega arith

pub one_variable : (v : Variable) (vs : List Variable) → length (frame_names (v ∷ [])) ≤ length (frame_names (v ∷ vs))
one_variable v vs = one_test (is_slot_local v) v.name (frame_names vs)
