-- The walk of items and of whole sources.
use Rattle.std.specs.Prelude.{ℕ, suc, true, if◌then◌else◌, List, [], ◌∷◌, length, map, codes}
use Rattle.std.specs.Prelude.{Option, Some, None, Result, Ok, Err}
use Rattle.c_tree.specs.declared.expression.Declarator.{Declarator}
use Rattle.c_tree.specs.declared.expression.Spec.{Spec}
use Rattle.c_tree.specs.declared.statement.Block.{Block}
use Rattle.c_tree.specs.declared.statement.Item.{Item}
use Rattle.c_tree.specs.declared.statement.Item.TheVariants as raw_item
use Rattle.c_tree.specs.declared.statement.Unit.{Unit as Source}
use Rattle.c_typed.specs.declared.unit.Typed.{Typed}
use Rattle.c_typed.specs.declared.unit.TypedItem.{TypedItem}
use Rattle.c_typed.specs.declared.unit.TypedItem.TheVariants as item
use Rattle.c_scope.specs.declared.rule.Rule.{Rule}
use Rattle.c_scope.specs.declared.rule.Rule.TheVariants as broken
use Rattle.c_scope.specs.declared.world.World.{World}
use Rattle.c_scope.specs.Definitions.{is_main, undefined_use}
use Rattle.c_scope.specs.Scopes.{empty, known_function}
use Rattle.c_scope.specs.Walk.{Outcome, Walk, ◌>>=◌, each, pure}
use Rattle.c_expr_typing.specs.Trees.{typed_spec}
use Rattle.c_declaration_typing.specs.Declarations.{typed_decl, typed_type}
use Rattle.c_typing.specs.Functions.{typed_function}

-- ---- items

-- names of types
abbrev pub typedef_item : Spec → List Declarator → Walk TypedItem
typedef_item s ds = do
  base ← typed_spec s true
  xs ← each (map (typed_type base.1) ds)
  pure (item.Typedef base.0 xs)

-- a function's definition
abbrev pub function_item : Spec → Declarator → Block → Walk TypedItem
function_item s d b = do
  base ← typed_spec s true
  f ← typed_function base.0 base.1 d b
  pure (item.Function f)

-- the typed form of an item
unfoldable pub typed_item : Item → Walk TypedItem
typed_item (raw_item.Decl d) = typed_decl true d >>= (λ x. pure (item.Decl x))
typed_item (raw_item.Typedef s ds) = typedef_item s ds
typed_item (raw_item.Function s d b) = function_item s d b

-- ---- whole sources

-- what is found, or an item and the rule that it breaks
abbrev pub Verdict : Type 0 → Type 0
Verdict A = Result A (ℕ × Rule)

-- what is broken, at this item
abbrev pub at_item : {A : Type 0} → ℕ → Outcome A → Verdict A
at_item n (Ok a) = Ok a
at_item n (Err r) = Err (n, r)

-- the item of this number
abbrev pub numbered_item : ℕ → Item → World → Verdict (TypedItem × World)
numbered_item n i w = at_item n (typed_item i (record w { item = n }))

-- this item, then the others
abbrev pub with_first : TypedItem → Verdict (List TypedItem × World) → Verdict (List TypedItem × World)
with_first x (Ok r) = Ok (x ∷ r.0, r.1)
with_first x (Err e) = Err e

-- the first item, then the others, from what is known behind it
abbrev pub items_behind : (World → Verdict (List TypedItem × World)) → Verdict (TypedItem × World)
    → Verdict (List TypedItem × World)
items_behind rest (Ok r) = with_first r.0 (rest r.1)
items_behind rest (Err e) = Err e

-- items from this number on
abbrev pub typed_items : ℕ → List Item → World → Verdict (List TypedItem × World)
typed_items n [] w = Ok ([], w)
typed_items n (i ∷ is) w = items_behind (typed_items (suc n) is) (numbered_item n i w)

-- rules 6 and 5 behind the last item: the first function that is used has a definition, and `main` is one
abbrev pub finished_by : ℕ → List TypedItem → World → Option ℕ → Verdict Typed
finished_by n is w (Some first) = Err (first, broken.Undefined)
finished_by n is w None =
    if is_main (known_function w.functions (codes "main"))
    then Ok (record { items = is; structs = w.structs; strings = w.strings })
    else Err (n, broken.NoMain)

-- the verdict behind the last of so many items
abbrev pub finished : ℕ → List TypedItem → World → Verdict Typed
finished n is w = finished_by n is w (undefined_use w.functions)

-- the same, unless an item breaks a rule
abbrev pub finished_behind : ℕ → Verdict (List TypedItem × World) → Verdict Typed
finished_behind n (Ok r) = finished n r.0 r.1
finished_behind n (Err e) = Err e

-- the source's typed form, or the first rule that it breaks with its item
unfoldable pub typed_source : Source → Verdict Typed
typed_source source = finished_behind (length source.items) (typed_items 0 source.items empty)
