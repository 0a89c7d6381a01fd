-- The walk of an item keeps it, and so the typed form of a source keeps what stands in it.
use Rattle.std.proofs.Common.{◌≡◌, ◌∙◌, ℕ, suc, Bool, true, false, if◌then◌else◌, List, [], ◌∷◌, map, length, Option, Some, None, Ok, Err, refl, ap, subst}
use Rattle.c_layers.specs.declared.layer.Layer.{Layer}
use Rattle.c_types.specs.declared.ty.FnTy.{FnTy, out-FnTy}
use Rattle.c_types.specs.declared.ty.Ty.{Ty}
use Rattle.c_tree.specs.declared.expression.Declarator.{Declarator}
use Rattle.c_tree.specs.declared.statement.Block.{Block}
use Rattle.c_tree.specs.declared.statement.Item.{Item}
use Rattle.c_tree.specs.declared.statement.Item.TheVariants as raw_item
use Rattle.c_tree.specs.declared.statement.Unit.{Unit as Source}
use Rattle.c_typed.specs.declared.expression.TypedSpec.{TypedSpec}
use Rattle.c_typed.specs.declared.unit.Typed.{Typed}
use Rattle.c_typed.specs.declared.unit.TypedFn.{TypedFn}
use Rattle.c_typed.specs.declared.unit.TypedItem.{TypedItem}
use Rattle.c_typed.specs.Erased.{erased, erased_block, erased_declared, erased_item, erased_spec}
use Rattle.c_scope.specs.declared.rule.Rule.{Rule}
use Rattle.c_scope.specs.declared.world.World.{World}
use Rattle.c_scope.specs.Definitions.{undefined_use}
use Rattle.c_scope.specs.Scopes.{empty}
use Rattle.c_scope.specs.Walk.{Outcome, ◌>>◌, each}
use Rattle.c_declarator_rules.specs.declared.declarators.LayeredDeclarator.{LayeredDeclarator}
use Rattle.c_typing_laws.specs.inner.WalkedTrees.{WalksKeepTrees}
use Rattle.c_expr_typing.specs.Trees.{typed_declarator, typed_spec}
use Rattle.c_typing_laws.specs.inner.ErasedDeclarators.{declared-made}
use Rattle.c_typing_laws.specs.inner.Yields.{Yields, after, at_once, inside_scope, whatever}
use Rattle.c_declaration_typing.specs.Declarations.{typed_decl, typed_type}
use Rattle.c_typing.specs.Functions.{bind_own, define_function, function_body, function_parts, take_locals, typed_function}
use Rattle.c_typing.specs.Sources.{Verdict, at_item, finished_behind, finished_by, items_behind, typed_item, typed_items, typed_source, with_first}
use Rattle.c_typing.specs.Statements.{typed_block}
use Rattle.c_typing_laws.proofs.DeclarationsKeepTrees.{decl-keeps, declarator-yields, spec-yields, types-keep}
use Rattle.c_typing_laws.proofs.StatementsKeepTrees.{block-keeps}

-- ---- definitions of functions, and items

-- what an item has of a function, without types
abbrev FunctionKept : TypedSpec → Declarator → Block → TypedFn → Type 0
FunctionKept s d b f = (f.spec ≡ s) × (erased_declared f.declared ≡ d) × (erased_block f.block ≡ b)

module _ (laws : WalksKeepTrees) where
  scope-keeps : (returns : Ty) (layers : List Layer) (b : Block) (w : World)
      → Yields ((bind_own layers >> typed_block returns b false) w) (λ x. erased_block x ≡ b)
  scope-keeps returns layers b w = whatever (bind_own layers w) _ (λ _ v. block-keeps laws returns b false v)

  body-keeps : (layers : List Layer) (f : FnTy) (b : Block) (w : World) → Yields (function_body layers f b w) (λ x. erased_block x ≡ b)
  body-keeps layers f b w = inside_scope (bind_own layers >> typed_block (out-FnTy f).result b false) (scope-keeps (out-FnTy f).result layers b) w

  parts-keep : (base : Ty) (d : LayeredDeclarator) (b : Block) (w : World)
      → Yields (function_parts base d b w) (λ f. erased_block f.2 ≡ b)
  parts-keep base d b w =
      whatever (define_function base d w) _ (λ f v.
      after (function_body d.layers f b v) _ (body-keeps d.layers f b v) (λ body u is.
      whatever (take_locals u) _ (λ ls t. at_once {a = (f, ls, body)} {w = t} is)))

  function-keeps : (s : TypedSpec) (base : Ty) (d : Declarator) (b : Block) (w : World)
      → Yields (typed_function s base d b w) (FunctionKept s d b)
  unfolding typed_function
  function-keeps s base d b w =
      after (typed_declarator d w) _ (declarator-yields laws d w) (λ x v is.
      after (function_parts base x b v) _ (parts-keep base x b v) (λ f u also.
      at_once (refl, declared-made x.tree _ ∙ is, also)))

  item-keeps : (i : Item) (w : World) → Yields (typed_item i w) (λ x. erased_item x ≡ i)
  unfolding typed_item erased_item
  item-keeps (raw_item.Decl d) w = after (typed_decl true d w) _ (decl-keeps laws true d w) (λ x v is. at_once (ap raw_item.Decl is))
  item-keeps (raw_item.Typedef s ds) w =
      after (typed_spec s true w) _ (spec-yields laws s true w) (λ base v is.
      after (each (map (typed_type base.1) ds) v) _ (types-keep laws base.1 ds v) (λ xs u also.
      at_once (λ i. raw_item.Typedef (is i) (also i))))
  item-keeps (raw_item.Function s d b) w =
      after (typed_spec s true w) _ (spec-yields laws s true w) (λ base v is.
      after (typed_function base.0 base.1 d b v) _ (function-keeps base.0 base.1 d b v) (λ f u also.
      at_once (λ i. raw_item.Function ((ap erased_spec also.0 ∙ is) i) (also.1 i) (also.2 i))))

  -- ---- lists of items, and sources

  abbrev ItemsKept : List Item → Verdict (List TypedItem × World) → Type 0
  ItemsKept is v = (r : List TypedItem × World) → v ≡ Ok r → map erased_item r.0 ≡ is

  abbrev answered : List TypedItem → World → Verdict (List TypedItem × World)
  answered xs w = Ok (xs, w)

  answered-kept : (xs : List TypedItem) (w : World) (is : List Item) → map erased_item xs ≡ is → ItemsKept is (answered xs w)
  answered-kept xs w is kept r found =
      let same : (xs, w) ≡ r = cc in
      subst (λ (s : List TypedItem × World). map erased_item s.0 ≡ is) same kept

  first-kept : (x : TypedItem) (i : Item) (is : List Item) → erased_item x ≡ i → (v : Verdict (List TypedItem × World)) → ItemsKept is v → ItemsKept (i ∷ is) (with_first x v)
  first-kept x i is same (Ok a) rest = answered-kept (x ∷ a.0) a.1 (i ∷ is) (ap (λ t. t ∷ map erased_item a.0) same ∙ ap (λ ts. i ∷ ts) (rest a refl))
  first-kept x i is same (Err e) rest = λ r found. cc

  behind-kept : (n : ℕ) (i : Item) (is : List Item) (o : Outcome (TypedItem × World)) → Yields o (λ x. erased_item x ≡ i)
      → ((w : World) → ItemsKept is (typed_items (suc n) is w)) → ItemsKept (i ∷ is) (items_behind (typed_items (suc n) is) (at_item n o))
  behind-kept n i is (Ok a) first rest = first-kept a.0 i is (first.found a refl) (typed_items (suc n) is a.1) (rest a.1)
  behind-kept n i is (Err e) first rest = λ r found. cc

  items-kept : (n : ℕ) (is : List Item) (w : World) → ItemsKept is (typed_items n is w)
  items-kept n [] w = answered-kept [] w [] refl
  items-kept n (i ∷ is) w = behind-kept n i is (typed_item i (record w { item = n })) (item-keeps i (record w { item = n })) (items-kept (suc n) is)

  abbrev SourceKept : List Item → Verdict Typed → Type 0
  SourceKept is v = (t : Typed) → v ≡ Ok t → map erased_item t.items ≡ is

  main-kept : (n : ℕ) (is : List Item) (t : Typed) (has_main : Bool) (r : Rule)
      → map erased_item t.items ≡ is → SourceKept is (if has_main then Ok t else Err (n, r))
  main-kept n is t true r kept u found =
      let same : t ≡ u = cc in
      subst (λ (s : Typed). map erased_item s.items ≡ is) same kept
  main-kept n is t false r kept u found = cc

  finished-kept : (n : ℕ) (xs : List TypedItem) (is : List Item) (w : World) (o : Option ℕ) → map erased_item xs ≡ is → SourceKept is (finished_by n xs w o)
  finished-kept n xs is w (Some first) kept = λ t found. cc
  finished-kept n xs is w None kept = main-kept n is _ _ _ kept

  all-kept : (n : ℕ) (is : List Item) (v : Verdict (List TypedItem × World)) → ItemsKept is v → SourceKept is (finished_behind n v)
  all-kept n is (Ok r) kept = finished-kept n r.0 is r.1 (undefined_use r.1.functions) (kept r refl)
  all-kept n is (Err e) kept = λ t found. cc

  pub source-kept : (s : Source) (t : Typed) → typed_source s ≡ Ok t → erased t ≡ s
  unfolding typed_source erased
  source-kept s t is = λ i. record { items = all-kept (length s.items) s.items (typed_items 0 s.items empty) (items-kept 0 s.items empty) t is i }
