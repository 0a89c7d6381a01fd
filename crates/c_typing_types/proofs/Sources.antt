-- The walk of a source finds types that pass.
use Rattle.std.proofs.Common.{◌≡◌, ◌≤◌, ◌||◌, ◌&&◌, ℕ, suc, Bool, true, false, if◌then◌else◌, List, [], ◌∷◌, length, Option, Some, None, Ok, Err, refl, subst, arith}
use Rattle.std.specs.List.{AllByRecursion, list_all}
use Rattle.c_layers.specs.declared.layer.Layer.{Layer}
use Rattle.c_layers.specs.declared.layer.Layer.TheVariants as layer
use Rattle.c_layers.specs.declared.layer.Parameter.{Parameter}
use Rattle.c_layers.specs.declared.layer.Shape.{Shape}
use Rattle.c_layers.specs.Shapes.{results_fit, shaped, whole_of}
use Rattle.c_types.specs.declared.ty.FnTy.{FnTy, out-FnTy}
use Rattle.c_types.specs.declared.ty.Ty.{Ty}
use Rattle.c_types.specs.declared.ty.Ty.TheVariants as ty
use Rattle.c_types.specs.Kinds.{function_of}
use Rattle.c_tree.specs.declared.expression.Declarator.{Declarator}
use Rattle.c_tree.specs.declared.expression.Spec.{Spec}
use Rattle.c_tree.specs.declared.statement.Block.{Block}
use Rattle.c_tree.specs.declared.statement.Item.{Item}
use Rattle.c_tree.specs.declared.statement.Item.TheVariants as raw_item
use Rattle.c_tree.specs.declared.statement.Unit.{Unit as Source}
use Rattle.c_typed.specs.declared.expression.TypedSpec.{TypedSpec}
use Rattle.c_typed.specs.declared.unit.Typed.{Typed}
use Rattle.c_typed.specs.declared.unit.TypedItem.{TypedItem}
use Rattle.c_scope.specs.declared.rule.Rule.{Rule}
use Rattle.c_scope.specs.declared.rule.Rule.TheVariants as broken
use Rattle.c_scope.specs.declared.world.World.{World}
use Rattle.c_scope.specs.BuiltIns.{Name}
use Rattle.c_scope.specs.Definitions.{bind_parameters, mark_defined, may_be_defined, own_parameter, undefined_use}
use Rattle.c_scope.specs.Scopes.{empty, most_tags}
use Rattle.c_scope.specs.Walk.{Outcome, ◌>>◌, found}
use Rattle.c_declarator_rules.specs.declared.declarators.LayeredDeclarator.{LayeredDeclarator}
use Rattle.c_declarator_rules.specs.Rules.{declared}
use Rattle.c_declaration_typing.specs.Declarations.{typed_type}
use Rattle.c_typing.specs.Functions.{bind_own, define_function, defined_type, function_body, function_parts, is_definition, shaped_function, take_locals, typed_function}
use Rattle.c_typing.specs.Sources.{Verdict, at_item, finished_behind, finished_by, function_item, items_behind, typed_item, typed_items, typed_source, typedef_item, with_first}
use Rattle.c_typing.specs.Statements.{typed_block}
use Rattle.c_typing_types.specs.Filled.{block_fills, is_filled, item_fills, spec_fills}
use Rattle.c_typed_rows.specs.Types.{BlockTypes, DeclaredTypes, FunctionTypes, ItemTypes, SourceTypes}
use Rattle.c_typing_types.proofs.Claimed.{ReadyDeclarator, ReadySpec}
use Rattle.c_typing_types.proofs.Declarations.{decl-goes, free-both, function-goes, type_name-goes, variable-goes}
use Rattle.c_typing_types.proofs.Good.{Fine, FunctionFine, Good, both, called-fine, function_type-fine}
use Rattle.c_typing_types.proofs.Known.{marked-fine}
use Rattle.c_typing_types.proofs.Shaped.{LayersFine, ParameterFine, ShapeFine, shaped-fine, whole-fine}
use Rattle.c_typing_types.proofs.Statements.{block-finds}
use Rattle.c_typing_types.proofs.Steps.{Fit, Goes, LocalsFine, Longer, StructsFine, after, changed, each-goes, ends, finds, found-goes, longer-joined, longer-same, ruled, under, within-goes}
use Rattle.c_typing_types.proofs.TypedParts as parts
use Rattle.c_typing_types.proofs.Walks.{declarator-finds, spec-finds}

module _ (g : Good) where
  -- ---- definitions

  type-goes : (x : Name) (s : Shape) (fits : Bool) (w : World) → Goes g (fits ≡ true → ShapeFine g s) w (defined_type x s fits w) (FunctionFine g)
  unfolding defined_type
  type-goes x s fits w = ruled g broken.Redeclared (may_be_defined w x s) _ (λ may. finds g broken.Unsized (whole_of s) _ (λ t is. ruled g broken.Form fits _ (λ form.
      found-goes g broken.Form (function_of t) (λ f of known fit. called-fine g t f of (whole-fine g s t is (known form))))))

  mark-goes : (x : Name) (w : World) → Goes g (Unit {0}) w (mark_defined x w) (λ u. Unit {0})
  unfolding mark_defined
  mark-goes x w = changed g w _ (longer-same w) (λ few known fit. (
    record { scopes = fit.scopes; functions = marked-fine g false true w.functions x fit.functions; structs = fit.structs; locals = tt; few = fit.few },
    tt,
  ))

  define-goes : (base : Ty) (d : LayeredDeclarator) (w : World) → Goes g (Fine g base × ReadyDeclarator g d) w (define_function base d w) (FunctionFine g)
  define-goes base d w =
      after g (shaped_function base d w) _
      (under g _ (λ known fits. shaped-fine g w.structs base d.layers known.0 known.1.1 (both (results_fit w.structs base d.layers) (is_definition d.layers) fits).0) (type-goes d.name (shaped w.structs base d.layers) (results_fit w.structs base d.layers && is_definition d.layers) w)) (λ f v.
      after g _ _ (under g _ (λ known. known.1) (function-goes g d.name f v)) (λ e u.
      after g _ _ (under g _ (λ known. tt) (mark-goes d.name u)) (λ m s.
      ends g (λ known fit. known.0.0.1))))

  own_parameter-goes : (p : Parameter) (x : Option Name) (w : World) → Goes g (ParameterFine g p) w (own_parameter p x w) (λ u. Unit {0})
  own_parameter-goes p None w = ends g (λ known fit. tt)
  own_parameter-goes p (Some x) w = after g _ _ (under g _ (λ known. known.0) (variable-goes g false x p.ty w)) (λ e v. ends g (λ known fit. tt))

  parameters-go : (ps : List Parameter) (w : World) → Goes g (AllByRecursion (ParameterFine g) ps) w (bind_parameters ps w) (λ u. Unit {0})
  parameters-go [] w = ends g (λ known fit. tt)
  parameters-go (p ∷ ps) w = after g _ _ (under g _ (λ known. known.0) (own_parameter-goes p p.name w)) (λ u v. under g _ (λ known. known.0.1) (parameters-go ps v))

  own-goes : (layers : List Layer) (w : World) → Goes g (LayersFine g layers) w (bind_own layers w) (λ u. Unit {0})
  own-goes [] w = ends g (λ known fit. tt)
  own-goes (layer.Function ps ∷ ls) w = under g _ (λ known. known.0.0) (parameters-go ps w)
  own-goes (layer.Array bound ∷ ls) w = ends g (λ known fit. tt)
  own-goes (layer.Pointers n ∷ ls) w = ends g (λ known fit. tt)

  body-goes : (layers : List Layer) (f : FnTy) (b : Block) (w : World) → (g.free || block_fills b) ≡ true → Goes g (LayersFine g layers) w (function_body layers f b w) (BlockTypes g.good)
  body-goes layers f b w fills = within-goes g (bind_own layers >> typed_block (out-FnTy f).result b false) w (λ v.
      after g _ _ (own-goes layers v) (λ u s. under g _ (λ known. tt) (block-finds g (out-FnTy f).result b fills false s)))

  locals-go : (w : World) → Goes g (Unit {0}) w (take_locals w) (LocalsFine g)
  locals-go w = changed g w (record w { locals = [] }) (longer-same w) (λ few known fit. (
    record { scopes = fit.scopes; functions = fit.functions; structs = fit.structs; locals = tt; few = fit.few },
    fit.locals,
  ))

  parts-go : (base : Ty) (d : LayeredDeclarator) (b : Block) (w : World) → (g.free || block_fills b) ≡ true
      → Goes g (Fine g base × ReadyDeclarator g d) w (function_parts base d b w) (λ r. FunctionFine g r.0 × LocalsFine g r.1 × BlockTypes g.good r.2)
  parts-go base d b w fills =
      after g _ _ (define-goes base d w) (λ f v.
      after g _ _ (under g _ (λ known. known.0.1.1) (body-goes d.layers f b v fills)) (λ body u.
      after g _ _ (under g _ (λ known. tt) (locals-go u)) (λ ls s.
      ends g (λ known fit. (known.0.0.1, known.1, known.0.1)))))

  function_finds : (s : TypedSpec) (base : Ty) (d : Declarator) (b : Block) (w : World) → (g.free || block_fills b) ≡ true
      → Goes g (ReadySpec g (s, base)) w (typed_function s base d b w) (FunctionTypes g.good)
  unfolding typed_function
  function_finds s base d b w fills =
      after g _ _ (under g _ (λ known. tt) (declarator-finds g d w)) (λ x v.
      after g _ _ (under g _ (λ known. (known.0.1, known.1)) (parts-go base x b v fills)) (λ f u.
      ends g (λ known fit. record {
        spec = known.0.0.0;
        declared = parts.declared-made g.good x.tree (ty.Function f.0) known.0.1.0 (function_type-fine g f.0 known.1.0);
        locals = known.1.1;
        block = known.1.2;
      })))

  -- ---- items

  typedef-finds : (s : Spec) (ds : List Declarator) (w : World) → (g.free || spec_fills s) ≡ true → Goes g (Unit {0}) w (typedef_item s ds w) (ItemTypes g.good)
  typedef-finds s ds w fills =
      after g _ _ (spec-finds g s true (λ is. fills) w) (λ base v.
      after g _ _ (under g _ (λ known. known.1.1) (each-goes g (DeclaredTypes g.good) (typed_type base.1) (type_name-goes g base.1) ds v)) (λ xs u.
      ends g (λ known fit. (known.0.1.0, known.1))))

  definition-finds : (s : Spec) (d : Declarator) (b : Block) (w : World) → (g.free || (spec_fills s && block_fills b)) ≡ true → Goes g (Unit {0}) w (function_item s d b w) (ItemTypes g.good)
  definition-finds s d b w fills =
      let h = free-both g.free (spec_fills s) (block_fills b) fills in
      after g _ _ (spec-finds g s true (λ is. h.0) w) (λ base v.
      after g _ _ (under g _ (λ known. known.1) (function_finds base.0 base.1 d b v h.1)) (λ f u.
      ends g (λ known fit. known.1)))

  item-finds : (i : Item) (w : World) → (g.free || item_fills i) ≡ true → Goes g (Unit {0}) w (typed_item i w) (ItemTypes g.good)
  unfolding typed_item
  item-finds (raw_item.Decl d) w fills = after g _ _ (decl-goes g true d w fills) (λ x v. ends g (λ known fit. known.1))
  item-finds (raw_item.Typedef s ds) w fills = typedef-finds s ds w fills
  item-finds (raw_item.Function s d b) w fills = definition-finds s d b w fills

  -- ---- lists of items

  abbrev ItemsTypes : List TypedItem → Type 0
  ItemsTypes xs = AllByRecursion (ItemTypes g.good) xs

  abbrev Left : World → List TypedItem × World → Type 0
  Left w r = Longer w r.1 × (length r.1.structs ≤ g.count → Fit g w → Fit g r.1 × ItemsTypes r.0)

  abbrev Found : World → Verdict (List TypedItem × World) → Type 0
  Found w v = (r : List TypedItem × World) → v ≡ Ok r → Left w r

  abbrev items_answered : List TypedItem → World → Verdict (List TypedItem × World)
  items_answered xs w = Ok (xs, w)

  left-same : (w v : World) (xs : List TypedItem) (r : List TypedItem × World) → items_answered xs v ≡ Ok r → Left w (xs, v) → Left w r
  left-same w v xs r is left = let same : (xs, v) ≡ r = cc in subst (Left w) same left

  few-before : (w v : World) → Longer w v → length v.structs ≤ g.count → length w.structs ≤ g.count
  few-before w v longer few = let l : length w.structs ≤ length v.structs = longer in let m : length v.structs ≤ g.count = few in omega arith

  joined : (w : World) (a : TypedItem × World) (v : Verdict (List TypedItem × World))
      → Longer w a.1 × (length a.1.structs ≤ g.count → Fit g w → Fit g a.1 × ItemTypes g.good a.0) → Found a.1 v
      → (r : List TypedItem × World) → with_first a.0 v ≡ Ok r → Left w r
  joined w a (Ok b) h rest r is =
      let m = rest b refl in
      left-same w b.1 (a.0 ∷ b.0) r is (
        longer-joined w a.1 b.1 h.0 m.0,
        λ few fit. let n = h.1 (few-before a.1 b.1 m.0 few) fit in let l = m.1 few n.0 in (l.0, (n.1, l.1)),
      )
  joined w a (Err e) h rest r is = cc

  numbered : (w : World) (n : ℕ) → Fit g w → Fit g (record w { item = n })
  numbered w n fit = record { scopes = fit.scopes; functions = fit.functions; structs = fit.structs; locals = fit.locals; few = fit.few }

  behind_item : (w : World) (n : ℕ) (o : Outcome (TypedItem × World)) (rest : World → Verdict (List TypedItem × World))
      → Goes g (Unit {0}) (record w { item = n }) o (ItemTypes g.good) → ((v : World) → Found v (rest v)) → Found w (items_behind rest (at_item n o))
  behind_item w n (Ok a) rest goes later = λ r is.
      let h = goes.found a refl in
      joined w a (rest a.1) (h.0, λ few fit. h.1 few tt (numbered w n fit)) (later a.1) r is
  behind_item w n (Err e) rest goes later = λ r is. cc

  items-found : (n : ℕ) (is : List Item) (w : World) → (g.free || list_all item_fills is) ≡ true → Found w (typed_items n is w)
  items-found n [] w fills = λ r is. left-same w w [] r is (longer-same w, λ few fit. (fit, tt))
  items-found n (i ∷ is) w fills =
      let both = free-both g.free (item_fills i) (list_all item_fills is) fills in
      behind_item w n (typed_item i (record w { item = n })) (typed_items (suc n) is) (item-finds i (record w { item = n }) both.0) (λ v. items-found (suc n) is v both.1)

  -- ---- sources

  start : Fit g empty
  start = record { scopes = (tt, tt); functions = tt; structs = tt; locals = tt; few = omega arith }

  -- what holds of its items and of its structs
  pub record Passing (t : Typed) : Type 0 where
    pub items : SourceTypes g.good t
    pub structs : StructsFine g t.structs
    pub few : length t.structs ≤ most_tags

  abbrev Passes : Typed → Type 0
  Passes t = length t.structs ≤ g.count → Passing t

  main-found : (n : ℕ) (xs : List TypedItem) (w : World) (has_main : Bool) (r : Rule) → Left empty (xs, w) → (t : Typed)
      → (let v : Verdict Typed = if has_main then Ok (record { items = xs; structs = w.structs; strings = w.strings }) else Err (n, r) in v) ≡ Ok t → Passes t
  main-found n xs w true r left t is =
      let same : record { items = xs; structs = w.structs; strings = w.strings } ≡ t = cc in
      subst Passes same (λ counted. let h = left.1 counted start in record { items = h.1; structs = h.0.structs; few = h.0.few })
  main-found n xs w false r left t is = cc

  finished-found : (n : ℕ) (xs : List TypedItem) (w : World) (o : Option ℕ) → Left empty (xs, w) → (t : Typed) → finished_by n xs w o ≡ Ok t → Passes t
  finished-found n xs w (Some first) left t is = cc
  finished-found n xs w None left t is = main-found n xs w _ _ left t is

  all-found : (n : ℕ) (v : Verdict (List TypedItem × World)) → Found empty v → (t : Typed) → finished_behind n v ≡ Ok t → Passes t
  all-found n (Ok r) found t is = finished-found n r.0 r.1 (undefined_use r.1.functions) (found r refl) t is
  all-found n (Err e) found t is = cc

  -- each type of a source's typed form passes
  pub source-passes : (s : Source) (t : Typed) → typed_source s ≡ Ok t → (g.free || is_filled s) ≡ true → Passes t
  unfolding typed_source
  source-passes s t is fills = all-found (length s.items) (typed_items 0 s.items empty) (items-found 0 s.items empty fills) t is
