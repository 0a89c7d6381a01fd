-- The walk of items finds what meets its rows, and so does that of a whole source.
use Rattle.std.proofs.Common.{◌≡◌, ◌∙◌, ℕ, suc, Bool, true, false, not, ◌&&◌, if◌then◌else◌, List, [], ◌∷◌, ◌++◌, length, map, codes, slice_get, Option, Some, None, Ok, Err, refl, ap, sym, subst, append_assoc, le_refl}
use Rattle.std.proofs.lemmas.List.{append-nil}
use Rattle.std.specs.List.{AllByRecursion}
use Rattle.std.specs.Str.{bytes_eq}
use Rattle.c_layers.specs.declared.layer.Shape.{Shape}
use Rattle.c_layers.specs.Shapes.{results_fit, shaped, whole_of}
use Rattle.c_types.specs.declared.ty.FnTy.{FnTy}
use Rattle.c_types.specs.declared.ty.Ty.{Ty}
use Rattle.c_types.specs.Theorems.{SameIsEquality, TablesGrow, UnitsStay}
use Rattle.c_tree.specs.declared.expression.Declarator.{Declarator}
use Rattle.c_tree.specs.declared.expression.Spec.{Spec}
use Rattle.c_tree.specs.declared.statement.Block.{Block}
use Rattle.c_tree.specs.declared.statement.Decl.{Decl}
use Rattle.c_tree.specs.declared.statement.Item.{Item}
use Rattle.c_tree.specs.declared.statement.Item.TheVariants as raw_item
use Rattle.c_tree.specs.declared.statement.Unit.{Unit as Source}
use Rattle.c_typed.specs.declared.unit.Local.{Local}
use Rattle.c_typed.specs.declared.unit.Typed.{Typed}
use Rattle.c_typed.specs.declared.unit.TypedItem.{TypedItem}
use Rattle.c_typed.specs.declared.unit.TypedItem.TheVariants as item
use Rattle.c_scope.specs.declared.rule.Rule.{Rule}
use Rattle.c_scope.specs.declared.rule.Rule.TheVariants as broken
use Rattle.c_scope.specs.declared.world.KnownFunction.{KnownFunction}
use Rattle.c_scope.specs.declared.world.World.{World}
use Rattle.c_scope.specs.BuiltIns.{Name}
use Rattle.c_scope.specs.Declarations.{is_free}
use Rattle.c_scope.specs.Definitions.{is_main, is_main_type, undefined_use}
use Rattle.c_scope.specs.Scopes.{empty, known_function}
use Rattle.c_scope.specs.Walk.{Outcome, Walk, ◌>>=◌, each, pure}
use Rattle.c_declarator_rules.specs.declared.declarators.LayeredDeclarator.{LayeredDeclarator}
use Rattle.c_expr_typing.specs.Trees.{typed_declarator, typed_spec}
use Rattle.c_declaration_typing.specs.Declarations.{declare_type, named_type, shaped_name, typed_decl, typed_type}
use Rattle.c_typing.specs.Functions.{typed_function}
use Rattle.c_typing.specs.Sources.{Verdict, at_item, finished_behind, finished_by, function_item, items_behind, typed_item, typed_items, typed_source, typedef_item, with_first}
use Rattle.c_typed_rows.specs.Contexts.{Context, Signature}
use Rattle.c_typed_rows.specs.Expressions.{IsTypedDeclared, IsTypedSpec}
use Rattle.c_typed_rows.specs.Sources.{Global, HasMain, IsTyped, IsTypedItem, are_numbered, declared_globals, definitions, file_context, globals, signature}
use Rattle.c_typing_laws.specs.Worlds.{AreFirst, Below, IsFile, defined_by}
use Rattle.c_typing_laws.specs.inner.Goes.{Goes, ends, finds, ruled, weaker}
use Rattle.c_typing_laws.specs.inner.TypedTrees.{IsTypedDeclarator}
use Rattle.c_typing_laws.proofs.Conjunctions.{both}
use Rattle.c_typing_laws.proofs.DeclarationsMeetRows as locals
use Rattle.c_typing_laws.proofs.FileDeclarationsMeetRows as file
use Rattle.c_typing_laws.proofs.FileDeclarationsMeetRows.{FileGoes, FileStays, decl-file, ends_file, first-behind, numbered-joined, of_defining, of_naming, of_quiet, types-regroup, types_of}
use Rattle.c_typing_laws.proofs.FoundSteps.{ended, split}
use Rattle.c_typing_laws.proofs.FunctionsMeetRows as functions
use Rattle.c_typing_laws.proofs.FunctionsMeetRows.{function-found}
use Rattle.c_typing_laws.proofs.TypedParts as parts
use Rattle.c_typing_laws.proofs.WalksMeetRows.{declarator-meets, spec-meets}
use Rattle.c_typing_laws.proofs.WorldSteps.{quiet}

-- ---- items

-- the global variables that an item declares
abbrev item_globals : TypedItem → List Global
item_globals (item.Decl d) = declared_globals d.declarators
item_globals _ = []

-- `globals` by the first item
by_first : (x : TypedItem) (xs : List TypedItem) → globals (x ∷ xs) ≡ item_globals x ++ globals xs
by_first (item.Decl d) xs = refl
by_first (item.Typedef s ds) xs = refl
by_first (item.Function f) xs = refl

-- the functions that an item defines
abbrev item_signatures : TypedItem → List Signature
item_signatures (item.Function f) = signature f ∷ []
item_signatures _ = []

-- `definitions` by the first item
signed_by_first : (x : TypedItem) (xs : List TypedItem) → map signature (definitions (x ∷ xs)) ≡ item_signatures x ++ map signature (definitions xs)
signed_by_first (item.Decl d) xs = refl
signed_by_first (item.Typedef s ds) xs = refl
signed_by_first (item.Function f) xs = refl

-- ---- behind the last item

undefined_none : (b : Bool) (n : ℕ) (o : Option ℕ) → (if b then Some n else o) ≡ None → (b ≡ false) × (o ≡ None)
undefined_none true n o is = cc
undefined_none false n o is = (refl, is)

defined_flag : (u d : Bool) → (u && not d) ≡ false → u ≡ true → d ≡ true
defined_flag true true is used = refl
defined_flag true false is used = cc
defined_flag false d is used = cc

defined_if : (f : KnownFunction) (d : Bool) → d ≡ true → (if d then Some f.ty else None) ≡ Some f.ty
defined_if f true is = refl
defined_if f false is = cc

first_used : (j : KnownFunction) (o : Option KnownFunction) (f : KnownFunction) (named : Bool) → (j.is_used && not j.is_defined) ≡ false
    → (o ≡ Some f → f.is_used ≡ true → f.is_defined ≡ true)
    → (if named then Some j else o) ≡ Some f → f.is_used ≡ true → f.is_defined ≡ true
first_used j o f true fine rest is used =
    let same : j ≡ f = cc in
    ap (λ g. g.is_defined) (sym same) ∙ defined_flag j.is_used j.is_defined fine (ap (λ g. g.is_used) same ∙ used)
first_used j o f false fine rest is used = rest is used

-- a function that is used is defined
used-are_defined : (ks : List KnownFunction) (x : Name) (f : KnownFunction) → undefined_use ks ≡ None → known_function ks x ≡ Some f → f.is_used ≡ true → f.is_defined ≡ true
used-are_defined [] x f none is used = cc
used-are_defined (j ∷ js) x f none is used =
    let h = undefined_none (j.is_used && not j.is_defined) j.first (undefined_use js) none in
    first_used j (known_function js x) f (bytes_eq j.name x) h.0 (used-are_defined js x f h.1) is used

no_local : (ls : List Local) → map (λ l. l.ty) ls ≡ [] → (P : Type 0) (n : ℕ) (l : Local) → slice_get ls n ≡ Some l → P
no_local [] none P n l is = cc
no_local (m ∷ ls) none P n l is = cc

-- the context of a whole source has all that is known behind its last item
whole-below : (xs : List TypedItem) (w : World) → IsFile ([] ++ types_of (globals xs)) ([] ++ map signature (definitions xs)) w → undefined_use w.functions ≡ None
    → Below (file_context (record { items = xs; structs = w.structs; strings = w.strings })) w
unfolding file_context
whole-below xs w at none = record {
  structs = record { longer = le_refl (length w.structs); bodies = λ s ms is. is };
  functions = λ x f is used.
      sym (at.defined x) ∙ ap defined_by is ∙ defined_if f f.is_defined (used-are_defined w.functions x f none is used);
  strings = λ n bytes is. is;
  locals = λ n l is. no_local w.locals at.no_local _ n l is;
}

main_by : (o : Option KnownFunction) → is_main o ≡ true → (f : FnTy) × ((defined_by o ≡ Some f) × (is_main_type f ≡ true))
main_by None is = cc
main_by (Some k) is = let h = both k.is_defined (is_main_type k.ty) is in (k.ty, (defined_if k k.is_defined h.0, h.1))

main-defined : (xs : List TypedItem) (w : World) → IsFile ([] ++ types_of (globals xs)) ([] ++ map signature (definitions xs)) w
    → is_main (known_function w.functions (codes "main")) ≡ true → HasMain (file_context (record { items = xs; structs = w.structs; strings = w.strings }))
unfolding file_context
main-defined xs w at is =
    let h = main_by (known_function w.functions (codes "main")) is in
    record { ty = h.0; defined = sym (at.defined (codes "main")) ∙ h.1.0; main = h.1.1 }

module _ (fs : List Signature) where
  each_stays : {A T : Type 0} {Q : Context → A → Type 0} (gs : List Ty) (p : T → Walk A) → ((t : T) (w : World) → FileStays fs gs w (p t w) Q)
      → (ts : List T) (w : World) → FileStays fs gs w (each (map p ts) w) (λ k. AllByRecursion (Q k))
  each_stays gs p stays [] w = of_quiet fs gs w _ (λ k first. ends k gs (λ below. tt))
  each_stays {Q = Q} gs p stays (t ∷ ts) w = functions.behind fs {P = Q} gs w (p t w) _ (stays t w) (λ x v at.
      functions.behind fs {P = λ k. AllByRecursion (Q k)} gs v (each (map p ts) v) _ (each_stays gs p stays ts v) (λ xs u there.
      of_quiet fs gs u _ (λ k first. ends k gs (λ below hxs hx. (hx, hxs)))))

module _ (stay : UnitsStay) (grow : TablesGrow) (law : SameIsEquality) where
  named-goes : (k : Context) (gs : List Ty) (x : Name) (s : Shape) (fits : Bool) (w : World) → Goes k gs quiet w (named_type x s fits w) (λ t. Unit {0})
  unfolding named_type
  named-goes k gs x s fits w = ruled k gs broken.Redeclared (is_free w x) _ (λ free. finds k gs broken.Unsized (whole_of s) _ (λ t is. ruled k gs broken.Form fits _ (λ form. ends k gs (λ below. tt))))

  name-file : (fs : List Signature) (gs : List Ty) (base : Ty) (d : LayeredDeclarator) (w : World) → FileStays fs gs w (declare_type base d w) (λ k t. Unit {0})
  name-file fs gs base d w = functions.behind fs {P = λ k t. Unit {0}} gs w (shaped_name base d w) _
      (of_quiet fs gs w (shaped_name base d w) (λ k first. named-goes k gs d.name (shaped w.structs base d.layers) (results_fit w.structs base d.layers) w))
      (λ t v at. of_naming fs gs v _ (λ k first. weaker k gs _ (λ a h any. tt) (locals.bind_type-goes stay grow k gs first d.name t v)))

  type-file : (fs : List Signature) (gs : List Ty) (base : Ty) (d : Declarator) (w : World) → FileStays fs gs w (typed_type base d w) (λ k. IsTypedDeclared k)
  unfolding typed_type
  type-file fs gs base d w = functions.behind fs {P = λ k x. IsTypedDeclarator k x.tree} gs w (typed_declarator d w) _
      (of_quiet fs gs w (typed_declarator d w) (λ k first. declarator-meets stay grow k gs first d w)) (λ x v at.
      functions.behind fs {P = λ k t. Unit {0}} gs v (declare_type base x v) _ (name-file fs gs base x v) (λ t u there.
      of_quiet fs gs u _ (λ k first. ends k gs (λ below any hx. parts.declared-made k x.tree t hx))))

  spec-file : (fs : List Signature) (gs : List Ty) (s : Spec) (w : World) → FileStays fs gs w (typed_spec s true w) (λ k base. IsTypedSpec k base.0)
  spec-file fs gs s w = of_defining fs gs w (typed_spec s true w) (λ k first. (spec-meets stay grow k gs first s).1 w)

  typedef-file : (fs : List Signature) (gs : List Ty) (s : Spec) (ds : List Declarator) (w : World) → FileGoes fs gs w (typedef_item s ds w) item_globals IsTypedItem
  typedef-file fs gs s ds w = file.behind fs {P = λ k base. IsTypedSpec k base.0} gs w (typed_spec s true w) _ (spec-file fs gs s w) (λ base v.
      file.behind fs {P = λ k. AllByRecursion (IsTypedDeclared k)} gs v (each (map (typed_type base.1) ds) v) _ (each_stays fs gs (typed_type base.1) (type-file fs gs base.1) ds v) (λ xs u.
      ends_file fs gs (item.Typedef base.0 xs) u refl (λ k first below hxs hb. (hb, hxs))))

  decl_item-file : (fs : List Signature) (gs : List Ty) (d : Decl) (w : World) → FileGoes fs gs w ((typed_decl true d >>= (λ x. pure (item.Decl x))) w) item_globals IsTypedItem
  decl_item-file fs gs d w = file.mapped fs gs w (typed_decl true d w) (λ x. item.Decl x) (λ x. refl) (λ k x h. h) (decl-file fs stay grow gs d w)

  -- what an item leaves, behind these global variables and definitions
  abbrev FirstLeft : List Ty → List Signature → World → TypedItem × World → Type 0
  FirstLeft gs fs w a = IsFile (gs ++ types_of (item_globals a.0)) (fs ++ item_signatures a.0) a.1 × are_numbered (length gs) (item_globals a.0)
      × ((k : Context) → AreFirst k (gs ++ types_of (item_globals a.0)) → Below k a.1 → Below k w × IsTypedItem k a.0)

  none-defined : (gs : List Ty) (fs : List Signature) (w : World) (o : Outcome (TypedItem × World)) → FileGoes fs gs w o item_globals IsTypedItem
      → (a : TypedItem × World) → o ≡ Ok a → item_signatures a.0 ≡ [] → IsFile gs fs w → FirstLeft gs fs w a
  none-defined gs fs w o goes a is none at =
      let h = goes.found a is at in
      (subst (λ ss. IsFile (gs ++ types_of (item_globals a.0)) (fs ++ ss) a.1) (sym none) (subst (λ ss. IsFile (gs ++ types_of (item_globals a.0)) ss a.1) (sym (append-nil fs)) h.0), h.1, h.2)

  decl-defines : (d : Decl) (w : World) (a : TypedItem × World) → (typed_decl true d >>= (λ x. pure (item.Decl x))) w ≡ Ok a → item_signatures a.0 ≡ []
  decl-defines d w a is =
      let b = split (typed_decl true d w) _ a is in
      sym (ap (λ (s : TypedItem × World). item_signatures s.0) (ended (item.Decl b.0.0) b.0.1 a b.1.1))

  typedef-defines : (s : Spec) (ds : List Declarator) (w : World) (a : TypedItem × World) → typedef_item s ds w ≡ Ok a → item_signatures a.0 ≡ []
  typedef-defines s ds w a is =
      let b = split (typed_spec s true w) _ a is in
      let c = split (each (map (typed_type b.0.0.1) ds) b.0.1) _ a b.1.1 in
      sym (ap (λ (s : TypedItem × World). item_signatures s.0) (ended (item.Typedef b.0.0.0 c.0.0) c.0.1 a c.1.1))

  function-left : (gs : List Ty) (fs : List Signature) (s : Spec) (d : Declarator) (b : Block) (w : World) (a : TypedItem × World) → function_item s d b w ≡ Ok a
      → IsFile gs fs w → FirstLeft gs fs w a
  function-left gs fs s d b w a is at =
      let c = split (typed_spec s true w) _ a is in
      let h = (spec-file fs gs s w).found c.0 c.1.0 at in
      let f = split (typed_function c.0.0.0 c.0.0.1 d b c.0.1) _ a c.1.1 in
      let g = function-found stay grow law fs gs c.0.0.0 c.0.0.1 d b c.0.1 h.0 f.0 f.1.0 in
      subst (FirstLeft gs fs w) (ended (item.Function f.0.0) f.0.1 a f.1.1) (
        subst (λ hs. IsFile hs (fs ++ signature f.0.0 ∷ []) f.0.1) (sym (append-nil gs)) g.file,
        tt,
        λ k ahead below.
            let first = subst (AreFirst k) (append-nil gs) ahead in
            let m = g.rows k first below in
            let n = h.1 k first m.0 in
            (n.0, m.1 (subst (IsTypedSpec k) (sym g.spec) n.1)),
      )

  item-left : (gs : List Ty) (fs : List Signature) (i : Item) (w : World) (a : TypedItem × World) → typed_item i w ≡ Ok a → IsFile gs fs w → FirstLeft gs fs w a
  unfolding typed_item
  item-left gs fs (raw_item.Decl d) w a is at = none-defined gs fs w ((typed_decl true d >>= (λ x. pure (item.Decl x))) w) (decl_item-file fs gs d w) a is (decl-defines d w a is) at
  item-left gs fs (raw_item.Typedef s ds) w a is at = none-defined gs fs w (typedef_item s ds w) (typedef-file fs gs s ds w) a is (typedef-defines s ds w a is) at
  item-left gs fs (raw_item.Function s d b) w a is at = function-left gs fs s d b w a is at

  -- ---- lists of items

  abbrev Left : List Ty → List Signature → World → List TypedItem × World → Type 0
  Left gs fs w r = IsFile (gs ++ types_of (globals r.0)) (fs ++ map signature (definitions r.0)) r.1 × are_numbered (length gs) (globals r.0)
      × ((k : Context) → AreFirst k (gs ++ types_of (globals r.0)) → Below k r.1 → Below k w × AllByRecursion (IsTypedItem k) r.0)

  abbrev Found : List Ty → List Signature → World → Verdict (List TypedItem × World) → Type 0
  Found gs fs w v = (r : List TypedItem × World) → v ≡ Ok r → IsFile gs fs w → Left gs fs w r

  abbrev items_answered : List TypedItem → World → Verdict (List TypedItem × World)
  items_answered xs w = Ok (xs, w)

  left-same : (gs : List Ty) (fs : List Signature) (w v : World) (xs : List TypedItem) (r : List TypedItem × World) → items_answered xs v ≡ Ok r → Left gs fs w (xs, v) → Left gs fs w r
  left-same gs fs w v xs r is left =
      let same : (xs, v) ≡ r = cc in
      subst (Left gs fs w) same left

  joined : (gs : List Ty) (fs : List Signature) (w : World) (a : TypedItem × World) (v : Verdict (List TypedItem × World)) → FirstLeft gs fs w a
      → Found (gs ++ types_of (item_globals a.0)) (fs ++ item_signatures a.0) a.1 v
      → (r : List TypedItem × World) → with_first a.0 v ≡ Ok r → Left gs fs w r
  joined gs fs w a (Ok b) h rest r is =
      let g = rest b refl h.0 in
      let same : types_of (item_globals a.0 ++ globals b.0) ≡ types_of (globals (a.0 ∷ b.0)) = ap types_of (sym (by_first a.0 b.0)) in
      let types : (gs ++ types_of (item_globals a.0)) ++ types_of (globals b.0) ≡ gs ++ types_of (globals (a.0 ∷ b.0)) = types-regroup gs (item_globals a.0) (globals b.0) ∙ ap (λ ts. gs ++ ts) same in
      let signatures : (fs ++ item_signatures a.0) ++ map signature (definitions b.0) ≡ fs ++ map signature (definitions (a.0 ∷ b.0)) =
      append_assoc fs (item_signatures a.0) (map signature (definitions b.0)) ∙ ap (λ ss. fs ++ ss) (sym (signed_by_first a.0 b.0)) in
      left-same gs fs w b.1 (a.0 ∷ b.0) r is (
        subst (λ hs. IsFile hs (fs ++ map signature (definitions (a.0 ∷ b.0))) b.1) types (subst (λ ss. IsFile ((gs ++ types_of (item_globals a.0)) ++ types_of (globals b.0)) ss b.1) signatures g.0),
        subst (are_numbered (length gs)) (sym (by_first a.0 b.0)) (numbered-joined (length gs) _ (item_globals a.0) (globals b.0) (file.length-types gs (item_globals a.0)) h.1 g.1),
        λ k ahead below.
            let all = subst (AreFirst k) (sym types) ahead in
            let m = g.2 k all below in
            let n = h.2 k (first-behind k (gs ++ types_of (item_globals a.0)) (types_of (globals b.0)) all) m.0 in (n.0, (n.1, m.1)),
      )
  joined gs fs w a (Err e) h rest r is = cc

  at_number : (gs : List Ty) (fs : List Signature) (w : World) (n : ℕ) → IsFile gs fs w → IsFile gs fs (record w { item = n })
  at_number gs fs w n at = record { scopes = at.scopes; no_parameter = at.no_parameter; no_local = at.no_local; count = at.count; defined = at.defined; distinct = at.distinct }

  below_number : (k : Context) (w : World) (n : ℕ) → Below k (record w { item = n }) → Below k w
  below_number k w n b = record { structs = b.structs; functions = b.functions; strings = b.strings; locals = b.locals }

  behind_item : (gs : List Ty) (fs : List Signature) (w : World) (n : ℕ) (o : Outcome (TypedItem × World)) (rest : World → Verdict (List TypedItem × World))
      → ((a : TypedItem × World) → o ≡ Ok a → IsFile gs fs (record w { item = n }) → FirstLeft gs fs (record w { item = n }) a)
      → ((hs : List Ty) (ss : List Signature) (v : World) → Found hs ss v (rest v)) → Found gs fs w (items_behind rest (at_item n o))
  behind_item gs fs w n (Ok a) rest goes later = λ r is at.
      let h = goes a refl (at_number gs fs w n at) in
      joined gs fs w a (rest a.1) (h.0, h.1, λ k ahead below. let m = h.2 k ahead below in (below_number k w n m.0, m.1)) (later (gs ++ types_of (item_globals a.0)) (fs ++ item_signatures a.0) a.1) r is
  behind_item gs fs w n (Err e) rest goes later = λ r is at. cc

  items-found : (gs : List Ty) (fs : List Signature) (n : ℕ) (is : List Item) (w : World) → Found gs fs w (typed_items n is w)
  items-found gs fs n [] w = λ r is at. left-same gs fs w w [] r is (
    subst (λ hs. IsFile hs (fs ++ []) w) (sym (append-nil gs)) (subst (λ ss. IsFile gs ss w) (sym (append-nil fs)) at),
    tt,
    λ k ahead below. (below, tt),
  )
  items-found gs fs n (i ∷ is) w = behind_item gs fs w n (typed_item i (record w { item = n })) (typed_items (suc n) is) (item-left gs fs i (record w { item = n }))
      (λ hs ss v. items-found hs ss (suc n) is v)

  -- ---- sources

  start : IsFile [] [] empty
  start = record { scopes = (tt, tt); no_parameter = (tt, tt); no_local = refl; count = refl; defined = λ x. refl; distinct = refl }

  abbrev Made : List TypedItem → World → Typed
  Made xs w = record { items = xs; structs = w.structs; strings = w.strings }

  abbrev Ended : List TypedItem → World → Type 0
  Ended xs w = (undefined_use w.functions ≡ None) × (is_main (known_function w.functions (codes "main")) ≡ true)

  source-made : (xs : List TypedItem) (w : World) → Left [] [] empty (xs, w) → Ended xs w → IsTyped (Made xs w)
  unfolding file_context
  source-made xs w left end =
      let k : Context = file_context (Made xs w) in
      record {
        items = (left.2 k (λ n t is. is) (whole-below xs w left.0 end.0)).1;
        distinct = left.0.distinct;
        numbered = left.1;
        main = main-defined xs w left.0 end.1;
      }

  main-found : (n : ℕ) (xs : List TypedItem) (w : World) (has_main : Bool) (r : Rule) → Left [] [] empty (xs, w) → undefined_use w.functions ≡ None
      → is_main (known_function w.functions (codes "main")) ≡ has_main → (t : Typed)
      → (let v : Verdict Typed = if has_main then Ok (Made xs w) else Err (n, r) in v) ≡ Ok t → IsTyped t
  main-found n xs w true r left used main t is = subst IsTyped (let same : Made xs w ≡ t = cc in same) (source-made xs w left (used, main))
  main-found n xs w false r left used main t is = cc

  finished-found : (n : ℕ) (xs : List TypedItem) (w : World) (o : Option ℕ) → Left [] [] empty (xs, w) → undefined_use w.functions ≡ o → (t : Typed) → finished_by n xs w o ≡ Ok t → IsTyped t
  finished-found n xs w (Some first) left used t is = cc
  finished-found n xs w None left used t is = main-found n xs w _ _ left used refl t is

  all-found : (n : ℕ) (v : Verdict (List TypedItem × World)) → Found [] [] empty v → (t : Typed) → finished_behind n v ≡ Ok t → IsTyped t
  all-found n (Ok r) found t is = finished-found n r.0 r.1 (undefined_use r.1.functions) (found r refl start) refl t is
  all-found n (Err e) found t is = cc

  pub source-meets : (s : Source) (t : Typed) → typed_source s ≡ Ok t → IsTyped t
  unfolding typed_source
  source-meets s t is = all-found (length s.items) (typed_items 0 s.items empty) (items-found [] [] 0 s.items empty) t is
