-- The walk of a function's definition finds a block that meets its rows, in a context of the function's own variables.
use Rattle.std.proofs.Common.{◌≡◌, ◌∙◌, ℕ, Bool, true, false, not, ◌&&◌, if◌then◌else◌, List, [], ◌∷◌, ◌++◌, map, length, take, Option, Some, None, is_some, slice_get, Ok, Err, refl, ap, sym, subst, append_assoc, unwrap_or}
use Rattle.std.specs.Str.{bytes_eq}
use Rattle.std.proofs.lemmas.List.{append-nil}
use Rattle.std.specs.List.{AllByRecursion, list_all}
use Rattle.c_layers.specs.declared.layer.Layer.{Layer}
use Rattle.c_layers.specs.declared.layer.Layer.TheVariants as layer
use Rattle.c_layers.specs.declared.layer.Parameter.{Parameter}
use Rattle.c_layers.specs.declared.layer.Shape.TheVariants as shape
use Rattle.c_layers.specs.Shapes.{results_fit, shaped}
use Rattle.c_types.specs.declared.ty.FnTy.{FnTy, out-FnTy}
use Rattle.c_types.specs.declared.ty.Ty.{Ty}
use Rattle.c_types.specs.declared.ty.Ty.TheVariants as ty
use Rattle.c_types.specs.Kinds.{function_of, is_scalar}
use Rattle.c_types.specs.Theorems.{SameIsEquality, TablesGrow, UnitsStay}
use Rattle.c_types.specs.Units.{has_units}
use Rattle.c_tree.specs.declared.expression.Declarator.{Declarator}
use Rattle.c_tree.specs.declared.statement.Block.{Block}
use Rattle.c_typed.specs.declared.entity.Entity.TheVariants as entity
use Rattle.c_typed.specs.declared.expression.Declared.{out-Declared}
use Rattle.c_typed.specs.declared.expression.TypedSpec.{TypedSpec}
use Rattle.c_typed.specs.declared.statement.TypedBlock.{TypedBlock}
use Rattle.c_typed.specs.declared.unit.Local.{Local}
use Rattle.c_typed.specs.declared.unit.TypedFn.{TypedFn}
use Rattle.c_scope.specs.declared.scopes.Meaning.TheVariants as means
use Rattle.c_scope.specs.declared.world.KnownFunction.{KnownFunction}
use Rattle.c_scope.specs.declared.world.World.{World}
use Rattle.c_scope.specs.BuiltIns.{Name}
use Rattle.c_scope.specs.Definitions.{all_named, bind_parameters, declare_function, declare_variable, mark_defined, marked, may_be_defined, own_parameter, own_parameters}
use Rattle.c_scope.specs.Scopes.{bind, bound_in, enter, known_function, leave, outer, with_function}
use Rattle.c_scope.specs.Walk.{Outcome, Walk, ◌>>=◌, ◌>>◌, and_then, pure}
use Rattle.c_declarator_rules.specs.declared.declarators.LayeredDeclarator.{LayeredDeclarator}
use Rattle.c_declarator_rules.specs.Rules.{declared}
use Rattle.c_expr_typing.specs.Trees.{typed_declarator}
use Rattle.c_typing.specs.Functions.{bind_own, bind_own_by, define_function, function_body, function_parts, is_definition, shaped_function, take_locals, typed_function}
use Rattle.c_typing.specs.Statements.{typed_block}
use Rattle.c_typed_rows.specs.Contexts.{Context, Signature, defined_as}
use Rattle.c_typed_rows.specs.Expressions.{IsTypedSpec}
use Rattle.c_typed_rows.specs.Sources.{IsFunctionType, IsTypedFn, name_of, no_type, signature}
use Rattle.c_typed_rows.specs.Statements.{IsTypedBlock, jumps_out}
use Rattle.c_typing_laws.specs.Worlds.{AreFirst, Below, HaveNoParameter, IsFile, LocalStands, ScopesFit, local_types}
use Rattle.c_typing_laws.specs.inner.Goes.{Goes, after, ends, weaker}
use Rattle.c_typing_laws.specs.inner.TypedTrees.{IsTypedDeclarator}
use Rattle.c_typing_laws.proofs.Conjunctions.{both, both_true}
use Rattle.c_typing_laws.proofs.DeclarationsMeetRows as locals
use Rattle.c_typing_laws.proofs.DeclarationsMeetRows.{HaveUnits, declared-ty, naming, types-wider, units-stay, widening}
use Rattle.c_typing_laws.proofs.DeclaredNames.{declared-name}
use Rattle.c_typing_laws.proofs.DefinedFunctions.{IsKnown, MayBe, With, declared-known, distinct-more, function-is, marked-defined, may-be, one-more, type-found}
use Rattle.c_typing_laws.proofs.FoundSteps.{ended, ended_world, split}
use Rattle.c_typing_laws.proofs.FunctionTypes.{IsDefinitionType, definition-type, own_types, params-first}
use Rattle.c_typing_laws.proofs.JumpsInside.{jumps-inside}
use Rattle.c_typing_laws.proofs.ScalarParameters.{IsScalarParameter, LayersScalar, layers-scalar, scalar-units}
use Rattle.c_typing_laws.proofs.FileDeclarationsMeetRows.{FileStays, are-first, of_naming, of_quiet, with_globals}
use Rattle.c_typing_laws.proofs.StatementsMeetRows.{block-meets}
use Rattle.c_typing_laws.proofs.TypedParts as parts
use Rattle.c_typing_laws.proofs.WalksMeetRows.{declarator-meets}

-- ---- the mark that a function is defined

abbrev MarkedAs : KnownFunction → Option KnownFunction → Type 0
MarkedAs f None = ⊥
MarkedAs f (Some g) = (g.ty ≡ f.ty) × (f.is_used ≡ true → g.is_used ≡ true)

marked_here : (j : KnownFunction) (js : List KnownFunction) (y : Name) (f : KnownFunction) (named : Bool)
    → (if named then Some j else known_function js y) ≡ Some f → MarkedAs f (if named then Some (marked false true j) else known_function js y)
unfolding marked
marked_here j js y f true is = let same : j ≡ f = cc in (ap (λ g. g.ty) same, λ used. ap (λ g. g.is_used) same ∙ used)
marked_here j js y f false is = subst (MarkedAs f) (sym is) (refl, λ used. used)

marked_later : (j : KnownFunction) (js changed : List KnownFunction) (y : Name) (f : KnownFunction) (named : Bool)
    → (known_function js y ≡ Some f → MarkedAs f (known_function changed y))
    → (if named then Some j else known_function js y) ≡ Some f → MarkedAs f (if named then Some j else known_function changed y)
marked_later j js changed y f true rest is = subst (MarkedAs f) (sym is) (refl, λ used. used)
marked_later j js changed y f false rest is = rest is

with_marked : (here : Bool) (j : KnownFunction) (js changed : List KnownFunction) (y : Name) (f : KnownFunction)
    → (known_function js y ≡ Some f → MarkedAs f (known_function changed y))
    → known_function (j ∷ js) y ≡ Some f
    → MarkedAs f (known_function (if here then marked false true j ∷ js else j ∷ changed) y)
unfolding marked
with_marked true j js changed y f rest is = marked_here j js y f (bytes_eq j.name y) is
with_marked false j js changed y f rest is = marked_later j js changed y f (bytes_eq j.name y) rest is

used-stays : (ks : List KnownFunction) (x y : Name) (f : KnownFunction) → known_function ks y ≡ Some f → MarkedAs f (known_function (with_function (marked false true) ks x) y)
used-stays [] x y f is = cc
used-stays (j ∷ js) x y f is = with_marked (bytes_eq j.name x) j js (with_function (marked false true) js x) y f (used-stays js x y f) is

used_functions : (k : Context) (v : World) (y : Name) (f : KnownFunction) (o : Option KnownFunction) → known_function v.functions y ≡ o → MarkedAs f o → Below k v
    → f.is_used ≡ true → defined_as k.functions y ≡ Some f.ty
used_functions k v y f None is marked_so b used = absurd marked_so
used_functions k v y f (Some g) is marked_so b used = b.functions y g is (marked_so.1 used) ∙ ap Some marked_so.0

-- where there are no locals nothing is known of them
no_local : (ls : List Local) → map (λ l. l.ty) ls ≡ [] → (P : Type 0) (n : ℕ) (l : Local) → slice_get ls n ≡ Some l → P
no_local [] none P n l is = cc
no_local (m ∷ ls) none P n l is = cc

below-defined : (k : Context) (w : World) (x : Name) → local_types w ≡ [] → Below k (record w { functions = with_function (marked false true) w.functions x; locals = [] }) → Below k w
below-defined k w x none b = record {
  structs = b.structs;
  functions = λ y f is used. used_functions k (record w { functions = with_function (marked false true) w.functions x; locals = [] }) y f _ refl (used-stays w.functions x y f is) b used;
  strings = b.strings;
  locals = λ n l is. no_local w.locals none _ n l is;
}

-- ---- what is left

module _ (fs : List Signature) where
  abbrev answered : {A : Type 0} → A → World → Outcome (A × World)
  answered a w = Ok (a, w)

  abbrev Stays : {A : Type 0} → List Ty → World → (Context → A → Type 0) → A × World → Type 0
  Stays gs w Q r = IsFile gs fs r.1 × ((k : Context) → AreFirst k gs → Below k r.1 → Below k w × Q k r.0)

  stays-same : {A : Type 0} (gs : List Ty) (w v : World) (Q : Context → A → Type 0) (a : A) (r : A × World) → answered a v ≡ Ok r → Stays gs w Q (a, v) → Stays gs w Q r
  stays-same gs w v Q a r is stays =
      let same : (a, v) ≡ r = cc in
      subst (Stays gs w Q) same stays

  pub behind : {A B : Type 0} {P : Context → A → Type 0} {Q : Context → B → Type 0} (gs : List Ty) (w : World) (o : Outcome (A × World)) (f : A → Walk B)
      → FileStays fs gs w o P → ((a : A) (v : World) → IsFile gs fs v → FileStays fs gs v (f a v) (λ k b. P k a → Q k b)) → FileStays fs gs w (and_then o f) Q
  behind gs w (Ok a) f first rest = record {
    found = λ r is file.
        let h = first.found a refl file in
        let g = (rest a.0 a.1 h.0).found r is h.0 in
        (g.0, λ k ahead below. let m = g.1 k ahead below in let n = h.1 k ahead m.0 in (n.0, m.1 n.1));
  }
  behind gs w (Err e) f first rest = record { found = λ r is. cc }

  weaken : {A : Type 0} {P Q : Context → A → Type 0} (gs : List Ty) (w : World) (o : Outcome (A × World)) → ((k : Context) (a : A) → P k a → Q k a) → FileStays fs gs w o P → FileStays fs gs w o Q
  weaken gs w o less stays = record { found = λ r is file. let h = stays.found r is file in (h.0, λ k ahead below. let m = h.1 k ahead below in (m.0, less k r.0 m.1)) }

units-listed : (k : Context) (ls : List Local) → HaveUnits k.structs (map (λ l. l.ty) ls) → list_all (λ l. has_units k.structs l.ty) ls ≡ true
units-listed k [] all = refl
units-listed k (l ∷ ls) all = both_true (has_units k.structs l.ty) (list_all (λ l. has_units k.structs l.ty) ls) all.0 (units-listed k ls all.1)

-- ---- the parameters of a definition

-- the parameters of the list at the name are scalars
abbrev OwnScalar : Option (List Parameter) → Type 0
OwnScalar None = Unit {0}
OwnScalar (Some ps) = AllByRecursion IsScalarParameter ps

own-scalar : (layers : List Layer) → LayersScalar layers → OwnScalar (own_parameters layers)
own-scalar [] scalar = tt
own-scalar (layer.Function ps ∷ ls) scalar = scalar.0
own-scalar (layer.Array n ∷ ls) scalar = tt
own-scalar (layer.Pointers n ∷ ls) scalar = tt

own-found : (p : Parameter) (o : Option Name) (w : World) (r : Unit {0} × World) → own_parameter p o w ≡ Ok r → is_some o ≡ true → local_types r.1 ≡ local_types w ++ p.ty ∷ []
unfolding declare_variable bind
own-found p None w r is named = cc
own-found p (Some x) w r is named =
    let l : Local = record { name = x; ty = p.ty; is_addressed = false } in
    sym (ap local_types (ended_world tt (record w { locals = w.locals ++ l ∷ []; scopes = bound_in w.scopes x (means.Variable (entity.Local (length w.locals)) p.ty) }) r is)) ∙ types-wider w.locals l

params-found : (ps : List Parameter) (w : World) (r : Unit {0} × World) → bind_parameters ps w ≡ Ok r → all_named ps ≡ true → local_types r.1 ≡ local_types w ++ map (λ p. p.ty) ps
params-found [] w r is named = sym (ap local_types (ended_world tt w r is)) ∙ sym (append-nil (local_types w))
params-found (p ∷ ps) w r is named =
    let a = split (own_parameter p p.name w) _ r is in
    let h = both (is_some p.name) (all_named ps) named in
    params-found ps a.0.1 r a.1.1 h.1 ∙ ap (λ ts. ts ++ map (λ p. p.ty) ps) (own-found p p.name w a.0 a.1.0 h.0) ∙ append_assoc (local_types w) (p.ty ∷ []) (map (λ p. p.ty) ps)

own_locals-found : (layers : List Layer) (w : World) (r : Unit {0} × World) → bind_own layers w ≡ Ok r → is_definition layers ≡ true → local_types r.1 ≡ local_types w ++ own_types layers
unfolding is_definition
own_locals-found [] w r is named = cc
own_locals-found (layer.Function ps ∷ ls) w r is named = params-found ps w r is named
own_locals-found (layer.Array n ∷ ls) w r is named = cc
own_locals-found (layer.Pointers n ∷ ls) w r is named = cc

module _ (stay : UnitsStay) (grow : TablesGrow) where
  -- ---- bodies

  module _ (k : Context) (gs : List Ty) (first : AreFirst k gs) where
    parameter-goes : (p : Parameter) (o : Option Name) (w : World) → is_scalar p.ty ≡ true → Goes k gs widening w (own_parameter p o w) (λ u. Unit {0})
    parameter-goes p None w scalar = ends k gs (λ below. tt)
    parameter-goes p (Some x) w scalar = after k gs _ _ (locals.variable-goes stay grow k gs first x p.ty w (scalar-units w.structs p.ty scalar)) (λ e v q. ends k gs (λ below any. tt))

    parameters-go : (ps : List Parameter) (w : World) → AllByRecursion IsScalarParameter ps → Goes k gs widening w (bind_parameters ps w) (λ u. Unit {0})
    parameters-go [] w scalar = ends k gs (λ below. tt)
    parameters-go (p ∷ ps) w scalar = after k gs _ _ (parameter-goes p p.name w scalar.0) (λ u v q. weaker k gs _ (λ s h any. tt) (parameters-go ps v scalar.1))

    own-by : (o : Option (List Parameter)) (w : World) → OwnScalar o → Goes k gs widening w (bind_own_by o w) (λ u. Unit {0})
    own-by None w scalar = ends k gs (λ below. tt)
    own-by (Some ps) w scalar = parameters-go ps w scalar

    scope-goes : (layers : List Layer) (b : Block) (w : World) → OwnScalar (own_parameters layers) → HaveNoParameter w.scopes → Goes k gs widening w ((bind_own layers >> typed_block k.result b false) w) (IsTypedBlock k)
    scope-goes layers b w scalar clean = after k gs _ _ (own-by (own_parameters layers) w scalar) (λ u v q.
        weaker k gs _ (λ x h any. h) (block-meets stay grow k gs first k.result refl b false v (q.clean clean)))

  -- the context of a function with these variables
  abbrev inside : Context → FnTy → List Local → Context
  inside k f ls = record k { locals = ls; result = (out-FnTy f).result }

  stands : (ls : List Local) (n : ℕ) (l : Local) → slice_get ls n ≡ Some l → LocalStands l (slice_get ls n)
  stands ls n l is = subst (LocalStands l) (sym is) (refl, λ was. was)

  -- the variables begin with the parameters and have units, and the block meets its rows in their context
  record BodyRows (layers : List Layer) (f : FnTy) (k : Context) (g : FnTy × List Local × TypedBlock) : Type 0 where
    pub same : g.0 ≡ f
    pub block : IsTypedBlock (inside k f g.1) g.2
    pub locals : (more : List Ty) × (map (λ l. l.ty) g.1 ≡ own_types layers ++ more)
    pub units : HaveUnits k.structs (map (λ l. l.ty) g.1)
    pub jumps : jumps_out g.2 ≡ false

  -- the types of the variables of a body, from those of its parameters
  body-locals : (gs : List Ty) (f : FnTy) (layers : List Layer) (b : Block) (w : World) (a : TypedBlock × World) → OwnScalar (own_parameters layers) → is_definition layers ≡ true
      → HaveNoParameter w.scopes → ScopesFit gs (local_types w) w.scopes → local_types w ≡ []
      → (bind_own layers >> typed_block (out-FnTy f).result b false) w ≡ Ok a
      → (more : List Ty) × (local_types a.1 ≡ own_types layers ++ more)
  body-locals gs f layers b w a scalar named clean sound none is =
      let k : Context = inside (with_globals gs) f a.1.locals in
      let c = split (bind_own layers w) _ a is in
      let first = (own-by k gs (are-first gs) (own_parameters layers) w scalar).found c.0 c.1.0 sound in
      let rest = (block-meets stay grow k gs (are-first gs) (out-FnTy f).result refl b false c.0.1 (first.0.clean clean)).found a c.1.1 first.1 in
      let own : local_types c.0.1 ≡ own_types layers = own_locals-found layers w c.0 c.1.0 named ∙ ap (λ ts. ts ++ own_types layers) none in
      (rest.0.locals.0, rest.0.locals.1 ∙ ap (λ ts. ts ++ rest.0.locals.0) own)

  body-jumps : (f : FnTy) (layers : List Layer) (b : Block) (w : World) (a : TypedBlock × World) → (bind_own layers >> typed_block (out-FnTy f).result b false) w ≡ Ok a → jumps_out a.0 ≡ false
  body-jumps f layers b w a is =
      let c = split (bind_own layers w) _ a is in
      (jumps-inside (out-FnTy f).result b c.0.1).found a c.1.1

  body_by : (fs : List Signature) (gs : List Ty) (f : FnTy) (layers : List Layer) (b : Block) (w : World) (o : Outcome (TypedBlock × World))
      → (bind_own layers >> typed_block (out-FnTy f).result b false) (record w { scopes = [] ∷ w.scopes }) ≡ o → IsFile gs fs w
      → OwnScalar (own_parameters layers) → is_definition layers ≡ true
      → (r : (FnTy × List Local × TypedBlock) × World)
      → and_then (and_then o (λ x v. Ok (x, record v { scopes = outer v.scopes }))) (λ body. take_locals >>= (λ ls. pure (f, ls, body))) ≡ Ok r
      → Stays fs gs w (BodyRows layers f) r
  body_by fs gs f layers b w (Ok a) is file scalar named r end =
      let start : World = record w { scopes = [] ∷ w.scopes } in
      let clean : HaveNoParameter start.scopes = (tt, file.no_parameter) in
      let h = (scope-goes (inside (with_globals gs) f a.1.locals) gs (are-first gs) layers b start scalar clean).found a is (tt, file.scopes) in
      stays-same fs gs w (record a.1 { scopes = outer a.1.scopes; locals = [] }) (BodyRows layers f) (f, a.1.locals, a.0) r end (
        record {
          scopes = subst (λ ss. ScopesFit gs [] ss) (sym h.0.scopes) (subst (λ ts. ScopesFit gs ts w.scopes) file.no_local file.scopes);
          no_parameter = subst HaveNoParameter (sym h.0.scopes) file.no_parameter;
          no_local = refl;
          count = h.0.globals ∙ file.count;
          defined = λ x. h.0.defined x ∙ file.defined x;
          distinct = file.distinct;
        },
        λ k ahead below.
            let own : Below (inside k f a.1.locals) a.1 = record { structs = below.structs; functions = below.functions; strings = below.strings; locals = stands a.1.locals } in
            let n = ((scope-goes (inside k f a.1.locals) gs ahead layers b start scalar clean).found a is (tt, file.scopes)).2 own in (
              record { structs = n.0.structs; functions = n.0.functions; strings = n.0.strings; locals = λ m l here. no_local w.locals file.no_local _ m l here },
              record {
                same = refl;
                block = n.1;
                locals = body-locals gs f layers b start a scalar named clean (tt, file.scopes) file.no_local is;
                units = units-stay stay a.1.structs k.structs below.structs (local_types a.1) (h.0.units (subst (HaveUnits w.structs) (sym file.no_local) tt));
                jumps = body-jumps f layers b start a is;
              },
            ),
      )
  body_by fs gs f layers b w (Err e) is file scalar named r end = cc

  body-file : (fs : List Signature) (gs : List Ty) (f : FnTy) (layers : List Layer) (b : Block) (w : World) → OwnScalar (own_parameters layers) → is_definition layers ≡ true
      → FileStays fs gs {A = FnTy × List Local × TypedBlock} w ((function_body layers f b >>= (λ body. take_locals >>= (λ ls. pure (f, ls, body)))) w) (BodyRows layers f)
  unfolding enter leave
  body-file fs gs f layers b w scalar named = record {
    found = λ r is file.
        body_by fs gs f layers b w ((bind_own layers >> typed_block (out-FnTy f).result b false) (record w { scopes = [] ∷ w.scopes })) refl file scalar named r is;
  }

  -- ---- definitions

  module _ (law : SameIsEquality) (fs : List Signature) where
    -- behind the definition of this function
    abbrev Behind : Name → FnTy → List Signature
    Behind x f = fs ++ record { name = x; ty = f } ∷ []

    -- what the definition of a function leaves
    record Defines (gs : List Ty) (x : Name) (f : FnTy) (w v : World) : Type 0 where
      pub file : IsFile gs (Behind x f) v
      pub below : (k : Context) → AreFirst k gs → Below k v → Below k w

    marked-file : (gs : List Ty) (x : Name) (f : FnTy) (w u : World) → IsFile gs fs w → IsFile gs fs u → MayBe w x f → IsKnown u.functions x f
        → IsFile gs (Behind x f) (record u { functions = with_function (marked false true) u.functions x; locals = [] })
    marked-file gs x f w u before at may known =
        let none : defined_as fs x ≡ None = sym (before.defined x) ∙ may.undefined in
        record {
          scopes = subst (λ ts. ScopesFit gs ts u.scopes) at.no_local at.scopes;
          no_parameter = at.no_parameter;
          no_local = refl;
          count = at.count;
          defined = λ y. marked-defined u.functions x f y known.0 known.1.0 known.1.1 ∙ ap (With x f y) (at.defined y) ∙ sym (one-more fs (record { name = x; ty = f }) y none);
          distinct = distinct-more fs (record { name = x; ty = f }) none at.distinct;
        }

    abbrev Marked : Name → FnTy → Walk FnTy
    Marked x f = declare_function x f >> (mark_defined x >> pure f)

    declared-goes : (k : Context) (gs : List Ty) → AreFirst k gs → (x : Name) (f : FnTy) (w : World) → Goes k gs naming w (declare_function x f w) (λ e. Unit {0})
    declared-goes k gs first x f w = weaker k gs _ (λ e h. tt) (locals.function-goes stay grow k gs first x f (ty.Function f) refl w)

    marked-found : (gs : List Ty) (x : Name) (f : FnTy) (w : World) → MayBe w x f → IsFile gs fs w → (r : FnTy × World) → Marked x f w ≡ Ok r
        → (f ≡ r.0) × Defines gs x f w r.1
    unfolding mark_defined
    marked-found gs x f w may at r is =
        let a = split (declare_function x f w) _ r is in
        let h = (of_naming fs gs w (declare_function x f w) (λ k first. declared-goes k gs first x f w)).found a.0 a.1.0 at in
        let u : World = a.0.1 in
        subst (λ (s : FnTy × World). (f ≡ s.0) × Defines gs x f w s.1)
        (ended f (record u { functions = with_function (marked false true) u.functions x; locals = [] }) r a.1.1) (
          refl,
          record {
            file = marked-file gs x f w u at h.0 may (declared-known x f w may a.0 a.1.0);
            below = λ k first b. (h.1 k first (below-defined k u x h.0.no_local b)).0;
          },
        )

    -- a definition, by its declarator's layers
    record DefinesBy (gs : List Ty) (base : Ty) (d : LayeredDeclarator) (w : World) (r : FnTy × World) : Type 0 where
      pub left : Defines gs d.name r.0 w r.1
      pub shape : shaped w.structs base d.layers ≡ shape.Whole (ty.Function r.0)
      pub form : (results_fit w.structs base d.layers && is_definition d.layers) ≡ true

    define-found : (gs : List Ty) (base : Ty) (d : LayeredDeclarator) (w : World) → IsFile gs fs w → (r : FnTy × World) → define_function base d w ≡ Ok r → DefinesBy gs base d w r
    define-found gs base d w at r is =
        let a = split (shaped_function base d w) _ r is in
        let t = type-found w d.name (shaped w.structs base d.layers) (results_fit w.structs base d.layers && is_definition d.layers) a.0 a.1.0 in
        let rest : Marked d.name a.0.0 w ≡ Ok r = subst (λ v. Marked d.name a.0.0 v ≡ Ok r) t.same a.1.1 in
        let may = may-be law w d.name a.0.0 (subst (λ s. may_be_defined w d.name s ≡ true) t.whole t.may) in
        let h = marked-found gs d.name a.0.0 w may at r rest in
        record {
          left = subst (λ f. Defines gs d.name f w r.1) h.0 h.1;
          shape = t.whole ∙ ap (λ f. shape.Whole (ty.Function f)) h.0;
          form = t.form;
        }

    -- ---- whole definitions

    -- the parts of a definition, in a file with its function
    record Parts (gs : List Ty) (base : Ty) (d : LayeredDeclarator) (w : World) (r : (FnTy × List Local × TypedBlock) × World) : Type 0 where
      pub file : IsFile gs (Behind d.name r.0.0) r.1
      pub type : IsDefinitionType d.layers r.0.0
      pub rows : (k : Context) → AreFirst k gs → Below k r.1 → Below k w × BodyRows d.layers r.0.0 k r.0

    taken : (f : FnTy) (b : TypedBlock) (w : World) (r : (FnTy × List Local × TypedBlock) × World)
        → and_then (take_locals w) (λ ls. pure (f, ls, b)) ≡ Ok r → r.0.0 ≡ f
    taken f b w r is = sym (ap (λ (s : (FnTy × List Local × TypedBlock) × World). s.0.0) (ended (f, w.locals, b) (record w { locals = [] }) r is))

    parts-found : (gs : List Ty) (base : Ty) (d : LayeredDeclarator) (b : Block) (w : World) → LayersScalar d.layers → IsFile gs fs w
        → (r : (FnTy × List Local × TypedBlock) × World) → function_parts base d b w ≡ Ok r → Parts gs base d w r
    parts-found gs base d b w scalar at r is =
        let a = split (define_function base d w) _ r is in
        let h = define-found gs base d w at a.0 a.1.0 in
        let form = both (results_fit w.structs base d.layers) (is_definition d.layers) h.form in
        let g = (body-file (Behind d.name a.0.0) gs a.0.0 d.layers b a.0.1 (own-scalar d.layers scalar) form.1).found r a.1.1 h.left.file in
        let c = split (function_body d.layers a.0.0 b a.0.1) _ r a.1.1 in
        let same : r.0.0 ≡ a.0.0 = taken a.0.0 c.0.0 c.0.1 r c.1.1 in
        record {
          file = subst (λ f. IsFile gs (Behind d.name f) r.1) (sym same) g.0;
          type = subst (IsDefinitionType d.layers) (sym same) (definition-type w.structs base d.layers a.0.0 h.shape form.0 form.1 scalar);
          rows = λ k first below.
              let m = g.1 k first below in
              (h.left.below k first m.0, subst (λ f. BodyRows d.layers f k r.0) (sym same) m.1);
        }

    -- what a definition leaves
    pub record FunctionFound (gs : List Ty) (s : TypedSpec) (w : World) (r : TypedFn × World) : Type 0 where
      pub file : IsFile gs (fs ++ signature r.0 ∷ []) r.1
      pub spec : r.0.spec ≡ s
      pub rows : (k : Context) → AreFirst k gs → Below k r.1 → Below k w × (IsTypedSpec k r.0.spec → IsTypedFn k r.0)

    function-made : (gs : List Ty) (s : TypedSpec) (base : Ty) (d : Declarator) (w : World) (x : LayeredDeclarator × World) (p : (FnTy × List Local × TypedBlock) × World)
        → typed_declarator d w ≡ Ok x
        → ((k : Context) → AreFirst k gs → Below k x.1 → Below k w × IsTypedDeclarator k x.0.tree)
        → Parts gs base x.0 x.1 p
        → FunctionFound gs s w (record { spec = s; declared = declared x.0.tree (ty.Function p.0.0); locals = p.0.1; block = p.0.2 }, p.1)
    function-made gs s base d w x p is known parts_too =
        let t : FnTy = p.0.0 in
        let named : name_of (declared x.0.tree (ty.Function t)) ≡ x.0.name = declared-name d w x (ty.Function t) is in
        let typed : unwrap_or (function_of (out-Declared (declared x.0.tree (ty.Function t))).ty) no_type ≡ t =
        ap (λ u. unwrap_or (function_of u) no_type) (declared-ty x.0.tree (ty.Function t)) ∙ ap (λ o. unwrap_or o no_type) (function-is t) in
        record {
          file = subst (λ (g : Signature). IsFile gs (fs ++ g ∷ []) p.1) (sym (λ i. record { name = named i; ty = typed i })) parts_too.file;
          spec = refl;
          rows = λ k first below.
              let m = parts_too.rows k first below in
              let n = known k first m.0 in (
                n.0,
                λ spec. record {
                  spec = spec;
                  bounds = parts.declared-made k x.0.tree (ty.Function t) n.1;
                  ty = declared-ty x.0.tree (ty.Function t) ∙ ap (λ u. ty.Function u) (sym typed);
                  allowed = subst IsFunctionType (sym typed) parts_too.type.allowed;
                  params = subst (λ u. take (length (out-FnTy u).params) (map (λ l. l.ty) p.0.1) ≡ (out-FnTy u).params) (sym typed)
                      (params-first t (own_types x.0.layers) m.1.locals.0 (map (λ l. l.ty) p.0.1) parts_too.type.params m.1.locals.1);
                  units = units-listed k p.0.1 m.1.units;
                  block = subst (λ u. IsTypedBlock (inside k u p.0.1) p.0.2) (sym typed) m.1.block;
                  jumps = ap not m.1.jumps;
                },
              );
        }

    pub function-found : (gs : List Ty) (s : TypedSpec) (base : Ty) (d : Declarator) (b : Block) (w : World) → IsFile gs fs w
        → (r : TypedFn × World) → typed_function s base d b w ≡ Ok r → FunctionFound gs s w r
    unfolding typed_function
    function-found gs s base d b w at r is =
        let a = split (typed_declarator d w) _ r is in
        let h = (of_quiet fs gs w (typed_declarator d w) (λ k first. declarator-meets stay grow k gs first d w)).found a.0 a.1.0 at in
        let p = split (function_parts base a.0.0 b a.0.1) _ r a.1.1 in
        let g = parts-found gs base a.0.0 b a.0.1 (layers-scalar d w a.0 a.1.0) h.0 p.0 p.1.0 in
        subst (FunctionFound gs s w) (ended _ p.0.1 r p.1.1) (function-made gs s base d w a.0 p.0 a.1.0 h.1 g)
