-- The walks of declarations and of what defines types find types that pass.
use Rattle.std.proofs.Common.{◌≡◌, ◌+◌, ℕ, Bool, true, false, ◌||◌, ◌&&◌, nat_le, if◌then◌else◌, List, [], ◌∷◌, length, map, Option, Some, None, le-leb, refl, subst, arith}
use Rattle.std.specs.List.{AllByRecursion, list_all}
use Rattle.c_layers.specs.declared.layer.Shape.{Shape}
use Rattle.c_layers.specs.declared.layer.Shape.TheVariants as shape
use Rattle.c_layers.specs.Shapes.{is_function_shape, results_fit, shaped, whole_of}
use Rattle.c_types.specs.declared.ty.FnTy.{FnTy}
use Rattle.c_types.specs.declared.ty.Ty.{Ty}
use Rattle.c_types.specs.declared.ty.Ty.TheVariants as ty
use Rattle.c_types.specs.Kinds.{function_of, is_char}
use Rattle.c_types.specs.Units.{has_units, most_units}
use Rattle.c_tree.specs.declared.expression.Declarator.{Declarator}
use Rattle.c_tree.specs.declared.statement.Decl.{Decl}
use Rattle.c_tree.specs.declared.statement.Init.{Init, out-Init}
use Rattle.c_tree.specs.declared.statement.Init.TheOpen.{Init-F}
use Rattle.c_tree.specs.declared.statement.InitDeclarator.{InitDeclarator}
use Rattle.c_typed.specs.declared.entity.BuiltIn.{BuiltIn}
use Rattle.c_typed.specs.declared.entity.Entity.TheVariants as entity
use Rattle.c_typed.specs.declared.unit.Local.{Local}
use Rattle.c_scope.specs.declared.rule.Rule.TheVariants as broken
use Rattle.c_scope.specs.declared.scopes.Meaning.TheVariants as means
use Rattle.c_scope.specs.declared.world.KnownFunction.{KnownFunction}
use Rattle.c_scope.specs.declared.world.World.{World}
use Rattle.c_scope.specs.BuiltIns.{Name, built_in_named}
use Rattle.c_scope.specs.Declarations.{is_free, may_be_declared}
use Rattle.c_scope.specs.Definitions.{bind_function, declare_function, declare_function_by, declare_variable, is_bound_here, make_known, make_known_by}
use Rattle.c_scope.specs.Scopes.{bind, bound_in, known_function}
use Rattle.c_scope.specs.Walk.{◌>>◌, each, pure}
use Rattle.c_declarator_rules.specs.declared.declarators.LayeredDeclarator.{LayeredDeclarator}
use Rattle.c_declarator_rules.specs.Rules.{declared}
use Rattle.c_declaration_typing.specs.Declarations.{allowed, bounded, closed, completed, declare, declare_all, declare_by, declare_type, declared_type, given_at, given_bound, named_type, optional_init, shaped_name, shaped_type, text_bound, type_rules, typed_decl, typed_init_declarator, typed_type}
use Rattle.c_declaration_typing.specs.Initialisers.{text_of}
use Rattle.c_typing_types.specs.Filled.{decl_fills, init_fills, init_fills_at, optional_fills, spec_fills}
use Rattle.c_typed_rows.specs.Types.{DeclTypes, DeclaredTypes, InitDeclaratorTypes, OptionalInitTypes}
use Rattle.c_typing_types.proofs.Claimed.{ReadyDeclarator}
use Rattle.c_typing_types.proofs.Good.{Allowed, Fine, FunctionFine, Good, both, called-fine}
use Rattle.c_typing_types.proofs.Initialisers.{init-finds}
use Rattle.c_typing_types.proofs.Known.{bound-fine, last-held}
use Rattle.c_typing_types.proofs.Shaped.{ShapeFine, limited-fine, shaped-fine, whole-fine}
use Rattle.c_typing_types.proofs.Steps.{Goes, after, changed, ends, finds, longer-same, rule-goes, ruled, under}
use Rattle.c_typing_types.proofs.TypedParts as parts
use Rattle.c_typing_types.proofs.Walks.{declarator-finds, spec-finds}

-- ---- bounds that initialisers give

-- it holds, or nothing is asked
pub free-both : (free a b : Bool) → (free || (a && b)) ≡ true → ((free || a) ≡ true) × ((free || b) ≡ true)
free-both true a b is = (refl, refl)
free-both false a b is = both a b is

parts-allowed : (free : Bool) (parts : List Init) → (free || init_fills_at (Init-F.Braces parts)) ≡ true → (free || nat_le 1 (length parts)) ≡ true
parts-allowed true parts is = refl
parts-allowed false [] is = cc
parts-allowed false (p ∷ ps) is = le-leb 1 (length (p ∷ ps)) (omega arith)

text-allowed : (free : Bool) (n : ℕ) → (free || nat_le 1 (n + 1)) ≡ true
text-allowed true n = refl
text-allowed false n = le-leb 1 (n + 1) (omega arith)

module _ (g : Good) where
  -- what is found, if something is, is allowed
  abbrev AllowedIn : Option ℕ → Type 0
  AllowedIn o = (n : ℕ) → o ≡ Some n → Allowed g n

  text_bound-allowed : (char : Bool) (o : Option (List ℕ)) → AllowedIn (text_bound char o)
  text_bound-allowed true (Some bytes) n is = let same : length bytes + 1 ≡ n = cc in subst (Allowed g) same (text-allowed g.free (length bytes))
  text_bound-allowed true None n is = cc
  text_bound-allowed false o n is = cc

  given_at-allowed : (t : Ty) (node : Init-F Init) → (g.free || init_fills_at node) ≡ true → AllowedIn (given_at t node)
  given_at-allowed t (Init-F.Braces ps) fills n is = let same : length ps ≡ n = cc in subst (Allowed g) same (parts-allowed g.free ps fills)
  given_at-allowed t (Init-F.Expr e) fills n is = text_bound-allowed (is_char t) (text_of e) n is

  given-allowed : (t : Ty) (i : Init) → (g.free || init_fills i) ≡ true → AllowedIn (given_bound t i)
  unfolding given_bound init_fills
  given-allowed t i fills = given_at-allowed t (out-Init i) fills

  bounded_by : (t : Ty) (n : ℕ) (few : Bool) → Fine g t → Allowed g n → ShapeFine g (bounded t (if few then Some n else None))
  bounded_by t n true fine ok = limited-fine g (ty.Array t n) (g.array t n fine ok)
  bounded_by t n false fine ok = tt

  bounded-fine : (t : Ty) (o : Option ℕ) → Fine g t → AllowedIn o → ShapeFine g (bounded t (allowed o))
  bounded-fine t None fine ok = tt
  bounded-fine t (Some n) fine ok = bounded_by t n (nat_le n most_units) fine (ok n refl)

  closed-fine : (t : Ty) (o : Option Init) → Fine g t → (g.free || optional_fills o) ≡ true → ShapeFine g (closed t o)
  closed-fine t None fine fills = tt
  closed-fine t (Some i) fine fills = bounded-fine t (given_bound t i) fine (given-allowed t i fills)

  completed-fine : (o : Option Init) (s : Shape) → ShapeFine g s → (g.free || optional_fills o) ≡ true → ShapeFine g (completed o s)
  completed-fine o (shape.Open t) fine fills = closed-fine t o fine fills
  completed-fine o (shape.Whole t) fine fills = fine
  completed-fine o (shape.Broken b) fine fills = fine

  -- ---- variables and functions

  pub variable-goes : (is_global : Bool) (x : Name) (t : Ty) (w : World) → Goes g (Fine g t) w (declare_variable is_global x t w) (λ e. Unit {0})
  unfolding declare_variable bind
  variable-goes true x t w = changed g w _ (longer-same w) (λ few known fit. (
    record { scopes = bound-fine g w.scopes x (means.Variable (entity.Global w.globals) t) fit.scopes known; functions = fit.functions; structs = fit.structs; locals = fit.locals; few = fit.few },
    tt,
  ))
  variable-goes false x t w = changed g w _ (longer-same w) (λ few known fit. (
    record {
      scopes = bound-fine g w.scopes x (means.Variable (entity.Local (length w.locals)) t) fit.scopes known;
      functions = fit.functions;
      structs = fit.structs;
      locals = last-held (λ (l : Local). Fine g l.ty) w.locals (record { name = x; ty = t; is_addressed = false }) fit.locals known;
      few = fit.few;
    },
    tt,
  ))

  known-goes : (x : Name) (f : FnTy) (o : Option KnownFunction) (w : World) → Goes g (FunctionFine g f) w (make_known_by x f o w) (λ u. Unit {0})
  known-goes x f (Some k) w = ends g (λ known fit. tt)
  known-goes x f None w = changed g w _ (longer-same w) (λ few known fit. (
    record {
      scopes = fit.scopes;
      functions = last-held (λ (k : KnownFunction). FunctionFine g k.ty) w.functions (record { name = x; ty = f; first = w.item; is_used = false; is_defined = false }) fit.functions known;
      structs = fit.structs;
      locals = fit.locals;
      few = fit.few;
    },
    tt,
  ))

  bind_function-by : (x : Name) (bound : Bool) (w : World) → Goes g (Unit {0}) w ((if bound then pure tt else bind x means.Function) w) (λ u. Unit {0})
  unfolding bind
  bind_function-by x true w = ends g (λ known fit. tt)
  bind_function-by x false w = changed g w (record w { scopes = bound_in w.scopes x means.Function }) (longer-same w) (λ few known fit. (
    record { scopes = bound-fine g w.scopes x means.Function fit.scopes tt; functions = fit.functions; structs = fit.structs; locals = fit.locals; few = fit.few },
    tt,
  ))

  named-goes : (x : Name) (f : FnTy) (w : World) → Goes g (FunctionFine g f) w ((make_known x f >> bind_function x) w) (λ u. Unit {0})
  named-goes x f w = after g _ _ (known-goes x f (known_function w.functions x) w) (λ u v. under g _ (λ known. tt) (bind_function-by x (is_bound_here v x) v))

  function-by : (x : Name) (f : FnTy) (o : Option BuiltIn) (w : World) → Goes g (FunctionFine g f) w (declare_function_by x f o w) (λ e. Unit {0})
  function-by x f (Some b) w = ends g (λ known fit. tt)
  function-by x f None w = after g ((make_known x f >> bind_function x) w) _ (named-goes x f w) (λ s z. ends g (λ known fit. tt))

  pub function-goes : (x : Name) (f : FnTy) (w : World) → Goes g (FunctionFine g f) w (declare_function x f w) (λ e. Unit {0})
  unfolding declare_function
  function-goes x f w = function-by x f (built_in_named x) w

  declare_by-goes : (is_global : Bool) (x : Name) (t : Ty) (o : Option FnTy) (w : World) → function_of t ≡ o → Goes g (Fine g t) w (declare_by is_global x t o w) (λ e. Unit {0})
  declare_by-goes is_global x t (Some f) w is = under g _ (λ known. called-fine g t f is known) (function-goes x f w)
  declare_by-goes is_global x t None w is = variable-goes is_global x t w

  -- ---- declared names

  type_rules-go : (b : Bool) (t : Ty) (fits : Bool) (w : World) → Goes g (Unit {0}) w (type_rules b t fits w) (λ u. fits ≡ true)
  unfolding type_rules
  type_rules-go b t fits w = ruled g broken.Unsized (b || has_units w.structs t) _ (λ units. rule-goes g broken.Form fits (λ holds known. holds))

  type-goes : (x : Name) (s : Shape) (fits : Bool) (w : World) → Goes g (fits ≡ true → ShapeFine g s) w (declared_type x s fits w) (Fine g)
  unfolding declared_type
  type-goes x s fits w = ruled g broken.Redeclared (may_be_declared w x s) _ (λ free. finds g broken.Unsized (whole_of s) _ (λ t is.
      after g _ _ (under g _ (λ known. tt) (type_rules-go (is_function_shape s) t fits w)) (λ u v. ends g (λ known fit. whole-fine g s t is (known.0 known.1)))))

  module _ (is_global : Bool) where
    shaped-goes : (base : Ty) (d : LayeredDeclarator) (o : Option Init) (w : World) → (g.free || optional_fills o) ≡ true
        → Goes g (Fine g base × ReadyDeclarator g d) w (shaped_type base d o w) (Fine g)
    shaped-goes base d o w fills =
        under g _ (λ known fits. completed-fine o (shaped w.structs base d.layers) (shaped-fine g w.structs base d.layers known.0 known.1.1 fits) fills)
        (type-goes d.name (completed o (shaped w.structs base d.layers)) (results_fit w.structs base d.layers) w)

    declare-goes : (base : Ty) (d : LayeredDeclarator) (o : Option Init) (w : World) → (g.free || optional_fills o) ≡ true
        → Goes g (Fine g base × ReadyDeclarator g d) w (declare is_global base d o w) (λ e. Fine g e.0)
    declare-goes base d o w fills =
        after g _ _ (shaped-goes base d o w fills) (λ t v.
        after g _ _ (under g _ (λ known. known.1) (declare_by-goes is_global d.name t (function_of t) v refl)) (λ e u.
        ends g (λ known fit. known.0.1)))

    optional-goes : (t : Ty) (o : Option Init) (w : World) → Goes g (Unit {0}) w (optional_init is_global t o w) (OptionalInitTypes g.good)
    optional-goes t None w = ends g (λ known fit. tt)
    optional-goes t (Some i) w = after g _ _ (init-finds g is_global i (Some t) w) (λ x v. ends g (λ known fit. known.1))

    all-goes : (base : Ty) (d : LayeredDeclarator) (o : Option Init) (w : World) → (g.free || optional_fills o) ≡ true
        → Goes g (Fine g base × ReadyDeclarator g d) w (declare_all is_global base d o w) (λ e. Fine g e.0 × OptionalInitTypes g.good e.2)
    all-goes base d o w fills =
        after g _ _ (declare-goes base d o w fills) (λ e v.
        after g _ _ (under g _ (λ known. tt) (optional-goes e.0 o v)) (λ i u.
        ends g (λ known fit. (known.0.1, known.1))))

    declarator-goes : (base : Ty) (d : InitDeclarator) (w : World) → (g.free || optional_fills d.init) ≡ true
        → Goes g (Fine g base) w (typed_init_declarator is_global base d w) (InitDeclaratorTypes g.good)
    unfolding typed_init_declarator
    declarator-goes base d w fills =
        after g _ _ (under g _ (λ known. tt) (declarator-finds g d.declarator w)) (λ x v.
        after g _ _ (all-goes base x d.init v fills) (λ e u.
        ends g (λ known fit. record { declared = parts.declared-made g.good x.tree e.0 known.0.1.0 known.1.0; init = known.1.1 })))

    declarators-go : (base : Ty) (ds : List InitDeclarator) (w : World) → (g.free || list_all (λ d. optional_fills d.init) ds) ≡ true
        → Goes g (Fine g base) w (each (map (typed_init_declarator is_global base) ds) w) (AllByRecursion (InitDeclaratorTypes g.good))
    declarators-go base [] w fills = ends g (λ known fit. tt)
    declarators-go base (d ∷ ds) w fills =
        let h = free-both g.free (optional_fills d.init) (list_all (λ d. optional_fills d.init) ds) fills in
        after g _ _ (declarator-goes base d w h.0) (λ x v.
        after g _ _ (under g _ (λ known. known.0) (declarators-go base ds v h.1)) (λ xs u.
        ends g (λ known fit. (known.0.1, known.1))))

    pub decl-goes : (d : Decl) (w : World) → (g.free || decl_fills d) ≡ true → Goes g (Unit {0}) w (typed_decl is_global d w) (DeclTypes g.good)
    unfolding typed_decl
    decl-goes d w fills =
        let h = free-both g.free (spec_fills d.spec) (list_all (λ d. optional_fills d.init) d.declarators) fills in
        after g _ _ (spec-finds g d.spec is_global (λ is. h.0) w) (λ base v.
        after g _ _ (under g _ (λ known. known.1.1) (declarators-go base.1 d.declarators v h.1)) (λ ds u.
        ends g (λ known fit. record { spec = known.0.1.0; declarators = known.1 })))

  -- ---- names of types

  name_rules-go : (x : Name) (s : Shape) (fits : Bool) (w : World) → Goes g (fits ≡ true → ShapeFine g s) w (named_type x s fits w) (Fine g)
  unfolding named_type
  name_rules-go x s fits w = ruled g broken.Redeclared (is_free w x) _ (λ free. finds g broken.Unsized (whole_of s) _ (λ t is. ruled g broken.Form fits _ (λ form.
      ends g (λ known fit. whole-fine g s t is (known form)))))

  bind_type-goes : (x : Name) (t : Ty) (w : World) → Goes g (Fine g t) w ((bind x (means.TypeName t) >> pure t) w) (Fine g)
  unfolding bind
  bind_type-goes x t w = changed g w (record w { scopes = bound_in w.scopes x (means.TypeName t) }) (longer-same w) (λ few known fit. (
    record { scopes = bound-fine g w.scopes x (means.TypeName t) fit.scopes known; functions = fit.functions; structs = fit.structs; locals = fit.locals; few = fit.few },
    known,
  ))

  name-goes : (base : Ty) (d : LayeredDeclarator) (w : World) → Goes g (Fine g base × ReadyDeclarator g d) w (declare_type base d w) (Fine g)
  name-goes base d w =
      after g (shaped_name base d w) _
      (under g _ (λ known fits. shaped-fine g w.structs base d.layers known.0 known.1.1 fits) (name_rules-go d.name (shaped w.structs base d.layers) (results_fit w.structs base d.layers) w)) (λ t v.
      under g _ (λ known. known.1) (bind_type-goes d.name t v))

  pub type_name-goes : (base : Ty) (d : Declarator) (w : World) → Goes g (Fine g base) w (typed_type base d w) (DeclaredTypes g.good)
  unfolding typed_type
  type_name-goes base d w =
      after g _ _ (under g _ (λ known. tt) (declarator-finds g d w)) (λ x v.
      after g _ _ (name-goes base x v) (λ t u.
      ends g (λ known fit. parts.declared-made g.good x.tree t known.0.1.0 known.1)))
