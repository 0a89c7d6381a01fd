-- The walk of a declaration in a function finds what meets its rows.
use Rattle.std.proofs.Common.{◌≡◌, ◌∙◌, ℕ, suc, Bool, true, false, ◌||◌, if◌then◌else◌, List, [], ◌∷◌, ◌++◌, length, map, Option, Some, None, slice_get, Ok, refl, ap, sym, subst, append_assoc}
use Rattle.std.proofs.lemmas.List.{append-nil}
use Rattle.std.specs.List.{AllByRecursion}
use Rattle.std.specs.Option.{option_map}
use Rattle.std.specs.Str.{bytes_eq}
use Rattle.c_layers.specs.declared.layer.Shape.{Shape}
use Rattle.c_layers.specs.declared.layer.Shape.TheVariants as shape
use Rattle.c_layers.specs.Shapes.{is_function_shape, results_fit, shaped, whole_of}
use Rattle.c_types.specs.declared.structs.StructDef.{StructDef}
use Rattle.c_types.specs.declared.ty.FnTy.{FnTy}
use Rattle.c_types.specs.declared.ty.Ty.{Ty, out-Ty, roll-Ty, roll-out-Ty}
use Rattle.c_types.specs.declared.ty.Ty.TheOpen.{Ty-F}
use Rattle.c_types.specs.declared.ty.Ty.TheVariants as ty
use Rattle.c_types.specs.Kinds.{Outer, function_at, function_of, is_function, is_function_at}
use Rattle.c_types.specs.Theorems.{Extends, TablesGrow, UnitsStay}
use Rattle.c_types.specs.Units.{has_units}
use Rattle.c_tree.specs.declared.statement.Decl.{Decl}
use Rattle.c_tree.specs.declared.statement.Init.{Init}
use Rattle.c_tree.specs.declared.statement.InitDeclarator.{InitDeclarator}
use Rattle.c_typed.specs.declared.entity.Entity.{Entity}
use Rattle.c_typed.specs.declared.entity.Entity.TheVariants as entity
use Rattle.c_typed.specs.declared.entity.BuiltIn.{BuiltIn}
use Rattle.c_typed.specs.declared.expression.Declared.{out-Declared, out-roll-Declared}
use Rattle.c_typed.specs.declared.expression.TypedDeclarator.{TypedDeclarator}
use Rattle.c_typed.specs.declared.statement.TypedInit.{TypedInit}
use Rattle.c_typed.specs.declared.unit.Local.{Local}
use Rattle.c_scope.specs.declared.rule.Rule.TheVariants as broken
use Rattle.c_scope.specs.declared.scopes.Binding.{Binding}
use Rattle.c_scope.specs.declared.scopes.Meaning.{Meaning}
use Rattle.c_scope.specs.declared.scopes.Meaning.TheVariants as means
use Rattle.c_scope.specs.declared.world.KnownFunction.{KnownFunction}
use Rattle.c_scope.specs.declared.world.World.{World}
use Rattle.c_scope.specs.BuiltIns.{Name, built_in_named}
use Rattle.c_scope.specs.Declarations.{may_be_declared}
use Rattle.c_scope.specs.Definitions.{bind_function, declare_function, declare_function_by, declare_variable, is_bound_here, make_known, make_known_by}
use Rattle.c_scope.specs.Scopes.{bind, bound_in, known_function, outer}
use Rattle.c_scope.specs.Walk.{Outcome, ◌>>◌, each, found, pure, rule}
use Rattle.c_declarator_rules.specs.declared.declarators.LayeredDeclarator.{LayeredDeclarator}
use Rattle.c_declarator_rules.specs.Rules.{declared}
use Rattle.c_declaration_typing.specs.Declarations.{completed, declare, declare_all, declare_by, declared_type, optional_init, shaped_type, type_rules, typed_decl, typed_init_declarator}
use Rattle.c_typed_rows.specs.Contexts.{Context, global_type, local_type}
use Rattle.c_typed_rows.specs.Statements.{DeclaredRow, IfInit, IsTypedDecl, IsTypedInitDeclarator, VariableRow}
use Rattle.c_typed_rows.specs.Initialisers.{IsTypedInit}
use Rattle.c_typing_laws.specs.Worlds.{Below, EntityFits, HaveNoParameter, LocalStands, MeaningFits, MeansNoParameter, ScopesFit, defined_by, defined_in, local_types}
use Rattle.c_typing_laws.specs.inner.Goes.{Goes, Relation, Sound, after, after_found, ends, finds, never, ruled, weaker}
use Rattle.c_typing_laws.proofs.FoundSteps.{ended, option-found, rule-found, split}
use Rattle.c_typing_laws.proofs.InitialisersMeetRows as inits
use Rattle.c_typing_laws.proofs.PartsMeetRows.{binding-added, bound-fits, outer-bound}
use Rattle.c_typing_laws.proofs.RowsStay as stays
use Rattle.c_typing_laws.proofs.TypedParts as parts
use Rattle.c_typing_laws.proofs.WalksMeetRows.{declarator-meets, spec-meets}
use Rattle.c_typing_laws.proofs.WorldSteps.{IsQuiet, at_seam, below-scopes, extends-joined, extends-same, in_front, quiet}

-- ---- what statements leave

-- each of these types has units
abbrev pub HaveUnits : List StructDef → List Ty → Type 0
HaveUnits defs ts = AllByRecursion (λ t. has_units defs t ≡ true) ts

pub units-stay : UnitsStay → (defs more : List StructDef) → Extends defs more → (ts : List Ty) → HaveUnits defs ts → HaveUnits more ts
units-stay stay defs more grown [] all = tt
units-stay stay defs more grown (t ∷ ts) all = (stays.has_units-stays stay defs more grown t all.0, units-stay stay defs more grown ts all.1)

units-last : (defs : List StructDef) (ts : List Ty) (t : Ty) → HaveUnits defs ts → has_units defs t ≡ true → HaveUnits defs (ts ++ t ∷ [])
units-last defs [] t all units = (units, tt)
units-last defs (u ∷ ts) t all units = (all.0, units-last defs ts t all.1 units)

-- scopes outside the innermost stay, no name stands for a parameter of a declarator that didn't, nothing of the file's is declared, and
-- locals are added that have units
pub record IsWidening (w v : World) : Type 0 where
  pub scopes : outer v.scopes ≡ outer w.scopes
  pub clean : HaveNoParameter w.scopes → HaveNoParameter v.scopes
  pub globals : v.globals ≡ w.globals
  pub defined : (x : Name) → defined_in v.functions x ≡ defined_in w.functions x
  pub grown : Extends w.structs v.structs
  pub locals : (more : List Ty) × (local_types v ≡ local_types w ++ more)
  pub units : HaveUnits w.structs (local_types w) → HaveUnits v.structs (local_types v)

pub none_more : (w : World) → (more : List Ty) × (local_types w ≡ local_types w ++ more)
none_more w = ([], sym (append-nil (local_types w)))

pub both_more : (a b c : List Ty) → (more : List Ty) × (b ≡ a ++ more) → (more : List Ty) × (c ≡ b ++ more) → (more : List Ty) × (c ≡ a ++ more)
both_more a b c first second = (first.0 ++ second.0, second.1 ∙ ap (λ ts. ts ++ second.0) first.1 ∙ append_assoc a first.0 second.0)

abbrev pub widening : Relation
widening = record {
  holds = IsWidening;
  same = λ w. record { scopes = refl; clean = λ c. c; globals = refl; defined = λ x. refl; grown = extends-same w.structs; locals = none_more w; units = λ h. h };
  joined = λ w v u first second. record {
    scopes = second.scopes ∙ first.scopes;
    clean = λ c. second.clean (first.clean c);
    globals = second.globals ∙ first.globals;
    defined = λ x. second.defined x ∙ first.defined x;
    grown = extends-joined w.structs v.structs u.structs first.grown second.grown;
    locals = both_more (local_types w) (local_types v) (local_types u) first.locals second.locals;
    units = λ h. second.units (first.units h);
  };
}

-- the same, where no local is declared
pub record IsNaming (w v : World) : Type 0 where
  pub wide : IsWidening w v
  pub locals : local_types v ≡ local_types w

abbrev pub naming : Relation
naming = record {
  holds = IsNaming;
  same = λ w. record { wide = widening.same w; locals = refl };
  joined = λ w v u first second. record { wide = widening.joined w v u first.wide second.wide; locals = second.locals ∙ first.locals };
}

pub quiet-is_widening : UnitsStay → (w v : World) → IsQuiet w v → IsWidening w v
quiet-is_widening stay w v q = record {
  scopes = ap outer q.scopes;
  clean = λ c. subst HaveNoParameter (sym q.scopes) c;
  globals = q.steady.globals;
  defined = q.steady.defined;
  grown = q.steady.grown;
  locals = ([], q.steady.locals ∙ sym (append-nil (local_types w)));
  units = λ h. subst (HaveUnits v.structs) (sym q.steady.locals) (units-stay stay w.structs v.structs q.steady.grown (local_types w) h);
}

-- ---- scopes with a name more

pub bound-clean : (ss : List (List Binding)) (x : Name) (m : Meaning) → MeansNoParameter m → HaveNoParameter ss → HaveNoParameter (bound_in ss x m)
bound-clean [] x m h clean = ((h, tt), tt)
bound-clean (s ∷ ss) x m h clean = (binding-added (λ b. MeansNoParameter b.meaning) s (record { name = x; meaning = m }) clean.0 h, clean.1)

entity-wider : (gs ls more : List Ty) (e : Entity) (t : Ty) → EntityFits gs ls e t → EntityFits gs (ls ++ more) e t
entity-wider gs ls more (entity.Global n) t fit = fit
entity-wider gs ls more (entity.Local n) t fit = in_front ls more n t fit
entity-wider gs ls more entity.Parameter t fit = fit
entity-wider gs ls more entity.Function t fit = fit
entity-wider gs ls more (entity.BuiltIn b) t fit = fit

meaning-wider : (gs ls more : List Ty) (m : Meaning) → MeaningFits gs ls m → MeaningFits gs (ls ++ more) m
meaning-wider gs ls more (means.Variable e t) fit = entity-wider gs ls more e t fit
meaning-wider gs ls more means.Function fit = fit
meaning-wider gs ls more (means.TypeName t) fit = fit

scope-wider : (gs ls more : List Ty) (bs : List Binding) → AllByRecursion (λ b. MeaningFits gs ls b.meaning) bs → AllByRecursion (λ b. MeaningFits gs (ls ++ more) b.meaning) bs
scope-wider gs ls more [] fit = tt
scope-wider gs ls more (b ∷ bs) fit = (meaning-wider gs ls more b.meaning fit.0, scope-wider gs ls more bs fit.1)

scopes-wider : (gs ls more : List Ty) (ss : List (List Binding)) → ScopesFit gs ls ss → ScopesFit gs (ls ++ more) ss
scopes-wider gs ls more [] fit = tt
scopes-wider gs ls more (s ∷ ss) fit = (scope-wider gs ls more s fit.0, scopes-wider gs ls more ss fit.1)

pub types-wider : (ls : List Local) (l : Local) → map (λ l. l.ty) (ls ++ l ∷ []) ≡ map (λ l. l.ty) ls ++ l.ty ∷ []
types-wider [] l = refl
types-wider (m ∷ ls) l = ap (λ ts. m.ty ∷ ts) (types-wider ls l)

length-types : (ls : List Local) → length (map (λ l. l.ty) ls) ≡ length ls
length-types [] = refl
length-types (l ∷ ls) = ap suc (length-types ls)

-- ---- functions that become known

known_front : (j : KnownFunction) (y : Name) (f : KnownFunction) (o p : Option KnownFunction) (named : Bool) → (o ≡ Some f → p ≡ Some f)
    → (if named then Some j else o) ≡ Some f → (if named then Some j else p) ≡ Some f
known_front j y f o p true rest is = is
known_front j y f o p false rest is = rest is

pub known-stays : (ks more : List KnownFunction) (y : Name) (f : KnownFunction) → known_function ks y ≡ Some f → known_function (ks ++ more) y ≡ Some f
known-stays [] more y f is = cc
known-stays (j ∷ ks) more y f is = known_front j y f (known_function ks y) (known_function (ks ++ more) y) (bytes_eq j.name y) (known-stays ks more y f) is

by_flag : (t : FnTy) (b : Bool) → b ≡ false → (if b then Some t else None) ≡ None
by_flag t true undefined = cc
by_flag t false undefined = refl

undefined_last : (n : KnownFunction) (named : Bool) → n.is_defined ≡ false → defined_by (if named then Some n else None) ≡ None
undefined_last n true undefined = by_flag n.ty n.is_defined undefined
undefined_last n false undefined = refl

defined_front : (j : KnownFunction) (o p : Option KnownFunction) (named : Bool) → defined_by p ≡ defined_by o
    → defined_by (if named then Some j else p) ≡ defined_by (if named then Some j else o)
defined_front j o p true rest = refl
defined_front j o p false rest = rest

pub known-defines_none : (ks : List KnownFunction) (n : KnownFunction) (y : Name) → n.is_defined ≡ false → defined_in (ks ++ n ∷ []) y ≡ defined_in ks y
known-defines_none [] n y undefined = undefined_last n (bytes_eq n.name y) undefined
known-defines_none (j ∷ ks) n y undefined = defined_front j (known_function ks y) (known_function (ks ++ n ∷ []) y) (bytes_eq j.name y) (known-defines_none ks n y undefined)

-- ---- types

function_at-is : (o : Outer) (f : FnTy) → function_at o ≡ Some f → o ≡ Ty-F.Function f
function_at-is (Ty-F.Function g) f is = let same : g ≡ f = cc in ap Ty-F.Function same
function_at-is _ f is = cc

pub function_of-is : (t : Ty) (f : FnTy) → function_of t ≡ Some f → t ≡ ty.Function f
unfolding function_of
function_of-is t f is = sym (roll-out-Ty t) ∙ ap roll-Ty (function_at-is (out-Ty t) f is) ∙ ty.rolls-Function f

no_function_at : (o : Outer) → function_at o ≡ None → is_function_at o ≡ false
no_function_at (Ty-F.Function g) is = cc
no_function_at _ is = refl

pub no_function : (t : Ty) → function_of t ≡ None → is_function t ≡ false
unfolding function_of is_function
no_function t is = no_function_at (out-Ty t) is

shape_function : (s : Shape) (t : Ty) → whole_of s ≡ Some t → is_function_shape s ≡ is_function t
shape_function (shape.Whole u) t is = let same : u ≡ t = cc in ap is_function same
shape_function (shape.Open u) t is = cc
shape_function (shape.Broken b) t is = cc

pub declared-ty : (d : TypedDeclarator) (t : Ty) → (out-Declared (declared d t)).ty ≡ t
declared-ty d t = ap (λ e. e.ty) (out-roll-Declared (record { declarator = d; ty = t }))

-- what is asked of a declared type
rules-found : (b : Bool) (t : Ty) (fits : Bool) (w : World) (r : Unit {0} × World) → type_rules b t fits w ≡ Ok r → ((b || has_units w.structs t) ≡ true) × (w ≡ r.1)
unfolding type_rules
rules-found b t fits w r is =
    let a = split (rule broken.Unsized (b || has_units w.structs t) w) _ r is in
    let h = rule-found broken.Unsized (b || has_units w.structs t) w a.0 a.1.0 in
    let g = rule-found broken.Form fits a.0.1 r a.1.1 in
    (h.0, h.1 ∙ g.1)

allowed-found : (x : Name) (s : Shape) (fits : Bool) (w : World) (r : Ty × World) → declared_type x s fits w ≡ Ok r → (is_function r.0 || has_units r.1.structs r.0) ≡ true
unfolding declared_type
allowed-found x s fits w r is =
    let a = split (rule broken.Redeclared (may_be_declared w x s) w) _ r is in
    let b = split (found broken.Unsized (whole_of s) a.0.1) _ r a.1.1 in
    let t = option-found broken.Unsized (whole_of s) a.0.1 b.0 b.1.0 in
    let c = split (type_rules (is_function_shape s) b.0.0 fits b.0.1) _ r b.1.1 in
    let h = rules-found (is_function_shape s) b.0.0 fits b.0.1 c.0 c.1.0 in
    let here : (is_function b.0.0 || has_units b.0.1.structs b.0.0) ≡ true = subst (λ f. (f || has_units b.0.1.structs b.0.0) ≡ true) (shape_function s b.0.0 t.0) h.0 in
    let there : (is_function b.0.0 || has_units c.0.1.structs b.0.0) ≡ true = subst (λ (v : World). (is_function b.0.0 || has_units v.structs b.0.0) ≡ true) h.1 here in
    subst (λ (e : Ty × World). (is_function e.0 || has_units e.1.structs e.0) ≡ true) (ended b.0.0 c.0.1 r c.1.1) there

module _ (stay : UnitsStay) (grow : TablesGrow) (k : Context) (gs : List Ty) (ahead : (n : ℕ) (t : Ty) → slice_get gs n ≡ Some t → global_type k n ≡ Some t) where
  pub widely : {A : Type 0} {Q : A → Type 0} {w : World} (o : Outcome (A × World)) → Goes k gs quiet w o Q → Goes k gs widening w o Q
  widely {A} {Q} {w} o goes = record { found = λ r is sound. let h = goes.found r is sound in (quiet-is_widening stay w r.1 h.0, h.1, h.2) }

  -- a step to a world that is known
  stepped_found : {A : Type 0} (Q : A → Type 0) (a : A) (w v : World) → IsWidening w v → (Sound k gs w → Sound k gs v) → (Below k v → Below k w × Q a) → (r : A × World)
      → (let o : Outcome (A × World) = Ok (a, v) in o) ≡ Ok r → Sound k gs w
      → IsWidening w r.1 × Sound k gs r.1 × (Below k r.1 → Below k w × Q r.0)
  stepped_found {A} Q a w v wide sound_too below r is sound =
      let same : (a, v) ≡ r = cc in
      subst (λ (s : A × World). IsWidening w s.1 × Sound k gs s.1 × (Below k s.1 → Below k w × Q s.0)) same (wide, sound_too sound, below)

  pub stepped : {A : Type 0} {Q : A → Type 0} {a : A} (w v : World) → IsWidening w v → (Sound k gs w → Sound k gs v) → (Below k v → Below k w × Q a) → Goes k gs widening w (Ok (a, v)) Q
  stepped {A} {Q} {a} w v wide sound_too below = record { found = stepped_found Q a w v wide sound_too below }

  -- ---- variables

  local-below : (w : World) (l : Local) (ss : List (List Binding)) → Below k (record w { locals = w.locals ++ l ∷ []; scopes = ss }) → Below k w
  local-below w l ss b = record {
    structs = b.structs;
    functions = b.functions;
    strings = b.strings;
    locals = λ n m is. b.locals n m (in_front w.locals (l ∷ []) n m is);
  }

  local_type-of : (n : ℕ) (l : Local) (o : Option Local) → slice_get k.locals n ≡ o → LocalStands l o → local_type k n ≡ Some l.ty
  local_type-of n l None is stands = absurd stands
  local_type-of n l (Some m) is stands = ap (option_map (λ l. l.ty)) is ∙ ap Some stands.0

  new_type : (ls : List Local) (x : Name) (t : Ty) → slice_get (map (λ l. l.ty) (ls ++ (record { name = x; ty = t; is_addressed = false }) ∷ [])) (length ls) ≡ Some t
  new_type [] x t = refl
  new_type (l ∷ ls) x t = new_type ls x t

  pub variable-goes : (x : Name) (t : Ty) (w : World) → has_units w.structs t ≡ true → Goes k gs widening w (declare_variable false x t w)
      (λ e. (i : Option TypedInit) → VariableRow k t i → DeclaredRow k e t i)
  unfolding declare_variable bind
  variable-goes x t w sized =
      let l : Local = record { name = x; ty = t; is_addressed = false } in
      let e : Entity = entity.Local (length w.locals) in
      let ss : List (List Binding) = bound_in w.scopes x (means.Variable e t) in
      stepped {a = e} w (record w { locals = w.locals ++ l ∷ []; scopes = ss })
      (record { scopes = outer-bound w.scopes x (means.Variable e t); clean = bound-clean w.scopes x (means.Variable e t) tt; globals = refl; defined = λ y. refl; grown = extends-same w.structs; locals = (t ∷ [], types-wider w.locals l); units = λ h. subst (HaveUnits w.structs) (sym (types-wider w.locals l)) (units-last w.structs (local_types w) t h sized) })
      (λ sound. bound-fits gs (map (λ l. l.ty) (w.locals ++ l ∷ [])) w.scopes x (means.Variable e t)
      (subst (λ ts. ScopesFit gs ts w.scopes) (sym (types-wider w.locals l)) (scopes-wider gs (local_types w) (t ∷ []) w.scopes sound))
      (new_type w.locals x t))
      (λ b. (local-below w l ss b, λ i row. (local_type-of (length w.locals) l (slice_get k.locals (length w.locals)) refl (b.locals (length w.locals) l (at_seam w.locals l)), row)))

  -- ---- functions

  known-below : (w : World) (f : KnownFunction) → Below k (record w { functions = w.functions ++ f ∷ [] }) → Below k w
  known-below w f b = record {
    structs = b.structs;
    functions = λ y g is used. b.functions y g (known-stays w.functions (f ∷ []) y g is) used;
    strings = b.strings;
    locals = b.locals;
  }

  -- a step to a world that is known, where no local is declared
  renamed_found : {A : Type 0} (Q : A → Type 0) (a : A) (w v : World) → IsNaming w v → (Sound k gs w → Sound k gs v) → (Below k v → Below k w × Q a) → (r : A × World)
      → (let o : Outcome (A × World) = Ok (a, v) in o) ≡ Ok r → Sound k gs w
      → IsNaming w r.1 × Sound k gs r.1 × (Below k r.1 → Below k w × Q r.0)
  renamed_found {A} Q a w v name sound_too below r is sound =
      let same : (a, v) ≡ r = cc in
      subst (λ (s : A × World). IsNaming w s.1 × Sound k gs s.1 × (Below k s.1 → Below k w × Q s.0)) same (name, sound_too sound, below)

  renamed : {A : Type 0} {Q : A → Type 0} {a : A} (w v : World) → IsNaming w v → (Sound k gs w → Sound k gs v) → (Below k v → Below k w × Q a) → Goes k gs naming w (Ok (a, v)) Q
  renamed {A} {Q} {a} w v name sound_too below = record { found = renamed_found Q a w v name sound_too below }

  naming-widely : {A : Type 0} {Q : A → Type 0} {w : World} (o : Outcome (A × World)) → Goes k gs naming w o Q → Goes k gs widening w o Q
  naming-widely {A} {Q} {w} o goes = record { found = λ r is sound. let h = goes.found r is sound in (h.0.wide, h.1, h.2) }

  known-goes : (x : Name) (f : FnTy) (o : Option KnownFunction) (w : World) → Goes k gs naming w (make_known_by x f o w) (λ u. Unit {0})
  known-goes x f (Some g) w = ends k gs (λ b. tt)
  known-goes x f None w =
      let g : KnownFunction = record { name = x; ty = f; first = w.item; is_used = false; is_defined = false } in
      renamed {a = tt} w (record w { functions = w.functions ++ g ∷ [] })
      (record { wide = record { scopes = refl; clean = λ c. c; globals = refl; defined = λ y. known-defines_none w.functions g y refl; grown = extends-same w.structs; locals = none_more w; units = λ h. h }; locals = refl })
      (λ sound. sound) (λ b. (known-below w g b, tt))

  pub bind_type-goes : (x : Name) (t : Ty) (w : World) → Goes k gs naming w ((bind x (means.TypeName t) >> pure t) w) (λ u. Unit {0})
  unfolding bind
  bind_type-goes x t w =
      renamed {a = t} w (record w { scopes = bound_in w.scopes x (means.TypeName t) })
      (record {
        wide = record {
          scopes = outer-bound w.scopes x (means.TypeName t);
          clean = bound-clean w.scopes x (means.TypeName t) tt;
          globals = refl;
          defined = λ y. refl;
          grown = extends-same w.structs;
          locals = none_more w;
          units = λ h. h;
        };
        locals = refl;
      })
      (λ sound. bound-fits gs (local_types w) w.scopes x (means.TypeName t) sound tt) (λ b. (below-scopes grow k gs w (bound_in w.scopes x (means.TypeName t)) b, tt))

  bind_function-by : (x : Name) (bound : Bool) (w : World) → Goes k gs naming w ((if bound then pure tt else bind x means.Function) w) (λ u. Unit {0})
  unfolding bind
  bind_function-by x true w = ends k gs (λ b. tt)
  bind_function-by x false w = renamed {a = tt} w (record w { scopes = bound_in w.scopes x means.Function })
      (record { wide = record { scopes = outer-bound w.scopes x means.Function; clean = bound-clean w.scopes x means.Function tt; globals = refl; defined = λ y. refl; grown = extends-same w.structs; locals = none_more w; units = λ h. h }; locals = refl })
      (λ sound. bound-fits gs (local_types w) w.scopes x means.Function sound tt) (λ b. (below-scopes grow k gs w (bound_in w.scopes x means.Function) b, tt))

  pub named-goes : (x : Name) (f : FnTy) (w : World) → Goes k gs naming w ((make_known x f >> bind_function x) w) (λ u. Unit {0})
  named-goes x f w = after k gs _ _ (known-goes x f (known_function w.functions x) w) (λ u v q.
      weaker k gs _ (λ s h any. tt) (bind_function-by x (is_bound_here v x) v))

  function-by : (x : Name) (f : FnTy) (t : Ty) → t ≡ ty.Function f → (o : Option BuiltIn) (w : World)
      → Goes k gs naming w (declare_function_by x f o w) (λ e. (i : Option TypedInit) → DeclaredRow k e t i)
  function-by x f t is (Some b) w = ends k gs (λ below i. (f, is))
  function-by x f t is None w = after k gs ((make_known x f >> bind_function x) w) _ (named-goes x f w) (λ s z r. ends k gs (λ below any i. (f, is)))

  pub function-goes : (x : Name) (f : FnTy) (t : Ty) → t ≡ ty.Function f → (w : World) → Goes k gs naming w (declare_function x f w) (λ e. (i : Option TypedInit) → DeclaredRow k e t i)
  unfolding declare_function
  function-goes x f t is w = function-by x f t is (built_in_named x) w

  pub units_alone : (b c : Bool) → b ≡ false → (b || c) ≡ true → c ≡ true
  units_alone true c never_so allowed = cc
  units_alone false c never_so allowed = allowed

  declare-goes : (x : Name) (t : Ty) (o : Option FnTy) (w : World) → function_of t ≡ o → (is_function t || has_units w.structs t) ≡ true
      → Goes k gs widening w (declare_by false x t o w) (λ e. (is_function t || has_units k.structs t) ≡ true → (i : Option TypedInit) → IfInit (IsTypedInit k t) i → DeclaredRow k e t i)
  declare-goes x t (Some f) w is known = weaker k gs _ (λ e holds allowed i h. holds i) (naming-widely _ (function-goes x f t (function_of-is t f is) w))
  declare-goes x t None w is known = weaker k gs _ (λ e holds allowed i h. holds i (record { units = units_alone (is_function t) (has_units k.structs t) (no_function t is) allowed; init = h })) (variable-goes x t w (units_alone (is_function t) (has_units w.structs t) (no_function t is) known))

  -- ---- declared names

  form-goes : (P : Type 0) (c : Bool) (w : World) → (Below k w → P) → Goes k gs quiet w (rule broken.Form c w) (λ u. P)
  form-goes P true w later = ends k gs later
  form-goes P false w later = never k gs

  type_rules-go : (is_function_too : Bool) (t : Ty) (fits : Bool) (w : World) → Goes k gs quiet w (type_rules is_function_too t fits w) (λ u. (is_function_too || has_units k.structs t) ≡ true)
  unfolding type_rules
  type_rules-go b t fits w = ruled k gs broken.Unsized (b || has_units w.structs t) _ (λ units.
      form-goes _ fits w (λ below. stays.known_or_units-stays stay w.structs k.structs below.structs b t units))

  pub type-goes : (x : Name) (s : Shape) (fits : Bool) (w : World) → Goes k gs quiet w (declared_type x s fits w) (λ t. (is_function t || has_units k.structs t) ≡ true)
  unfolding declared_type
  type-goes x s fits w = ruled k gs broken.Redeclared (may_be_declared w x s) _ (λ free. finds k gs broken.Unsized (whole_of s) _ (λ t is.
      after k gs _ _ (type_rules-go (is_function_shape s) t fits w) (λ u v q. ends k gs (λ below holds. subst (λ b. (b || has_units k.structs t) ≡ true) (shape_function s t is) holds))))

  optional-goes : (t : Ty) (o : Option Init) (w : World) → HaveNoParameter w.scopes → Goes k gs quiet w (optional_init false t o w) (IfInit (IsTypedInit k t))
  optional-goes t None w clean = ends k gs (λ below. tt)
  optional-goes t (Some i) w clean =
      after k gs _ _ (inits.init-meets stay grow k gs ahead w.scopes (local_types w) false i (Some t) w (record { scopes = refl; locals = refl })) (λ x v q.
      ends k gs (λ below h. record { fits = h.fits t refl; levels = h.levels clean }))

  -- a declared name: its type, what it stands for, and its initialiser
  all-goes : (base : Ty) (d : LayeredDeclarator) (o : Option Init) (w : World) → HaveNoParameter w.scopes
      → Goes k gs widening w (declare_all false base d o w) (λ e. DeclaredRow k e.1 e.0 e.2)
  all-goes base d o w clean =
      after k gs {P = λ e. (i : Option TypedInit) → IfInit (IsTypedInit k e.0) i → DeclaredRow k e.1 e.0 i} (declare false base d o w) _
      (after_found k gs (shaped_type base d o w) _ (widely _ (type-goes d.name (completed o (shaped w.structs base d.layers)) (results_fit w.structs base d.layers) w)) (λ t v is q.
      after k gs _ _ (declare-goes d.name t (function_of t) v refl (allowed-found d.name (completed o (shaped w.structs base d.layers)) (results_fit w.structs base d.layers) w (t, v) is)) (λ e u r. ends k gs (λ below holds allowed. holds allowed)))) (λ e v q.
      after k gs _ _ (widely _ (optional-goes e.0 o v (q.clean clean))) (λ i u r. ends k gs (λ below hi holds. holds i hi)))

  declarator-goes : (base : Ty) (d : InitDeclarator) (w : World) → HaveNoParameter w.scopes
      → Goes k gs widening w (typed_init_declarator false base d w) (IsTypedInitDeclarator k)
  unfolding typed_init_declarator
  declarator-goes base d w clean =
      after k gs _ _ (widely _ (declarator-meets stay grow k gs ahead d.declarator w)) (λ x v q.
      after k gs _ _ (all-goes base x d.init v (q.clean clean)) (λ e u r.
      ends k gs (λ below row hx. record {
        bounds = parts.declared-made k x.tree e.0 hx;
        row = subst (λ t. DeclaredRow k e.1 t e.2) (sym (declared-ty x.tree e.0)) row;
      })))

  declarators-go : (base : Ty) (ds : List InitDeclarator) (w : World) → HaveNoParameter w.scopes
      → Goes k gs widening w (each (map (typed_init_declarator false base) ds) w) (AllByRecursion (IsTypedInitDeclarator k))
  declarators-go base [] w clean = ends k gs (λ below. tt)
  declarators-go base (d ∷ ds) w clean =
      after k gs _ _ (declarator-goes base d w clean) (λ x v q.
      after k gs _ _ (declarators-go base ds v (q.clean clean)) (λ xs u r.
      ends k gs (λ below hxs hx. (hx, hxs))))

  pub decl-goes : (d : Decl) (w : World) → HaveNoParameter w.scopes → Goes k gs widening w (typed_decl false d w) (IsTypedDecl k)
  unfolding typed_decl
  decl-goes d w clean =
      after k gs _ _ (widely _ ((spec-meets stay grow k gs ahead d.spec).0 w)) (λ base v q.
      after k gs _ _ (declarators-go base.1 d.declarators v (q.clean clean)) (λ ds u r.
      ends k gs (λ below hds hb. record { spec = hb; declarators = hds })))
