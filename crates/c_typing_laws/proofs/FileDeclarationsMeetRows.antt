-- The walk of a declaration that is an item finds what meets its rows.
use Rattle.std.proofs.Common.{◌≡◌, ◌∙◌, ℕ, suc, ◌+◌, Bool, true, false, ◌||◌, List, [], ◌∷◌, ◌++◌, length, map, Option, Some, None, slice_get, Ok, Err, refl, ap, sym, subst, append_assoc, arith}
use Rattle.std.proofs.lemmas.List.{append-nil}
use Rattle.std.specs.List.{AllByRecursion}
use Rattle.c_layers.specs.Shapes.{results_fit, shaped}
use Rattle.c_types.specs.declared.ty.FnTy.{FnTy}
use Rattle.c_types.specs.declared.ty.Ty.{Ty}
use Rattle.c_types.specs.declared.ty.Ty.TheVariants as ty
use Rattle.c_types.specs.Kinds.{function_of, is_function}
use Rattle.c_types.specs.Theorems.{TablesGrow, UnitsStay}
use Rattle.c_types.specs.Units.{has_units}
use Rattle.c_tree.specs.declared.statement.Decl.{Decl}
use Rattle.c_tree.specs.declared.statement.Init.{Init}
use Rattle.c_tree.specs.declared.statement.InitDeclarator.{InitDeclarator}
use Rattle.c_typed.specs.declared.entity.BuiltIn.{BuiltIn}
use Rattle.c_typed.specs.declared.entity.Entity.{Entity}
use Rattle.c_typed.specs.declared.entity.Entity.TheVariants as entity
use Rattle.c_typed.specs.declared.expression.Declared.{out-Declared}
use Rattle.c_typed.specs.declared.statement.TypedInit.{TypedInit}
use Rattle.c_typed.specs.declared.statement.TypedInitDeclarator.{TypedInitDeclarator}
use Rattle.c_scope.specs.declared.scopes.Binding.{Binding}
use Rattle.c_scope.specs.declared.scopes.Meaning.{Meaning}
use Rattle.c_scope.specs.declared.scopes.Meaning.TheVariants as means
use Rattle.c_scope.specs.declared.world.World.{World}
use Rattle.c_scope.specs.BuiltIns.{Name, built_in_named}
use Rattle.c_scope.specs.Definitions.{bind_function, declare_function, declare_function_by, declare_variable, make_known}
use Rattle.c_scope.specs.Scopes.{bind, bound_in}
use Rattle.c_scope.specs.Walk.{Outcome, Walk, ◌>>=◌, ◌>>◌, and_then, each, pure}
use Rattle.c_declarator_rules.specs.declared.declarators.LayeredDeclarator.{LayeredDeclarator}
use Rattle.c_declarator_rules.specs.Rules.{declared}
use Rattle.c_expr_typing.specs.Trees.{typed_declarator, typed_spec}
use Rattle.c_declaration_typing.specs.Declarations.{completed, declare, declare_all, declare_by, optional_init, shaped_type, typed_decl, typed_init_declarator}
use Rattle.c_typed_rows.specs.Contexts.{Context, Signature}
use Rattle.c_typed_rows.specs.Expressions.{IsTypedSpec}
use Rattle.c_typed_rows.specs.Initialisers.{IsTypedInit}
use Rattle.c_typed_rows.specs.Sources.{Global, are_numbered, declared_globals, global_by}
use Rattle.c_typed_rows.specs.Statements.{DeclaredRow, IfInit, IsTypedDecl, IsTypedInitDeclarator, VariableRow}
use Rattle.c_typing_laws.specs.Worlds.{AreFirst, Below, EntityFits, HaveNoParameter, IsFile, MeaningFits, ScopesFit, local_types}
use Rattle.c_typing_laws.specs.inner.Goes.{Goes, after, ends}
use Rattle.c_typing_laws.specs.inner.TypedTrees.{IsTypedDeclarator}
use Rattle.c_typing_laws.proofs.DeclarationsMeetRows as locals
use Rattle.c_typing_laws.proofs.DeclarationsMeetRows.{bound-clean, declared-ty, function_of-is, naming, no_function}
use Rattle.c_typing_laws.proofs.InitialisersMeetRows as inits
use Rattle.c_typing_laws.proofs.PartsMeetRows.{bound-fits}
use Rattle.c_typing_laws.proofs.TypedParts as parts
use Rattle.c_typing_laws.proofs.WalksMeetRows.{declarator-meets, spec-meets}
use Rattle.c_typing_laws.proofs.WorldSteps.{at_seam, defining, in_front, quiet}

-- ---- what a step at the file's level leaves

-- a context with these global variables
pub with_globals : List Ty → Context
with_globals gs = record { structs = []; functions = []; globals = gs; strings = []; locals = []; result = ty.Void }

pub are-first : (gs : List Ty) → AreFirst (with_globals gs) gs
unfolding with_globals
are-first gs n t is = is

abbrev pub types_of : List Global → List Ty
types_of ns = map (λ g. g.ty) ns

pub first-behind : (k : Context) (gs more : List Ty) → AreFirst k (gs ++ more) → AreFirst k gs
first-behind k gs more first n t is = first n t (in_front gs more n t is)

-- ---- lists

types-joined : (ns more : List Global) → types_of (ns ++ more) ≡ types_of ns ++ types_of more
types-joined [] more = refl
types-joined (n ∷ ns) more = ap (λ ts. n.ty ∷ ts) (types-joined ns more)

pub types-regroup : (gs : List Ty) (ns more : List Global) → (gs ++ types_of ns) ++ types_of more ≡ gs ++ types_of (ns ++ more)
types-regroup gs ns more = append_assoc gs (types_of ns) (types_of more) ∙ ap (λ ts. gs ++ ts) (sym (types-joined ns more))

pub numbered-joined : (n m : ℕ) (ns more : List Global) → m ≡ n + length ns → are_numbered n ns → are_numbered m more → are_numbered n (ns ++ more)
numbered-joined n m [] more is first second = subst (λ l. are_numbered l more) (omega arith) second
numbered-joined n m (g ∷ ns) more is first second = (first.0, numbered-joined (suc n) m ns more (omega arith) first.1 second)

pub length-types : (gs : List Ty) (ns : List Global) → length (gs ++ types_of ns) ≡ length gs + length ns
length-types [] [] = omega arith
length-types [] (n ∷ ns) = let h : length ([] ++ types_of ns) ≡ 0 + length ns = length-types [] ns in omega arith
length-types (g ∷ gs) ns = let h : length (gs ++ types_of ns) ≡ length gs + length ns = length-types gs ns in omega arith

-- ---- scopes with a global variable more

entity-more : (gs more ls : List Ty) (e : Entity) (t : Ty) → EntityFits gs ls e t → EntityFits (gs ++ more) ls e t
entity-more gs more ls (entity.Global n) t fit = in_front gs more n t fit
entity-more gs more ls (entity.Local n) t fit = fit
entity-more gs more ls entity.Parameter t fit = fit
entity-more gs more ls entity.Function t fit = fit
entity-more gs more ls (entity.BuiltIn b) t fit = fit

meaning-more : (gs more ls : List Ty) (m : Meaning) → MeaningFits gs ls m → MeaningFits (gs ++ more) ls m
meaning-more gs more ls (means.Variable e t) fit = entity-more gs more ls e t fit
meaning-more gs more ls means.Function fit = fit
meaning-more gs more ls (means.TypeName t) fit = fit

scope-more : (gs more ls : List Ty) (bs : List Binding) → AllByRecursion (λ b. MeaningFits gs ls b.meaning) bs → AllByRecursion (λ b. MeaningFits (gs ++ more) ls b.meaning) bs
scope-more gs more ls [] fit = tt
scope-more gs more ls (b ∷ bs) fit = (meaning-more gs more ls b.meaning fit.0, scope-more gs more ls bs fit.1)

scopes-more : (gs more ls : List Ty) (ss : List (List Binding)) → ScopesFit gs ls ss → ScopesFit (gs ++ more) ls ss
scopes-more gs more ls [] fit = tt
scopes-more gs more ls (s ∷ ss) fit = (scope-more gs more ls s fit.0, scopes-more gs more ls ss fit.1)

length_seam : (gs : List Ty) (t : Ty) → length (gs ++ t ∷ []) ≡ length gs + 1
length_seam [] t = omega arith
length_seam (g ∷ gs) t = let h : length (gs ++ t ∷ []) ≡ length gs + 1 = length_seam gs t in omega arith

last_at : (gs : List Ty) (t : Ty) (n : ℕ) → n ≡ length gs → slice_get (gs ++ t ∷ []) n ≡ Some t
last_at gs t n is = ap (slice_get (gs ++ t ∷ [])) is ∙ at_seam gs t

-- ---- steps behind the definitions of these functions

module _ (fs : List Signature) where
  pub record FileStays (gs : List Ty) {A : Type 0} (w : World) (o : Outcome (A × World)) (Q : Context → A → Type 0) : Type 0 where
    pub found : (r : A × World) → o ≡ Ok r → IsFile gs fs w → IsFile gs fs r.1 × ((k : Context) → AreFirst k gs → Below k r.1 → Below k w × Q k r.0)

  -- the same, where what is found declares global variables
  pub record FileGoes (gs : List Ty) {A : Type 0} (w : World) (o : Outcome (A × World)) (news : A → List Global) (Q : Context → A → Type 0) : Type 0 where
    pub found : (r : A × World) → o ≡ Ok r → IsFile gs fs w
        → IsFile (gs ++ types_of (news r.0)) fs r.1 × are_numbered (length gs) (news r.0)
        × ((k : Context) → AreFirst k (gs ++ types_of (news r.0)) → Below k r.1 → Below k w × Q k r.0)

  pub of_quiet : {A : Type 0} {Q : Context → A → Type 0} (gs : List Ty) (w : World) (o : Outcome (A × World)) → ((k : Context) → AreFirst k gs → Goes k gs quiet w o (Q k)) → FileStays gs w o Q
  of_quiet gs w o goes = record {
    found = λ r is file.
        let h = (goes (with_globals gs) (are-first gs)).found r is file.scopes in (
          record { scopes = h.1; no_parameter = subst HaveNoParameter (sym h.0.scopes) file.no_parameter; no_local = h.0.steady.locals ∙ file.no_local; count = h.0.steady.globals ∙ file.count; defined = λ x. h.0.steady.defined x ∙ file.defined x; distinct = file.distinct },
          λ k first below. ((goes k first).found r is file.scopes).2 below,
        );
  }

  pub of_defining : {A : Type 0} {Q : Context → A → Type 0} (gs : List Ty) (w : World) (o : Outcome (A × World)) → ((k : Context) → AreFirst k gs → Goes k gs defining w o (Q k)) → FileStays gs w o Q
  of_defining gs w o goes = record {
    found = λ r is file.
        let h = (goes (with_globals gs) (are-first gs)).found r is file.scopes in (
          record { scopes = h.1; no_parameter = subst HaveNoParameter (sym h.0.scopes) file.no_parameter; no_local = h.0.steady.locals ∙ file.no_local; count = h.0.steady.globals ∙ file.count; defined = λ x. h.0.steady.defined x ∙ file.defined x; distinct = file.distinct },
          λ k first below. ((goes k first).found r is file.scopes).2 below,
        );
  }

  pub of_naming : {A : Type 0} {Q : Context → A → Type 0} (gs : List Ty) (w : World) (o : Outcome (A × World)) → ((k : Context) → AreFirst k gs → Goes k gs naming w o (Q k)) → FileStays gs w o Q
  of_naming gs w o goes = record {
    found = λ r is file.
        let h = (goes (with_globals gs) (are-first gs)).found r is file.scopes in (
          record { scopes = h.1; no_parameter = h.0.wide.clean file.no_parameter; no_local = h.0.locals ∙ file.no_local; count = h.0.wide.globals ∙ file.count; defined = λ x. h.0.wide.defined x ∙ file.defined x; distinct = file.distinct },
          λ k first below. ((goes k first).found r is file.scopes).2 below,
        );
  }

  pub behind : {A B : Type 0} {P : Context → A → Type 0} {Q : Context → B → Type 0} {news : B → List Global} (gs : List Ty) (w : World) (o : Outcome (A × World)) (f : A → Walk B)
      → FileStays gs w o P → ((a : A) (v : World) → FileGoes gs v (f a v) news (λ k b. P k a → Q k b)) → FileGoes gs w (and_then o f) news Q
  behind {news = news} gs w (Ok a) f first rest = record {
    found = λ r is file.
        let h = first.found a refl file in
        let g = (rest a.0 a.1).found r is h.0 in (
          g.0,
          g.1,
          λ k ahead below.
              let m = g.2 k ahead below in
              let n = h.1 k (first-behind k gs (types_of (news r.0)) ahead) m.0 in (n.0, m.1 n.1),
        );
  }
  behind gs w (Err e) f first rest = record { found = λ r is. cc }

  abbrev Left : {A : Type 0} → List Ty → World → (A → List Global) → (Context → A → Type 0) → A × World → Type 0
  Left gs w news Q r = IsFile (gs ++ types_of (news r.0)) fs r.1 × are_numbered (length gs) (news r.0)
      × ((k : Context) → AreFirst k (gs ++ types_of (news r.0)) → Below k r.1 → Below k w × Q k r.0)

  abbrev answered : {A : Type 0} → A → World → Outcome (A × World)
  answered a w = Ok (a, w)

  left-same : {A : Type 0} (gs : List Ty) (w v : World) (news : A → List Global) (Q : Context → A → Type 0) (a : A) (r : A × World) → answered a v ≡ Ok r → Left gs w news Q (a, v) → Left gs w news Q r
  left-same gs w v news Q a r is left =
      let same : (a, v) ≡ r = cc in
      subst (Left gs w news Q) same left

  -- nothing is declared
  pub ends_file : {A : Type 0} {Q : Context → A → Type 0} {news : A → List Global} (gs : List Ty) (a : A) (w : World) → news a ≡ [] → ((k : Context) → AreFirst k gs → Below k w → Q k a)
      → FileGoes gs w (Ok (a, w)) news Q
  ends_file {A} {Q} {news} gs a w none holds = record {
    found = λ r is file. left-same gs w w news Q a r is (
      subst (λ ns. IsFile (gs ++ types_of ns) fs w) (sym none) (subst (λ hs. IsFile hs fs w) (sym (append-nil gs)) file),
      subst (are_numbered (length gs)) (sym none) tt,
      λ k ahead below. (below, holds k (first-behind k gs (types_of (news a)) ahead) below),
    );
  }

  -- another form of what is found
  pub mapped : {A B : Type 0} {P : Context → A → Type 0} {Q : Context → B → Type 0} {news : A → List Global} {renewed : B → List Global} (gs : List Ty) (w : World) (o : Outcome (A × World)) (g : A → B)
      → ((a : A) → renewed (g a) ≡ news a) → ((k : Context) (a : A) → P k a → Q k (g a)) → FileGoes gs w o news P → FileGoes gs w (and_then o (λ a. pure (g a))) renewed Q
  mapped {Q = Q} {news = news} {renewed = renewed} gs w (Ok a) g same holds goes = record {
    found = λ r is file.
        let h = goes.found a refl file in
        left-same gs w a.1 renewed Q (g a.0) r is (
          subst (λ ns. IsFile (gs ++ types_of ns) fs a.1) (sym (same a.0)) h.0,
          subst (are_numbered (length gs)) (sym (same a.0)) h.1,
          λ k ahead below. let m = h.2 k (subst (λ ns. AreFirst k (gs ++ types_of ns)) (same a.0) ahead) below in (m.0, holds k a.0 m.1),
        );
  }
  mapped gs w (Err e) g same holds goes = record { found = λ r is. cc }

  -- a step that declares, and one that doesn't
  joined_by : {A I B : Type 0} (P : Context → A → Type 0) (S : A → Context → I → Type 0) (Q : Context → B → Type 0) (news : A → List Global) (renewed : B → List Global)
      (gs : List Ty) (w : World) (a : A × World) (o : Outcome (I × World)) (g : A → I → B)
      → ((b : A) (i : I) → renewed (g b i) ≡ news b) → ((k : Context) (b : A) (i : I) → P k b → S b k i → Q k (g b i))
      → Left gs w news P a → FileStays (gs ++ types_of (news a.0)) a.1 o (S a.0)
      → (r : B × World) → and_then o (λ i. pure (g a.0 i)) ≡ Ok r → Left gs w renewed Q r
  joined_by P S Q news renewed gs w a (Ok i) g same holds h stays r is =
      let s = stays.found i refl h.0 in
      left-same gs w i.1 renewed Q (g a.0 i.0) r is (
        subst (λ ns. IsFile (gs ++ types_of ns) fs i.1) (sym (same a.0 i.0)) s.0,
        subst (are_numbered (length gs)) (sym (same a.0 i.0)) h.1,
        λ k ahead below.
            let first = subst (λ ns. AreFirst k (gs ++ types_of ns)) (same a.0 i.0) ahead in
            let m = s.1 k first below in
            let n = h.2 k first m.0 in (n.0, holds k a.0 i.0 n.1 m.1),
      )
  joined_by P S Q news renewed gs w a (Err e) g same holds h stays r is = cc

  then_stays : {A I B : Type 0} {P : Context → A → Type 0} {S : A → Context → I → Type 0} {Q : Context → B → Type 0} {news : A → List Global} {renewed : B → List Global}
      (gs : List Ty) (w : World) (o : Outcome (A × World)) (p : A → Walk I) (g : A → I → B)
      → ((b : A) (i : I) → renewed (g b i) ≡ news b) → ((k : Context) (b : A) (i : I) → P k b → S b k i → Q k (g b i))
      → FileGoes gs w o news P → ((b : A) (v : World) → IsFile (gs ++ types_of (news b)) fs v → FileStays (gs ++ types_of (news b)) v (p b v) (S b))
      → FileGoes gs w (and_then o (λ b. p b >>= (λ i. pure (g b i)))) renewed Q
  then_stays {P = P} {S = S} {Q = Q} {news = news} {renewed = renewed} gs w (Ok a) p g same holds goes rest = record {
    found = λ r is file.
        let h = goes.found a refl file in
        joined_by P S Q news renewed gs w a (p a.0 a.1) g same holds h (rest a.0 a.1 h.0) r is;
  }
  then_stays gs w (Err e) p g same holds goes rest = record { found = λ r is. cc }

  -- less is asked
  loosened : {A : Type 0} {P Q : Context → A → Type 0} {news : A → List Global} (gs : List Ty) (w : World) (o : Outcome (A × World)) → ((k : Context) (a : A) → P k a → Q k a)
      → FileGoes gs w o news P → FileGoes gs w o news Q
  loosened gs w o less goes = record { found = λ r is file. let h = goes.found r is file in (h.0, h.1, λ k ahead below. let m = h.2 k ahead below in (m.0, less k r.0 m.1)) }

  -- ---- variables

  file_variable : (gs : List Ty) (x : Name) (t : Ty) (w : World)
      → FileGoes gs w (declare_variable true x t w) (λ e. global_by e t) (λ k e. (i : Option TypedInit) → VariableRow k t i → DeclaredRow k e t i)
  unfolding declare_variable bind
  file_variable gs x t w = record {
    found = λ r is file.
        let e : Entity = entity.Global w.globals in
        let ss : List (List Binding) = bound_in w.scopes x (means.Variable e t) in
        let last : slice_get (gs ++ t ∷ []) w.globals ≡ Some t = last_at gs t w.globals file.count in
        left-same gs w (record w { globals = w.globals + 1; scopes = ss }) (λ e. global_by e t) (λ k e. (i : Option TypedInit) → VariableRow k t i → DeclaredRow k e t i) e r is (
          record {
            scopes = bound-fits (gs ++ t ∷ []) (local_types w) w.scopes x (means.Variable e t) (scopes-more gs (t ∷ []) (local_types w) w.scopes file.scopes) last;
            no_parameter = bound-clean w.scopes x (means.Variable e t) tt file.no_parameter;
            no_local = file.no_local;
            count = ap (λ n. n + 1) file.count ∙ sym (length_seam gs t);
            defined = file.defined;
            distinct = file.distinct;
          },
          (file.count, tt),
          λ k ahead below. (record { structs = below.structs; functions = below.functions; strings = below.strings; locals = below.locals }, λ i row. (ahead w.globals t last, row)),
        );
  }

  -- ---- lists of declarators

  module _ (Q : Context → TypedInitDeclarator → Type 0) where
    abbrev one : TypedInitDeclarator → List Global
    one d = global_by d.entity (out-Declared d.declared).ty

    second_by : (gs : List Ty) (w : World) (a : TypedInitDeclarator × World) (o : Outcome (List TypedInitDeclarator × World))
        → Left gs w one Q a → FileGoes (gs ++ types_of (one a.0)) a.1 o declared_globals (λ k. AllByRecursion (Q k))
        → (r : List TypedInitDeclarator × World) → and_then o (λ xs. pure (a.0 ∷ xs)) ≡ Ok r → Left gs w declared_globals (λ k. AllByRecursion (Q k)) r
    second_by gs w a (Ok b) h goes r is =
        let g = goes.found b refl h.0 in
        left-same gs w b.1 declared_globals (λ k. AllByRecursion (Q k)) (a.0 ∷ b.0) r is (
          subst (λ hs. IsFile hs fs b.1) (types-regroup gs (one a.0) (declared_globals b.0)) g.0,
          numbered-joined (length gs) _ (one a.0) (declared_globals b.0) (length-types gs (one a.0)) h.1 g.1,
          λ k ahead below.
              let all = subst (AreFirst k) (sym (types-regroup gs (one a.0) (declared_globals b.0))) ahead in
              let m = g.2 k all below in
              let n = h.2 k (first-behind k (gs ++ types_of (one a.0)) (types_of (declared_globals b.0)) all) m.0 in (n.0, (n.1, m.1)),
        )
    second_by gs w a (Err e) h goes r is = cc

    cons_file : (gs : List Ty) (w : World) (o : Outcome (TypedInitDeclarator × World)) (rest : Walk (List TypedInitDeclarator))
        → FileGoes gs w o one Q → ((hs : List Ty) (v : World) → IsFile hs fs v → FileGoes hs v (rest v) declared_globals (λ k. AllByRecursion (Q k)))
        → FileGoes gs w (and_then o (λ x. rest >>= (λ xs. pure (x ∷ xs)))) declared_globals (λ k. AllByRecursion (Q k))
    cons_file gs w (Ok a) rest goes later = record {
      found = λ r is file.
          let h = goes.found a refl file in
          second_by gs w a (rest a.1) h (later (gs ++ types_of (one a.0)) a.1 h.0) r is;
    }
    cons_file gs w (Err e) rest goes later = record { found = λ r is. cc }

  -- ---- declarations

  units_alone : (b c : Bool) → b ≡ false → (b || c) ≡ true → c ≡ true
  units_alone true c never_so allowed = cc
  units_alone false c never_so allowed = allowed

  module _ (stay : UnitsStay) (grow : TablesGrow) where
    function-file : (gs : List Ty) (x : Name) (f : FnTy) (t : Ty) → t ≡ ty.Function f → (o : Option BuiltIn) (w : World)
        → FileGoes gs w (declare_function_by x f o w) (λ e. global_by e t) (λ k e. (i : Option TypedInit) → DeclaredRow k e t i)
    function-file gs x f t is (Some b) w = ends_file gs (entity.BuiltIn b) w refl (λ k first below i. (f, is))
    function-file gs x f t is None w = behind {P = λ k u. Unit {0}} gs w ((make_known x f >> bind_function x) w) _
        (of_naming gs w ((make_known x f >> bind_function x) w) (λ k first. locals.named-goes stay grow k gs first x f w))
        (λ u v. ends_file gs entity.Function v refl (λ k first below any i. (f, is)))

    -- what is asked of the type of a declared name
    abbrev Allowed : Context → Ty → Type 0
    Allowed k t = (is_function t || has_units k.structs t) ≡ true

    declare-file : (gs : List Ty) (x : Name) (t : Ty) (o : Option FnTy) (w : World) → function_of t ≡ o
        → FileGoes gs w (declare_by true x t o w) (λ e. global_by e t) (λ k e. Allowed k t → (i : Option TypedInit) → IfInit (IsTypedInit k t) i → DeclaredRow k e t i)
    unfolding declare_function
    declare-file gs x t (Some f) w is = loosened gs w _ (λ k e holds allowed i h. holds i) (function-file gs x f t (function_of-is t f is) (built_in_named x) w)
    declare-file gs x t None w is = loosened gs w _ (λ k e holds allowed i h. holds i (record { units = units_alone (is_function t) (has_units k.structs t) (no_function t is) allowed; init = h })) (file_variable gs x t w)

    named-file : (gs : List Ty) (base : Ty) (d : LayeredDeclarator) (o : Option Init) (w : World)
        → FileGoes gs w (declare true base d o w) (λ e. global_by e.1 e.0) (λ k e. (i : Option TypedInit) → IfInit (IsTypedInit k e.0) i → DeclaredRow k e.1 e.0 i)
    named-file gs base d o w = behind {P = Allowed} gs w (shaped_type base d o w) _
        (of_quiet gs w (shaped_type base d o w) (λ k first. locals.type-goes stay grow k gs first d.name (completed o (shaped w.structs base d.layers)) (results_fit w.structs base d.layers) w))
        (λ t v. mapped gs v (declare_by true d.name t (function_of t) v) (λ e. (t, e)) (λ e. refl) (λ k e holds allowed. holds allowed) (declare-file gs d.name t (function_of t) v refl))

    optional-file : (gs : List Ty) (t : Ty) (o : Option Init) (w : World) → IsFile gs fs w → FileStays gs w (optional_init true t o w) (λ k. IfInit (IsTypedInit k t))
    optional-file gs t None w file = of_quiet gs w (optional_init true t None w) (λ k first. ends k gs (λ below. tt))
    optional-file gs t (Some i) w file = of_quiet gs w (optional_init true t (Some i) w) (λ k first.
        after k gs _ _ (inits.init-meets stay grow k gs first w.scopes (local_types w) true i (Some t) w (record { scopes = refl; locals = refl })) (λ x v q.
        ends k gs (λ below h. record { fits = h.fits t refl; levels = h.levels file.no_parameter })))

    all-file : (gs : List Ty) (base : Ty) (d : LayeredDeclarator) (o : Option Init) (w : World)
        → FileGoes gs w (declare_all true base d o w) (λ e. global_by e.1 e.0) (λ k e. DeclaredRow k e.1 e.0 e.2)
    all-file gs base d o w = then_stays {P = λ k e. (i : Option TypedInit) → IfInit (IsTypedInit k e.0) i → DeclaredRow k e.1 e.0 i} {S = λ e k. IfInit (IsTypedInit k e.0)}
        gs w (declare true base d o w) (λ e. optional_init true e.0 o) (λ e i. (e.0, e.1, i)) (λ e i. refl) (λ k e i holds h. holds i h)
        (named-file gs base d o w) (λ e v file. optional-file (gs ++ types_of (global_by e.1 e.0)) e.0 o v file)

    declarator-file : (gs : List Ty) (base : Ty) (d : InitDeclarator) (w : World)
        → FileGoes gs w (typed_init_declarator true base d w) (λ d. global_by d.entity (out-Declared d.declared).ty) (λ k. IsTypedInitDeclarator k)
    unfolding typed_init_declarator
    declarator-file gs base d w = behind {P = λ k x. IsTypedDeclarator k x.tree} gs w (typed_declarator d.declarator w) _
        (of_quiet gs w (typed_declarator d.declarator w) (λ k first. declarator-meets stay grow k gs first d.declarator w))
        (λ x v. mapped gs v (declare_all true base x d.init v) (λ e. record { declared = declared x.tree e.0; entity = e.1; init = e.2 }) (λ e. ap (global_by e.1) (declared-ty x.tree e.0))
        (λ k e row hx. record { bounds = parts.declared-made k x.tree e.0 hx; row = subst (λ t. DeclaredRow k e.1 t e.2) (sym (declared-ty x.tree e.0)) row })
        (all-file gs base x d.init v))

    declarators-file : (gs : List Ty) (base : Ty) (ds : List InitDeclarator) (w : World)
        → FileGoes gs w (each (map (typed_init_declarator true base) ds) w) declared_globals (λ k. AllByRecursion (IsTypedInitDeclarator k))
    declarators-file gs base [] w = ends_file gs [] w refl (λ k first below. tt)
    declarators-file gs base (d ∷ ds) w = cons_file (λ k. IsTypedInitDeclarator k) gs w (typed_init_declarator true base d w) (each (map (typed_init_declarator true base) ds))
        (declarator-file gs base d w) (λ hs v file. declarators-file hs base ds v)

    pub decl-file : (gs : List Ty) (d : Decl) (w : World) → FileGoes gs w (typed_decl true d w) (λ d. declared_globals d.declarators) (λ k. IsTypedDecl k)
    unfolding typed_decl
    decl-file gs d w = behind {P = λ k base. IsTypedSpec k base.0} gs w (typed_spec d.spec true w) _
        (of_defining gs w (typed_spec d.spec true w) (λ k first. (spec-meets stay grow k gs first d.spec).1 w))
        (λ base v. mapped gs v (each (map (typed_init_declarator true base.1) d.declarators) v) (λ ds. record { spec = base.0; declarators = ds }) (λ ds. refl)
        (λ k ds hds hb. record { spec = hb; declarators = hds }) (declarators-file gs base.1 d.declarators v))
