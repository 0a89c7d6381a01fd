-- The full expressions of an initialiser are as asked.
use Rattle.std.proofs.Common.{◌≡◌, ◌∙◌, ℕ, pos, Bool, true, false, inr, List, [], ◌∷◌, length, refl, ap, sym, subst, ⊎_elim}
use Rattle.std.specs.Prelude.{if◌then◌else◌}
use Rattle.c_types.specs.declared.ty.Ty.{Ty}
use Rattle.c_types.specs.declared.ty.Ty.TheVariants as ty
use Rattle.c_types.specs.Kinds.{is_scalar, is_struct}
use Rattle.c_typed.specs.declared.expression.TypedExpr.{TypedExpr}
use Rattle.c_typed.specs.declared.statement.TypedInit.{TypedInit, every-TypedInit, every_here-TypedInit, fold_out-TypedInit, map-TypedInit, out-TypedInit, out-roll-TypedInit}
use Rattle.c_typed.specs.declared.statement.TypedInit.TheVariants as init
use Rattle.c_typed.specs.declared.statement.TypedInit.TheOpen.{TypedInit-F}
use Rattle.c_operators.specs.Operators.{converts, takes_value}
use Rattle.c_typed_rows.specs.Contexts.{Context}
use Rattle.c_typed_rows.specs.Expressions.{is_value}
use Rattle.c_typed_rows.specs.Initialisers.{InitLevel, IsTypedInit, fits_step, init_fits}
use Rattle.core_ir.specs.declared.instr.Instr.TheVariants.{PtrConst}
use Rattle.core_ir.specs.declared.program.Function.{Function}
use Rattle.core_ir.specs.declared.program.Program.{Program}
use Rattle.core_ir.specs.Parts as parts
use Rattle.elab_rows.specs.declared.named.Named.TheVariants as named
use Rattle.elab_rows.specs.declared.scope.Scope.{Scope}
use Rattle.elab_rows.specs.Addresses.{Lvalue, assigned, member_address, struct_assigned}
use Rattle.elab_rows.specs.Made.{Code}
use Rattle.elab_rows.specs.Rows.{number}
use Rattle.elab_rows.specs.Units.{scalars}
use Rattle.elab_rows.specs.Values.{converted_code, part, whole}
use Rattle.elab_pieces.specs.Initialisers.{ByByte, ByExpr, Given, Leaf, Missing, given_initialised, given_leaves, initialised, initialised_at, is_given, leaf_assigned, leaf_codes, leaf_value, leaves, part_lvalue, struct_leaf}
use Rattle.elab_valid.proofs.Names.{ScopeFits}
use Rattle.c_typed_rows.specs.Types as types
use Rattle.elab_valid.specs.Types.{TellsTypes}
use Rattle.elab_valid.proofs.AssignmentsMet as assignments
use Rattle.elab_valid.proofs.ExpressionsMet.{expression-met}
use Rattle.elab_valid.proofs.KeptRows as kept
use Rattle.elab_valid.proofs.LeafParts.{AllLeaves, GivenFits, LeafFits, leaves-fit, text-roll-fit}
use Rattle.elab_valid.proofs.MetParts as met
use Rattle.elab_valid.proofs.MetParts.{GivesValue, InMemory, IsMet, IsScalar, Laws, Names, Sound, Slots}
use Rattle.elab_valid.proofs.NamesMet.{int-integer}
use Rattle.elab_valid.proofs.TextScalars.{AllIntegers}
use Rattle.elab_valid.proofs.TypedRows as typing
use Rattle.elab_valid.proofs.NamedTypes.{int-named}
use Rattle.elab_valid.proofs.Operations.{int-scalar}
use Rattle.elab_valid.proofs.SoundPieces as pieces
use Rattle.elab_valid.proofs.SoundPieces.{AllFull, PieceLaws, SoundFull}
use Rattle.elab_valid.proofs.Sources as source
use Rattle.elab_valid.proofs.Sources.{HasSource}
use Rattle.elab_valid.proofs.TypeKinds.{either, first, second, struct-no_scalar}
use Rattle.elab_valid.proofs.UnaryMet as unary

module _ (laws : PieceLaws) (p : Program) (f : Function) (frame : Bool) (k : Context) (scope : Scope) (fits : ScopeFits laws.base.known k scope p f) (test : Ty → Bool) (tells : TellsTypes p.structs test) where
  abbrev base : Laws
  base = laws.base

  -- an expression that is as asked, and gives a value
  abbrev pub Met : TypedExpr → Type 0
  Met e = IsMet base p f k scope e × (is_value e ≡ true)

  abbrev Full : Code → Type 0
  Full a = SoundFull laws p f frame a

  abbrev Leaves : Ty → List Leaf → Type 0
  Leaves = AllLeaves p.structs fits.sound Met

  full-from : (a : Code) (t : Ty) → GivesValue base p f a t → Full a
  full-from a t g = pieces.full-sound laws p f frame a (met.done base p f a g.good) g.kept (met.typed-done base p f a t g.typed)

  -- ---- one leaf

  scalar-of : (t : Ty) → is_struct t ≡ false → takes_value t ≡ true → is_scalar t ≡ true
  unfolding takes_value
  scalar-of t plain takes = ⊎_elim (λ s. s) (λ s. absurd (let z : is_struct t ≡ true = s in cc)) (either (is_scalar t) (is_struct t) takes)

  value-given : (t : Ty) (g : Given) → Names base p f t → is_struct t ≡ false → GivenFits p.structs fits.sound Met t g → GivesValue base p f (leaf_value scope t g) t
  unfolding converted_code
  value-given t (ByExpr e) names plain h =
      let s = scalar-of t plain (first (takes_value t) (converts e t) h.1) in
      met.converted-given base p f k scope e h.0.0 t h.0.1 (s, names) (met.value-converts base p f k scope e h.0.0 t (second (takes_value t) (converts e t) h.1)) (unary.names-value base p f k scope fits e h.0.0)
  value-given t (ByByte n) names plain h = met.number-gives base p f k scope (pos n) t h.1
  value-given t Missing names plain h =
      let zero = number (pos 0) in
      record {
        typed = λ place register slot. typing.converted-typed p f (Slots base p f) base.equal ty.Int t zero place register slot [] (met.number-typed base p f (pos 0) ty.Int int-integer place register slot);
        good = λ place register slot. base.rows.operators.conversion ty.Int t zero place register slot [] (base.rows.singles.number (pos 0) place register slot);
        kept = kept.kept_converted base.fit base.touch p f ty.Int t zero (inr (int-scalar, h)) (int-named (length p.structs)) names (kept.kept_number base.fit base.touch p f (pos 0));
        source = λ pointer. source.converted_source base.parts ty.Int t zero (λ same. met.number-source base p f k scope (pos 0));
      }

  struct-leaf : (x : Lvalue) (t : Ty) (g : Given) → InMemory base p f x → x.ty ≡ t → is_struct t ≡ true → GivenFits p.structs fits.sound Met t g → Full (struct_leaf scope (record x { ty = t }) g)
  struct-leaf x t (ByExpr e) m same s h =
      let both = assignments.struct-from base p f k scope fits x t m same s e h.0.0 (met.value-converts base p f k scope e h.0.0 t (second (takes_value t) (converts e t) h.1)) in
      subst (λ ds. Full (struct_assigned (scalars ds t) x (part scope e).lvalue)) (sym fits.structs_of_scope)
      (pieces.full-sound laws p f frame (struct_assigned (scalars p.structs t) x (part scope e).lvalue) (met.done base p f (struct_assigned (scalars p.structs t) x (part scope e).lvalue) both.0) both.1 both.2)
  struct-leaf x t (ByByte n) m same s h = absurd (let a : is_scalar t ≡ false = struct-no_scalar t s in let b : is_scalar t ≡ true = h.0 in cc)
  struct-leaf x t Missing m same s h = absurd (let a : is_scalar t ≡ false = struct-no_scalar t s in let b : is_scalar t ≡ true = h in cc)

  leaf-by : (b : Bool) (x : Lvalue) (g : Given) → is_struct x.ty ≡ b → InMemory base p f x → GivenFits p.structs fits.sound Met x.ty g
      → Full (if b then struct_leaf scope x g else assigned x (leaf_value scope x.ty g))
  leaf-by true x g e m h = struct-leaf x x.ty g m refl e h
  leaf-by false x g e m h = full-from (assigned x (leaf_value scope x.ty g)) x.ty (assignments.assigned-gives base p f k scope fits named.Other x (leaf_value scope x.ty g) x.ty m refl (value-given x.ty g m.ty e h))

  assigned-leaf : (x : Lvalue) (g : Given) → InMemory base p f x → GivenFits p.structs fits.sound Met x.ty g → Full (leaf_assigned scope x g)
  assigned-leaf x g m h = leaf-by (is_struct x.ty) x g refl m h

  -- ---- what gives a whole variable

  module _ (root : Ty) (i : TypedInit) (typed : IsTypedInit k root i) (fit : every-TypedInit (types.InitLevel test) i) where
    at-expr : (e : TypedExpr) → InitLevel k (TypedInit-F.Expr e) → types.InitLevel test (TypedInit-F.Expr e) → Met e
    at-expr e value types_fit = (expression-met base p f k scope fits test tells e value.levels types_fit, value.value)

    takes : init_fits p.structs i root ≡ true
    takes = subst (λ ds. init_fits ds i root ≡ true) fits.structs_of_context typed.fits

    pub whole-given : (o : TypedInit-F TypedInit) → out-TypedInit i ≡ o → (e : TypedExpr) → o ≡ TypedInit-F.Expr e → GivenFits p.structs fits.sound Met root (ByExpr e)
    unfolding init_fits
    whole-given o out e is =
        let at_out = out ∙ is in
        let level = subst (InitLevel k) at_out (every_here-TypedInit (InitLevel k) i typed.levels) in
        let types_fit = subst (types.InitLevel test) at_out (every_here-TypedInit (types.InitLevel test) i fit) in
        let opened = fold_out-TypedInit (Ty → Bool) (fits_step p.structs) i in
        let here : fits_step p.structs (map-TypedInit TypedInit (Ty → Bool) (init_fits p.structs) (TypedInit-F.Expr e)) root ≡ true =
        ap (λ z. fits_step p.structs (map-TypedInit TypedInit (Ty → Bool) (init_fits p.structs) z) root) (sym at_out) ∙ sym (ap (λ (g : Ty → Bool). g root) opened) ∙ takes in
        (at-expr e level types_fit, here)

  -- ---- the leaves of a variable at this address

  module _ (root : Ty) (a : Code) (base_memory : InMemory base p f (whole a root)) where
    leaf-memory : (l : Leaf) → LeafFits p.structs fits.sound Met root l → InMemory base p f (part_lvalue root (member_address l.offset a) l.ty)
    leaf-memory l h = record {
      good = λ place register slot. base.rows.addresses.member l.offset a place register slot [] (base_memory.good place register slot);
      kept = kept.kept_member base.fit base.touch p f l.offset a base_memory.kept;
      source = source.extended_source base.parts (λ d q. PtrConst d q l.offset) a (λ d q. refl) (λ d q e. cc);
      root = base_memory.root;
      ty = h.1;
      part = h.0;
      typed = λ place register slot.
          typing.extended-typed p f (Slots base p f) (λ d q. PtrConst d q l.offset) (ty.Pointer root) (ty.Pointer root) (λ d q. refl) (λ slots b e d q is. (tt, is)) (a place register slot) register slot [] (base_memory.typed place register slot);
    }

    codes-full : (ls : List Leaf) → Leaves root ls → AllFull laws p f frame (leaf_codes scope root a ls)
    codes-full [] h = tt
    codes-full (l ∷ ls) h = (assigned-leaf (part_lvalue root (member_address l.offset a) l.ty) l.given (leaf-memory l h.0) h.0.2, codes-full ls h.1)

    given-one : (l : Leaf) (ls rest : List Leaf) (b : Bool) → LeafFits p.structs fits.sound Met root l → Leaves root rest → Leaves root (if b then l ∷ rest else rest)
    given-one l ls rest true h r = (h, r)
    given-one l ls rest false h r = r

    given-only : (ls : List Leaf) → Leaves root ls → Leaves root (given_leaves ls)
    given-only [] h = tt
    given-only (l ∷ ls) h = given-one l ls (given_leaves ls) (is_given l.given) h.0 (given-only ls h.1)

    by-form : (ls : List Leaf) (o : TypedInit-F TypedInit) → ((e : TypedExpr) → o ≡ TypedInit-F.Expr e → GivenFits p.structs fits.sound Met root (ByExpr e)) → Leaves root ls
        → AllFull laws p f frame (initialised_at scope root a ls o)
    by-form ls (TypedInit-F.Expr e) whole_one h = (assigned-leaf (part_lvalue root a root) (ByExpr e) base_memory (whole_one e refl), tt)
    by-form ls (TypedInit-F.Text bytes) whole_one h = codes-full ls h
    by-form ls (TypedInit-F.Braces is) whole_one h = codes-full ls h

    -- ---- initialisers

    module _ (i : TypedInit) (typed : IsTypedInit k root i) (fit : every-TypedInit (types.InitLevel test) i) where
      all-leaves : Leaves root (leaves scope.structs i root 0)
      all-leaves =
          subst (λ ds. Leaves root (leaves ds i root 0)) (sym fits.structs_of_scope)
          (leaves-fit p.structs fits.sound Met (InitLevel k) (types.InitLevel test) (at-expr root i typed fit) i root root 0 (parts.whole root) base_memory.root (takes root i typed fit) typed.levels fit)

      pub initialised-full : AllFull laws p f frame (initialised scope root a i)
      initialised-full = by-form (leaves scope.structs i root 0) (out-TypedInit i) (whole-given root i typed fit (out-TypedInit i) refl) all-leaves

      pub given-full : AllFull laws p f frame (given_initialised scope root a i)
      given-full = by-form (given_leaves (leaves scope.structs i root 0)) (out-TypedInit i) (whole-given root i typed fit (out-TypedInit i) refl) (given-only (leaves scope.structs i root 0) all-leaves)

    -- ---- strings

    text-leaves : (bytes : List ℕ) → AllIntegers (scalars p.structs root) → Leaves root (leaves scope.structs (init.Text bytes) root 0)
    text-leaves bytes ints =
        subst (λ ds. Leaves root (leaves ds (init.Text bytes) root 0)) (sym fits.structs_of_scope)
        (subst (λ z. Leaves root (leaves p.structs z root 0)) (init.rolls-Text bytes) (text-roll-fit p.structs fits.sound Met bytes root 0 base_memory.root ints))

    no-expr : (bytes : List ℕ) (e : TypedExpr) → out-TypedInit (init.Text bytes) ≡ TypedInit-F.Expr e → ⊥
    no-expr bytes e is =
        let z : TypedInit-F.Text bytes ≡ TypedInit-F.Expr e = sym (ap out-TypedInit (sym (init.rolls-Text bytes)) ∙ out-roll-TypedInit (TypedInit-F.Text bytes)) ∙ is in
        cc

    pub text-full : (bytes : List ℕ) → AllIntegers (scalars p.structs root) → AllFull laws p f frame (given_initialised scope root a (init.Text bytes))
    text-full bytes ints =
        by-form (given_leaves (leaves scope.structs (init.Text bytes) root 0)) (out-TypedInit (init.Text bytes)) (λ e is. absurd (no-expr bytes e is))
        (given-only (leaves scope.structs (init.Text bytes) root 0) (text-leaves bytes ints))
