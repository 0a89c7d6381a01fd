-- Global variables, one behind the other.
use Rattle.std.proofs.Common.{◌≡◌, ◌∙◌, ℕ, ◌+◌, ◌≤◌, List, [], ◌∷◌, ◌++◌, map, ap, refl, sym, subst, arith, append_assoc, append-nil, Ok, Err}
use Rattle.c_types.specs.declared.structs.StructDef.{StructDef}
use Rattle.c_types.specs.declared.ty.Ty.{Ty}
use Rattle.core_ir.specs.declared.program.GlobalVar.{GlobalVar}
use Rattle.core_ir.specs.Layout.{first_address, global_units}
use Rattle.c_typed.specs.declared.entity.Entity.{Entity}
use Rattle.c_typed.specs.declared.entity.Entity.TheVariants as entity
use Rattle.c_typed.specs.declared.expression.Declared.{out-Declared}
use Rattle.c_typed.specs.declared.statement.TypedInitDeclarator.{TypedInitDeclarator}
use Rattle.elab_rows.specs.Units.{units}
use Rattle.elab_pieces.specs.Globals.{Global, declared_globals, global_at, laid_out, with_global}
use Rattle.elab.specs.declared.error.ElabRefusal.{ElabRefusal}
use Rattle.elab.specs.declared.error.ElabRefusal.TheVariants as refusal
use Rattle.elab.specs.declared.globals.Layout.{Layout}
use Rattle.elab.specs.inner.Programs.{LayoutOutcome, Lays, LaysOut, last_address}

pub units_append : (gs hs : List GlobalVar) → global_units (gs ++ hs) ≡ global_units gs + global_units hs
units_append [] hs = omega arith
units_append (g ∷ gs) hs = omega (arith, units_append gs hs)

pub laid_append : (defs : List StructDef) (at : ℕ) (ts us : List Ty)
    → laid_out defs at (ts ++ us) ≡ laid_out defs at ts ++ laid_out defs (at + global_units (laid_out defs at ts)) us
laid_append defs at [] us = ap (λ n. laid_out defs n us) (omega arith)
laid_append defs at (t ∷ ts) us =
    ap (λ gs. global_at defs at t ∷ gs) (laid_append defs (at + units defs t) ts us
    ∙ ap (λ n. laid_out defs (at + units defs t) ts ++ laid_out defs n us) (omega arith))

module _ (defs : List StructDef) (start : Layout) (all : List Ty) where
  pub lays_start : start.end ≤ last_address → Lays defs start all start all
  lays_start h = record { globals = refl; end = refl; within = h }

  module _ (now : Layout) where
    pub lays_end : Lays defs start all now [] → LaysOut defs all start (Ok tt) now
    lays_end h = (
      sym (h.globals ∙ append-nil now.globals),
      omega (arith, h.end),
      h.within,
    )

    module _ (ts rest : List Ty) (h : Lays defs start all now (ts ++ rest)) where
      pub lays_step : (next : Layout) → LaysOut defs ts now (Ok tt) next → Lays defs start all next rest
      lays_step next k =
          let mine = laid_out defs now.end ts in
          let others = laid_out defs (now.end + global_units mine) rest in
          let same : laid_out defs next.end rest ≡ others = ap (λ n. laid_out defs n rest) k.1 in
          record {
            globals = h.globals ∙ ap (λ gs. now.globals ++ gs) (laid_append defs now.end ts rest)
                ∙ sym (append_assoc now.globals mine others) ∙ (λ i. sym k.0 i ++ sym same i);
            end = h.end ∙ ap (λ gs. now.end + global_units gs) (laid_append defs now.end ts rest)
                ∙ omega (arith, units_append mine others, k.1, ap global_units same);
            within = k.2;
          }

      pub lays_stop : (e : ElabRefusal) (next : Layout) → LaysOut defs ts now (Err e) next → LaysOut defs all start (Err e) next
      lays_stop refusal.Memory next k = tt
      lays_stop (refusal.Limit which) next k = (
        k.0,
        omega (
          arith,
          k.1,
          h.end,
          ap global_units (laid_append defs now.end ts rest),
          units_append (laid_out defs now.end ts) (laid_out defs (now.end + global_units (laid_out defs now.end ts)) rest),
        ),
      )

    module _ (t : Ty) (rest : List Ty) (h : Lays defs start all now (t ∷ rest)) where
      pub lays_one : (next : Layout) → LaysOut defs (t ∷ []) now (Ok tt) next → Lays defs start all next rest
      lays_one = lays_step (t ∷ []) rest h

      pub stops_one : (e : ElabRefusal) (next : Layout) → LaysOut defs (t ∷ []) now (Err e) next → LaysOut defs all start (Err e) next
      stops_one = lays_stop (t ∷ []) rest h

pub ruleset layouts = (lays_start, lays_end, lays_one, stops_one)

-- ---- variables, and strings behind them

module _ (defs : List StructDef) (start : Layout) (ts us : List Ty) (none : start.globals ≡ []) (first : start.end ≡ first_address) (mid : Layout) where
  abbrev laid : List GlobalVar
  laid = laid_out defs first_address (ts ++ us)

  all_units : global_units laid ≡ global_units (laid_out defs start.end ts) + global_units (laid_out defs (start.end + global_units (laid_out defs start.end ts)) us)
  all_units =
      ap (λ n. global_units (laid_out defs n (ts ++ us))) (sym first)
      ∙ ap global_units (laid_append defs start.end ts us)
      ∙ units_append (laid_out defs start.end ts) (laid_out defs (start.end + global_units (laid_out defs start.end ts)) us)

  pub layout_first : (e : ElabRefusal) → LaysOut defs ts start (Err e) mid → LayoutOutcome laid (Err e)
  layout_first refusal.Memory k = tt
  layout_first (refusal.Limit which) k = (k.0, omega (arith, k.1, first, all_units))

  module _ (h : LaysOut defs ts start (Ok tt) mid) (new : Layout) where
    pub layout_second : (e : ElabRefusal) → LaysOut defs us mid (Err e) new → LayoutOutcome laid (Err e)
    layout_second refusal.Memory k = tt
    layout_second (refusal.Limit which) k =
        (k.0, omega (arith, k.1, h.1, first, all_units, ap (λ n. global_units (laid_out defs n us)) h.1))

    pub layout_whole : LaysOut defs us mid (Ok tt) new → LayoutOutcome laid (Ok new.globals)
    layout_whole k = (
      k.0
          ∙ (λ i. h.0 i ++ laid_out defs (h.1 i) us)
          ∙ ap (λ vs. (vs ++ laid_out defs start.end ts) ++ laid_out defs (start.end + global_units (laid_out defs start.end ts)) us) none
          ∙ sym (laid_append defs start.end ts us)
          ∙ ap (λ n. laid_out defs n (ts ++ us)) first,
      omega (arith, k.1, k.2, h.1, first, all_units, ap (λ n. global_units (laid_out defs n us)) h.1),
    )

pub ruleset whole_layouts = (layout_first, layout_second, layout_whole)

-- ---- the global variables of declarations

pub with_append : (d : TypedInitDeclarator) (e : Entity) (all own gs : List Global) → all ≡ own ++ gs → with_global d e all ≡ with_global d e own ++ gs
with_append d (entity.Global n) all own gs h = ap (λ vs. record { ty = (out-Declared d.declared).ty; init = d.init } ∷ vs) h
with_append d _ all own gs h = h

pub declared_append : (ds : List TypedInitDeclarator) (gs : List Global) → declared_globals ds gs ≡ declared_globals ds [] ++ gs
declared_append [] gs = refl
declared_append (d ∷ ds) gs = with_append d d.entity (declared_globals ds gs) (declared_globals ds []) gs (declared_append ds gs)

pub types_append : (vs ws : List Global) → map (λ g. g.ty) (vs ++ ws) ≡ map (λ g. g.ty) vs ++ map (λ g. g.ty) ws
types_append [] ws = refl
types_append (v ∷ vs) ws = ap (λ ts. v.ty ∷ ts) (types_append vs ws)

-- ---- loops over declarations

module _ (defs : List StructDef) (start : Layout) (all : List Ty) (now : Layout) (vs : List Global) (h : Lays defs start all now (map (λ g. g.ty) vs)) where
  pub variables_end : vs ≡ [] → LaysOut defs all start (Ok tt) now
  variables_end e = lays_end defs start all now (subst (λ us. Lays defs start all now (map (λ g. g.ty) us)) e h)

  module _ (us ws : List Global) (e : vs ≡ us ++ ws) (next : Layout) where
    split : Lays defs start all now (map (λ g. g.ty) us ++ map (λ g. g.ty) ws)
    split = subst (λ ts. Lays defs start all now ts) (ap (λ gs. map (λ g. g.ty) gs) e ∙ types_append us ws) h

    pub variables_further : LaysOut defs (map (λ g. g.ty) us) now (Ok tt) next → Lays defs start all next (map (λ g. g.ty) ws)
    variables_further k = lays_step defs start all now (map (λ g. g.ty) us) (map (λ g. g.ty) ws) split next k

    pub variables_stop : (f : ElabRefusal) → LaysOut defs (map (λ g. g.ty) us) now (Err f) next → LaysOut defs all start (Err f) next
    variables_stop f k = lays_stop defs start all now (map (λ g. g.ty) us) (map (λ g. g.ty) ws) split f next k
