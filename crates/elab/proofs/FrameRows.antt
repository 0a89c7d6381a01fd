-- The locals of a frame, one behind the other.
use Rattle.std.proofs.Common.{◌≡◌, ◌∙◌, ℕ, ◌+◌, ◌<◌, false, List, [], ◌∷◌, ◌++◌, if◌then◌else◌, length, drop, get_or, ap, sym, arith, append_assoc}
use Rattle.std.proofs.lemmas.List.{at_drop_more}
use Rattle.c_types.specs.declared.structs.StructDef.{StructDef}
use Rattle.c_typed.specs.declared.unit.Local.{Local as Variable}
use Rattle.core_ir.specs.declared.program.Local.{Local}
use Rattle.core_ir.specs.Layout.{local_units}
use Rattle.elab_rows.specs.Scope.{is_slot_local}
use Rattle.elab_pieces.specs.Functions.{frame_local, frame_locals}

locals_append : (xs ys : List Local) → local_units (xs ++ ys) ≡ local_units xs + local_units ys
locals_append [] ys = omega arith
locals_append (x ∷ xs) ys = omega (arith, locals_append xs ys)

-- one more local
pub units_more : (xs : List Local) (x : Local) → local_units (xs ++ x ∷ []) ≡ local_units xs + x.units
units_more xs x = omega (arith, locals_append xs (x ∷ []))

module _ (defs : List StructDef) (all now : List Local) (vs : List Variable) (i at : ℕ) (v : Variable) (within : i < length vs)
    (h : now ++ frame_locals defs at (drop i vs) ≡ all) (in_frame : is_slot_local (get_or vs i v) ≡ false) where
  abbrev x : Local
  x = frame_local defs at (get_or vs i v).ty

  abbrev rest : List Local
  rest = frame_locals defs (at + x.units) (drop (i + 1) vs)

  turn : frame_locals defs at (drop i vs) ≡ x ∷ rest
  turn =
      at_drop_more (frame_locals defs at) vs i v within
      ∙ ap (λ b. if b then frame_locals defs at (drop (i + 1) vs) else x ∷ rest) in_frame

  pub frame_more : (now ++ x ∷ []) ++ rest ≡ all
  frame_more = append_assoc now (x ∷ []) rest ∙ ap (λ ls. now ++ ls) (sym turn) ∙ h

  pub frame_large : at ≡ local_units now → 16384 < at + x.units → 16384 < local_units all
  frame_large e k =
      omega (arith, e, k, ap local_units frame_more, locals_append (now ++ x ∷ []) rest, units_more now x)
