-- One thing's lines in front of those of the things behind it.
use Rattle.std.proofs.Common.{◌≡◌, ◌∙◌, ◌↔◌, ℕ, ◌+◌, ◌<◌, zero, suc, Bool, IsTrue, List, [], ◌∷◌, ◌++◌, length, drop, Some, slice_get, ap, refl, sym, subst, arith, add-one}
use Rattle.std.proofs.lemmas.List.{drop_more}
use Rattle.std.proofs.lemmas.Option.{get_or_from_slice_get, slice_get_within}
use Rattle.c_types.specs.declared.structs.StructDef.{StructDef}
use Rattle.c_types.specs.declared.ty.Ty.TheVariants as ty
use Rattle.c_typed.specs.declared.unit.TypedFn.{TypedFn}
use Rattle.core_ir.specs.declared.program.Function.{Function}
use Rattle.core_ir.specs.declared.program.GlobalVar.{GlobalVar}
use Rattle.core_ir.specs.declared.program.Local.{Local}
use Rattle.core_ir.specs.declared.program.Program.{Program}
use Rattle.core_ir.specs.SafeLocal.{IsSafeLocal}
use Rattle.sensitivity.specs.declared.class.Class.{Class}
use Rattle.sensitivity.specs.Classes.{HasClass}
use Rattle.code_report.specs.Lines.{global_line, local_line, struct_line}
use Rattle.code_report.specs.Report.{DefinitionLines, FunctionLines, GlobalLines, LocalLines, StructLines, one_function, one_global, one_local, one_struct}
use Rattle.code_report.specs.inner.Appending.{Adds, FunctionLinesFrom, GlobalLinesFrom, LocalLinesFrom, Passes}

-- what is left of a list begins with the thing there
pub drop_at : {A : Type 0} (xs : List A) (n : ℕ) (x : A) → slice_get xs n ≡ Some x → drop n xs ≡ x ∷ drop (n + 1) xs
drop_at xs n x is = drop_more xs n x (slice_get_within xs n x is) ∙ ap (λ y. y ∷ drop (n + 1) xs) (get_or_from_slice_get xs n x x is)

-- there is something at each place of a list
pub some_at : {A : Type 0} (xs : List A) (n : ℕ) → n < length xs → (x : A) × (slice_get xs n ≡ Some x)
some_at [] n h = absurd (omega (arith, h))
some_at (x ∷ xs) zero h = (x, refl)
some_at (x ∷ xs) (suc n) h = some_at xs n (omega (arith, h))

module _ (old new : List ℕ) (n : ℕ) where
  pub struct_passes : (defs : List StructDef) (d : StructDef) (ds : List StructDef) (c : Class)
      → HasClass defs (ty.Pointer (ty.Struct n)) c → new ≡ old ++ struct_line d.name c
      → Passes (StructLines defs) n (d ∷ ds) (n + 1) ds old new
  struct_passes defs d ds c has is = record {
    count = omega arith;
    added = struct_line d.name c;
    is = is;
    whole = λ rest lines. one_struct n d ds c rest has (subst (λ k. StructLines defs k ds rest) (add-one n) lines);
  }

  pub global_passes : (gs : List GlobalVar) (x : List ℕ) (xs : List (List ℕ)) (g : GlobalVar)
      → slice_get gs n ≡ Some g → new ≡ old ++ global_line x g
      → Passes (GlobalLinesFrom gs) n (x ∷ xs) (n + 1) xs old new
  global_passes gs x xs g there is = record {
    count = omega arith;
    added = global_line x g;
    is = is;
    whole = λ rest lines. subst (λ hs. GlobalLines (x ∷ xs) hs (global_line x g ++ rest)) (sym (drop_at gs n g there)) (one_global x xs g (drop (n + 1) gs) rest lines);
  }

  pub local_passes : (f : Function) (x : List ℕ) (xs : List (List ℕ)) (l : Local) (b : Bool)
      → slice_get f.locals n ≡ Some l → IsTrue b ↔ IsSafeLocal f n → new ≡ old ++ local_line x b
      → Passes (LocalLinesFrom f) n (x ∷ xs) (n + 1) xs old new
  local_passes f x xs l b there safe is = record {
    count = omega arith;
    added = local_line x b;
    is = is;
    whole = λ rest lines.
        subst (λ ls. LocalLines f n (x ∷ xs) ls (local_line x b ++ rest)) (sym (drop_at f.locals n l there))
        (one_local n x xs l (drop (n + 1) f.locals) b rest safe (subst (λ k. LocalLines f k xs (drop (n + 1) f.locals) rest) (add-one n) lines));
  }

  pub function_passes : (p : Program) (d : TypedFn) (ds : List TypedFn) (f : Function)
      → slice_get p.functions n ≡ Some f → Adds (DefinitionLines p.structs n d f) old new
      → Passes (FunctionLinesFrom p) n (d ∷ ds) (n + 1) ds old new
  function_passes p d ds f there adds = record {
    count = omega arith;
    added = adds.lines;
    is = adds.is;
    whole = λ rest lines.
        subst (λ fs. FunctionLines p.structs n (d ∷ ds) fs (adds.lines ++ rest)) (sym (drop_at p.functions n f there))
        (one_function n d ds f (drop (n + 1) p.functions) adds.lines rest adds.are (subst (λ k. FunctionLines p.structs k ds (drop (n + 1) p.functions) rest) (add-one n) lines));
  }
