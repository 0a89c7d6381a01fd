-- A source with its program has one report at most.
use Rattle.std.proofs.Common.{◌≡◌, ◌∙◌, ◌↔◌, ℕ, suc, Bool, true, false, IsTrue, List, ◌++◌, length, ap, refl, sym}
use Rattle.c_types.specs.declared.structs.StructDef.{StructDef}
use Rattle.c_types.specs.declared.ty.Ty.TheVariants as ty
use Rattle.c_typed.specs.declared.unit.TypedFn.{TypedFn}
use Rattle.core_ir.specs.declared.program.Function.{Function}
use Rattle.core_ir.specs.declared.program.GlobalVar.{GlobalVar}
use Rattle.core_ir.specs.declared.program.Local.{Local}
use Rattle.sensitivity.specs.Theorems.{ClassesAreUnique}
use Rattle.elab_pieces.specs.Program.{name_of}
use Rattle.code_report.specs.Checks.{Counts, IsCheck, counted, nothing, passed}
use Rattle.code_report.specs.Lines.{function_line, global_line, local_line, struct_line}
use Rattle.code_report.specs.Report.{DefinitionLines, FunctionLines, GlobalLines, LocalLines, StructLines, no_functions, no_globals, no_locals, no_structs, one_function, one_global, one_local, one_struct}
use Rattle.code_report.specs.Theorems.{ReportsAreUnique}

one_count : (Is : ℕ → Type 0) (k n m : ℕ) → Counts Is k n → Counts Is k m → n ≡ m
one_count Is _ _ _ nothing nothing = refl
one_count Is _ _ _ (counted k n h is) (counted j m g also) = ap suc (one_count Is k n m h g)
one_count Is _ _ _ (counted k n h is) (passed j m g fails) = absurd (fails is)
one_count Is _ _ _ (passed k n h fails) (counted j m g is) = absurd (fails is)
one_count Is _ _ _ (passed k n h fails) (passed j m g also) = one_count Is k n m h g

one_truth : (a b : Bool) (P : Type 0) → IsTrue a ↔ P → IsTrue b ↔ P → a ≡ b
one_truth true true P h k = refl
one_truth false false P h k = refl
one_truth true false P h k = sym (k.1 (h.0 refl))
one_truth false true P h k = h.1 (k.0 refl)

one_globals : (xs : List (List ℕ)) (gs : List GlobalVar) (a b : List ℕ) → GlobalLines xs gs a → GlobalLines xs gs b → a ≡ b
one_globals _ _ _ _ (no_globals gs) (no_globals hs) = refl
one_globals _ _ _ _ (one_global x xs g gs a h) (one_global y ys i hs b k) = ap (λ text. global_line x g ++ text) (one_globals xs gs a b h k)

one_locals : (f : Function) (v : ℕ) (xs : List (List ℕ)) (ls : List Local) (a b : List ℕ) → LocalLines f v xs ls a → LocalLines f v xs ls b → a ≡ b
one_locals f _ _ _ _ _ (no_locals v) (no_locals w) = refl
one_locals f _ _ _ _ _ (one_local v x xs l ls s a is h) (one_local w y ys m ms t b also k) =
    λ i. local_line x (one_truth s t _ is also i) ++ one_locals f (suc v) xs ls a b h k i

module _ (classes : ClassesAreUnique) (defs : List StructDef) where
  one_structs : (n : ℕ) (ds : List StructDef) (a b : List ℕ) → StructLines defs n ds a → StructLines defs n ds b → a ≡ b
  one_structs _ _ _ _ (no_structs n) (no_structs m) = refl
  one_structs _ _ _ _ (one_struct n d ds c a is h) (one_struct m e es o b also k) =
      λ i. struct_line d.name (classes defs (ty.Pointer (ty.Struct n)) c o is also i) ++ one_structs (suc n) ds a b h k i

one_definition : (defs : List StructDef) (n : ℕ) (d : TypedFn) (f : Function) (a b : List ℕ) → DefinitionLines defs n d f a → DefinitionLines defs n d f b → a ≡ b
one_definition defs n d f a b h k =
    let checks = one_count (IsCheck defs f) (length f.body) h.checks k.checks h.counted k.counted in
    let locals = one_locals f 0 _ _ h.locals k.locals h.local_lines k.local_lines in
    h.is ∙ (λ i. function_line n (name_of d.declared) (length f.body) (checks i) ++ locals i) ∙ sym k.is

one_functions : (defs : List StructDef) (n : ℕ) (ds : List TypedFn) (fs : List Function) (a b : List ℕ) → FunctionLines defs n ds fs a → FunctionLines defs n ds fs b → a ≡ b
one_functions defs _ _ _ _ _ (no_functions n e) (no_functions m g) = refl
one_functions defs _ _ _ _ _ (one_function n d ds f fs x a is h) (one_function m e es g gs y b also k) =
    λ i. one_definition defs n d f x y is also i ++ one_functions defs (suc n) ds fs a b h k i

pub reports_are_unique : ClassesAreUnique → ReportsAreUnique
reports_are_unique classes typed p a b h k =
    let structs = one_structs classes p.structs 0 p.structs h.structs k.structs h.struct_lines k.struct_lines in
    let globals = one_globals _ p.globals h.globals k.globals h.global_lines k.global_lines in
    let functions = one_functions p.structs 0 _ p.functions h.functions k.functions h.function_lines k.function_lines in
    h.is ∙ (λ i. structs i ++ globals i ++ functions i) ∙ sym k.is
