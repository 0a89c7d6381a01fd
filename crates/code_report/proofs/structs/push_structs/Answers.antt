use Rattle.std.proofs.Common.{◌≡◌, ◌∙◌, ◌+◌, ◌++◌, Some, List, ◌∷◌, length, drop, slice_get, ap, refl, sym, subst, arith}
use Rattle.std.proofs.lemmas.List.{at_drop_all}
use Rattle.std.proofs.lemmas.Option.{slice_get_read}
use Rattle.c_types.specs.declared.structs.StructDef.{StructDef}
use Rattle.c_types.specs.declared.ty.Ty.TheVariants as ty
use Rattle.sensitivity.specs.Classes.{HasClass}
use Rattle.code_report.specs.Lines.{struct_line}
use Rattle.code_report.specs.Report.{StructLines, no_structs}
use Rattle.code_report.proofs.LinesOfOne.{drop_at, struct_passes}
use Rattle.code_report.proofs.Passing.{passes_end, passes_on}
use Rattle.code_report.proofs.structs.push_structs.Goals as goal

pub loop-s-preserved : goal.loop-s-preserved
loop-s-preserved c =
    let defs = c.args.structs.now in
    let items = c.as_slice-def-items.result.now in
    let s = c.loop-s.s in
    let d = c.def-item.result in
    let now = c.loop-s.text.items in
    let new = c.push_struct.new.text.items in
    let same : items ≡ defs = c.as_slice-def-items.ensures ∙ c.defs.ensures in
    let there : slice_get defs s ≡ Some d = ap (λ xs. slice_get xs s) (sym same) ∙ slice_get_read items (length items) s d refl c.loop-s-test.true c.def-item.is in
    let has = subst (λ k. HasClass defs (ty.Pointer (ty.Struct s)) k) (sym c.class_of_struct.ensures) (c.requires.classes s) in
    passes_on (StructLines defs) 0 defs c.args.text.now.items s (drop s defs) now c.loop-s.invariant (d ∷ drop (s + 1) defs) (s + 1) (drop (s + 1) defs) new (drop_at defs s d there)
    (struct_passes now new s defs d (drop (s + 1) defs) c.class_of_struct.result has
    (c.in_ok-push_struct.ensures ∙ ap (λ x. now ++ struct_line x c.class_of_struct.result) c.bytes.ensures))

pub returns : goal.returns
returns c =
    let defs = c.args.structs.now in
    let s = c.loop-s.s in
    let same = ap length (c.as_slice-def-items.ensures ∙ c.defs.ensures) in
    passes_end (StructLines defs) 0 defs c.args.text.now.items s (drop s defs) c.loop-s.text.items c.loop-s.invariant
    (at_drop_all (λ (xs : List StructDef). xs) defs s (omega (arith, same, c.loop-s-test.false))) (no_structs s)
