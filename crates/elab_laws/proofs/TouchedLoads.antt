-- A load behind its touch, as the rows group them.
use Rattle.std.proofs.Common.{List, [], ◌∷◌, refl, sym, subst, append_assoc}
use Rattle.std.proofs.lemmas.Option.{same_Some}
use Rattle.c_types.specs.declared.structs.StructDef.{StructDef}
use Rattle.core_ir.specs.declared.instr.Instr.TheVariants.{Load, Touch}
use Rattle.core_ir.specs.Parts.{HasPart}
use Rattle.elab_rows.specs.Addresses.{Lvalue, loaded}
use Rattle.elab_laws.proofs.TouchingRows.{append}
use Rattle.elab_laws.specs.Touching.{IsTouched, IsTouching}

pub loaded_touched : (defs : List StructDef) (x : Lvalue) → HasPart defs x.root x.ty → IsTouching defs x.address → IsTouching defs (loaded x)
loaded_touched defs x has ha place register slot =
    let y = x.address place register slot in
    let t = Touch y.result x.root in
    let l = Load y.register y.result x.ty in
    let pair : IsTouched defs (t ∷ l ∷ []) = record {
      each = (λ whole part touch access. subst (λ w. HasPart defs w part) (same_Some x.root whole touch) (subst (λ v. HasPart defs x.root v) (same_Some x.ty part access) has), (tt, tt));
      opens = refl;
    } in
    subst (λ c. IsTouched defs c) (sym (append_assoc y.code (t ∷ []) (l ∷ []))) (append defs y.code (t ∷ l ∷ []) (ha place register slot) pair)
