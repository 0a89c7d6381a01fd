-- The locals of code lie as those of its function, and globals lie among the globals.
use Rattle.std.proofs.Common.{◌≡◌, ◌∙◌, ℕ, zero, suc, ◌+◌, ◌≤◌, List, [], ◌∷◌, length, Some, slice_get, refl, sym, ap, subst, arith}
use Rattle.std.proofs.lemmas.Option.{none-some, same_Some}
use Rattle.c_types.specs.declared.structs.StructDef.{StructDef}
use Rattle.core_ir.specs.declared.program.GlobalVar.{GlobalVar}
use Rattle.core_ir.specs.declared.program.Local.{Local}
use Rattle.core_ir.specs.Layout.{GlobalsLie, LocalsLie, global_units, local_units}
use Rattle.machine.specs.declared.code.CodeLocal.{CodeLocal}
use Rattle.machine.specs.ValidCode.{CodeLocalsLie, code_local_units}

-- the same offset and units, local by local
abbrev pub LieAlike : List Local → List CodeLocal → Type 0
LieAlike ls ms =
    (v : ℕ) (l : Local) (m : CodeLocal) → slice_get ls v ≡ Some l → slice_get ms v ≡ Some m → (m.offset ≡ l.offset) × (m.units ≡ l.units)

pub locals_lie : (defs : List StructDef) (at : ℕ) (ls : List Local) (ms : List CodeLocal) → length ms ≡ length ls → LieAlike ls ms → LocalsLie defs at ls → CodeLocalsLie at ms
locals_lie defs at [] [] same alike lie = tt
locals_lie defs at [] (m ∷ ms) same alike lie = absurd (omega arith)
locals_lie defs at (l ∷ ls) [] same alike lie = absurd (omega arith)
locals_lie defs at (l ∷ ls) (m ∷ ms) same alike lie =
    let here = alike zero l m refl refl in (
      here.0 ∙ lie.0.at,
      subst (λ n. 1 ≤ n) (sym here.1) lie.1,
      subst (λ n. CodeLocalsLie (at + n) ms) (sym here.1) (locals_lie defs (at + l.units) ls ms (omega arith) (λ v x y. alike (suc v) x y) lie.2),
    )

pub units_alike : (ls : List Local) (ms : List CodeLocal) → length ms ≡ length ls → LieAlike ls ms → code_local_units ms ≡ local_units ls
units_alike [] [] same alike = refl
units_alike [] (m ∷ ms) same alike = absurd (omega arith)
units_alike (l ∷ ls) [] same alike = absurd (omega arith)
units_alike (l ∷ ls) (m ∷ ms) same alike =
    let here = alike zero l m refl refl in
    let rest = units_alike ls ms (omega arith) (λ v x y. alike (suc v) x y) in
    λ t. here.1 t + rest t

pub globals_within : (defs : List StructDef) (at : ℕ) (gs : List GlobalVar) (k : ℕ) (g : GlobalVar) → GlobalsLie defs at gs → slice_get gs k ≡ Some g → (at ≤ g.address) × (g.address + g.units ≤ at + global_units gs)
globals_within defs at [] k g lie is = absurd (none-some g is)
globals_within defs at (x ∷ gs) zero g lie is =
    let same : x ≡ g = same_Some x g is in
    let address : g.address ≡ at = ap (λ (y : GlobalVar). y.address) (sym same) ∙ lie.0.at in
    let units : g.units ≡ x.units = ap (λ (y : GlobalVar). y.units) (sym same) in
    (omega (arith, address), omega (arith, address, units))
globals_within defs at (x ∷ gs) (suc k) g lie is =
    let rest = globals_within defs (at + x.units) gs k g lie.1 is in
    (omega (arith, rest.0), omega (arith, rest.1))
