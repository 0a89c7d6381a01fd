-- What stands for the locals of a valid function lies in its frame, with the safe ones marked.
use Rattle.std.proofs.Common.{◌≡◌, ◌∙◌, map, sym, ap, subst, arith}
use Rattle.std.proofs.lemmas.Option.{same_Some}
use Rattle.core_ir.specs.declared.program.Local.{Local}
use Rattle.core_ir.specs.Instructions.{outline_of}
use Rattle.core_ir.specs.Layout.{local_units}
use Rattle.core_ir.specs.SafeLocal.{IsSafe}
use Rattle.machine.specs.ValidCode.{code_local_units}
use Rattle.icode.specs.Theorems.{StandingLocalsAreLocals}
use Rattle.icode.proofs.Lists.{there_too}
use Rattle.icode.proofs.LocalsStand.{LieAlike, locals_lie, units_alike}

pub standing_locals : StandingLocalsAreLocals
standing_locals program f locals valid stand =
    let alike : LieAlike f.locals locals = λ v l m there is. let s = stand.each v l m there is in (s.offset, s.units) in
    let units : code_local_units locals ≡ local_units f.locals = units_alike f.locals locals stand.count alike in
    record {
      lie = locals_lie program.structs 0 f.locals locals stand.count alike valid.laid_out.locals_lie;
      few = omega (arith, units, valid.laid_out.frame_is_its_locals, valid.within_limits.frame_units);
      safe = λ v m is yes.
          let there = there_too f.locals locals stand.count v m is in
          let s = stand.each v there.0 m there.1 is in
          let safe = s.safe.0 yes in
          let same : safe.local.units ≡ m.units = ap (λ (l : Local). l.units) (same_Some safe.local there.0 (sym safe.there ∙ there.1)) ∙ sym s.units in
          subst (λ n. IsSafe (map outline_of f.body) v n) same safe.safe;
    }
