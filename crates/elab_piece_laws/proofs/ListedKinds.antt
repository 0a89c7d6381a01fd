-- Instructions in range, and accesses behind their touches, as lists.
use Rattle.std.proofs.Common.{ℕ, List, [], ◌∷◌, ◌++◌, refl}
use Rattle.std.proofs.lemmas.List.Elements.{All-nil}
use Rattle.c_types.specs.declared.structs.StructDef.{StructDef}
use Rattle.core_ir.specs.declared.instr.Instr.{Instr}
use Rattle.core_ir.specs.declared.program.Function.{Function}
use Rattle.core_ir.specs.declared.program.Program.{Program}
use Rattle.core_ir.specs.Valid.{IsInRange, TypeFits}
use Rattle.elab_laws.specs.Fitting.{EachIs, IsFit}
use Rattle.elab_laws.specs.Touching.{IsTouched}
use Rattle.elab_laws.specs.TouchingLaws.{RowsTouch}
use Rattle.elab_piece_laws.proofs.ListedStatements as rows
use Rattle.elab_piece_laws.specs.Fitting.{AreListed}
use Rattle.elab_piece_laws.specs.FittingLaws.{ListingRows}

pub each_append : (P : Instr → Type 0) (c d : List Instr) → EachIs P c → EachIs P d → EachIs P (c ++ d)
each_append P [] d hc hd = hd
each_append P (i ∷ c) d hc hd = (hc.0, each_append P c d hc.1 hd)

in_range_lists : (p : Program) (f : Function) → AreListed (EachIs (IsFit (IsInRange p f) f.slots))
in_range_lists p f =
    let free = All-nil (TypeFits p.structs) in
    record {
      empty = tt;
      append = each_append (IsFit (IsInRange p f) f.slots);
      branch = λ x l. ((record { types = free; rest = tt }, tt), tt);
      jump = λ l. ((record { types = free; rest = tt }, tt), tt);
      enter = ((record { types = free; rest = tt }, tt), tt);
      leave = ((record { types = free; rest = tt }, tt), tt);
      return = λ a. ((record { types = free; rest = tt }, tt), tt);
    }

touched_lists : (laws : RowsTouch) (defs : List StructDef) → AreListed (IsTouched defs)
touched_lists laws defs = record {
  empty = record { each = tt; opens = tt };
  append = (laws defs).append;
  branch = λ x l. record { each = (tt, tt); opens = refl };
  jump = λ l. record { each = (tt, tt); opens = refl };
  enter = record { each = (tt, tt); opens = refl };
  leave = record { each = (tt, tt); opens = refl };
  return = λ a. record { each = (tt, tt); opens = refl };
}

pub listing : (L : List Instr → Type 0) (slots registers : ℕ) → AreListed L → ListingRows L slots registers
listing L slots registers laws = record {
  nothing = rows.nothing_listed L slots registers laws;
  expression = rows.full_listed L slots registers laws;
  join = rows.joined_listed L slots registers laws;
  joins = rows.all_joined_listed L slots registers laws;
  breaks = rows.break_listed L slots registers laws;
  continues = rows.continue_listed L slots registers laws;
  choice = rows.choice_listed L slots registers laws;
  while_loop = rows.while_listed L slots registers laws;
  do_loop = rows.do_listed L slots registers laws;
  for_loop = rows.loop_listed L slots registers laws;
  return_value = rows.returned_listed L slots registers laws;
  return_nothing = rows.returned_nothing_listed L slots registers laws;
  enters = rows.enters_listed L slots registers laws;
}

pub in_range : (p : Program) (f : Function) → ListingRows (EachIs (IsFit (IsInRange p f) f.slots)) f.slots f.registers
in_range p f = listing (EachIs (IsFit (IsInRange p f) f.slots)) f.slots f.registers (in_range_lists p f)

pub touched : (laws : RowsTouch) (defs : List StructDef) (slots registers : ℕ) → ListingRows (IsTouched defs) slots registers
touched laws defs slots registers = listing (IsTouched defs) slots registers (touched_lists laws defs)
