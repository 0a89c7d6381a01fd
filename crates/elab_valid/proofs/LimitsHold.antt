-- A program that passes no limit is within each.
use Rattle.std.proofs.Common.{◌≡◌, ◌≤◌, Bool, true, false, nat_le, List, [], ◌∷◌, length, Option, None, refl, leb-true}
use Rattle.std.specs.List.{AllByRecursion}
use Rattle.core_ir.specs.declared.program.Function.{Function}
use Rattle.core_ir.specs.declared.program.Program.{Program}
use Rattle.core_ir.specs.Layout.{global_units}
use Rattle.core_ir.specs.Valid.{most_frame_units, most_functions, most_global_units, most_instructions, most_registers, most_slots}
use Rattle.elab_pieces.specs.declared.limit.LimitName.{LimitName}
use Rattle.elab_pieces.specs.declared.limit.LimitName.TheVariants as limit
use Rattle.elab_pieces.specs.Limits.{all_within, first_limit, unless}
use Rattle.elab_valid.proofs.TypeKinds.{first, second}

pub record IsWithinOf (f : Function) : Type 0 where
  pub instructions : length f.body ≤ most_instructions
  pub registers : f.registers ≤ most_registers
  pub slots : f.slots ≤ most_slots
  pub frame_units : f.frame_units ≤ most_frame_units

pub record HoldsLimits (p : Program) : Type 0 where
  pub functions : length p.functions ≤ most_functions
  pub each : AllByRecursion IsWithinOf p.functions
  pub globals : global_units p.globals ≤ most_global_units

passed : (holds : Bool) (name : LimitName) (next : Option LimitName) → unless holds name next ≡ None → (holds ≡ true) × (next ≡ None)
passed true name next is = (refl, is)
passed false name next is = cc

each-within : (fs : List Function)
    → all_within most_instructions (λ f. length f.body) fs ≡ true
    → all_within most_registers (λ f. f.registers) fs ≡ true
    → all_within most_slots (λ f. f.slots) fs ≡ true
    → all_within most_frame_units (λ f. f.frame_units) fs ≡ true
    → AllByRecursion IsWithinOf fs
each-within [] code registers slots frame = tt
each-within (f ∷ fs) code registers slots frame = (
  record {
    instructions = leb-true (length f.body) most_instructions (first (nat_le (length f.body) most_instructions) (all_within most_instructions (λ g. length g.body) fs) code);
    registers = leb-true f.registers most_registers (first (nat_le f.registers most_registers) (all_within most_registers (λ g. g.registers) fs) registers);
    slots = leb-true f.slots most_slots (first (nat_le f.slots most_slots) (all_within most_slots (λ g. g.slots) fs) slots);
    frame_units = leb-true f.frame_units most_frame_units (first (nat_le f.frame_units most_frame_units) (all_within most_frame_units (λ g. g.frame_units) fs) frame);
  },
  each-within fs
      (second (nat_le (length f.body) most_instructions) (all_within most_instructions (λ g. length g.body) fs) code)
      (second (nat_le f.registers most_registers) (all_within most_registers (λ g. g.registers) fs) registers)
      (second (nat_le f.slots most_slots) (all_within most_slots (λ g. g.slots) fs) slots)
      (second (nat_le f.frame_units most_frame_units) (all_within most_frame_units (λ g. g.frame_units) fs) frame),
)

pub limits-hold : (p : Program) → first_limit p ≡ None → HoldsLimits p
unfolding first_limit
limits-hold p none =
    let fs = p.functions in
    let functions = passed (nat_le (length fs) most_functions) limit.Functions _ none in
    let code = passed (all_within most_instructions (λ f. length f.body) fs) limit.Code _ functions.1 in
    let registers = passed (all_within most_registers (λ f. f.registers) fs) limit.Registers _ code.1 in
    let slots = passed (all_within most_slots (λ f. f.slots) fs) limit.Slots _ registers.1 in
    let frame = passed (all_within most_frame_units (λ f. f.frame_units) fs) limit.Frame _ slots.1 in
    let globals = passed (nat_le (global_units p.globals) most_global_units) limit.Globals None frame.1 in
    record {
      functions = leb-true (length fs) most_functions functions.0;
      each = each-within fs code.0 registers.0 slots.0 frame.0;
      globals = leb-true (global_units p.globals) most_global_units globals.0;
    }
