-- Limits of lists of functions.
use Rattle.std.proofs.Common.{◌≡◌, ◌∙◌, ℕ, ◌<◌, Bool, true, false, not, ◌&&◌, ◌||◌, nat_le, List, [], ◌∷◌, ◌++◌, length, ap, refl, sym, Option, Some}
use Rattle.std.proofs.lemmas.Bool.{lt-leb}
use Rattle.core_ir.specs.declared.program.Function.{Function}
use Rattle.core_ir.specs.Valid.{most_frame_units, most_instructions, most_registers, most_slots}
use Rattle.elab_pieces.specs.Limits.{all_within, unless}
use Rattle.elab_pieces.specs.declared.limit.LimitName.{LimitName}
use Rattle.elab_pieces.specs.declared.limit.LimitName.TheVariants as limit
use Rattle.elab.specs.inner.Programs.{functions_limit, noted, passed_by}

and_assoc : (a b c : Bool) → a && (b && c) ≡ (a && b) && c
and_assoc true b c = refl
and_assoc false b c = refl

and_false : (a : Bool) → a && false ≡ false
and_false true = refl
and_false false = refl

pub and_true : (a : Bool) → a && true ≡ a
and_true true = refl
and_true false = refl

not_and : (a b : Bool) → not (a && b) ≡ not a || not b
not_and true b = refl
not_and false b = refl

pub above : (a b : ℕ) → b < a → nat_le a b ≡ false
above a b h = lt-leb a b h

pub within_append : (most : ℕ) (count : Function → ℕ) (fs gs : List Function)
    → all_within most count (fs ++ gs) ≡ all_within most count fs && all_within most count gs
within_append most count [] gs = refl
within_append most count (f ∷ fs) gs =
    ap (λ b. nat_le (count f) most && b) (within_append most count fs gs)
    ∙ and_assoc (nat_le (count f) most) (all_within most count fs) (all_within most count gs)

pub within_more : (most : ℕ) (count : Function → ℕ) (fs : List Function) (f : Function)
    → all_within most count (fs ++ f ∷ []) ≡ all_within most count fs && nat_le (count f) most
within_more most count fs f =
    within_append most count fs (f ∷ []) ∙ ap (λ b. all_within most count fs && b) (and_true (nat_le (count f) most))

-- one that is above passes the limit of all
pub one_above : (most : ℕ) (count : Function → ℕ) (fs : List Function) (f : Function) (gs : List Function)
    → most < count f → all_within most count (fs ++ f ∷ gs) ≡ false
one_above most count fs f gs h =
    within_append most count fs (f ∷ gs)
    ∙ ap (λ b. all_within most count fs && (b && all_within most count gs)) (above (count f) most h)
    ∙ and_false (all_within most count fs)

pub some_above : (most : ℕ) (count : Function → ℕ) (fs gs hs : List Function) → all_within most count gs ≡ false → all_within most count (fs ++ (gs ++ hs)) ≡ false
some_above most count fs gs hs h =
    within_append most count fs (gs ++ hs)
    ∙ ap (λ b. all_within most count fs && b) (within_append most count gs hs ∙ ap (λ b. b && all_within most count hs) h)
    ∙ and_false (all_within most count fs)

-- ---- what is noted of one more function

pub passed_more : (fs : List Function) (f : Function) → noted (passed_by fs) f.registers f.slots (nat_le f.frame_units most_frame_units) ≡ passed_by (fs ++ f ∷ [])
passed_more fs f =
    let r : not (all_within most_registers (λ g. g.registers) fs) || not (nat_le f.registers most_registers) ≡ not (all_within most_registers (λ g. g.registers) (fs ++ f ∷ [])) =
    sym (ap not (within_more most_registers (λ g. g.registers) fs f) ∙ not_and (all_within most_registers (λ g. g.registers) fs) (nat_le f.registers most_registers)) in
    let s : not (all_within most_slots (λ g. g.slots) fs) || not (nat_le f.slots most_slots) ≡ not (all_within most_slots (λ g. g.slots) (fs ++ f ∷ [])) =
    sym (ap not (within_more most_slots (λ g. g.slots) fs f) ∙ not_and (all_within most_slots (λ g. g.slots) fs) (nat_le f.slots most_slots)) in
    let u : not (all_within most_frame_units (λ g. g.frame_units) fs) || not (nat_le f.frame_units most_frame_units)
    ≡ not (all_within most_frame_units (λ g. g.frame_units) (fs ++ f ∷ [])) =
    sym (ap not (within_more most_frame_units (λ g. g.frame_units) fs f) ∙ not_and (all_within most_frame_units (λ g. g.frame_units) fs) (nat_le f.frame_units most_frame_units)) in
    λ i. record { registers = r i; slots = s i; frame = u i }

-- ---- the first limit that functions pass

pub code_first : (fs : List Function) (next : Option LimitName) → all_within most_instructions (λ f. length f.body) fs ≡ false → functions_limit fs next ≡ Some limit.Code
code_first fs next h =
    ap (λ b. unless b limit.Code (unless (all_within most_registers (λ f. f.registers) fs) limit.Registers
    (unless (all_within most_slots (λ f. f.slots) fs) limit.Slots
    (unless (all_within most_frame_units (λ f. f.frame_units) fs) limit.Frame next)))) h

-- by the three tests behind that of the code
abbrev pub behind_code : Bool → Bool → Bool → Option LimitName → Option LimitName
behind_code r s u next = unless r limit.Registers (unless s limit.Slots (unless u limit.Frame next))

pub behind_long : (fs : List Function) (next : Option LimitName) → all_within most_instructions (λ f. length f.body) fs ≡ true
    → functions_limit fs next
    ≡ behind_code (all_within most_registers (λ f. f.registers) fs) (all_within most_slots (λ f. f.slots) fs) (all_within most_frame_units (λ f. f.frame_units) fs) next
behind_long fs next h =
    ap (λ b. unless b limit.Code (behind_code (all_within most_registers (λ f. f.registers) fs) (all_within most_slots (λ f. f.slots) fs) (all_within most_frame_units (λ f. f.frame_units) fs) next)) h
