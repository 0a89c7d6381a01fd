-- The rows that branch. Places of jumps are sums of lengths.
use Rattle.std.specs.Prelude.{ℕ, ℤ, pos, ◌+◌, List, [], ◌∷◌, ◌++◌, length}
use Rattle.core_ir.specs.declared.instr.Instr.{Instr}
use Rattle.core_ir.specs.declared.instr.Instr.TheVariants.{Const, GetLocal, SetLocal, Jump, Branch}
use Rattle.elab_rows.specs.Made.{Code, Made, beyond}

-- V; Branch l
abbrev pub tested : Made → ℕ → List Instr
tested x l = x.code ++ Branch x.result l ∷ []

-- V; SetLocal s
abbrev pub kept_in : Made → ℕ → List Instr
kept_in x s = x.code ++ SetLocal s x.result ∷ []

-- Const v; SetLocal s
abbrev pub sets : ℕ → ℤ → ℕ → List Instr
sets d v s = Const d v ∷ SetLocal s d ∷ []

-- Const 1; SetLocal s; Jump E; F: Const 0; SetLocal s; E: GetLocal s
abbrev pub truth_lines : ℕ → ℕ → ℕ → List Instr
truth_lines d s f = (sets d (pos 1) s ++ Jump (f + 2) ∷ []) ++ sets (d + 1) (pos 0) s ++ GetLocal (d + 2) s ∷ []

-- code whose value is in slot s, which it names first behind y
abbrev pub truth_made : List Instr → Made → ℕ → Made
truth_made operands y f = record {
  code = operands ++ truth_lines y.register y.slot f;
  result = y.register + 2;
  register = y.register + 3;
  slot = y.slot + 1;
}

-- `a && b` | V(a); Branch F; V(b); Branch F; Const 1; SetLocal s; Jump E; F: Const 0; SetLocal s; E: GetLocal s
abbrev pub and_made : ℕ → Made → Made → Made
and_made place x y =
    let f = place + length x.code + 1 + length y.code + 4 in truth_made (tested x f ++ tested y f) y f

abbrev pub and_code : Code → Code → Code
and_code a b place register slot = let x = a place register slot in and_made place x (beyond 1 place x b)

-- V(a); Branch M; Jump T; M: V(b); Branch F; T:
abbrev pub or_lines : Made → Made → ℕ → ℕ → List Instr
or_lines x y m t = (tested x m ++ Jump t ∷ []) ++ tested y (t + 3)

-- `a || b` | V(a); Branch M; Jump T; M: V(b); Branch F; T: Const 1; SetLocal s; Jump E; F: Const 0; SetLocal s;
-- E: GetLocal s
abbrev pub or_made : ℕ → Made → Made → Made
or_made place x y =
    let m = place + length x.code + 2 in
    let t = m + length y.code + 1 in
    truth_made (or_lines x y m t) y (t + 3)

abbrev pub or_code : Code → Code → Code
or_code a b place register slot = let x = a place register slot in or_made place x (beyond 2 place x b)

-- The second arm stands behind the `SetLocal` and `Jump` of the first. The value's slot is the next behind the first.
abbrev pub second_arm : ℕ → Made → Code → Made
second_arm place x b = b (place + length x.code + 2) x.register (x.slot + 1)

abbrev pub arms : Made → Made → ℕ → List Instr
arms x y e = (kept_in x x.slot ++ Jump e ∷ []) ++ kept_in y x.slot ++ GetLocal y.register x.slot ∷ []

-- `c ? a : b` | V(c); Branch F; V(a), converted; SetLocal s; Jump E; F: V(b), converted; SetLocal s; E: GetLocal s
abbrev pub conditional_made : ℕ → Made → Made → Made → Made
conditional_made place c x y =
    let f = place + length c.code + 1 + length x.code + 2 in
    record {
      code = tested c f ++ arms x y (f + length y.code + 1);
      result = y.register;
      register = y.register + 1;
      slot = y.slot;
    }

abbrev pub conditional_code : Code → Code → Code → Code
conditional_code c a b place register slot =
    let t = c place register slot in
    let x = beyond 1 place t a in
    conditional_made place t x (second_arm (place + length t.code + 1) x b)
