-- The rows of calls, over the code of the callee and of the arguments, which are converted already.
use Rattle.std.specs.Prelude.{ℕ, ◌+◌, Bool, true, false, not, ◌&&◌, ◌||◌, if◌then◌else◌, nat_eq, List, [], ◌∷◌, ◌++◌, length, reverse, Option, Some, None}
use Rattle.c_types.specs.declared.ty.FnTy.{FnTy}
use Rattle.c_types.specs.declared.ty.Ty.TheVariants as ty
use Rattle.c_typed.specs.declared.entity.BuiltIn.{BuiltIn}
use Rattle.c_typed.specs.declared.entity.BuiltIn.TheVariants as built_in
use Rattle.core_ir.specs.declared.instr.Instr.{Instr}
use Rattle.core_ir.specs.declared.instr.Instr.TheVariants.{GetLocal, SetLocal, Cast, Touch, Load, Call, CallInd, Malloc, Free, Fork, StartArg, StartFn, Lock, Unlock, Join, Print, Input}
use Rattle.core_ir.specs.Instructions.{defined}
use Rattle.elab_rows.specs.Made.{Code, Made}

-- ---- arguments

-- code of several values, and their registers
pub record Listed : Type 0 where
  pub code : List Instr
  pub results : List ℕ
  pub register : ℕ
  pub slot : ℕ

abbrev pub with_argument : Made → Listed → Listed
with_argument x l =
    record { code = x.code ++ l.code; results = x.result ∷ l.results; register = l.register; slot = l.slot }

-- arguments from left to right
abbrev pub arguments : List Code → ℕ → ℕ → ℕ → Listed
arguments [] place register slot = record { code = []; results = []; register = register; slot = slot }
arguments (a ∷ others) place register slot =
    let x = a place register slot in with_argument x (arguments others (place + length x.code) x.register x.slot)

-- ---- the call and its result

-- The call, which takes the slot of its result; GetLocal of that slot where the result isn't `void`.
abbrev pub called : Bool → (Option ℕ → Instr) → Listed → Made
called true call l = record {
  code = l.code ++ call (Some l.slot) ∷ GetLocal l.register l.slot ∷ [];
  result = l.register;
  register = l.register + 1;
  slot = l.slot + 1;
}
called false call l = record { code = l.code ++ call None ∷ []; result = 0; register = l.register; slot = l.slot }

-- call by a function's name | arguments left to right, each converted; Call; GetLocal of the result slot where the
-- result isn't `void`
abbrev pub call_made : ℕ → Bool → Listed → Made
call_made f returns l = called returns (λ s. Call f l.results s) l

abbrev pub call_code : ℕ → Bool → List Code → Code
call_code f returns parts place register slot = call_made f returns (arguments parts place register slot)

-- ---- callees

abbrev pub defines : ℕ → Option ℕ → Bool
defines r None = false
defines r (Some d) = nat_eq d r

-- The nearest instruction that defines the register is a load or the value of a slot, or a conversion of what such a
-- one gives. The last instruction comes first.
abbrev pub has_place_back : List Instr → ℕ → Bool
has_place_back [] r = false
has_place_back (Load d p t ∷ is) r = nat_eq d r || has_place_back is r
has_place_back (GetLocal d s ∷ is) r = nat_eq d r || has_place_back is r
has_place_back (Cast d a from to ∷ is) r = has_place_back is (if nat_eq d r then a else r)
has_place_back (i ∷ is) r = not (defines r (defined i)) && has_place_back is r

-- the register that code gives has a place
unfoldable pub has_place : List Instr → ℕ → Bool
has_place code r = has_place_back (reverse code) r

abbrev pub kept : Made → Made
kept x = record {
  code = x.code ++ SetLocal x.slot x.result ∷ GetLocal x.register x.slot ∷ [];
  result = x.register;
  register = x.register + 1;
  slot = x.slot + 1;
}

-- V(callee); where its register has no place, SetLocal and GetLocal of a new slot
abbrev pub placed : Made → Made
placed x = if has_place x.code x.result then x else kept x

-- arguments, and a callee behind them
abbrev pub with_callee : Listed → Made → Listed
with_callee l x = record { code = l.code ++ x.code; results = l.results; register = x.register; slot = x.slot }

-- other call | arguments; V(callee); where its register has no place, SetLocal and GetLocal of a new slot; CallInd;
-- GetLocal as above
abbrev pub indirect_made : FnTy → Bool → Listed → Made → Made
indirect_made f returns l x = called returns (λ s. CallInd x.result l.results f s) (with_callee l x)

abbrev pub indirect_code : FnTy → Bool → Code → List Code → Code
indirect_code f returns callee parts place register slot =
    let l = arguments parts place register slot in
    indirect_made f returns l (placed (callee (place + length l.code) l.register l.slot))

-- ---- built-in calls

abbrev pub first_of : List ℕ → ℕ
first_of [] = 0
first_of (r ∷ others) = r

abbrev pub second_of : List ℕ → ℕ
second_of [] = 0
second_of (r ∷ others) = first_of others

-- arguments; these instructions, which define no register
abbrev pub followed_list : List Instr → Listed → Made
followed_list is l = record { code = l.code ++ is; result = first_of l.results; register = l.register; slot = l.slot }

-- arguments; an instruction of the next register, which it defines
abbrev pub extended_list : (ℕ → ℕ → Instr) → Listed → Made
extended_list i l = record {
  code = l.code ++ i l.register (first_of l.results) ∷ [];
  result = l.register;
  register = l.register + 1;
  slot = l.slot;
}

-- `spawn` | both arguments; Fork; StartArg; StartFn; the value is Fork's
abbrev pub spawned : Listed → Made
spawned l = record {
  code = l.code ++ Fork l.register ∷ StartArg l.register (second_of l.results) ∷ StartFn l.register (first_of l.results) ∷ [];
  result = l.register;
  register = l.register + 1;
  slot = l.slot;
}

-- `lock`, `unlock` | argument; Touch with `int`; Lock, Unlock
-- other built-in | arguments; its instruction
abbrev pub built_in_made : BuiltIn → Listed → Made
built_in_made built_in.Spawn l = spawned l
built_in_made built_in.Join l = followed_list (Join (first_of l.results) ∷ []) l
built_in_made built_in.Lock l = followed_list (Touch (first_of l.results) ty.Int ∷ Lock (first_of l.results) ∷ []) l
built_in_made built_in.Unlock l = followed_list (Touch (first_of l.results) ty.Int ∷ Unlock (first_of l.results) ∷ []) l
built_in_made built_in.Print l = followed_list (Print (first_of l.results) ∷ []) l
built_in_made built_in.Input l = extended_list (λ d r. Input d r) l
built_in_made built_in.Malloc l = extended_list (λ d r. Malloc d r) l
built_in_made built_in.Free l = followed_list (Free (first_of l.results) ∷ []) l

abbrev pub built_in_code : BuiltIn → List Code → Code
built_in_code b parts place register slot = built_in_made b (arguments parts place register slot)
