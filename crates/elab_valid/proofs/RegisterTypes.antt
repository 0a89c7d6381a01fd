-- Types of registers along code: what each instruction asks of those that it uses, and the type that it gives the one that it defines.
use Rattle.std.proofs.Common.{◌≡◌, ◌≢◌, ◌∙◌, ℕ, suc, ◌+◌, ◌<◌, ◌≤◌, Bool, true, false, List, [], ◌∷◌, ◌++◌, length, nat_eq, Option, Some, None, option_map, unwrap_or, refl, ap, sym, subst, slice_get, arith}
use Rattle.std.proofs.lemmas.Bool.{eq-eqb, ne_eqb}
use Rattle.std.specs.Prelude.{IfSome}
use Rattle.c_types.specs.declared.ty.FnTy.{FnTy, out-FnTy, roll-FnTy}
use Rattle.c_types.specs.declared.ty.Ty.{Ty}
use Rattle.c_types.specs.declared.ty.Ty.TheVariants as ty
use Rattle.core_ir.specs.declared.instr.Instr.{Instr}
use Rattle.core_ir.specs.declared.instr.Instr.TheVariants.{AddrF, AddrG, AddrL, Call, CallInd, Cast, Free, GetLocal, Load, Malloc, PtrAdd, PtrConst, Return, SetLocal, StartArg, StartFn, Store}
use Rattle.core_ir.specs.declared.program.Function.{Function}
use Rattle.core_ir.specs.declared.program.GlobalVar.{GlobalVar}
use Rattle.core_ir.specs.declared.program.Local.{Local}
use Rattle.core_ir.specs.declared.program.Program.{Program}
use Rattle.core_ir.specs.Instructions.{defined}
use Rattle.core_ir.specs.Typed.{function_pointer, plain_type, start_type, void_pointer}

-- the type of each register, and of each slot
abbrev pub Types : Type 0
Types = ℕ → Ty

-- ---- what programs and functions say

abbrev pub global_type : Program → ℕ → Ty
global_type p g = unwrap_or (option_map (λ (v : GlobalVar). v.ty) (slice_get p.globals g)) ty.Void

abbrev pub local_type : Function → ℕ → Ty
local_type f v = unwrap_or (option_map (λ (l : Local). l.ty) (slice_get f.locals v)) ty.Void

abbrev pub callee_type : Program → ℕ → FnTy
callee_type p g = unwrap_or (option_map (λ (h : Function). h.ty) (slice_get p.functions g)) (roll-FnTy (record { result = ty.Void; params = [] }))

pub callee-is : (p : Program) (g : ℕ) (h : Function) → slice_get p.functions g ≡ Some h → callee_type p g ≡ h.ty
callee-is p g h there = ap (λ o. unwrap_or (option_map (λ (h : Function). h.ty) o) (roll-FnTy (record { result = ty.Void; params = [] }))) there

-- ---- one instruction

abbrev pub pick : Bool → Ty → Ty → Ty
pick true t u = t
pick false t u = u

-- types behind an instruction that defines this register, if any, with this type
abbrev pub type_behind : Option ℕ → Ty → Types → Types
type_behind None t e r = e r
type_behind (Some d) t e r = pick (nat_eq d r) t (e r)

pick-true : (b : Bool) (t u : Ty) → b ≡ true → pick b t u ≡ t
pick-true true t u h = refl
pick-true false t u h = cc

pub pick-false : (b : Bool) (t u : Ty) → b ≡ false → pick b t u ≡ u
pick-false true t u h = cc
pick-false false t u h = refl

pub behind-same : (o : Option ℕ) (d : ℕ) (t : Ty) (e : Types) → o ≡ Some d → type_behind o t e d ≡ t
behind-same o d t e is = ap (λ z. type_behind z t e d) is ∙ pick-true (nat_eq d d) t (e d) (eq-eqb d d refl)

pub behind-other : (o : Option ℕ) (n r : ℕ) (t : Ty) (e : Types) → IfSome o (λ d. n ≤ d) → r < n → type_behind o t e r ≡ e r
behind-other None n r t e h lt = refl
behind-other (Some d) n r t e h lt = let le : n ≤ d = h in pick-false (nat_eq d r) t (e r) (ne_eqb d r (λ is. omega arith))

pub behind-one : (o : Option ℕ) (n r : ℕ) (t : Ty) (e : Types) → o ≡ Some n → r < n → type_behind o t e r ≡ e r
behind-one o n r t e is lt = let reflexive : n ≤ n = omega arith in behind-other o n r t e (subst (λ z. IfSome z (λ d. n ≤ d)) (sym is) reflexive) lt

pub behind-none : (o : Option ℕ) (r : ℕ) (t : Ty) (e : Types) → o ≡ None → type_behind o t e r ≡ e r
behind-none o r t e is = ap (λ z. type_behind z t e r) is

-- up to `char` and outer arrays, the register has the type
abbrev pub Fine : Types → ℕ → Ty → Type 0
Fine e r t = plain_type (e r) ≡ plain_type t

abbrev pub FineEach : Types → List ℕ → List Ty → Type 0
FineEach e [] ts = Unit {0}
FineEach e rs [] = Unit {0}
FineEach e (r ∷ rs) (t ∷ ts) = Fine e r t × FineEach e rs ts

-- a result's slot has its type
abbrev pub Receives : Types → Option ℕ → Ty → Type 0
Receives slots None t = Unit {0}
Receives slots (Some s) t = slots s ≡ t

abbrev pub ReturnsFine : Types → Option ℕ → Ty → Type 0
ReturnsFine e None t = Unit {0}
ReturnsFine e (Some a) t = Fine e a t

module _ (p : Program) (f : Function) (slots : Types) where
  -- the type that an instruction gives, where registers have these
  abbrev pub type_given : Types → Instr → Ty
  type_given e (AddrG d g) = ty.Pointer (global_type p g)
  type_given e (AddrL d v) = ty.Pointer (local_type f v)
  type_given e (AddrF d g) = function_pointer (callee_type p g)
  type_given e (GetLocal d s) = slots s
  type_given e (PtrAdd d q i n) = e q
  type_given e (PtrConst d q n) = e q
  type_given e (Cast d a from to) = to
  type_given e (Load d q t) = t
  type_given e (Malloc d a) = void_pointer
  type_given e _ = ty.Int

  -- what it asks
  abbrev pub Asks : Types → Instr → Type 0
  Asks e (AddrF d g) = g ≢ p.entry
  Asks e (Store q a t) = Fine e a t
  Asks e (Cast d a from to) = Fine e a from
  Asks e (SetLocal s a) = Fine e a (slots s)
  Asks e (Return a) = ReturnsFine e a (out-FnTy f.ty).result
  Asks e (Call g args s) = FineEach e args (out-FnTy (callee_type p g)).params × Receives slots s (out-FnTy (callee_type p g)).result
  Asks e (CallInd c args t s) = Fine e c (function_pointer t) × FineEach e args (out-FnTy t).params × Receives slots s (out-FnTy t).result
  Asks e (Free q) = Fine e q void_pointer
  Asks e (StartArg t a) = Fine e a void_pointer
  Asks e (StartFn t g) = Fine e g (function_pointer start_type)
  Asks e _ = Unit {0}

  abbrev pub after : Types → Instr → Types
  after e i = type_behind (defined i) (type_given e i) e

  -- ---- code

  abbrev pub run : Types → List Instr → Types
  run e [] = e
  run e (i ∷ is) = run (after e i) is

  -- each instruction has what it asks
  abbrev pub Typed : Types → List Instr → Type 0
  Typed e [] = Unit {0}
  Typed e (i ∷ is) = Asks e i × Typed (after e i) is

  pub run-append : (c d : List Instr) (e : Types) → run e (c ++ d) ≡ run (run e c) d
  run-append [] d e = refl
  run-append (i ∷ c) d e = run-append c d (after e i)

  pub typed-append : (c d : List Instr) (e : Types) → Typed e c → Typed (run e c) d → Typed e (c ++ d)
  typed-append [] d e hc hd = hd
  typed-append (i ∷ c) d e hc hd = (hc.0, typed-append c d (after e i) hc.1 hd)

-- ---- registers that have types

abbrev pub Live : Types → List (ℕ × Ty) → Type 0
Live e [] = Unit {0}
Live e (a ∷ others) = Fine e a.0 a.1 × Live e others

abbrev pub Below : ℕ → List (ℕ × Ty) → Type 0
Below n [] = Unit {0}
Below n (a ∷ others) = (a.0 < n) × Below n others

pub below-more : (n m : ℕ) (live : List (ℕ × Ty)) → n ≤ m → Below n live → Below m live
below-more n m [] le h = tt
below-more n m (a ∷ others) le h = (omega (arith, h.0), below-more n m others le h.1)

pub below-append : (n : ℕ) (live more : List (ℕ × Ty)) → Below n live → Below n more → Below n (live ++ more)
below-append n [] more h m = m
below-append n (a ∷ others) more h m = (h.0, below-append n others more h.1 m)

pub live-append : (e : Types) (live more : List (ℕ × Ty)) → Live e live → Live e more → Live e (live ++ more)
live-append e [] more h m = m
live-append e (a ∷ others) more h m = (h.0, live-append e others more h.1 m)

pub live-kept : (n : ℕ) (live : List (ℕ × Ty)) (e g : Types) → Below n live → ((r : ℕ) → r < n → g r ≡ e r) → Live e live → Live g live
live-kept n [] e g below same h = tt
live-kept n (a ∷ others) e g below same h = (ap plain_type (same a.0 below.0) ∙ h.0, live-kept n others e g below.1 same h.1)

-- ---- slots that have types

-- from a slot on they have these
abbrev pub HasAt : Types → ℕ → List Ty → Type 0
HasAt slots n [] = Unit {0}
HasAt slots n (t ∷ ts) = (slots n ≡ t) × HasAt slots (suc n) ts

pub has-first : (slots : Types) (n : ℕ) (ts us : List Ty) → HasAt slots n (ts ++ us) → HasAt slots n ts
has-first slots n [] us h = tt
has-first slots n (t ∷ ts) us h = (h.0, has-first slots (suc n) ts us h.1)

pub has-rest : (slots : Types) (n m : ℕ) (ts us : List Ty) → m ≡ n + length ts → HasAt slots n (ts ++ us) → HasAt slots m us
has-rest slots n m [] us e h = subst (λ z. HasAt slots z us) (let same : n ≡ m = omega (arith, e) in same) h
has-rest slots n m (t ∷ ts) us e h = has-rest slots (suc n) m ts us (omega (arith, e)) h.1
