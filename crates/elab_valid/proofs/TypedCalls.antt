-- The rows of calls give registers types where the callee's and the arguments' code does.
use Rattle.std.proofs.Common.{◌≡◌, ◌∙◌, ℕ, ◌+◌, Bool, true, false, List, [], ◌∷◌, ◌++◌, length, Some, None, refl, ap, sym, subst, arith}
use Rattle.std.specs.Prelude.{if◌then◌else◌}
use Rattle.c_types.specs.declared.ty.FnTy.{FnTy, out-FnTy}
use Rattle.c_types.specs.declared.ty.Ty.{Ty}
use Rattle.c_types.specs.declared.ty.Ty.TheVariants as ty
use Rattle.c_typed.specs.declared.entity.BuiltIn.{BuiltIn}
use Rattle.c_typed.specs.declared.entity.BuiltIn.TheVariants as built_in
use Rattle.core_ir.specs.declared.instr.Instr.{Instr}
use Rattle.core_ir.specs.declared.instr.Instr.TheVariants.{Call, CallInd, Fork, Free, GetLocal, Input, Join, Lock, Malloc, Print, SetLocal, StartArg, StartFn, Touch, Unlock}
use Rattle.core_ir.specs.declared.program.Function.{Function}
use Rattle.core_ir.specs.declared.program.Program.{Program}
use Rattle.core_ir.specs.Instructions.{defined}
use Rattle.core_ir.specs.Typed.{function_pointer, plain_type, start_type, void_pointer}
use Rattle.elab_rows.specs.Calls.{Listed, arguments, built_in_code, call_code, extended_list, first_of, followed_list, has_place, indirect_code, kept, placed, second_of}
use Rattle.elab_rows.specs.Made.{Code, Made}
use Rattle.elab_valid.proofs.HeldTypes as held
use Rattle.elab_valid.proofs.HeldTypes.{Holds}
use Rattle.elab_valid.proofs.RegisterTypes.{Asks, Below, Fine, FineEach, Live, Types, after, behind-none, behind-one, behind-same, callee_type, type_given}
use Rattle.elab_valid.proofs.TypedRows.{GivesType, HasValue, IsTypedDone}

-- registers with their types
abbrev pub with_types : List ℕ → List Ty → List (ℕ × Ty)
with_types [] ts = []
with_types rs [] = []
with_types (r ∷ rs) (t ∷ ts) = (r, t) ∷ with_types rs ts

each-fine : (e : Types) (rs : List ℕ) (ts : List Ty) → Live e (with_types rs ts) → FineEach e rs ts
each-fine e [] ts h = tt
each-fine e (r ∷ rs) [] h = tt
each-fine e (r ∷ rs) (t ∷ ts) h = (h.0, each-fine e rs ts h.1)

last-below : (n : ℕ) (live : List (ℕ × Ty)) (a : ℕ × Ty) → Below n (live ++ a ∷ []) → Below n (a ∷ live)
last-below n [] a h = h
last-below n (b ∷ live) a h = let rest = last-below n live a h.1 in (rest.0, (h.0, rest.1))

last-live : (e : Types) (live : List (ℕ × Ty)) (a : ℕ × Ty) → Live e (live ++ a ∷ []) → Live e (a ∷ live)
last-live e [] a h = h
last-live e (b ∷ live) a h = let rest = last-live e live a h.1 in (rest.0, (h.0, rest.1))

abbrev listed : Listed → Made
listed l = record { code = l.code; result = 0; register = l.register; slot = l.slot }

-- a built-in function of one parameter
abbrev pub IsSingle : BuiltIn → Type 0
IsSingle built_in.Spawn = ⊥
IsSingle _ = Unit {0}

module _ (p : Program) (f : Function) (base : Types → Type 0) where
  -- values of these types
  abbrev pub HaveValues : List Code → List Ty → Type 0
  HaveValues [] ts = Unit {0}
  HaveValues (c ∷ cs) [] = ⊥
  HaveValues (c ∷ cs) (t ∷ ts) = HasValue p f base c t × HaveValues cs ts

  arguments-hold : (cs : List Code) (ts : List Ty) → HaveValues cs ts → (place register slot : ℕ)
      → Holds p f base [] (listed (arguments cs place register slot)) register slot (with_types (arguments cs place register slot).results ts)
  arguments-hold [] ts h place register slot = held.nothing-holds p f base register slot
  arguments-hold (c ∷ cs) [] h place register slot = absurd h
  arguments-hold (c ∷ cs) (t ∷ ts) h place register slot =
      let x = c place register slot in
      let l = arguments cs (place + length x.code) x.register x.slot in
      let rest = with_types l.results ts in
      held.less p f base [] (record { code = x.code ++ l.code; result = 0; register = l.register; slot = l.slot }) register slot (rest ++ (x.result, t) ∷ []) ((x.result, t) ∷ rest)
      (λ n b. last-below n rest (x.result, t) b) (λ e g. last-live e rest (x.result, t) g)
      (held.both p f base [] x (listed l) register slot 0 ((x.result, t) ∷ []) rest (h.0 place register slot) (arguments-hold cs ts h.1 (place + length x.code) x.register x.slot))

  -- ---- what writes the next slot, and the value of that slot

  written : (given : List (ℕ × Ty)) (n s r : ℕ) (i : Instr) (t : Ty) → defined i ≡ None
      → ((slots : Types) → base slots → slots s ≡ t → (e : Types) → Live e given → Asks p f slots e i)
      → Holds p f base given (record { code = i ∷ GetLocal n s ∷ []; result = r; register = n + 1; slot = s + 1 }) n s ((n, t) ∷ [])
  written given n s r i t is asks = record {
    temps = t ∷ [];
    slot_is = refl;
    grows = omega arith;
    below = (omega arith, tt);
    typed = λ slots b at e g. (asks slots b at.0 e g, (tt, tt));
    has = λ slots b at e g. (ap plain_type (behind-same (Some n) n (slots s) (after p f slots e i) refl ∙ at.0), tt);
    keeps = λ slots e w lt. behind-one (Some n) n w (slots s) (after p f slots e i) refl lt ∙ behind-none (defined i) w (type_given p f slots e i) e is;
  }

  value-written : (x : Made) (register slot r : ℕ) (live : List (ℕ × Ty)) (i : Instr) (t : Ty) → defined i ≡ None → Holds p f base [] x register slot live
      → ((slots : Types) → base slots → slots x.slot ≡ t → (e : Types) → Live e live → Asks p f slots e i)
      → Holds p f base [] (record { code = x.code ++ i ∷ GetLocal x.register x.slot ∷ []; result = r; register = x.register + 1; slot = x.slot + 1 }) register slot ((x.register, t) ∷ live)
  value-written x register slot r live i t is h asks =
      held.append p f base base [] live ((x.register, t) ∷ []) x (record { code = i ∷ GetLocal x.register x.slot ∷ []; result = r; register = x.register + 1; slot = x.slot + 1 }) register slot r h
      (written live x.register x.slot r i t is asks) (λ slots b at. b)

  only-first : (x : Made) (register slot : ℕ) (a : ℕ × Ty) (live : List (ℕ × Ty)) → Holds p f base [] x register slot (a ∷ live) → Holds p f base [] x register slot (a ∷ [])
  only-first x register slot a live h = held.less p f base [] x register slot (a ∷ live) (a ∷ []) (λ n b. (b.0, tt)) (λ e g. (g.0, tt)) h

  none-live : (x : Made) (register slot : ℕ) (live : List (ℕ × Ty)) → Holds p f base [] x register slot live → Holds p f base [] x register slot []
  none-live x register slot live h = held.less p f base [] x register slot live [] (λ n b. tt) (λ e g. tt) h

  -- ---- calls by a function's name

  module _ (n : ℕ) (t : FnTy) (is : callee_type p n ≡ t) (cs : List Code) (h : HaveValues cs (out-FnTy t).params) where
    pub call-typed : HasValue p f base (call_code n true cs) (out-FnTy t).result
    call-typed place register slot =
        let l = arguments cs place register slot in
        let live = with_types l.results (out-FnTy t).params in
        only-first (call_code n true cs place register slot) register slot (l.register, (out-FnTy t).result) live
        (value-written (listed l) register slot l.register live (Call n l.results (Some l.slot)) (out-FnTy t).result refl (arguments-hold cs (out-FnTy t).params h place register slot)
        (λ slots b has e g. subst (λ z. FineEach e l.results (out-FnTy z).params × (slots l.slot ≡ (out-FnTy z).result)) (sym is) (each-fine e l.results (out-FnTy t).params g, has)))

    pub void_call-typed : IsTypedDone p f base (call_code n false cs)
    void_call-typed place register slot =
        let l = arguments cs place register slot in
        let live = with_types l.results (out-FnTy t).params in
        none-live (call_code n false cs place register slot) register slot live
        (held.uses p f base [] (listed l) register slot 0 live (Call n l.results None) (arguments-hold cs (out-FnTy t).params h place register slot) refl
        (λ slots b e g. subst (λ z. FineEach e l.results (out-FnTy z).params × Unit {0}) (sym is) (each-fine e l.results (out-FnTy t).params g, tt)))

  -- ---- calls by a pointer

  placed-if : (b : Bool) (x : Made) (register slot : ℕ) (t : Ty) → GivesType p f base x register slot t [] → GivesType p f base (if b then x else kept x) register slot t []
  placed-if true x register slot t h = h
  placed-if false x register slot t h =
      only-first (kept x) register slot (x.register, t) ((x.result, t) ∷ [])
      (value-written x register slot x.register ((x.result, t) ∷ []) (SetLocal x.slot x.result) t refl h (λ slots b has e g. g.0 ∙ ap plain_type (sym has)))

  module _ (t : FnTy) (c : Code) (cs : List Code) (hc : HasValue p f base c (function_pointer t)) (h : HaveValues cs (out-FnTy t).params) where
    abbrev callee : ℕ → ℕ → ℕ → Made
    callee place register slot = let l = arguments cs place register slot in placed (c (place + length l.code) l.register l.slot)

    abbrev reached : ℕ → ℕ → ℕ → Made
    reached place register slot =
        let l = arguments cs place register slot in
        let x = callee place register slot in
        record { code = l.code ++ x.code; result = 0; register = x.register; slot = x.slot }

    abbrev lives : ℕ → ℕ → ℕ → List (ℕ × Ty)
    lives place register slot = ((callee place register slot).result, function_pointer t) ∷ with_types (arguments cs place register slot).results (out-FnTy t).params

    reached-holds : (place register slot : ℕ) → Holds p f base [] (reached place register slot) register slot (lives place register slot)
    reached-holds place register slot =
        let l = arguments cs place register slot in
        let y = c (place + length l.code) l.register l.slot in
        let x = callee place register slot in
        held.both p f base [] (listed l) x register slot 0 (with_types l.results (out-FnTy t).params) ((x.result, function_pointer t) ∷ [])
        (arguments-hold cs (out-FnTy t).params h place register slot) (placed-if (has_place y.code y.result) y l.register l.slot (function_pointer t) (hc (place + length l.code) l.register l.slot))

    pub indirect-typed : HasValue p f base (indirect_code t true c cs) (out-FnTy t).result
    indirect-typed place register slot =
        let l = arguments cs place register slot in
        let x = callee place register slot in
        only-first (indirect_code t true c cs place register slot) register slot (x.register, (out-FnTy t).result) (lives place register slot)
        (value-written (reached place register slot) register slot x.register (lives place register slot) (CallInd x.result l.results t (Some x.slot)) (out-FnTy t).result refl (reached-holds place register slot)
        (λ slots b has e g. (g.0, each-fine e l.results (out-FnTy t).params g.1, has)))

    pub void_indirect-typed : IsTypedDone p f base (indirect_code t false c cs)
    void_indirect-typed place register slot =
        let l = arguments cs place register slot in
        let x = callee place register slot in
        none-live (indirect_code t false c cs place register slot) register slot (lives place register slot)
        (held.uses p f base [] (reached place register slot) register slot 0 (lives place register slot) (CallInd x.result l.results t None) (reached-holds place register slot) refl
        (λ slots b e g. (g.0, each-fine e l.results (out-FnTy t).params g.1, tt)))

  -- ---- built-in functions

  -- one argument, and an instruction that asks a type of it
  one-hold : (c : Code) (t : Ty) → HasValue p f base c t → (place register slot : ℕ) → let l = arguments (c ∷ []) place register slot in Holds p f base [] (listed l) register slot ((first_of l.results, t) ∷ [])
  one-hold c t h place register slot = arguments-hold (c ∷ []) (t ∷ []) (h, tt) place register slot

  used : (i : ℕ → Instr) (t : Ty) (c : Code) → ((a : ℕ) → defined (i a) ≡ None) → ((slots : Types) → base slots → (e : Types) (a : ℕ) → Fine e a t → Asks p f slots e (i a)) → HasValue p f base c t
      → (place register slot : ℕ) → let l = arguments (c ∷ []) place register slot in Holds p f base [] (followed_list (i (first_of l.results) ∷ []) l) register slot []
  used i t c is asks h place register slot =
      let l = arguments (c ∷ []) place register slot in
      let r = first_of l.results in
      none-live (followed_list (i r ∷ []) l) register slot ((r, t) ∷ [])
      (held.uses p f base [] (listed l) register slot r ((r, t) ∷ []) (i r) (one-hold c t h place register slot) (is r) (λ slots b e g. asks slots b e r g.0))

  made : (i : ℕ → ℕ → Instr) (t u : Ty) (c : Code) → ((d a : ℕ) → defined (i d a) ≡ Some d)
      → ((slots : Types) → base slots → (e : Types) (d a : ℕ) → Fine e a t → Asks p f slots e (i d a) × (plain_type (type_given p f slots e (i d a)) ≡ plain_type u)) → HasValue p f base c t
      → (place register slot : ℕ) → let l = arguments (c ∷ []) place register slot in Holds p f base [] (extended_list i l) register slot ((l.register, u) ∷ [])
  made i t u c is asks h place register slot =
      let l = arguments (c ∷ []) place register slot in
      let r = first_of l.results in
      only-first (extended_list i l) register slot (l.register, u) ((r, t) ∷ [])
      (held.gives p f base [] (listed l) register slot l.register ((r, t) ∷ []) (i l.register r) u (one-hold c t h place register slot) (is l.register r) (λ slots b e g. asks slots b e l.register r g.0))

  -- Touch, and an instruction that asks nothing
  touched : (i : ℕ → Instr) (t : Ty) (c : Code) → ((a : ℕ) → defined (i a) ≡ None) → ((slots : Types) (e : Types) (a : ℕ) → Asks p f slots e (i a)) → HasValue p f base c t
      → (place register slot : ℕ) → let l = arguments (c ∷ []) place register slot in Holds p f base [] (followed_list (Touch (first_of l.results) ty.Int ∷ i (first_of l.results) ∷ []) l) register slot []
  touched i t c is asks h place register slot =
      let l = arguments (c ∷ []) place register slot in
      let r = first_of l.results in
      none-live (followed_list (Touch r ty.Int ∷ i r ∷ []) l) register slot ((r, t) ∷ [])
      (held.append p f base base [] ((r, t) ∷ []) [] (listed l) (record { code = Touch r ty.Int ∷ i r ∷ []; result = r; register = l.register; slot = l.slot }) register slot r (one-hold c t h place register slot)
      (record {
        temps = [];
        slot_is = omega arith;
        grows = omega arith;
        below = tt;
        typed = λ slots b at e g. (tt, (asks slots e r, tt));
        has = λ slots b at e g. tt;
        keeps = λ slots e w lt. behind-none (defined (i r)) w (type_given p f slots e (i r)) e (is r);
      }) (λ slots b at. b))

  -- a new thread
  pub spawned-typed : (c d : Code) → HasValue p f base c (function_pointer start_type) → HasValue p f base d void_pointer → HasValue p f base (built_in_code built_in.Spawn (c ∷ d ∷ [])) ty.Int
  spawned-typed c d hc hd place register slot =
      let l = arguments (c ∷ d ∷ []) place register slot in
      let n = l.register in
      let x = first_of l.results in
      let y = second_of l.results in
      let live : List (ℕ × Ty) = (x, function_pointer start_type) ∷ (y, void_pointer) ∷ [] in
      let arguments_hold = arguments-hold (c ∷ d ∷ []) (function_pointer start_type ∷ void_pointer ∷ []) (hc, (hd, tt)) place register slot in
      only-first (built_in_code built_in.Spawn (c ∷ d ∷ []) place register slot) register slot (n, ty.Int) live
      (held.append p f base base [] live ((n, ty.Int) ∷ []) (listed l) (record { code = Fork n ∷ StartArg n y ∷ StartFn n x ∷ []; result = n; register = n + 1; slot = l.slot }) register slot n arguments_hold
      (record {
        temps = [];
        slot_is = omega arith;
        grows = omega arith;
        below = (omega arith, tt);
        typed = λ slots b at e g.
            (tt, (ap plain_type (behind-one (Some n) n y ty.Int e refl arguments_hold.below.1.0) ∙ g.1.0, (ap plain_type (behind-one (Some n) n x ty.Int e refl arguments_hold.below.0) ∙ g.0, tt)));
        has = λ slots b at e g. (ap plain_type (behind-same (Some n) n ty.Int e refl), tt);
        keeps = λ slots e w lt. behind-one (Some n) n w ty.Int e refl lt;
      }) (λ slots b at. b))

  pub single-done : (b : BuiltIn) → IsSingle b → (c : Code) (t : Ty) → (b ≡ built_in.Free → t ≡ void_pointer) → HasValue p f base c t → IsTypedDone p f base (built_in_code b (c ∷ []))
  single-done built_in.Spawn s c t free h place register slot = absurd s
  single-done built_in.Join s c t free h place register slot = used (λ r. Join r) t c (λ a. refl) (λ slots b e a is. tt) h place register slot
  single-done built_in.Lock s c t free h place register slot = touched (λ r. Lock r) t c (λ a. refl) (λ slots e a. tt) h place register slot
  single-done built_in.Unlock s c t free h place register slot = touched (λ r. Unlock r) t c (λ a. refl) (λ slots e a. tt) h place register slot
  single-done built_in.Print s c t free h place register slot = used (λ r. Print r) t c (λ a. refl) (λ slots b e a is. tt) h place register slot
  single-done built_in.Input s c t free h place register slot =
      let l = arguments (c ∷ []) place register slot in
      none-live (extended_list (λ d r. Input d r) l) register slot ((l.register, ty.Int) ∷ []) (made (λ d r. Input d r) t ty.Int c (λ d a. refl) (λ slots b e d a is. (tt, refl)) h place register slot)
  single-done built_in.Malloc s c t free h place register slot =
      let l = arguments (c ∷ []) place register slot in
      none-live (extended_list (λ d r. Malloc d r) l) register slot ((l.register, void_pointer) ∷ []) (made (λ d r. Malloc d r) t void_pointer c (λ d a. refl) (λ slots b e d a is. (tt, refl)) h place register slot)
  single-done built_in.Free s c t free h place register slot = used (λ r. Free r) t c (λ a. refl) (λ slots b e a is. is ∙ ap plain_type (free refl)) h place register slot

  pub input-typed : (c : Code) (t : Ty) → HasValue p f base c t → HasValue p f base (built_in_code built_in.Input (c ∷ [])) ty.Int
  input-typed c t h = made (λ d r. Input d r) t ty.Int c (λ d a. refl) (λ slots b e d a is. (tt, refl)) h

  pub malloc-typed : (c : Code) (t : Ty) → HasValue p f base c t → HasValue p f base (built_in_code built_in.Malloc (c ∷ [])) void_pointer
  malloc-typed c t h = made (λ d r. Malloc d r) t void_pointer c (λ d a. refl) (λ slots b e d a is. (tt, refl)) h
