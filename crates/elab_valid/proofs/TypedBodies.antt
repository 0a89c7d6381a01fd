-- Code whose instructions have what they ask, in their order, is typed as bodies are to be.
use Rattle.std.proofs.Common.{◌≡◌, ◌≢◌, ◌∙◌, inl, ℕ, zero, suc, ◌-◌, ◌<◌, Bool, All, Contains, List, [], ◌∷◌, length, map, take, nat_eq, Option, Some, None, option_map, unwrap_or, refl, ap, sym, subst, slice_get, arith, ⊎_elim}
use Rattle.std.proofs.lemmas.Bool.{ne_eqb}
use Rattle.std.proofs.lemmas.List.Elements.{All-contains}
use Rattle.std.proofs.lemmas.Option.{same_Some}
use Rattle.std.specs.Prelude.{IfSome}
use Rattle.c_types.specs.declared.ty.FnTy.{FnTy, out-FnTy, roll-FnTy}
use Rattle.c_types.specs.declared.ty.Ty.{Ty}
use Rattle.c_types.specs.declared.ty.Ty.TheVariants as ty
use Rattle.core_ir.specs.declared.instr.Instr.{Instr}
use Rattle.core_ir.specs.declared.instr.Instr.TheVariants.{AddrF, AddrG, AddrL, Binary, Branch, Call, CallInd, Cast, Const, Enter, Fork, Free, GetLocal, Input, Join, Jump, Leave, Load, Lock, Malloc, Print, PtrAdd, PtrConst, Return, SetLocal, StartArg, StartFn, Store, Touch, Unary, Unlock}
use Rattle.core_ir.specs.declared.program.Function.{Function}
use Rattle.core_ir.specs.declared.program.GlobalVar.{GlobalVar}
use Rattle.core_ir.specs.declared.program.Local.{Local}
use Rattle.core_ir.specs.declared.program.Program.{Program}
use Rattle.core_ir.specs.Flow.{IsAmong, Stands}
use Rattle.core_ir.specs.Instructions.{defined, outline_of, slot}
use Rattle.core_ir.specs.Order.{IsWellFormed}
use Rattle.core_ir.specs.Outline.{Outline}
use Rattle.core_ir.specs.Typed as core
use Rattle.core_ir.specs.Typed.{HasType, IsAt, IsTypedBody, ServesIn, TypeAt, asked, asked_call, asked_each, asked_slot, function_pointer, plain_type, received, start_type, void_pointer}
use Rattle.core_ir.specs.Valid.{IsInRange}
use Rattle.elab_valid.proofs.ListPlaces.{contains-at, first-or-rest, held-at, mapped-at, mapped-back, nothing-in}
use Rattle.elab_valid.proofs.RegisterTypes.{Asks, Fine, FineEach, ReturnsFine, Types, Typed, after, behind-same, callee-is, pick-false, run, type_behind, type_given}

behind-not : (o : Option ℕ) (r : ℕ) (t : Ty) (e : Types) → o ≢ Some r → type_behind o t e r ≡ e r
behind-not None r t e h = refl
behind-not (Some d) r t e h = pick-false (nat_eq d r) t (e r) (ne_eqb d r (λ is. h (ap (λ z. Some z) is)))

-- nothing in it takes the entry function's address
abbrev pub EntryFree : Program → Function → Type 0
EntryFree p f = (n d : ℕ) → IsAt f n (AddrF d p.entry) → ⊥

-- ---- what was asked

module _ (p : Program) (f : Function) (list : List Ty) where
  abbrev pub slots : Types
  slots n = unwrap_or (slice_get list n) ty.Int

  each-asked : (e : Types) (rs : List ℕ) (ts : List Ty) (r : ℕ) (t : Ty) → FineEach e rs ts → Contains (asked_each rs ts) (r, t) → Fine e r t
  each-asked e [] ts r t h m = absurd (nothing-in (r, t) m)
  each-asked e (x ∷ rs) [] r t h m = absurd (nothing-in (r, t) m)
  each-asked e (x ∷ rs) (u ∷ ts) r t h m =
      ⊎_elim (λ is. subst (λ (z : ℕ × Ty). Fine e z.0 z.1) is h.0) (λ rest. each-asked e rs ts r t h.1 rest) (first-or-rest (x, u) (asked_each rs ts) (r, t) m)

  one-asked : (e : Types) (x : ℕ) (u : Ty) (r : ℕ) (t : Ty) → Fine e x u → Contains {X = ℕ × Ty} ((x, u) ∷ []) (r, t) → Fine e r t
  one-asked e x u r t h m = each-asked e (x ∷ []) (u ∷ []) r t (h, tt) m

  slot-asked : (e : Types) (o : Option Ty) (a r : ℕ) (t : Ty) → Fine e a (unwrap_or o ty.Int) → Contains {X = ℕ × Ty} (elim o as (λ k. List (ℕ × Ty)) [ None ↦ [] | Some u ↦ (a, u) ∷ [] ]) (r, t) → Fine e r t
  slot-asked e None a r t h m = absurd (nothing-in (r, t) m)
  slot-asked e (Some u) a r t h m = one-asked e a u r t h m

  result-asked : (e : Types) (g : FnTy) (a : Option ℕ) (r : ℕ) (t : Ty) → ReturnsFine e a (out-FnTy g).result → Contains (core.asked_result g a) (r, t) → Fine e r t
  result-asked e g None r t h m = absurd (nothing-in (r, t) m)
  result-asked e g (Some a) r t h m = one-asked e a (out-FnTy g).result r t h m

  call-asked : (e : Types) (o : Option Function) (args : List ℕ) (r : ℕ) (t : Ty)
      → FineEach e args (out-FnTy (unwrap_or (option_map (λ (h : Function). h.ty) o) (roll-FnTy (record { result = ty.Void; params = [] })))).params → Contains (asked_call o args) (r, t) → Fine e r t
  call-asked e None args r t h m = absurd (nothing-in (r, t) m)
  call-asked e (Some g) args r t h m = each-asked e args (out-FnTy g.ty).params r t h m

  asked-fine : (e : Types) (i : Instr) (r : ℕ) (t : Ty) → Asks p f slots e i → Contains (asked p f list i) (r, t) → Fine e r t
  asked-fine e (Store q a u) r t h m = one-asked e a u r t h m
  asked-fine e (Cast d a from to) r t h m = one-asked e a from r t h m
  asked-fine e (SetLocal s a) r t h m = slot-asked e (slice_get list s) a r t h m
  asked-fine e (Return a) r t h m = result-asked e f.ty a r t h m
  asked-fine e (Call g args s) r t h m = call-asked e (slice_get p.functions g) args r t h.0 m
  asked-fine e (CallInd c args g s) r t h m =
      each-asked e (c ∷ args) (function_pointer g ∷ (out-FnTy g).params) r t (h.0, h.1) m
  asked-fine e (Free q) r t h m = one-asked e q void_pointer r t h m
  asked-fine e (StartArg x a) r t h m = one-asked e a void_pointer r t h m
  asked-fine e (StartFn x g) r t h m = one-asked e g (function_pointer start_type) r t h m
  asked-fine e (Const d v) r t h m = absurd (nothing-in (r, t) m)
  asked-fine e (AddrG d g) r t h m = absurd (nothing-in (r, t) m)
  asked-fine e (AddrL d v) r t h m = absurd (nothing-in (r, t) m)
  asked-fine e (AddrF d g) r t h m = absurd (nothing-in (r, t) m)
  asked-fine e (GetLocal d s) r t h m = absurd (nothing-in (r, t) m)
  asked-fine e (Binary d o a b) r t h m = absurd (nothing-in (r, t) m)
  asked-fine e (Unary d o a) r t h m = absurd (nothing-in (r, t) m)
  asked-fine e (PtrAdd d q i n) r t h m = absurd (nothing-in (r, t) m)
  asked-fine e (PtrConst d q n) r t h m = absurd (nothing-in (r, t) m)
  asked-fine e (Touch q u) r t h m = absurd (nothing-in (r, t) m)
  asked-fine e (Load d q u) r t h m = absurd (nothing-in (r, t) m)
  asked-fine e (Jump l) r t h m = absurd (nothing-in (r, t) m)
  asked-fine e (Branch a l) r t h m = absurd (nothing-in (r, t) m)
  asked-fine e Enter r t h m = absurd (nothing-in (r, t) m)
  asked-fine e Leave r t h m = absurd (nothing-in (r, t) m)
  asked-fine e (Malloc d a) r t h m = absurd (nothing-in (r, t) m)
  asked-fine e (Fork d) r t h m = absurd (nothing-in (r, t) m)
  asked-fine e (Lock q) r t h m = absurd (nothing-in (r, t) m)
  asked-fine e (Unlock q) r t h m = absurd (nothing-in (r, t) m)
  asked-fine e (Join x) r t h m = absurd (nothing-in (r, t) m)
  asked-fine e (Print a) r t h m = absurd (nothing-in (r, t) m)
  asked-fine e (Input d a) r t h m = absurd (nothing-in (r, t) m)

  -- ---- types along code

  abbrev env : List Instr → Types → ℕ → Types
  env is e n = run p f slots e (take n is)

  asks-at : (is : List Instr) (e : Types) (n : ℕ) (i : Instr) → Typed p f slots e is → slice_get is n ≡ Some i → Asks p f slots (env is e n) i
  asks-at [] e n i h at = absurd (cc)
  asks-at (x ∷ is) e zero i h at = subst (Asks p f slots e) (same_Some x i at) h.0
  asks-at (x ∷ is) e (suc n) i h at = asks-at is (after p f slots e x) n i h.1 at

  -- none of the first so many defines the register
  abbrev NoneOf : List Instr → ℕ → ℕ → Type 0
  NoneOf is n r = (k : ℕ) (i : Instr) → k < n → slice_get is k ≡ Some i → defined i ≢ Some r

  unchanged : (is : List Instr) (e : Types) (n r : ℕ) → NoneOf is n r → env is e n r ≡ e r
  unchanged is e zero r h = refl
  unchanged [] e (suc n) r h = refl
  unchanged (x ∷ is) e (suc n) r h =
      unchanged is (after p f slots e x) n r (λ k i lt at. h (suc k) i (omega (arith, lt)) at) ∙ behind-not (defined x) r (type_given p f slots e x) e (h 0 x (omega arith) refl)

  -- what the nearest one that defines it gives
  served-type : (is : List Instr) (e : Types) (s u r : ℕ) (i : Instr) → slice_get is s ≡ Some i → defined i ≡ Some r → s < u
      → ((k : ℕ) (j : Instr) → s < k → k < u → slice_get is k ≡ Some j → defined j ≢ Some r) → env is e u r ≡ type_given p f slots (env is e s) i
  served-type [] e s u r i at is_r lt none = absurd (cc)
  served-type (x ∷ is) e s zero r i at is_r lt none = absurd (omega (arith, lt))
  served-type (x ∷ is) e zero (suc u) r i at is_r lt none =
      let same : x ≡ i = same_Some x i at in
      unchanged is (after p f slots e x) u r (λ k j below there. none (suc k) j (omega arith) (omega (arith, below)) there)
      ∙ behind-same (defined x) r (type_given p f slots e x) e (ap defined same ∙ is_r) ∙ ap (type_given p f slots e) same
  served-type (x ∷ is) e (suc s) (suc u) r i at is_r lt none =
      served-type is (after p f slots e x) s u r i at is_r (omega (arith, lt)) (λ k j above below there. none (suc k) j (omega (arith, above)) (omega (arith, below)) there)

  -- ---- bodies

  module _ (frame : Bool) (places : length list ≡ f.slots) (well : IsWellFormed f.registers f.slots frame (map outline_of f.body)) (range : All (IsInRange p f) f.body) (start : Types) (typed : Typed p f slots start f.body) where
    abbrev code : List Outline
    code = map outline_of f.body

    stands : (n : ℕ) (i : Instr) → IsAt f n i → Stands code 0 n (outline_of i)
    stands n i at = record { from = omega arith; there = ap (slice_get code) (let z : n - 0 ≡ n = omega arith in z) ∙ mapped-at outline_of f.body n i at }

    found : (n : ℕ) (o : Outline) → Stands code 0 n o → (i : Instr) × IsAt f n i × (outline_of i ≡ o)
    found n o h = mapped-back outline_of f.body n o (ap (slice_get code) (let z : n ≡ n - 0 = omega arith in z) ∙ h.there)

    in-range : (n : ℕ) (i : Instr) → IsAt f n i → IsInRange p f i
    in-range n i at = All-contains (IsInRange p f) f.body i range (contains-at f.body n i at)

    -- the slot of an instruction has a type
    slot-held : (n s : ℕ) (i : Instr) → IsAt f n i → slot i ≡ Some s → slice_get list s ≡ Some (slots s)
    slot-held n s i at is =
        let lt : s < f.slots = subst (λ o. IfSome o (λ z. z < f.slots)) is (well.numbers n (outline_of i) (stands n i at)).slot in
        let h = held-at list s (omega (arith, lt, places)) in
        h.1 ∙ ap (λ z. Some z) (sym (ap (λ o. unwrap_or o ty.Int) h.1))

    -- a server, and the type that is served
    served : (s u r : ℕ) (i : Instr) → IsAt f s i → ServesIn f s u r → env f.body start u r ≡ type_given p f slots (env f.body start s) i
    served s u r i at h =
        let by = found s h.by h.there in
        let same : by.0 ≡ i = same_Some by.0 i (sym by.1 ∙ at) in
        served-type f.body start s u r i at (ap defined (sym same) ∙ ap (λ (o : Outline). o.defined) by.2 ∙ h.defines) h.before
        (λ k j above below there. h.nearest k (outline_of j) (stands k j there) above below)

    -- what an instruction gives is what it is said to give
    abbrev Says : ℕ → Type 0
    Says n = (d : ℕ) (i : Instr) → IsAt f n i → defined i ≡ Some d → TypeAt p f list n (type_given p f slots (env f.body start n) i)

    at-server : (n q s : ℕ) (o : Outline) → Stands code 0 n o → IsAmong o.used q → ((s : ℕ) → s < n → Says s) → (s : ℕ) × ServesIn f s n q × TypeAt p f list s (env f.body start n q)
    at-server n q s o at among below =
        let h = (well.ordered.each n o at).served q among in
        let by = found h.server h.serves.by h.serves.there in
        let gives = ap (λ (o : Outline). o.defined) by.2 ∙ h.serves.defines in
        (h.server, h.serves, subst (TypeAt p f list h.server) (sym (served h.server n q by.0 by.1 h.serves)) (below h.server h.serves.before q by.0 by.1 gives))

    says-by : (n : ℕ) → ((s : ℕ) → s < n → Says s) → Says n
    says-by n below d (Const x v) at is = core.number n x v at
    says-by n below d (AddrG x g) at is =
        let v = held-at p.globals g (in-range n (AddrG x g) at).rest in
        subst (TypeAt p f list n) (ap (λ o. ty.Pointer (unwrap_or (option_map (λ (z : GlobalVar). z.ty) o) ty.Void)) (sym v.1)) (core.global n x g v.0 at v.1)
    says-by n below d (AddrL x l) at is =
        let v = held-at f.locals l (in-range n (AddrL x l) at).rest in
        subst (TypeAt p f list n) (ap (λ o. ty.Pointer (unwrap_or (option_map (λ (z : Local). z.ty) o) ty.Void)) (sym v.1)) (core.local n x l v.0 at v.1)
    says-by n below d (AddrF x g) at is =
        let h = held-at p.functions g (in-range n (AddrF x g) at).rest in
        subst (TypeAt p f list n) (ap function_pointer (sym (callee-is p g h.0 h.1))) (core.function n x g h.0 at h.1)
    says-by n below d (GetLocal x s) at is = core.slot n x s (slots s) at (slot-held n s (GetLocal x s) at refl)
    says-by n below d (Binary x o a b) at is = core.binary n x a b o at
    says-by n below d (Unary x o a) at is = core.unary n x a o at
    says-by n below d (PtrAdd x q i k) at is =
        let h = at-server n q 0 (outline_of (PtrAdd x q i k)) (stands n (PtrAdd x q i k) at) (inl refl) below in
        core.indexed n x q i k h.0 (env f.body start n q) at h.1 h.2
    says-by n below d (PtrConst x q k) at is =
        let h = at-server n q 0 (outline_of (PtrConst x q k)) (stands n (PtrConst x q k) at) (inl refl) below in
        core.shifted n x q k h.0 (env f.body start n q) at h.1 h.2
    says-by n below d (Cast x a from to) at is = core.cast n x a from to at
    says-by n below d (Load x q t) at is = core.load n x q t at
    says-by n below d (Malloc x a) at is = core.allocation n x a at
    says-by n below d (Fork x) at is = core.thread n x at
    says-by n below d (Input x a) at is = core.input n x a at
    says-by n below d (SetLocal s a) at is = absurd (cc)
    says-by n below d (Touch q t) at is = absurd (cc)
    says-by n below d (Store q a t) at is = absurd (cc)
    says-by n below d (Jump l) at is = absurd (cc)
    says-by n below d (Branch a l) at is = absurd (cc)
    says-by n below d (Call g args s) at is = absurd (cc)
    says-by n below d (CallInd c args t s) at is = absurd (cc)
    says-by n below d (Return a) at is = absurd (cc)
    says-by n below d Enter at is = absurd (cc)
    says-by n below d Leave at is = absurd (cc)
    says-by n below d (Free q) at is = absurd (cc)
    says-by n below d (StartArg x a) at is = absurd (cc)
    says-by n below d (StartFn x g) at is = absurd (cc)
    says-by n below d (Lock q) at is = absurd (cc)
    says-by n below d (Unlock q) at is = absurd (cc)
    says-by n below d (Join x) at is = absurd (cc)
    says-by n below d (Print a) at is = absurd (cc)

    says-below : (m s : ℕ) → s < m → Says s
    says-below zero s lt = absurd (omega (arith, lt))
    says-below (suc m) s lt = says-by s (λ k below. says-below m k (omega (arith, lt, below)))

    uses : (s u r : ℕ) (i : Instr) (t : Ty) → IsAt f u i → Contains (asked p f list i) (r, t) → ServesIn f s u r → HasType p f list s t
    uses s u r i t at asks serves =
        let by = found s serves.by serves.there in
        let given = type_given p f slots (env f.body start s) by.0 in
        let fine = asked-fine (env f.body start u) i r t (asks-at f.body start u i typed at) asks in
        record {
          found = given;
          at = says-below (suc s) s (omega arith) r by.0 by.1 (ap (λ (o : Outline). o.defined) by.2 ∙ serves.defines);
          fits = sym (ap plain_type (served s u r by.0 by.1 serves)) ∙ fine;
        }

    receives : (s : ℕ) (o : Option Function) (t : Ty) (q : ℕ) → slots s ≡ (out-FnTy (unwrap_or (option_map (λ (h : Function). h.ty) o) (roll-FnTy (record { result = ty.Void; params = [] })))).result
        → option_map {U = ℕ × Ty} (λ (h : Function). (s, (out-FnTy h.ty).result)) o ≡ Some (q, t) → (q ≡ s) × (slots s ≡ t)
    receives s None t q h e = absurd (cc)
    receives s (Some g) t q h e =
        let both = same_Some {A = ℕ × Ty} (s, (out-FnTy g.ty).result) (q, t) e in
        (sym (ap (λ (z : ℕ × Ty). z.0) both), h ∙ ap (λ (z : ℕ × Ty). z.1) both)

    results : (u s : ℕ) (i : Instr) (t : Ty) → IsAt f u i → received p i ≡ Some (s, t) → slice_get list s ≡ Some t
    results u s (Call g args (Some q)) t at e =
        let h = receives q (slice_get p.functions g) t s (asks-at f.body start u (Call g args (Some q)) typed at).1 e in
        ap (slice_get list) h.0 ∙ slot-held u q (Call g args (Some q)) at refl ∙ ap (λ z. Some z) h.1
    results u s (CallInd c args g (Some q)) t at e =
        let both = same_Some {A = ℕ × Ty} (q, (out-FnTy g).result) (s, t) e in
        let has : slots q ≡ (out-FnTy g).result = (asks-at f.body start u (CallInd c args g (Some q)) typed at).2 in
        ap (slice_get list) (sym (ap (λ (z : ℕ × Ty). z.0) both)) ∙ slot-held u q (CallInd c args g (Some q)) at refl ∙ ap (λ z. Some z) (has ∙ ap (λ (z : ℕ × Ty). z.1) both)
    results u s (Call g args None) t at e = absurd (cc)
    results u s (CallInd c args g None) t at e = absurd (cc)
    results u s (Const d v) t at e = absurd (cc)
    results u s (AddrG d g) t at e = absurd (cc)
    results u s (AddrL d v) t at e = absurd (cc)
    results u s (AddrF d g) t at e = absurd (cc)
    results u s (GetLocal d q) t at e = absurd (cc)
    results u s (SetLocal q a) t at e = absurd (cc)
    results u s (Binary d o a b) t at e = absurd (cc)
    results u s (Unary d o a) t at e = absurd (cc)
    results u s (PtrAdd d q i n) t at e = absurd (cc)
    results u s (PtrConst d q n) t at e = absurd (cc)
    results u s (Cast d a from to) t at e = absurd (cc)
    results u s (Touch q v) t at e = absurd (cc)
    results u s (Load d q v) t at e = absurd (cc)
    results u s (Store q a v) t at e = absurd (cc)
    results u s (Jump l) t at e = absurd (cc)
    results u s (Branch a l) t at e = absurd (cc)
    results u s (Return a) t at e = absurd (cc)
    results u s Enter t at e = absurd (cc)
    results u s Leave t at e = absurd (cc)
    results u s (Malloc d a) t at e = absurd (cc)
    results u s (Free q) t at e = absurd (cc)
    results u s (Fork d) t at e = absurd (cc)
    results u s (StartArg x a) t at e = absurd (cc)
    results u s (StartFn x g) t at e = absurd (cc)
    results u s (Lock q) t at e = absurd (cc)
    results u s (Unlock q) t at e = absurd (cc)
    results u s (Join x) t at e = absurd (cc)
    results u s (Print a) t at e = absurd (cc)
    results u s (Input d a) t at e = absurd (cc)

    pub body-typed : take (length (out-FnTy f.ty).params) list ≡ (out-FnTy f.ty).params → IsTypedBody p f
    body-typed first = record { slots = list; slot_count = places; parameters_first = first; uses = uses; results = results }

    pub entry-free : EntryFree p f
    entry-free n d at = asks-at f.body start n (AddrF d p.entry) typed at refl
