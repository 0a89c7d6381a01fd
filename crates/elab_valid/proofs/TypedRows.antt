-- The rows of expressions give registers types where their operands do.
use Rattle.std.proofs.Common.{◌≡◌, ◌∙◌, ℕ, ◌+◌, ◌*◌, Bool, true, false, List, [], ◌∷◌, ◌++◌, length, Some, None, refl, ap, sym, arith}
use Rattle.std.specs.Prelude.{if◌then◌else◌}
use Rattle.c_types.specs.declared.ty.Ty.{Ty}
use Rattle.c_types.specs.declared.ty.Ty.TheVariants as ty
use Rattle.c_types.specs.Same.{same}
use Rattle.c_types.specs.Theorems.{SameIsEquality}
use Rattle.core_ir.specs.declared.instr.Instr.{Instr}
use Rattle.core_ir.specs.declared.instr.Instr.TheVariants.{Cast, Load, PtrConst, SetLocal, Store, Touch}
use Rattle.core_ir.specs.declared.program.Function.{Function}
use Rattle.core_ir.specs.declared.program.Program.{Program}
use Rattle.core_ir.specs.Instructions.{defined}
use Rattle.core_ir.specs.Typed.{element_of, plain_type}
use Rattle.elab_rows.specs.Addresses.{Lvalue, assigned, copied_part, copied_parts, loaded, pointing, slot_assigned, struct_assigned, updated}
use Rattle.elab_rows.specs.Made.{Code, Made, behind, combined_made, converted, extended, extended_made, followed_made, single}
use Rattle.elab_valid.proofs.HeldTypes as held
use Rattle.elab_valid.proofs.HeldTypes.{Holds}
use Rattle.elab_valid.proofs.RegisterTypes.{Asks, Fine, Live, Types, after, behind-one, behind-same, type_given}

module _ (p : Program) (f : Function) (base : Types → Type 0) where
  -- the value has the type, and these registers have theirs
  abbrev pub GivesType : Made → ℕ → ℕ → Ty → List (ℕ × Ty) → Type 0
  GivesType x register slot t more = Holds p f base [] x register slot ((x.result, t) ∷ more)

  -- code of a value of this type, from everywhere; and code of none
  abbrev pub HasValue : Code → Ty → Type 0
  HasValue c t = (place register slot : ℕ) → GivesType (c place register slot) register slot t []

  abbrev pub IsTypedDone : Code → Type 0
  IsTypedDone c = (place register slot : ℕ) → Holds p f base [] (c place register slot) register slot []

  pub done : (c : Code) (t : Ty) → HasValue c t → IsTypedDone c
  done c t h place register slot =
      let x = c place register slot in
      held.less p f base [] x register slot ((x.result, t) ∷ []) [] (λ n b. tt) (λ e l. tt) (h place register slot)

  -- another type that is the same, up to `char` and outer arrays
  pub retyped : (x : Made) (register slot : ℕ) (t u : Ty) (more : List (ℕ × Ty)) → plain_type t ≡ plain_type u → GivesType x register slot t more → GivesType x register slot u more
  retyped x register slot t u more same h =
      held.less p f base [] x register slot ((x.result, t) ∷ more) ((x.result, u) ∷ more) (λ n b. b) (λ e l. (l.0 ∙ same, l.1)) h

  -- ---- one instruction more

  pub single-typed : (i : ℕ → Instr) (t : Ty) → ((d : ℕ) → defined (i d) ≡ Some d)
      → ((slots : Types) → base slots → (e : Types) (d : ℕ) → Asks p f slots e (i d) × (plain_type (type_given p f slots e (i d)) ≡ plain_type t))
      → HasValue (single i) t
  single-typed i t is asks place register slot = held.gives-one p f base [] register slot register (i register) t (is register) (λ slots b e g. asks slots b e register)

  pub extended-typed : (i : ℕ → ℕ → Instr) (t u : Ty) → ((d a : ℕ) → defined (i d a) ≡ Some d)
      → ((slots : Types) → base slots → (e : Types) (d a : ℕ) → Fine e a t → Asks p f slots e (i d a) × (plain_type (type_given p f slots e (i d a)) ≡ plain_type u))
      → (x : Made) (register slot : ℕ) (more : List (ℕ × Ty)) → GivesType x register slot t more → GivesType (extended_made i x) register slot u more
  extended-typed i t u is asks x register slot more h =
      let y = extended_made i x in
      held.less p f base [] y register slot ((x.register, u) ∷ (x.result, t) ∷ more) ((x.register, u) ∷ more) (λ n b. (b.0, b.1.1)) (λ e l. (l.0, l.1.1))
      (held.gives p f base [] x register slot x.register ((x.result, t) ∷ more) (i x.register x.result) u h (is x.register x.result)
      (λ slots b e l. asks slots b e x.register x.result l.0))

  pub combined-typed : (i : ℕ → ℕ → ℕ → Instr) (t u v : Ty) → ((d a b : ℕ) → defined (i d a b) ≡ Some d)
      → ((slots : Types) → base slots → (e : Types) (d a b : ℕ) → Fine e a t → Fine e b u → Asks p f slots e (i d a b) × (plain_type (type_given p f slots e (i d a b)) ≡ plain_type v))
      → (x : Made) (place register slot : ℕ) (more : List (ℕ × Ty)) (c : Code) → GivesType x register slot t more → HasValue c u → GivesType (combined_made i x (behind place x c)) register slot v more
  combined-typed i t u v is asks x place register slot more c h hc =
      let y = behind place x c in
      let xy : Made = record { code = x.code ++ y.code; result = y.result; register = y.register; slot = y.slot } in
      let two = held.both p f base [] x y register slot y.result ((x.result, t) ∷ more) ((y.result, u) ∷ []) h (hc (place + length x.code) x.register x.slot) in
      held.less p f base [] (combined_made i x y) register slot ((y.register, v) ∷ (y.result, u) ∷ (x.result, t) ∷ more) ((y.register, v) ∷ more) (λ n b. (b.0, b.1.1.1)) (λ e l. (l.0, l.1.1.1))
      (held.gives p f base [] xy register slot y.register ((y.result, u) ∷ (x.result, t) ∷ more) (i y.register x.result y.result) v two (is y.register x.result y.result)
      (λ slots b e l. asks slots b e y.register x.result y.result l.1.0 l.0))

  pub followed-typed : (i : ℕ → Instr) (t : Ty) → ((a : ℕ) → defined (i a) ≡ None)
      → ((slots : Types) → base slots → (e : Types) (a : ℕ) → Fine e a t → Asks p f slots e (i a))
      → (x : Made) (register slot : ℕ) (more : List (ℕ × Ty)) → GivesType x register slot t more → GivesType (followed_made i x) register slot t more
  followed-typed i t is asks x register slot more h =
      held.uses p f base [] x register slot x.result ((x.result, t) ∷ more) (i x.result) h (is x.result) (λ slots b e l. asks slots b e x.result l.0)

  -- ---- conversions

  if-typed : (b : Bool) (c d : Code) (place register slot : ℕ) (t : Ty) (more : List (ℕ × Ty))
      → (b ≡ true → GivesType (c place register slot) register slot t more) → (b ≡ false → GivesType (d place register slot) register slot t more)
      → GivesType ((if b then c else d) place register slot) register slot t more
  if-typed true c d place register slot t more hc hd = hc refl
  if-typed false c d place register slot t more hc hd = hd refl

  cast-typed : (from to : Ty) (a : Code) (place register slot : ℕ) (more : List (ℕ × Ty)) → GivesType (a place register slot) register slot from more
      → GivesType (extended (λ d x. Cast d x from to) a place register slot) register slot to more
  cast-typed from to a place register slot more h =
      extended-typed (λ d x. Cast d x from to) from to (λ d x. refl) (λ slots b e d x is. (is, refl)) (a place register slot) register slot more h

  module _ (equal : SameIsEquality) where
    pub converted-typed : (from to : Ty) (a : Code) (place register slot : ℕ) (more : List (ℕ × Ty)) → GivesType (a place register slot) register slot from more
        → GivesType (converted from to a place register slot) register slot to more
    converted-typed from to a place register slot more h =
        if-typed (same from to) a (extended (λ d x. Cast d x from to) a) place register slot to more
        (λ is. retyped (a place register slot) register slot from to more (ap plain_type ((equal from to).0 is)) h)
        (λ no. cast-typed from to a place register slot more h)

    pub pointing-typed : ((t u : Ty) → element_of t ≡ element_of u → plain_type (ty.Pointer t) ≡ plain_type (ty.Pointer u))
        → (root target : Ty) (a : Code) (place register slot : ℕ) (more : List (ℕ × Ty)) → GivesType (a place register slot) register slot (ty.Pointer root) more
        → GivesType (pointing root target a place register slot) register slot (ty.Pointer target) more
    pointing-typed plain root target a place register slot more h =
        if-typed (same (element_of root) (element_of target)) a (extended (λ d q. Cast d q (ty.Pointer root) (ty.Pointer target)) a) place register slot (ty.Pointer target) more
        (λ is. retyped (a place register slot) register slot (ty.Pointer root) (ty.Pointer target) more (plain root target ((equal (element_of root) (element_of target)).0 is)) h)
        (λ no. cast-typed (ty.Pointer root) (ty.Pointer target) a place register slot more h)

  -- ---- lvalues

  pub loaded-typed : (x : Lvalue) (t : Ty) (place register slot : ℕ) (more : List (ℕ × Ty)) → GivesType (x.address place register slot) register slot t more
      → GivesType (loaded x place register slot) register slot x.ty more
  loaded-typed x t place register slot more h =
      let a = x.address place register slot in
      extended-typed (λ d q. Load d q x.ty) t x.ty (λ d q. refl) (λ slots b e d q is. (tt, refl)) (followed_made (λ q. Touch q x.root) a) register slot more
      (followed-typed (λ q. Touch q x.root) t (λ q. refl) (λ slots b e q is. tt) a register slot more h)

  pub set-typed : (s : ℕ) (v : Code) (t : Ty) → ((slots : Types) → base slots → plain_type (slots s) ≡ plain_type t)
      → (place register slot : ℕ) (more : List (ℕ × Ty)) → GivesType (v place register slot) register slot t more → GivesType (slot_assigned s v place register slot) register slot t more
  set-typed s v t has place register slot more h =
      followed-typed (λ x. SetLocal s x) t (λ x. refl) (λ slots b e x is. is ∙ sym (has slots b)) (v place register slot) register slot more h

  -- Touch; Store of a register that has the type
  stores : (given : List (ℕ × Ty)) (n s r q a : ℕ) (root t : Ty) → ((e : Types) → Live e given → Fine e a t) → Holds p f base given (record { code = Touch q root ∷ Store q a t ∷ []; result = r; register = n; slot = s }) n s []
  stores given n s r q a root t fine = record {
    temps = [];
    slot_is = omega arith;
    grows = omega arith;
    below = tt;
    typed = λ slots b at e g. (tt, (fine e g, tt));
    has = λ slots b at e g. tt;
    keeps = λ slots e w lt. refl;
  }

  pub assigned-typed : (x : Lvalue) (v : Code) → IsTypedDone x.address → (place register slot : ℕ) (more : List (ℕ × Ty)) → GivesType (v place register slot) register slot x.ty more
      → GivesType (assigned x v place register slot) register slot x.ty more
  assigned-typed x v address place register slot more h =
      let y = v place register slot in
      let z = behind place y x.address in
      let live = (y.result, x.ty) ∷ more in
      let yz : Made = record { code = y.code ++ z.code; result = z.result; register = z.register; slot = z.slot } in
      held.append p f base base [] live [] yz (record { code = Touch z.result x.root ∷ Store z.result y.result x.ty ∷ []; result = y.result; register = z.register; slot = z.slot }) register slot y.result
      (held.both p f base [] y z register slot z.result live [] h (address (place + length y.code) y.register y.slot))
      (stores live z.register z.slot y.result z.result y.result x.root x.ty (λ e l. l.0)) (λ slots b at. b)

  pub updated-typed : (x : Lvalue) (new : Code → Code) (place register slot : ℕ) (more : List (ℕ × Ty)) → GivesType (new (loaded x) place register slot) register slot x.ty more
      → GivesType (updated x new place register slot) register slot x.ty more
  updated-typed x new place register slot more h =
      let a = (x.address place register slot).result in
      let y = new (loaded x) place register slot in
      held.append p f base base [] ((y.result, x.ty) ∷ more) [] y (record { code = Touch a x.root ∷ Store a y.result x.ty ∷ []; result = y.result; register = y.register; slot = y.slot }) register slot y.result
      h (stores ((y.result, x.ty) ∷ more) y.register y.slot y.result a y.result x.root x.ty (λ e l. l.0)) (λ slots b at. b)

  -- ---- structs

  -- a scalar part is read and written
  part-copied : (from to : Ty) (q a d s k r : ℕ) (t : Ty) → Holds p f base [] (record { code = copied_part from to q a d k t; result = r; register = d + 3; slot = s }) d s []
  part-copied from to q a d s k r t = record {
    temps = [];
    slot_is = omega arith;
    grows = omega arith;
    below = tt;
    typed = λ slots b at e g.
        let e1 = after p f slots e (PtrConst d q k) in
        let e2 = after p f slots e1 (Load (d + 1) d t) in
        let loaded_is : e2 (d + 1) ≡ t = behind-same (Some (d + 1)) (d + 1) t e1 refl in
        let stays : after p f slots e2 (PtrConst (d + 2) a k) (d + 1) ≡ e2 (d + 1) = behind-one (Some (d + 2)) (d + 2) (d + 1) (e2 a) e2 refl (omega arith) in
        (tt, (tt, (tt, (tt, (tt, (ap plain_type (stays ∙ loaded_is), tt))))));
    has = λ slots b at e g. tt;
    keeps = λ slots e w lt.
        let e1 = after p f slots e (PtrConst d q k) in
        let e2 = after p f slots e1 (Load (d + 1) d t) in
        behind-one (Some (d + 2)) (d + 2) w (e2 a) e2 refl (omega (arith, lt)) ∙ behind-one (Some (d + 1)) (d + 1) w t e1 refl (omega (arith, lt)) ∙ behind-one (Some d) d w (e q) e refl lt;
  }

  parts-copied : (from to : Ty) (q a d s k r m : ℕ) (ts : List Ty) → m ≡ d + 3 * length ts → Holds p f base [] (record { code = copied_parts from to q a d k ts; result = r; register = m; slot = s }) d s []
  parts-copied from to q a d s k r m [] e = record {
    temps = [];
    slot_is = omega arith;
    grows = omega (arith, e);
    below = tt;
    typed = λ slots b at g l. tt;
    has = λ slots b at g l. tt;
    keeps = λ slots g w lt. refl;
  }
  parts-copied from to q a d s k r m (t ∷ ts) e =
      held.both p f base [] (record { code = copied_part from to q a d k t; result = r; register = d + 3; slot = s })
      (record { code = copied_parts from to q a (d + 3) (k + 1) ts; result = r; register = m; slot = s }) d s r [] []
      (part-copied from to q a d s k r t) (parts-copied from to q a (d + 3) s (k + 1) r m ts (omega (arith, e)))

  pub struct-typed : (parts : List Ty) (to from : Lvalue) → IsTypedDone to.address → IsTypedDone from.address → IsTypedDone (struct_assigned parts to from)
  struct-typed parts to from ht hf place register slot =
      let x = from.address place register slot in
      let y = behind place x to.address in
      let xy : Made = record { code = x.code ++ y.code; result = y.result; register = y.register; slot = y.slot } in
      held.both p f base [] xy (record { code = copied_parts from.root to.root x.result y.result y.register 0 parts; result = x.result; register = y.register + 3 * length parts; slot = y.slot }) register slot x.result [] []
      (held.both p f base [] x y register slot y.result [] [] (hf place register slot) (ht (place + length x.code) x.register x.slot))
      (parts-copied from.root to.root x.result y.result y.register y.slot 0 x.result (y.register + 3 * length parts) parts refl)
