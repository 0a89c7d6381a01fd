-- What stands before an instruction that valid code lets be reached from the one before it alone.
use Rattle.std.proofs.Common.{◌≡◌, inl, inr, ℕ, suc, ◌+◌, Bool, true, false, slice_get, Some, None, IsTrue, refl, sym, ap, ◌∙◌, subst, arith}
use Rattle.core_ir.specs.declared.role.Role.{Role}
use Rattle.core_ir.specs.declared.role.Role.TheVariants as role
use Rattle.core_ir.specs.Flow.{HasRole, IsUnreached}
use Rattle.core_ir.specs.Order.{Behind, InStart, IsOrderedAt}
use Rattle.core_ir.specs.Outline.{Outline}
use Rattle.meaning.specs.declared.value.Value.{Value}
use Rattle.sensitivity.specs.declared.class.Class.{Class}
use Rattle.sensitivity.specs.declared.class.Class.TheVariants as class
use Rattle.machine.specs.declared.code.Code.{Code}
use Rattle.machine.specs.declared.code.CodeFunction.{CodeFunction}
use Rattle.machine.specs.declared.code.CodePlace.{CodePlace}
use Rattle.machine.specs.declared.code.CodePlace.TheVariants.{Touch, Load, Store, Fork, StartArg, StartFn}
use Rattle.machine.specs.declared.code.ScalarKind.{ScalarKind}
use Rattle.machine.specs.Frames.{Goes, Write}
use Rattle.machine.specs.Numbers.{is_kept}
use Rattle.machine.specs.Outlines.{defined, outline_of_code, role_of}
use Rattle.machine.specs.Stands.{IsUnit}
use Rattle.machine.specs.ValidCode.{IsSensitiveTouch, IsValidCodeFunction, SaysWhere, access_kind}
use Rattle.thread_laws.proofs.Bodies.{order}
use Rattle.thread_laws.proofs.Successors.{IsCall, LeadsTo, Waits, fork_of, found, jumps_at, one_instruction, outlines, role_there, stands_at, start_of, touch_of}

-- the instruction directly before
pub record IsNext (x to : ℕ) (i was : CodePlace) : Type 0 where
  pub next : to ≡ suc x
  pub is : i ≡ was

-- those that stand directly behind another: accesses, and the parts of a start
abbrev pub IsGuarded : CodePlace → Type 0
IsGuarded (Load d p kind unit) = Unit {0}
IsGuarded (Store p a kind unit) = Unit {0}
IsGuarded (StartArg t a) = Unit {0}
IsGuarded (StartFn t f) = Unit {0}
IsGuarded _ = ⊥

no_touch : (j : CodePlace) (p : ℕ) → IsCall j → role_of j ≡ role.Touch p → ⊥
no_touch j p call is = let touch = touch_of j p is in subst IsCall touch.is call

no_fork : (j : CodePlace) → IsCall j → role_of j ≡ role.Fork → ⊥
no_fork j call is = let fork = fork_of j is in subst IsCall fork.is call

no_start : (j : CodePlace) (t : ℕ) → IsCall j → role_of j ≡ role.StartArg t → ⊥
no_start j t call is = let start = start_of j t is in subst IsCall start.is call

module _ (code : Code) (c : CodeFunction) (valid : IsValidCodeFunction code c) where
  pub rules_at : (u : ℕ) (i : CodePlace) → slice_get c.body u ≡ Some i → IsOrderedAt (outlines c.body) u (outline_of_code i)
  rules_at u i here = valid.well_formed.ordered.each u (outline_of_code i) (stands_at c.body u i here)

  -- an instruction to which no jump leads comes behind the one before it
  pub comes_from :
      (x to before : ℕ) (w : Write Value) (i next : CodePlace) (r : Role)
      → slice_get c.body x ≡ Some i
      → slice_get c.body to ≡ Some next
      → LeadsTo x i (Goes to w)
      → (Waits next → ⊥)
      → to ≡ suc before
      → HasRole (outlines c.body) 0 before r
      → IsUnreached (outlines c.body) 0 to
      → (before ≡ x) × (role_of i ≡ r)
  comes_from x to before w i next r at there leads moves is has unreached =
      elim leads [
        | inl step ↦
            let same : before ≡ x = omega (arith, is, step) in
            (same, role_there c.body x i r at (subst (λ (k : ℕ). HasRole (outlines c.body) 0 k r) same has))
        | inr other ↦ elim other [
          | inl jump ↦ absurd (unreached x (jumps_at c.body x to i at jump))
          | inr waits ↦
              let same : i ≡ next = one_instruction c.body x i next at (ap (slice_get c.body) (sym waits.0) ∙ there) in
              absurd (moves (subst Waits same waits.1))
        ]
      ]

  -- the unit at a register's address is that of the place behind, where the register isn't defined between
  unit_moves : (x p u : ℕ) (i : CodePlace) → slice_get c.body x ≡ Some i → defined i ≡ None
      → IsUnit (outlines c.body) c.locals x p u
      → IsUnit (outlines c.body) c.locals (suc x) p u
  unit_moves x p u i at none unit = record {
    server = unit.server;
    local = unit.local;
    offset = unit.offset;
    l = unit.l;
    serves = record {
      by = unit.serves.by;
      there = unit.serves.there;
      defines = unit.serves.defines;
      before = omega (arith, unit.serves.before);
      nearest = λ k o stands behind low.
          elim (order k x) [
            | inl less ↦ unit.serves.nearest k o stands behind less
            | inr rest ↦ elim rest [
              | inl more ↦ absurd (omega (arith, more, low))
              | inr same ↦ λ defines.
                  let f = found c.body k o stands in
                  let one : f.instruction ≡ i = one_instruction c.body x f.instruction i (ap (slice_get c.body) (sym same) ∙ f.there) at in
                  let other : None ≡ Some p = sym none ∙ ap defined (sym one) ∙ ap (λ (x : Outline). x.defined) f.is ∙ defines in
                  cc
            ]
          ];
    };
    address = unit.address;
    there = unit.there;
    safe = unit.safe;
    is = unit.is;
  }

  sensitive_plain : (x p : ℕ) (k : Class) (marked : Bool) (i : CodePlace)
      → i ≡ Touch p k marked
      → IsSensitiveTouch (Touch p k marked)
      → (marked ≡ true → ⊥)
      → i ≡ Touch p class.Sensitive false
  sensitive_plain x p class.Sensitive false i is sensitive plain = is
  sensitive_plain x p class.Sensitive true i is sensitive plain = absurd (plain refl)
  sensitive_plain x p class.Universal marked i is sensitive plain = absurd sensitive
  sensitive_plain x p class.Code marked i is sensitive plain = absurd sensitive
  sensitive_plain x p class.Regular marked i is sensitive plain = absurd sensitive

  -- an access of the safe store comes behind the touch of its address
  pub touched_by :
      (x to p : ℕ) (w : Write Value) (i access : CodePlace) (k : ScalarKind)
      → slice_get c.body x ≡ Some i
      → slice_get c.body to ≡ Some access
      → LeadsTo x i (Goes to w)
      → (Waits access → ⊥)
      → Behind (outlines c.body) to (role.Touch p)
      → access_kind access ≡ Some k
      → IsTrue (is_kept k)
      → ((u : ℕ) → IsUnit (outlines c.body) c.locals to p u → ⊥)
      → IsNext x to i (Touch p class.Sensitive false)
  touched_by x to p w i access k at there leads moves behind kind kept unmarked =
      let before = comes_from x to behind.before w i access (role.Touch p) at there leads moves behind.next behind.there behind.unreached in
      let next : to ≡ suc x = behind.next ∙ ap suc before.0 in
      let touch = touch_of i p before.1 in
      let here : slice_get c.body x ≡ Some (Touch p touch.class touch.marked) = at ∙ ap (λ (y : CodePlace). Some y) touch.is in
      let sensitive : IsSensitiveTouch (Touch p touch.class touch.marked) =
      valid.touched x (Touch p touch.class touch.marked) access k here (ap (slice_get c.body) (sym next) ∙ there) kind kept in
      let plain : touch.marked ≡ true → ⊥ = λ is.
      let says : SaysWhere c x (Touch p touch.class true) =
      valid.places x (Touch p touch.class true) (here ∙ ap (λ (b : Bool). Some (Touch p touch.class b)) is) in
      unmarked says.0 (subst (λ (n : ℕ). IsUnit (outlines c.body) c.locals n p says.0) (sym next)
      (unit_moves x p says.0 (Touch p touch.class touch.marked) here refl says.1)) in
      record { next = next; is = sensitive_plain x p touch.class touch.marked i touch.is sensitive plain }

  -- the argument of a start comes behind the thread's number
  pub forked_by :
      (x to n a : ℕ) (w : Write Value) (i : CodePlace)
      → slice_get c.body x ≡ Some i
      → slice_get c.body to ≡ Some (StartArg n a)
      → LeadsTo x i (Goes to w)
      → IsNext x to i (Fork n)
  forked_by x to n a w i at there leads =
      let run = (rules_at to (StartArg n a) there).fits in
      let is : to ≡ suc run.first = omega (arith, run.is) in
      let start : HasRole (outlines c.body) 0 (run.first + 1) (role.StartArg run.thread) = run.run.argument in
      let mine : role.StartArg n ≡ role.StartArg run.thread =
      role_there c.body to (StartArg n a) (role.StartArg run.thread) there (subst (λ (k : ℕ). HasRole (outlines c.body) 0 k (role.StartArg run.thread)) (sym run.is) start) in
      let thread : n ≡ run.thread = cc in
      let number : HasRole (outlines c.body) 0 run.first role.Fork =
      record { instruction = run.run.number.instruction; there = run.run.number.there; is = run.run.number.is } in
      let before = comes_from x to run.first w i (StartArg n a) role.Fork at there leads (λ waits. waits) is number
      (subst (λ (k : ℕ). IsUnreached (outlines c.body) 0 k) (sym run.is) run.run.argument_unreached) in
      let fork = fork_of i before.1 in
      let f = found c.body run.first run.run.number.instruction run.run.number.there in
      let one : f.instruction ≡ i = one_instruction c.body run.first f.instruction i f.there (ap (slice_get c.body) before.0 ∙ at) in
      let defines : defined i ≡ Some run.thread =
      ap defined (sym one) ∙ ap (λ (y : Outline). y.defined) f.is ∙ run.run.number.defines in
      let d-is : Some fork.d ≡ Some run.thread = ap defined (sym fork.is) ∙ defines in
      let d : fork.d ≡ n = cc in
      record { next = is ∙ ap suc before.0; is = fork.is ∙ ap (λ (r : ℕ). Fork r) d }

  -- so many places behind a start's first, the argument
  pub record IsBehindArgument (x to n : ℕ) (i : CodePlace) : Type 0 where
    pub a : ℕ
    pub next : IsNext x to i (StartArg n a)

  pub argument_by :
      (x to n g : ℕ) (w : Write Value) (i : CodePlace)
      → slice_get c.body x ≡ Some i
      → slice_get c.body to ≡ Some (StartFn n g)
      → LeadsTo x i (Goes to w)
      → IsBehindArgument x to n i
  argument_by x to n g w i at there leads =
      let run = (rules_at to (StartFn n g) there).fits.0 in
      let is : to ≡ suc (run.first + 1) = omega (arith, run.is) in
      let mine : role.StartFn n g ≡ role.StartFn run.thread run.function =
      role_there c.body to (StartFn n g) (role.StartFn run.thread run.function) there
      (subst (λ (k : ℕ). HasRole (outlines c.body) 0 k (role.StartFn run.thread run.function)) (sym run.is) run.run.function) in
      let thread : n ≡ run.thread = cc in
      let before = comes_from x to (run.first + 1) w i (StartFn n g) (role.StartArg run.thread) at there leads (λ waits. waits) is run.run.argument
      (subst (λ (k : ℕ). IsUnreached (outlines c.body) 0 k) (sym run.is) run.run.function_unreached) in
      let start = start_of i run.thread before.1 in
      record {
        a = start.a;
        next = record {
          next = is ∙ ap suc before.0;
          is = start.is ∙ ap (λ (r : ℕ). StartArg r start.a) (sym thread);
        };
      }

  -- ---- no guarded instruction stands at a function's first place, nor behind a call

  pub first_is_free : (next : CodePlace) → slice_get c.body 0 ≡ Some next → IsGuarded next → ⊥
  first_is_free (Load d p k unit) there guarded = let behind = (rules_at 0 (Load d p k unit) there).fits in absurd (omega (arith, behind.next))
  first_is_free (Store p a k unit) there guarded = let behind = (rules_at 0 (Store p a k unit) there).fits in absurd (omega (arith, behind.next))
  first_is_free (StartArg n a) there guarded = let start = (rules_at 0 (StartArg n a) there).fits in absurd (omega (arith, start.is))
  first_is_free (StartFn n h) there guarded = let start = (rules_at 0 (StartFn n h) there).fits.0 in absurd (omega (arith, start.is))
  first_is_free _ there guarded = guarded

  touch_behind : (b : ℕ) (j : CodePlace) (p : ℕ) → slice_get c.body b ≡ Some j → IsCall j → Behind (outlines c.body) (suc b) (role.Touch p) → ⊥
  touch_behind b j p at call behind =
      let same : behind.before ≡ b = omega (arith, behind.next) in
      no_touch j p call (role_there c.body b j (role.Touch p) at
      (subst (λ (k : ℕ). HasRole (outlines c.body) 0 k (role.Touch p)) same behind.there))

  argument_behind : (b : ℕ) (j : CodePlace) → slice_get c.body b ≡ Some j → IsCall j → InStart (outlines c.body) (suc b) 1 → ⊥
  argument_behind b j at call start =
      let same : start.first ≡ b = omega (arith, start.is) in
      let number : HasRole (outlines c.body) 0 start.first role.Fork =
      record { instruction = start.run.number.instruction; there = start.run.number.there; is = start.run.number.is } in
      no_fork j call (role_there c.body b j role.Fork at
      (subst (λ (k : ℕ). HasRole (outlines c.body) 0 k role.Fork) same number))

  function_behind : (b : ℕ) (j : CodePlace) → slice_get c.body b ≡ Some j → IsCall j → InStart (outlines c.body) (suc b) 2 → ⊥
  function_behind b j at call start =
      let same : start.first + 1 ≡ b = omega (arith, start.is) in
      no_start j start.thread call (role_there c.body b j (role.StartArg start.thread) at
      (subst (λ (k : ℕ). HasRole (outlines c.body) 0 k (role.StartArg start.thread)) same start.run.argument))

  pub call_is_free : (b : ℕ) (j next : CodePlace) → slice_get c.body b ≡ Some j → IsCall j → slice_get c.body (suc b) ≡ Some next → IsGuarded next → ⊥
  call_is_free b j (Load d p k unit) at call there guarded = touch_behind b j p at call (rules_at (suc b) (Load d p k unit) there).fits
  call_is_free b j (Store p a k unit) at call there guarded = touch_behind b j p at call (rules_at (suc b) (Store p a k unit) there).fits
  call_is_free b j (StartArg n a) at call there guarded = argument_behind b j at call (rules_at (suc b) (StartArg n a) there).fits
  call_is_free b j (StartFn n h) at call there guarded = function_behind b j at call (rules_at (suc b) (StartFn n h) there).fits.0
  call_is_free b j _ at call there guarded = guarded
