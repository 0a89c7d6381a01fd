-- Where an instruction leads in its frame, and what stands in a body by its outlines.
use Rattle.std.proofs.Common.{◌≡◌, ◌≢◌, ◌⊎◌, inl, inr, ℕ, ℤ, zero, suc, ◌+◌, ◌-◌, ◌≤◌, ◌<◌, Bool, true, false, if◌then◌else◌, List, [], ◌∷◌, length, map, slice_get, Option, Some, None, refl, sym, ap, ◌∙◌, subst, arith}
use Rattle.core_ir.specs.declared.role.Role.{Role}
use Rattle.core_ir.specs.declared.role.Role.TheVariants as role
use Rattle.core_ir.specs.Flow.{HasRole, IsAmong, Jumps, Serves, Stands}
use Rattle.core_ir.specs.Outline.{Outline}
use Rattle.meaning.specs.declared.action.Reply.{Reply}
use Rattle.meaning.specs.declared.action.Reply.TheVariants as reply
use Rattle.meaning.specs.declared.note.Place.{Place}
use Rattle.meaning.specs.declared.value.Stop.{Stop}
use Rattle.sensitivity.specs.declared.class.Class.{Class}
use Rattle.meaning.specs.declared.value.Value.{Value}
use Rattle.machine.specs.declared.code.Code.{Code}
use Rattle.machine.specs.declared.code.CodePlace.{CodePlace}
use Rattle.machine.specs.declared.code.CodePlace.TheVariants.{Const, AddrG, AddrL, AddrF, GetLocal, SetLocal, Binary, Unary, PtrAdd, PtrConst, Cast, Touch, Load, Store, Jump, Branch, Call, CallInd, Return, Enter, Leave, Malloc, Free, Fork, StartArg, StartFn, Lock, Unlock, Join, Print, Input}
use Rattle.machine.specs.Domain.{Callee, Reaches, Refused}
use Rattle.machine.specs.Frames.{Effect, Enters, Frame, Goes, Leaves, Nothing, Stops, Write}
use Rattle.machine.specs.Numbers.{computed, is_zero}
use Rattle.machine.specs.Outlines.{defined, outline_of_code, role_of, target}
use Rattle.machine.specs.Protected.{callee_effect, drawn, effect_of, finds_zero, protected, protected_callee, unit_write, unless_no}
use Rattle.machine.specs.Shapes.{defines_number, number_in, read_at, register, shape_of}
use Rattle.machine.specs.Threads.{goes_on, stays}

-- ---- bodies and their outlines

abbrev pub outlines : List CodePlace → List Outline
outlines body = map outline_of_code body

got_map : (body : List CodePlace) (k : ℕ) (i : CodePlace) → slice_get body k ≡ Some i → slice_get (outlines body) k ≡ Some (outline_of_code i)
got_map [] k i there = absurd (cc)
got_map (j ∷ js) zero i there = let same : j ≡ i = cc in ap (λ (x : CodePlace). Some (outline_of_code x)) same
got_map (j ∷ js) (suc k) i there = got_map js k i there

pub stands_at : (body : List CodePlace) (k : ℕ) (i : CodePlace) → slice_get body k ≡ Some i → Stands (outlines body) 0 k (outline_of_code i)
stands_at body k i there =
    let same : k ≡ k - 0 = omega arith in
    record { from = omega arith; there = ap (slice_get (outlines body)) (sym same) ∙ got_map body k i there }

-- the instruction for which an outline stands
pub record Found (body : List CodePlace) (k : ℕ) (o : Outline) : Type 0 where
  pub instruction : CodePlace
  pub there : slice_get body k ≡ Some instruction
  pub is : outline_of_code instruction ≡ o

map_got : (body : List CodePlace) (k : ℕ) (o : Outline) → slice_get (outlines body) k ≡ Some o → Found body k o
map_got [] k o there = absurd (cc)
map_got (j ∷ js) zero o there = record { instruction = j; there = refl; is = cc }
map_got (j ∷ js) (suc k) o there =
    let rest = map_got js k o there in record { instruction = rest.instruction; there = rest.there; is = rest.is }

pub found : (body : List CodePlace) (k : ℕ) (o : Outline) → Stands (outlines body) 0 k o → Found body k o
found body k o stands =
    let same : k - 0 ≡ k = omega arith in
    map_got body k o (ap (slice_get (outlines body)) (sym same) ∙ stands.there)

pub one_instruction : (body : List CodePlace) (k : ℕ) (i j : CodePlace) → slice_get body k ≡ Some i → slice_get body k ≡ Some j → i ≡ j
one_instruction body k i j here there = cc

-- the role of what stands there
pub role_there : (body : List CodePlace) (k : ℕ) (i : CodePlace) (r : Role) → slice_get body k ≡ Some i → HasRole (outlines body) 0 k r → role_of i ≡ r
role_there body k i r here has =
    let f = found body k has.instruction has.there in
    let same : f.instruction ≡ i = one_instruction body k f.instruction i f.there here in
    ap role_of (sym same) ∙ ap (λ (o : Outline). o.role) f.is ∙ has.is

pub has_role : (body : List CodePlace) (k : ℕ) (i : CodePlace) → slice_get body k ≡ Some i → HasRole (outlines body) 0 k (role_of i)
has_role body k i here = record { instruction = outline_of_code i; there = stands_at body k i here; is = refl }

pub jumps_at : (body : List CodePlace) (k l : ℕ) (i : CodePlace) → slice_get body k ≡ Some i → target i ≡ Some l → Jumps (outlines body) 0 k l
jumps_at body k l i here leads = record { by = outline_of_code i; there = stands_at body k i here; leads = leads }

-- the register that what serves a use defines
pub server_defines : (body : List CodePlace) (q u r : ℕ) (i : CodePlace) → slice_get body q ≡ Some i → Serves (outlines body) 0 q u r → defined i ≡ Some r
server_defines body q u r i here serves =
    let f = found body q serves.by serves.there in
    let same : f.instruction ≡ i = one_instruction body q f.instruction i f.there here in
    ap defined (sym same) ∙ ap (λ (o : Outline). o.defined) f.is ∙ serves.defines

-- ---- where an effect leads

-- it waits at its place
abbrev pub Waits : CodePlace → Type 0
Waits (Lock p) = Unit {0}
Waits (Join t) = Unit {0}
Waits _ = ⊥

abbrev pub IsCall : CodePlace → Type 0
IsCall (Call f args s) = Unit {0}
IsCall (CallInd c args type s origin) = Unit {0}
IsCall _ = ⊥

abbrev pub IsReturn : CodePlace → Type 0
IsReturn (Return a) = Unit {0}
IsReturn _ = ⊥

-- to the next place, to its target, or nowhere; calls alone enter
abbrev pub LeadsTo : ℕ → CodePlace → Effect Value → Type 0
LeadsTo x i (Goes to w) = (to ≡ x + 1) ⊎ ((target i ≡ Some to) ⊎ ((to ≡ x) × Waits i))
LeadsTo x i (Enters f arguments through) = IsCall i
LeadsTo x i (Leaves v) = IsReturn i
LeadsTo x i (Stops why) = Unit {0}

numbers_lead : (code : Code) (top : Frame Value) (answer : Reply) (i : CodePlace) (d : ℕ) (n : Option ℤ) → LeadsTo top.place i (effect_of code top answer (defines_number protected d n))
numbers_lead code top answer i d None = tt
numbers_lead code top answer i d (Some n) = inl refl

flag_leads : (top : Frame Value) (i : CodePlace) (why : Stop) (b : Bool) → LeadsTo top.place i (unless_no top why (reply.Flag b))
flag_leads top i why true = inl refl
flag_leads top i why false = tt

answer_leads : (top : Frame Value) (i : CodePlace) (why : Stop) (answer : Reply) → LeadsTo top.place i (unless_no top why answer)
answer_leads top i why (reply.Flag b) = flag_leads top i why b
answer_leads top i why reply.Nothing = inl refl
answer_leads top i why (reply.Word w) = inl refl
answer_leads top i why (reply.Found e) = inl refl
answer_leads top i why (reply.Slot s) = inl refl
answer_leads top i why (reply.Thread n) = inl refl

drawn_leads : (top : Frame Value) (i : CodePlace) (answer : Reply) → LeadsTo top.place i (drawn top answer)
drawn_leads top i (reply.Slot None) = tt
drawn_leads top i (reply.Slot (Some s)) = inl refl
drawn_leads top i reply.Nothing = tt
drawn_leads top i (reply.Word w) = tt
drawn_leads top i (reply.Found e) = tt
drawn_leads top i (reply.Flag b) = tt
drawn_leads top i (reply.Thread n) = tt

branch_leads : (top : Frame Value) (a l : ℕ) (b : Bool) → LeadsTo top.place (Branch a l) (Goes (if b then l else top.place + 1) Nothing)
branch_leads top a l true = inr (inl refl)
branch_leads top a l false = inl refl

callee_leads : (top : Frame Value) (i : CodePlace) → IsCall i → (arguments : List Value) (through : Option Place) (c : Callee) → LeadsTo top.place i (callee_effect arguments through c)
callee_leads top i call arguments through (Reaches f) = call
callee_leads top i call arguments through (Refused why) = tt

lock_leads : (top : Frame Value) (p : ℕ) (b : Bool) → LeadsTo top.place (Lock p) (if b then goes_on protected top else stays protected top)
lock_leads top p true = inl refl
lock_leads top p false = inr (inr (refl, tt))

join_leads : (top : Frame Value) (t : ℕ) (b : Bool) → LeadsTo top.place (Join t) (if b then stays protected top else goes_on protected top)
join_leads top t true = inr (inr (refl, tt))
join_leads top t false = inl refl

pub leads_to :
    (code : Code) (depth : ℕ) (top : Frame Value) (answer : Reply) (i : CodePlace)
    → LeadsTo top.place i (effect_of code top answer (shape_of protected depth top i))
leads_to code depth top answer (Const d v) = inl refl
leads_to code depth top answer (AddrG d g address units kept) = inl refl
leads_to code depth top answer (AddrL d v offset units kept) = inl refl
leads_to code depth top answer (AddrF d f) = inl refl
leads_to code depth top answer (GetLocal d s) = inl refl
leads_to code depth top answer (SetLocal s a) = inl refl
leads_to code depth top answer (Binary d op a b) =
    numbers_lead code top answer (Binary d op a b) d (computed op (number_in protected top a) (number_in protected top b))
leads_to code depth top answer (Unary d op a) = inl refl
leads_to code depth top answer (PtrAdd d p i s) = inl refl
leads_to code depth top answer (PtrConst d p k) = inl refl
leads_to code depth top answer (Cast d a from to) = inl refl
leads_to code depth top answer (Touch p class marked) = answer_leads top (Touch p class marked) _ answer
leads_to code depth top answer (Load d p k unit) = inl refl
leads_to code depth top answer (Store p a k unit) = inl refl
leads_to code depth top answer (Jump l) = inr (inl refl)
leads_to code depth top answer (Branch a l) = branch_leads top a l (is_zero (number_in protected top a))
leads_to code depth top answer (Call f args s) = tt
leads_to code depth top answer (CallInd c args type s o) =
    callee_leads top (CallInd c args type s o) tt (map (register protected top) args) (Some (read_at protected depth top o)) (protected_callee code type (register protected top c))
leads_to code depth top answer (Return a) = tt
leads_to code depth top answer Enter = drawn_leads top Enter answer
leads_to code depth top answer Leave = inl refl
leads_to code depth top answer (Malloc d a) = inl refl
leads_to code depth top answer (Free p) = answer_leads top (Free p) _ answer
leads_to code depth top answer (Fork d) = inl refl
leads_to code depth top answer (StartArg t a) = inl refl
leads_to code depth top answer (StartFn t f) = inl refl
leads_to code depth top answer (Lock p) = lock_leads top p (finds_zero answer)
leads_to code depth top answer (Unlock p) = inl refl
leads_to code depth top answer (Join t) = join_leads top t (finds_zero answer)
leads_to code depth top answer (Print a) = inl refl
leads_to code depth top answer (Input d a) = inl refl

-- ---- instructions by their roles

pub record IsTouch (i : CodePlace) (p : ℕ) : Type 0 where
  pub class : Class
  pub marked : Bool
  pub is : i ≡ Touch p class marked

pub touch_of : (i : CodePlace) (p : ℕ) → role_of i ≡ role.Touch p → IsTouch i p
touch_of (Touch q c m) p is =
    let same : q ≡ p = cc in record { class = c; marked = m; is = ap (λ (r : ℕ). Touch r c m) same }
touch_of _ p is = absurd (cc)

pub record IsFork (i : CodePlace) : Type 0 where
  pub d : ℕ
  pub is : i ≡ Fork d

pub fork_of : (i : CodePlace) → role_of i ≡ role.Fork → IsFork i
fork_of (Fork d) is = record { d = d; is = refl }
fork_of _ is = absurd (cc)

pub record IsStartArg (i : CodePlace) (t : ℕ) : Type 0 where
  pub a : ℕ
  pub is : i ≡ StartArg t a

pub start_of : (i : CodePlace) (t : ℕ) → role_of i ≡ role.StartArg t → IsStartArg i t
start_of (StartArg n a) t is =
    let same : n ≡ t = cc in record { a = a; is = ap (λ (r : ℕ). StartArg r a) same }
start_of _ t is = absurd (cc)

pub enter_of : (i : CodePlace) → role_of i ≡ role.Enter → i ≡ Enter
enter_of Enter is = refl
enter_of _ is = absurd (cc)

pub start_fn_of : (i : CodePlace) (t g : ℕ) → role_of i ≡ role.StartFn t g → i ≡ StartFn t g
start_fn_of (StartFn n h) t g is =
    let thread : n ≡ t = cc in
    let function : h ≡ g = cc in
    ap (λ (r : ℕ). StartFn r h) thread ∙ ap (λ (r : ℕ). StartFn t r) function
start_fn_of _ t g is = absurd (cc)
