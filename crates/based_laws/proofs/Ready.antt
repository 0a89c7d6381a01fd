-- What a thread of a run is ready for: the access behind its touch, and the parts of a start behind its number.
use Rattle.std.proofs.Common.{◌≡◌, ◌⊎◌, inl, inr, ℕ, pos, negsuc, ◌+◌, ◌-◌, ◌<◌, ◌≤◌, Bool, true, false, not, ◌&&◌, if◌then◌else◌, nat_eq, nat_le, nat_lt, IsTrue, List, [], ◌∷◌, ◌++◌, length, Option, Some, None, slice_get, refl, sym, ap, ◌∙◌, subst, arith, append_assoc, get_or-set_same}
use Rattle.std.proofs.lemmas.Bool.{leb-true, ltb-true}
use Rattle.std.proofs.lemmas.List.Elements.{All-nil, All-push}
use Rattle.meaning.specs.declared.action.Action.{Action}
use Rattle.meaning.specs.declared.action.Action.TheVariants as act
use Rattle.meaning.specs.declared.action.Reply.{Reply}
use Rattle.meaning.specs.declared.action.Reply.TheVariants as reply
use Rattle.meaning.specs.declared.note.Note.{Note}
use Rattle.meaning.specs.declared.value.Check.TheVariants.{Bounds, Dead}
use Rattle.meaning.specs.declared.value.Stop.{Stop}
use Rattle.meaning.specs.declared.value.Stop.TheVariants.{Failed}
use Rattle.meaning.specs.declared.value.Value.{Value}
use Rattle.meaning.specs.declared.value.Value.TheVariants.{Bare, Based, Code as CodeValue}
use Rattle.sensitivity.specs.declared.class.Class.TheVariants as class
use Rattle.core_ir.specs.declared.role.Role.TheVariants as role
use Rattle.core_ir.specs.Order.{Behind}
use Rattle.machine.specs.Stands.{IsUnit}
use Rattle.machine.specs.declared.code.Code.{Code}
use Rattle.machine.specs.declared.code.CodeFunction.{CodeFunction}
use Rattle.machine.specs.declared.code.CodePlace.{CodePlace}
use Rattle.machine.specs.declared.code.CodePlace.TheVariants.{Touch, Load, Store, Fork, StartArg, StartFn}
use Rattle.machine.specs.declared.code.ScalarKind.{ScalarKind}
use Rattle.machine.specs.Based.{IsLastTurn, site_before}
use Rattle.machine.specs.Frames.{Effect, Frame, Goes, Nothing, ToRegister, Write}
use Rattle.machine.specs.Numbers.{is_kept}
use Rattle.machine.specs.Outlines.{outline_of_code}
use Rattle.machine.specs.Protected.{action_of, effect_of, new_thread, protected, touch_action, unless_no}
use Rattle.machine.specs.Run.{Setting, Site, State, Step, Turned}
use Rattle.machine.specs.Shapes.{register, shape_of}
use Rattle.machine.specs.Store as store
use Rattle.machine.specs.Store.{new_number}
use Rattle.machine.specs.Threads.{place_at, write_told, written}
use Rattle.machine.specs.Transfers.{IsOthers}
use Rattle.machine.specs.ValidCode.{IsValidCodeFunction, ValidCode, access_kind}
use Rattle.thread_laws.proofs.Bodies.{StandsIn, place_is, stands_in, valid_function}
use Rattle.thread_laws.proofs.Readiness.{halts}
use Rattle.thread_laws.proofs.Successors.{LeadsTo, Waits, leads_to, outlines, stands_at}
use Rattle.machine_laws.proofs.Events.{answer_in}
use Rattle.machine_laws.proofs.Flow.{IsBehindArgument, IsGuarded, IsNext, argument_by, forked_by, rules_at, touched_by}
use Rattle.machine_laws.proofs.Frames.{written_function, written_place}

-- the number of a thread that there can be, or none
abbrev pub IsNumber : Value → Type 0
IsNumber v = (v ≡ Bare (negsuc 0)) ⊎ ((m : ℕ) × (v ≡ Bare (pos m)) × (m < 16))

abbrev pub site_here : Frame Value → List (Frame Value) → Site
site_here top below = record { depth = length below; function = top.function; place = top.place }

module _ (code : Code) where
  -- the register has a pointer inside its bounds, and the thread's last turn touched it
  pub record Looked (past : List Step) (t : ℕ) (top : Frame Value) (below : List (Frame Value)) (p : ℕ) : Type 0 where
    pub value : ℕ
    pub lower : ℕ
    pub upper : ℕ
    pub id : ℕ
    pub based : register protected top p ≡ Based value lower upper id
    pub above : lower ≤ value
    pub under : value < upper
    pub touch : place_at code top.function (top.place - 1) ≡ Some (Touch p class.Sensitive false)
    pub looked : IsLastTurn past t (Turned t (Some (site_before (site_here top below))) (act.Look id) (reply.Flag true) [])

  abbrev pub LookedWhere : List Step → ℕ → Frame Value → List (Frame Value) → ScalarKind → Option ℕ → ℕ → Type 0
  LookedWhere past t top below k None p = IsTrue (is_kept k) → Looked past t top below p
  LookedWhere past t top below k (Some u) p = Unit {0}

  -- what the next instruction asks for
  abbrev pub IsReady : List Step → ℕ → Frame Value → List (Frame Value) → CodePlace → Type 0
  IsReady past t top below (Load d p k unit) = LookedWhere past t top below k unit p
  IsReady past t top below (Store p a k unit) = LookedWhere past t top below k unit p
  IsReady past t top below (StartArg n a) = IsNumber (register protected top n)
  IsReady past t top below (StartFn n g) = IsNumber (register protected top n)
  IsReady past t top below _ = Unit {0}

  pub unguarded : (past : List Step) (t : ℕ) (top : Frame Value) (below : List (Frame Value)) (i : CodePlace) → (IsGuarded i → ⊥) → IsReady past t top below i
  unguarded past t top below (Load d p k unit) free = absurd (free tt)
  unguarded past t top below (Store p a k unit) free = absurd (free tt)
  unguarded past t top below (StartArg n a) free = absurd (free tt)
  unguarded past t top below (StartFn n g) free = absurd (free tt)
  unguarded past t top below _ free = tt

  -- ---- behind a step of another thread

  last_later : (past : List Step) (t : ℕ) (last step : Step) → IsOthers t step → IsLastTurn past t last → IsLastTurn (past ++ step ∷ []) t last
  last_later past t last step others was = record {
    earlier = was.earlier;
    later = was.later ++ step ∷ [];
    is = ap (λ (l : List Step). l ++ step ∷ []) was.is ∙ append_assoc was.earlier (last ∷ was.later) (step ∷ []);
    others = All-push (IsOthers t) was.later step was.others others;
  }

  looked_later : (past : List Step) (step : Step) (t : ℕ) (top : Frame Value) (below : List (Frame Value)) (p : ℕ)
      → IsOthers t step
      → Looked past t top below p
      → Looked (past ++ step ∷ []) t top below p
  looked_later past step t top below p others was = record {
    value = was.value;
    lower = was.lower;
    upper = was.upper;
    id = was.id;
    based = was.based;
    above = was.above;
    under = was.under;
    touch = was.touch;
    looked = last_later past t (Turned t (Some (site_before (site_here top below))) (act.Look was.id) (reply.Flag true) []) step others was.looked;
  }

  where_later : (past : List Step) (step : Step) (t : ℕ) (top : Frame Value) (below : List (Frame Value)) (k : ScalarKind) (unit : Option ℕ) (p : ℕ)
      → IsOthers t step
      → LookedWhere past t top below k unit p
      → LookedWhere (past ++ step ∷ []) t top below k unit p
  where_later past step t top below k None p others was = λ kept. looked_later past step t top below p others (was kept)
  where_later past step t top below k (Some u) p others was = tt

  pub ready_later : (past : List Step) (step : Step) (t : ℕ) (top : Frame Value) (below : List (Frame Value)) (i : CodePlace)
      → IsOthers t step
      → IsReady past t top below i
      → IsReady (past ++ step ∷ []) t top below i
  ready_later past step t top below (Load d p k unit) others was = where_later past step t top below k unit p others was
  ready_later past step t top below (Store p a k unit) others was = where_later past step t top below k unit p others was
  ready_later past step t top below (StartArg n a) others was = was
  ready_later past step t top below (StartFn n g) others was = was
  ready_later past step t top below _ others was = tt

-- ---- behind an instruction

-- a touch that lets the access behind it go on
record LooksAt (v : Value) : Type 0 where
  pub value : ℕ
  pub lower : ℕ
  pub upper : ℕ
  pub id : ℕ
  pub is : v ≡ Based value lower upper id
  pub above : lower ≤ value
  pub under : value < upper
  pub asks : touch_action class.Sensitive v ≡ act.Look id

looks_by : (value lower upper id : ℕ) (a b : Bool) → nat_le lower value ≡ a → nat_lt value upper ≡ b
    → halts (if a && b then act.Look id else act.Halt (Failed Bounds)) ≡ false
    → (lower ≤ value) × (value < upper) × ((if a && b then act.Look id else act.Halt (Failed Bounds)) ≡ act.Look id)
looks_by value lower upper id true true low high goes = (leb-true lower value low, ltb-true value upper high, refl)
looks_by value lower upper id true false low high goes = absurd (cc)
looks_by value lower upper id false b low high goes = absurd (cc)

looks_at : (v : Value) → halts (touch_action class.Sensitive v) ≡ false → LooksAt v
looks_at (Bare n) goes = absurd (cc)
looks_at (CodeValue f) goes = absurd (cc)
looks_at (Based value lower upper id) goes =
    let tests = looks_by value lower upper id (nat_le lower value) (nat_lt value upper) refl refl goes in
    record { value = value; lower = lower; upper = upper; id = id; is = refl; above = tests.0; under = tests.1; asks = tests.2 }

flag_goes : (top : Frame Value) (why : Stop) (b : Bool) (to : ℕ) (w : Write Value) → unless_no top why (reply.Flag b) ≡ Goes to w
    → (b ≡ true) × (w ≡ Nothing)
flag_goes top why true to w is = (refl, cc)
flag_goes top why false to w is = absurd (cc)

module _ (setting : Setting) (valid : ValidCode setting.code) (s : State)
    (few : length s.threads ≤ 16) (counted : s.store.count ≤ length s.threads)
    (past : List Step) (t : ℕ) (top : Frame Value) (below : List (Frame Value)) (i : CodePlace) (to : ℕ) (w : Write Value)
    (here : place_at setting.code top.function top.place ≡ Some i)
    (registers : (c : CodeFunction) → slice_get setting.code.functions top.function ≡ Some c → length top.registers ≡ c.registers)
    (ready : IsReady setting.code past t top below i) where
  abbrev code : Code
  code = setting.code

  abbrev action_at : CodePlace → Action
  action_at j = action_of code t top below (shape_of protected (length below) top j)

  abbrev effect_at : CodePlace → Effect Value
  effect_at j = effect_of code top (answer_in setting s (action_at j)) (shape_of protected (length below) top j)

  abbrev after : Frame Value
  after = written protected w (record top { place = to })

  abbrev step_at : CodePlace → Step
  step_at j = Turned t (Some (site_here top below)) (action_at j) (answer_in setting s (action_at j)) (write_told protected (length below) w)

  module _ (goes : halts (action_at i) ≡ false) (effect : effect_at i ≡ Goes to w) where
    abbrev now : StandsIn code top.function top.place i
    now = stands_in code top.function top.place i here

    abbrev rules : IsValidCodeFunction code now.function
    rules = valid_function code top.function now.function valid now.there

    leads : LeadsTo top.place i (Goes to w)
    leads = subst (LeadsTo top.place i) effect (leads_to code (length below) top (answer_in setting s (action_at i)) i)

    function_is : after.function ≡ top.function
    function_is = written_function w (record top { place = to })

    place_is_to : after.place ≡ to
    place_is_to = written_place w (record top { place = to })

    at_next : (next : CodePlace) → place_at code after.function after.place ≡ Some next → slice_get now.function.body to ≡ Some next
    at_next next there =
        place_is code top.function to now.function next now.there
        (ap (λ (f : ℕ). place_at code f to) (sym function_is) ∙ ap (place_at code after.function) (sym place_is_to) ∙ there)

    -- a step of the thread at a place of this frame
    abbrev looks : ℕ → ℕ → Action → Reply → List Note → Step
    looks f place action answered notes =
        let site : Site = record { depth = length below; function = f; place = place } in Turned t (Some site) action answered notes

    -- the touch of the address that is accessed next
    touched : (p : ℕ) → IsNext top.place to i (Touch p class.Sensitive false) → Looked code (past ++ step_at i ∷ []) t after below p
    touched p next =
        let touch : CodePlace = Touch p class.Sensitive false in
        let tests : halts (touch_action class.Sensitive (register protected top p)) ≡ false =
        ap (λ (j : CodePlace). halts (action_at j)) (sym next.is) ∙ goes in
        let l : LooksAt (register protected top p) = looks_at (register protected top p) tests in
        let asks : action_at i ≡ act.Look l.id = ap (λ (j : CodePlace). action_at j) next.is ∙ l.asks in
        let answered : answer_in setting s (action_at i) ≡ answer_in setting s (act.Look l.id) =
        ap (λ (a : Action). answer_in setting s a) asks in
        let went : unless_no top (Failed Dead) (answer_in setting s (act.Look l.id)) ≡ Goes to w =
        ap (λ (a : Action). unless_no top (Failed Dead) (answer_in setting s a)) (sym asks)
        ∙ ap (λ (j : CodePlace). effect_of code top (answer_in setting s (action_at i)) (shape_of protected (length below) top j)) (sym next.is)
        ∙ effect in
        let flag = flag_goes top (Failed Dead) (not (store.is_ended s.store l.id)) to w went in
        let said : answer_in setting s (action_at i) ≡ reply.Flag true = answered ∙ ap (λ (b : Bool). reply.Flag b) flag.0 in
        let told : write_told protected (length below) w ≡ [] = ap (λ (v : Write Value). write_told protected (length below) v) flag.1 in
        let before : top.place ≡ after.place - 1 = omega (arith, place_is_to, next.next) in
        let step : step_at i ≡ Turned t (Some (site_before (site_here after below))) (act.Look l.id) (reply.Flag true) [] =
        ap (λ (a : Action). looks top.function top.place a (answer_in setting s (action_at i)) (write_told protected (length below) w)) asks
        ∙ ap (λ (r : Reply). looks top.function top.place (act.Look l.id) r (write_told protected (length below) w)) said
        ∙ ap (λ (n : List Note). looks top.function top.place (act.Look l.id) (reply.Flag true) n) told
        ∙ ap (λ (f : ℕ). looks f top.place (act.Look l.id) (reply.Flag true) []) (sym function_is)
        ∙ ap (λ (k : ℕ). looks after.function k (act.Look l.id) (reply.Flag true) []) before in
        let same : register protected top p ≡ register protected after p =
        ap (λ (v : Write Value). register protected (written protected v (record top { place = to })) p) (sym flag.1) in
        record {
          value = l.value;
          lower = l.lower;
          upper = l.upper;
          id = l.id;
          based = sym same ∙ l.is;
          above = l.above;
          under = l.under;
          touch = ap (λ (f : ℕ). place_at code f (after.place - 1)) function_is ∙ ap (place_at code top.function) (sym before)
              ∙ here ∙ ap (λ (j : CodePlace). Some j) next.is;
          looked = record {
            earlier = past;
            later = [];
            is = ap (λ (x : Step). past ++ x ∷ []) step;
            others = All-nil (IsOthers t);
          };
        }

    access_ready : (access : CodePlace) (p : ℕ) (k : ScalarKind) (unit : Option ℕ)
        → slice_get now.function.body to ≡ Some access
        → (Waits access → ⊥)
        → Behind (outlines now.function.body) to (role.Touch p)
        → access_kind access ≡ Some k
        → (unit ≡ None → (u : ℕ) → IsUnit (outlines now.function.body) now.function.locals to p u → ⊥)
        → LookedWhere code (past ++ step_at i ∷ []) t after below k unit p
    access_ready access p k None there moves behind kind unmarked = λ kept.
        touched p (touched_by code now.function rules top.place to p w i access k now.at there leads moves behind kind kept (unmarked refl))
    access_ready access p k (Some u) there moves behind kind unmarked = tt

    -- ---- starts

    number_low : (threads count : ℕ) (b : Bool) → threads ≤ 16 → count ≤ threads → nat_eq count threads ≡ b
        → IsNumber (new_thread (reply.Thread (if b then None else Some count)))
    number_low threads count true low most is = inl refl
    number_low threads count false low most is = inr (count, refl, grind (arith, low, most, is))

    forked : (n : ℕ) → IsNext top.place to i (Fork n) → IsNumber (register protected after n)
    forked n next =
        let is-here : slice_get now.function.body top.place ≡ Some (Fork n) = now.at ∙ ap (λ (j : CodePlace). Some j) next.is in
        let low : n < now.function.registers =
        (rules.well_formed.numbers top.place (outline_of_code (Fork n)) (stands_at now.function.body top.place (Fork n) is-here)).defined in
        let within : n < length top.registers = omega (arith, low, registers now.function now.there) in
        let number : Value = new_thread (answer_in setting s act.Fork) in
        let writes : Goes (top.place + 1) (ToRegister n number) ≡ Goes to w = ap (λ (j : CodePlace). effect_at j) (sym next.is) ∙ effect in
        let write : ToRegister n number ≡ w = cc in
        let read : register protected (written protected (ToRegister n number) (record top { place = to })) n ≡ number =
        get_or-set_same top.registers n number (Bare (pos 0)) within in
        let known : IsNumber number =
        number_low (length s.threads) s.store.count (nat_eq s.store.count (length s.threads)) few counted refl in
        subst (λ (x : Write Value). IsNumber (register protected (written protected x (record top { place = to })) n)) write
        (subst IsNumber (sym read) known)

    argument_ready : (n : ℕ) → IsBehindArgument code now.function rules top.place to n i → IsNumber (register protected after n)
    argument_ready n behind =
        let was : IsNumber (register protected top n) = subst (IsReady code past t top below) behind.next.is ready in
        let writes : Goes (top.place + 1) Nothing ≡ Goes to w = ap (λ (j : CodePlace). effect_at j) (sym behind.next.is) ∙ effect in
        let write : Nothing ≡ w = cc in
        subst (λ (x : Write Value). IsNumber (register protected (written protected x (record top { place = to })) n)) write was

    ready_for : (next : CodePlace) → slice_get now.function.body to ≡ Some next → IsReady code (past ++ step_at i ∷ []) t after below next
    ready_for (Load d p k None) there =
        access_ready (Load d p k None) p k None there (λ waits. waits) (rules_at code now.function rules to (Load d p k None) there).fits refl
        (λ none. rules.places to (Load d p k None) there)
    ready_for (Load d p k (Some u)) there = tt
    ready_for (Store p a k None) there =
        access_ready (Store p a k None) p k None there (λ waits. waits) (rules_at code now.function rules to (Store p a k None) there).fits refl
        (λ none. rules.places to (Store p a k None) there)
    ready_for (Store p a k (Some u)) there = tt
    ready_for (StartArg n a) there = forked n (forked_by code now.function rules top.place to n a w i now.at there leads)
    ready_for (StartFn n g) there = argument_ready n (argument_by code now.function rules top.place to n g w i now.at there leads)
    ready_for _ there = tt

    -- behind it, the frame is ready for the next instruction
    pub goes_ready : (next : CodePlace) → place_at code after.function after.place ≡ Some next → IsReady code (past ++ step_at i ∷ []) t after below next
    goes_ready next there = ready_for next (at_next next there)
