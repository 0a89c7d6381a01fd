-- Every run makes one legal history: the safe store holds what was put last, and counts what was drawn, ended and forked.
use Rattle.std.proofs.Common.{◌≡◌, ℕ, ℤ, ◌+◌, ◌-◌, ◌^◌, ◌≤◌, min, Bool, true, false, ◌||◌, not, ◌&&◌, cond, if◌then◌else◌, is_some, nat_eq, nat_le, List, [], ◌∷◌, ◌++◌, length, replicate, flat_map, Option, Some, None, slice_get, refl, sym, ap, ◌∙◌, subst, append-nil, arith, length-set}
use Rattle.std.proofs.lemmas.List.{length-replicate}
use Rattle.std.specs.FinMap.{get, insert, get-insert, get-empty}
use Rattle.std.specs.Ordering.{nat_cmp, eq_by_cmp}
use Rattle.std.specs.Cmp.{nat_cmp_total, eq_by_cmp_equiv, unsigned_tied}
use Rattle.meaning.specs.declared.value.Entry.{Entry}
use Rattle.meaning.specs.declared.value.Value.{Value}
use Rattle.meaning.specs.declared.action.Action.{Action}
use Rattle.meaning.specs.declared.action.Action.TheVariants as act
use Rattle.meaning.specs.declared.action.Reply.{Reply}
use Rattle.meaning.specs.declared.action.Reply.TheVariants as reply
use Rattle.meaning.specs.declared.event.Event.{Event}
use Rattle.meaning.specs.declared.event.Event.TheVariants.{Turn, Corrupt, Cut}
use Rattle.meaning.specs.Legal.{Call, put_at, or_else, last_put, asked, slots_asked, ends, is_ended, is_new_thread, threads_made, slot_for, thread_for, IsLegalCall, LegalHistory}
use Rattle.meaning.specs.Records.{did, calls_of}
use Rattle.machine.specs.Frames.{Thread, Waiting, has_begun, is_live}
use Rattle.machine.specs.Protected.{next}
use Rattle.machine.specs.Run.{Move, Setting, State, cuts, happens, idles, opening, run, steps_from, takes_turn, turns}
use Rattle.machine.specs.Store as store
use Rattle.machine.specs.Store.{Memory, Store, answer, drawn_to, first_slot, new_number, new_store, stored}
use Rattle.machine.specs.Trace.{trace_of}
use Rattle.machine_laws.proofs.Splits.{EachBehind, EachBehind-append, EachBehind-at}
use Rattle.machine_laws.proofs.Calls.{calls_by, calls_of-trace_of}

-- ---- what one more call adds

or_else-none : (o : Option Entry) → or_else o None ≡ o
or_else-none (Some e) = refl
or_else-none None = refl

or_else_assoc : (o p q : Option Entry) → or_else (or_else o p) q ≡ or_else o (or_else p q)
or_else_assoc (Some e) p q = refl
or_else_assoc None p q = refl

last_put-push : (a : ℕ) (past : List Call) (call : Call) → last_put a (past ++ call ∷ []) ≡ or_else (put_at a call.0) (last_put a past)
last_put-push a [] call = sym (or_else-none (put_at a call.0))
last_put-push a (c ∷ cs) call = ap (λ o. or_else o (put_at a c.0)) (last_put-push a cs call) ∙ or_else_assoc (put_at a call.0) (last_put a cs) (put_at a c.0)

or_assoc : (a b c : Bool) → (a || (b || c)) ≡ ((a || b) || c)
or_assoc true b c = refl
or_assoc false b c = refl

or-false : (a : Bool) → (a || false) ≡ a
or-false true = refl
or-false false = refl

is_ended-push : (i : ℕ) (past : List Call) (call : Call) → is_ended i (past ++ call ∷ []) ≡ (is_ended i past || ends i call.0)
is_ended-push i [] call = or-false (ends i call.0)
is_ended-push i (c ∷ cs) call = ap (λ b. ends i c.0 || b) (is_ended-push i cs call) ∙ or_assoc (ends i c.0) (is_ended i cs) (ends i call.0)

slots_asked-push : (past : List Call) (call : Call) → slots_asked (past ++ call ∷ []) ≡ slots_asked past + asked call.0
slots_asked-push [] call = omega arith
slots_asked-push (c ∷ cs) call = let rest = slots_asked-push cs call in omega (arith, rest)

threads_made-push : (past : List Call) (call : Call) → threads_made (past ++ call ∷ []) ≡ threads_made past + is_new_thread call
threads_made-push [] call = omega arith
threads_made-push (c ∷ cs) call = let rest = threads_made-push cs call in omega (arith, rest)

-- ---- the store behind these calls

abbrev greatest : ℕ
greatest = 2 ^ 64 - 1

pub record Holds (s : Store) (past : List Call) : Type 0 where
  pub puts : (a : ℕ) → get s.entries a ≡ last_put a past
  pub ended : (i : ℕ) → store.is_ended s i ≡ is_ended i past
  pub drawn : s.next ≡ min (1026 + slots_asked past) greatest
  pub forked : s.count ≡ 1 + threads_made past

-- a call that changes nothing
quiet : (s : Store) (past : List Call) (call : Call)
    → ((a : ℕ) → put_at a call.0 ≡ None)
    → ((i : ℕ) → ends i call.0 ≡ false)
    → asked call.0 ≡ 0
    → is_new_thread call ≡ 0
    → Holds s past
    → Holds s (past ++ call ∷ [])
quiet s past call none unended undrawn unforked holds = record {
  puts = λ a. holds.puts a ∙ sym (last_put-push a past call ∙ ap (λ o. or_else o (last_put a past)) (none a));
  ended = λ i. holds.ended i ∙ sym (is_ended-push i past call ∙ ap (λ b. is_ended i past || b) (unended i) ∙ or-false (is_ended i past));
  drawn = holds.drawn ∙ ap (λ (n : ℕ). min (1026 + n) greatest) (let more = slots_asked-push past call in omega (arith, more, undrawn));
  forked = let more = threads_made-push past call in omega (arith, more, unforked, holds.forked);
}

put_or_before : (b c : Bool) (e : Entry) (o : Option Entry) → b ≡ c → cond b (Some e) o ≡ or_else (cond c (Some e) None) o
put_or_before true true e o h = refl
put_or_before true false e o h = cc
put_or_before false true e o h = cc
put_or_before false false e o h = refl

same_key : (a b : ℕ) → eq_by_cmp nat_cmp a b ≡ nat_eq b a
same_key a b = (eq_by_cmp_equiv nat_cmp_total).symm a b ∙ unsigned_tied b a

put_holds : (s : Store) (past : List Call) (b : ℕ) (e : Entry) (answered : Reply)
    → Holds s past
    → Holds (record s { entries = insert s.entries b e }) (past ++ (act.Put b e, answered) ∷ [])
put_holds s past b e answered holds =
    let call : Call = (act.Put b e, answered) in
    record {
      puts = λ a. get-insert nat_cmp_total s.entries b e a ∙ ap (cond (eq_by_cmp nat_cmp a b) (Some e)) (holds.puts a)
          ∙ put_or_before (eq_by_cmp nat_cmp a b) (nat_eq b a) e (last_put a past) (same_key a b)
          ∙ sym (last_put-push a past call);
      ended = λ i. holds.ended i ∙ sym (is_ended-push i past call ∙ or-false (is_ended i past));
      drawn = holds.drawn ∙ ap (λ (n : ℕ). min (1026 + n) greatest) (let more = slots_asked-push past call in omega (arith, more));
      forked = let more = threads_made-push past call in omega (arith, more, holds.forked);
    }

found_or_before : (b c : Bool) (o : Option (Unit {0})) (before : Bool) → b ≡ c → is_some o ≡ before
    → is_some (cond b (Some tt) o) ≡ (before || c)
found_or_before true true o true h e = refl
found_or_before true true o false h e = refl
found_or_before true false o before h e = cc
found_or_before false true o before h e = cc
found_or_before false false o before h e = e ∙ sym (or-false before)

free_holds : (s : Store) (past : List Call) (id : ℕ) (answered : Reply)
    → Holds s past
    → Holds (record s { ended = insert s.ended id tt }) (past ++ (act.Free id, answered) ∷ [])
free_holds s past id answered holds =
    let call : Call = (act.Free id, answered) in
    record {
      puts = λ a. holds.puts a ∙ sym (last_put-push a past call);
      ended = λ i. ap (λ (o : Option (Unit {0})). is_some o) (get-insert nat_cmp_total s.ended id tt i)
          ∙ found_or_before (eq_by_cmp nat_cmp i id) (nat_eq id i) (get s.ended i) (is_ended i past) (same_key i id) (holds.ended i)
          ∙ sym (is_ended-push i past call);
      drawn = holds.drawn ∙ ap (λ (n : ℕ). min (1026 + n) greatest) (let more = slots_asked-push past call in omega (arith, more));
      forked = let more = threads_made-push past call in omega (arith, more, holds.forked);
    }

alloc_holds : (s : Store) (past : List Call) (k : ℕ) (answered : Reply)
    → Holds s past
    → Holds (record s { next = drawn_to s.next k }) (past ++ (act.Alloc k, answered) ∷ [])
alloc_holds s past k answered holds =
    let call : Call = (act.Alloc k, answered) in
    record {
      puts = λ a. holds.puts a ∙ sym (last_put-push a past call);
      ended = λ i. holds.ended i ∙ sym (is_ended-push i past call ∙ or-false (is_ended i past));
      drawn = let more = slots_asked-push past call in omega (arith, more, holds.drawn);
      forked = let more = threads_made-push past call in omega (arith, more, holds.forked);
    }

-- ---- what an action is answered, and what it leaves

module _ (slots threads : ℕ) (few : slots ≤ 1048576) where
  abbrev IsLegal : List Call → Call → Type 0
  IsLegal before call = IsLegalCall slots threads before call.0 call.1

  -- legal calls behind these, and the store that they and these leave
  abbrev Keeps : List Call → List Call → Store → Type 0
  Keeps past calls s = EachBehind IsLegal past calls × Holds s (past ++ calls)

  nothing_called : (s : Store) (past : List Call) → Holds s past → Keeps past [] s
  nothing_called s past holds = (tt, subst (λ l. Holds s l) (sym (append-nil past)) holds)

  drawn_slot : (next all k : ℕ) (b c : Bool) → next ≡ min all greatest → nat_le (next + k) slots ≡ b → nat_le (all + k) slots ≡ c
      → (if b then Some next else None) ≡ cond c (Some all) None
  drawn_slot next all k true true is this that = ap (λ (n : ℕ). Some n) (grind (arith, is, this, that, few))
  drawn_slot next all k true false is this that = absurd (grind (arith, is, this, that, few))
  drawn_slot next all k false true is this that = absurd (grind (arith, is, this, that, few))
  drawn_slot next all k false false is this that = refl

  slot_is : (s : Store) (past : List Call) (k : ℕ) → Holds s past → first_slot slots s.next k ≡ slot_for slots k past
  slot_is s past k holds =
      drawn_slot s.next (1026 + slots_asked past) k (nat_le (s.next + k) slots) (nat_le (1026 + slots_asked past + k) slots) holds.drawn refl refl

  number_by : (count made : ℕ) (b c : Bool) → count ≡ made → nat_eq count threads ≡ b → nat_eq made threads ≡ c
      → (if b then None else Some count) ≡ cond c None (Some made)
  number_by count made true true is this that = refl
  number_by count made true false is this that = cc
  number_by count made false true is this that = cc
  number_by count made false false is this that = ap (λ (n : ℕ). Some n) is

  number_is : (s : Store) (past : List Call) → Holds s past → new_number threads s.count ≡ thread_for threads past
  number_is s past holds =
      number_by s.count (1 + threads_made past) (nat_eq s.count threads) (nat_eq (1 + threads_made past) threads) holds.forked refl refl

  count_by : (count made : ℕ) (b : Bool) → count ≡ 1 + made
      → (if b then count else count + 1) ≡ 1 + (made + is_new_thread (act.Fork, reply.Thread (if b then None else Some count)))
  count_by count made true is = omega (arith, is)
  count_by count made false is = omega (arith, is)

  fork_holds : (s : Store) (past : List Call)
      → Holds s past
      → Holds (stored threads s act.Fork) (past ++ (act.Fork, reply.Thread (new_number threads s.count)) ∷ [])
  fork_holds s past holds =
      let call : Call = (act.Fork, reply.Thread (new_number threads s.count)) in
      record {
        puts = λ a. holds.puts a ∙ sym (last_put-push a past call);
        ended = λ i. holds.ended i ∙ sym (is_ended-push i past call ∙ or-false (is_ended i past));
        drawn = holds.drawn ∙ ap (λ (n : ℕ). min (1026 + n) greatest) (let more = slots_asked-push past call in omega (arith, more));
        forked = count_by s.count (threads_made past) (nat_eq s.count threads) holds.forked
            ∙ ap (λ (n : ℕ). 1 + n) (sym (threads_made-push past call));
      }

  action_keeps : (t : ℕ) (inputs : List ℤ) (s : Store) (memory : Memory) (past : List Call) (action : Action)
      → Holds s past
      → Keeps past (calls_of (did t action (answer slots threads inputs s memory action))) (stored threads s action)
  action_keeps t inputs s memory past act.Own holds = nothing_called s past holds
  action_keeps t inputs s memory past (act.Load a) holds = ((tt, tt), quiet s past _ (λ a. refl) (λ i. refl) refl refl holds)
  action_keeps t inputs s memory past (act.Store a v) holds = ((tt, tt), quiet s past _ (λ a. refl) (λ i. refl) refl refl holds)
  action_keeps t inputs s memory past (act.TryLock a) holds = ((tt, tt), quiet s past _ (λ a. refl) (λ i. refl) refl refl holds)
  action_keeps t inputs s memory past (act.Get a) holds =
      ((ap (λ e. reply.Found e) (holds.puts a), tt), quiet s past _ (λ a. refl) (λ i. refl) refl refl holds)
  action_keeps t inputs s memory past (act.Put a e) holds = ((tt, tt), put_holds s past a e reply.Nothing holds)
  action_keeps t inputs s memory past (act.Alloc k) holds =
      ((ap (λ o. reply.Slot o) (slot_is s past k holds), tt), alloc_holds s past k (reply.Slot (first_slot slots s.next k)) holds)
  action_keeps t inputs s memory past (act.Free i) holds =
      ((ap (λ b. reply.Flag (not b)) (holds.ended i), tt), free_holds s past i (reply.Flag (not (store.is_ended s i))) holds)
  action_keeps t inputs s memory past (act.Look i) holds =
      ((ap (λ b. reply.Flag (not b)) (holds.ended i), tt), quiet s past _ (λ a. refl) (λ i. refl) refl refl holds)
  action_keeps t inputs s memory past act.Fork holds = ((ap (λ o. reply.Thread o) (number_is s past holds), tt), fork_holds s past holds)
  action_keeps t inputs s memory past (act.Print v) holds = ((tt, tt), quiet s past _ (λ a. refl) (λ i. refl) refl refl holds)
  action_keeps t inputs s memory past (act.Input k) holds = ((tt, tt), quiet s past _ (λ a. refl) (λ i. refl) refl refl holds)
  action_keeps t inputs s memory past (act.Halt why) holds = nothing_called s past holds

  -- ---- events

  -- the calls of a move, the store behind it, and as many threads as before
  abbrev MoveKeeps : List Call → Move → Type 0
  MoveKeeps past move = Keeps past (calls_by move.step) move.after.store × (length move.after.threads ≡ threads)

  either_move : (past : List Call) (b : Bool) (x y : Move) → MoveKeeps past x → MoveKeeps past y → MoveKeeps past (if b then x else y)
  either_move past true x y p q = p
  either_move past false x y p q = q

  module _ (setting : Setting) (is : setting.slots ≡ slots) where
    idle_keeps : (s : State) (past : List Call) → Holds s.store past → length s.threads ≡ threads → MoveKeeps past (idles s)
    idle_keeps s past holds many = (nothing_called s.store past holds, many)

    acts_keeps : (s : State) (past : List Call) (t : ℕ) (thread : Thread Value) (action : Action) (all many : ℕ)
        → all ≡ slots → many ≡ threads
        → Holds s.store past → length s.threads ≡ threads
        → Keeps past (calls_of (did t action (answer all many setting.inputs s.store s.memory action))) (stored many s.store action)
    acts_keeps s past t thread action all many same count holds length_is =
        subst (λ (n : ℕ). Keeps past (calls_of (did t action (answer n many setting.inputs s.store s.memory action))) (stored many s.store action)) (sym same)
        (subst (λ (n : ℕ). Keeps past (calls_of (did t action (answer slots n setting.inputs s.store s.memory action))) (stored n s.store action)) (sym count)
        (action_keeps t setting.inputs s.store s.memory past action holds))

    live_keeps : (s : State) (past : List Call) (t : ℕ) (thread : Thread Value) → Holds s.store past → length s.threads ≡ threads
        → MoveKeeps past (takes_turn setting s t thread)
    live_keeps s past t thread holds many = (
      acts_keeps s past t thread (next setting.code t thread) setting.slots (length s.threads) is many holds many,
      length-set s.threads t _ ∙ many,
    )

    turn_keeps : (s : State) (past : List Call) (t : ℕ) (o : Option (Thread Value)) → Holds s.store past → length s.threads ≡ threads
        → MoveKeeps past (turns setting s t o)
    turn_keeps s past t None holds many = idle_keeps s past holds many
    turn_keeps s past t (Some thread) holds many =
        either_move past (is_live thread) (takes_turn setting s t thread) (idles s) (live_keeps s past t thread holds many) (idle_keeps s past holds many)

    cut_keeps : (s : State) (past : List Call) (t : ℕ) (o : Option (Thread Value)) → Holds s.store past → length s.threads ≡ threads
        → MoveKeeps past (cuts s t o)
    cut_keeps s past t None holds many = idle_keeps s past holds many
    cut_keeps s past t (Some thread) holds many =
        either_move past (is_live thread && has_begun thread) _ (idles s)
        (nothing_called s.store past holds, length-set s.threads t _ ∙ many) (idle_keeps s past holds many)

    event_keeps : (s : State) (past : List Call) (e : Event) → Holds s.store past → length s.threads ≡ threads → MoveKeeps past (happens setting s e)
    event_keeps s past (Turn t) holds many = turn_keeps s past t (slice_get s.threads t) holds many
    event_keeps s past (Corrupt a w) holds many = (nothing_called s.store past holds, many)
    event_keeps s past (Cut t) holds many = cut_keeps s past t (slice_get s.threads t) holds many

    legal_from : (s : State) (past : List Call) (events : List Event) → Holds s.store past → length s.threads ≡ threads
        → EachBehind IsLegal past (flat_map calls_by (steps_from setting s events))
    legal_from s past [] holds many = tt
    legal_from s past (e ∷ es) holds many =
        let now : MoveKeeps past (happens setting s e) = event_keeps s past e holds many in
        let move : Move = happens setting s e in
        EachBehind-append IsLegal past (calls_by move.step) (flat_map calls_by (steps_from setting move.after es)) now.0.0
        (legal_from move.after (past ++ calls_by move.step) es now.0.1 now.1)

new_holds : Holds new_store []
new_holds = record {
  puts = λ a. get-empty nat_cmp a;
  ended = λ i. ap (λ (o : Option (Unit {0})). is_some o) (get-empty nat_cmp i);
  drawn = refl;
  forked = refl;
}

abbrev waiting : Thread Value
waiting = Waiting

pub run_is_legal :
    (setting : Setting) (threads : ℕ) (events : List Event)
    → setting.slots ≤ 1048576
    → 1 ≤ threads
    → LegalHistory setting.slots threads (calls_of (trace_of (run setting threads events)))
run_is_legal setting threads events few some before after call split =
    let many : length (opening setting threads).threads ≡ threads =
    let rest : length (replicate (threads - 1) waiting) ≡ threads - 1 = length-replicate (threads - 1) waiting in
    omega (arith, rest, some) in
    EachBehind-at (IsLegal setting.slots threads few) [] (flat_map calls_by (run setting threads events)) before after call
    (legal_from setting.slots threads few setting refl (opening setting threads) [] events new_holds many)
    (sym (calls_of-trace_of (run setting threads events)) ∙ split)
