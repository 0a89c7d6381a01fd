-- The readers of a line's fields, one for each form.
use Rattle.std.specs.Prelude.{ℕ, cond, nat_lt, Bool, true, false, List, codes, Option, Some, None}
use Rattle.std.specs.Option.{option_map}
use Rattle.std.specs.Str.{bytes_eq}
use Rattle.meaning.specs.declared.value.Entry.{Entry}
use Rattle.meaning.specs.declared.value.Entry.TheVariants as entry
use Rattle.meaning.specs.declared.value.Check.TheVariants.{Bounds, Dead, NoBase, NotCode, WrongType, BadFree}
use Rattle.meaning.specs.declared.value.Stop.{Stop}
use Rattle.meaning.specs.declared.value.Stop.TheVariants.{Failed, Divide, Depth, Slots, Budget, Hijack, Wild}
use Rattle.meaning.specs.declared.action.Action.TheVariants as act
use Rattle.meaning.specs.declared.action.Reply.TheVariants as reply
use Rattle.meaning.specs.declared.note.Place.{Place}
use Rattle.meaning.specs.declared.note.Place.TheVariants.{At, Slot}
use Rattle.meaning.specs.declared.note.Note.TheVariants as note
use Rattle.meaning.specs.declared.record.Record.{Record}
use Rattle.meaning.specs.declared.record.Record.TheVariants.{Steps, Did, Noted, Wrote}
use Rattle.fields.specs.Numbers.{u32_of}
use Rattle.fields.specs.Reading.{Reader, ◌>>=◌, ◌>>◌, pure, mismatch, field, said, number, small, word, end}
use Rattle.trace_reader.specs.declared.item.Item.{Item}
use Rattle.trace_reader.specs.declared.item.Item.TheVariants.{Given, Recorded}

-- ---- parts of lines

-- the entry that its first field begins
unfoldable pub based : Reader (Option Entry)
based = do
  value ← small
  lower ← small
  upper ← small
  id ← small
  pure (Some (entry.Based value lower upper id))

unfoldable pub tagged : List ℕ → Reader (Option Entry)
tagged tag =
    cond (bytes_eq tag (codes "none")) (pure None)
    (cond (bytes_eq tag (codes "bare")) (small >>= (λ v. pure (Some (entry.Bare v))))
    (cond (bytes_eq tag (codes "based")) based
    (cond (bytes_eq tag (codes "code")) (small >>= (λ f. pure (Some (entry.Code f)))) mismatch)))

unfoldable pub found : Reader (Option Entry)
found = field >>= tagged

unfoldable pub flag : Reader Bool
flag = field >>= (λ answer.
    cond (bytes_eq answer (codes "yes")) (pure true) (cond (bytes_eq answer (codes "no")) (pure false) mismatch))

unfoldable pub optional : Reader (Option ℕ)
optional = field >>= (λ answer.
    cond (bytes_eq answer (codes "none")) (pure None) (said (option_map Some (u32_of answer))))

unfoldable pub placed : List ℕ → Reader Place
placed tag =
    cond (bytes_eq tag (codes "at")) (small >>= (λ a. pure (At a)))
    (cond (bytes_eq tag (codes "slot")) (do
      depth ← small
      slot ← small
      pure (Slot depth slot)) mismatch)

unfoldable pub place : Reader Place
place = field >>= placed

unfoldable pub check_word : List ℕ → Option Stop
check_word w =
    cond (bytes_eq w (codes "bounds")) (Some (Failed Bounds))
    (cond (bytes_eq w (codes "dead")) (Some (Failed Dead))
    (cond (bytes_eq w (codes "bare")) (Some (Failed NoBase))
    (cond (bytes_eq w (codes "code")) (Some (Failed NotCode))
    (cond (bytes_eq w (codes "type")) (Some (Failed WrongType))
    (cond (bytes_eq w (codes "free")) (Some (Failed BadFree)) None)))))

unfoldable pub stop_word : List ℕ → Option Stop
stop_word w =
    cond (bytes_eq w (codes "divide")) (Some Divide)
    (cond (bytes_eq w (codes "depth")) (Some Depth)
    (cond (bytes_eq w (codes "slots")) (Some Slots)
    (cond (bytes_eq w (codes "budget")) (Some Budget)
    (cond (bytes_eq w (codes "hijack")) (Some Hijack)
    (cond (bytes_eq w (codes "wild")) (Some Wild) (check_word w))))))

-- ---- records of a thread, each behind its word

unfoldable pub steps : ℕ → Reader Record
steps t = number >>= (λ n. cond (nat_lt 0 n) (pure (Steps t n)) mismatch)

unfoldable pub get : ℕ → Reader Record
get t = do
  a ← small
  e ← found
  pure (Did t (act.Get a) (reply.Found e))

abbrev pub put_of : ℕ → ℕ → Option Entry → Reader Record
put_of t a (Some e) = pure (Did t (act.Put a e) reply.Nothing)
put_of t a None = mismatch

unfoldable pub put : ℕ → Reader Record
put t = do
  a ← small
  e ← found
  put_of t a e

unfoldable pub load : ℕ → Reader Record
load t = do
  a ← small
  v ← word
  pure (Did t (act.Load a) (reply.Word v))

unfoldable pub store : ℕ → Reader Record
store t = do
  a ← small
  v ← word
  pure (Did t (act.Store a v) reply.Nothing)

unfoldable pub lock : ℕ → Reader Record
lock t = do
  a ← small
  v ← word
  pure (Did t (act.TryLock a) (reply.Word v))

unfoldable pub alloc : ℕ → Reader Record
alloc t = do
  k ← small
  s ← optional
  pure (Did t (act.Alloc k) (reply.Slot s))

unfoldable pub free : ℕ → Reader Record
free t = do
  i ← small
  b ← flag
  pure (Did t (act.Free i) (reply.Flag b))

unfoldable pub look : ℕ → Reader Record
look t = do
  i ← small
  b ← flag
  pure (Did t (act.Look i) (reply.Flag b))

abbrev pub fork_of : ℕ → Option ℕ → Reader Record
fork_of t (Some m) = cond (nat_lt m 256) (pure (Did t act.Fork (reply.Thread (Some m)))) mismatch
fork_of t None = pure (Did t act.Fork (reply.Thread None))

unfoldable pub fork : ℕ → Reader Record
fork t = optional >>= fork_of t

unfoldable pub input : ℕ → Reader Record
input t = do
  k ← word
  v ← word
  pure (Did t (act.Input k) (reply.Word v))

unfoldable pub print : ℕ → Reader Record
print t = word >>= (λ v. pure (Did t (act.Print v) reply.Nothing))

unfoldable pub call : ℕ → Reader Record
call t = do
  depth ← small
  f ← small
  from ← small
  pure (Noted t (note.Call depth f from))

unfoldable pub icall : ℕ → Reader Record
icall t = do
  depth ← small
  f ← small
  from ← small
  target ← place
  pure (Noted t (note.Indirect depth f from target))

unfoldable pub start_at : ℕ → ℕ → List ℕ → Reader Record
start_at t f tag = cond (bytes_eq tag (codes "at")) (small >>= (λ a. pure (Noted t (note.Start f a)))) mismatch

unfoldable pub start : ℕ → Reader Record
start t = do
  f ← small
  tag ← field
  start_at t f tag

unfoldable pub returned : ℕ → Reader Record
returned t = do
  depth ← small
  f ← small
  to ← small
  pure (Noted t (note.Return depth f to))

unfoldable pub code_slot : ℕ → Reader Record
code_slot t = do
  depth ← small
  slot ← small
  f ← small
  pure (Noted t (note.CodeSlot depth slot f))

unfoldable pub code_own : ℕ → Reader Record
code_own t = do
  a ← small
  f ← small
  pure (Noted t (note.CodeOwn a f))

unfoldable pub stopped : ℕ → Reader Record
stopped t = do
  text ← field
  stop ← said (stop_word text)
  pure (Noted t (note.Stopped stop))

-- ---- the record that a word begins

unfoldable pub inner_note : ℕ → List ℕ → Reader Record
inner_note t w =
    cond (bytes_eq w (codes "slot")) (code_slot t)
    (cond (bytes_eq w (codes "own")) (code_own t)
    (cond (bytes_eq w (codes "stop")) (stopped t) mismatch))

unfoldable pub transfer : ℕ → List ℕ → Reader Record
transfer t w =
    cond (bytes_eq w (codes "call")) (call t)
    (cond (bytes_eq w (codes "icall")) (icall t)
    (cond (bytes_eq w (codes "start")) (start t)
    (cond (bytes_eq w (codes "return")) (returned t)
    (cond (bytes_eq w (codes "end")) (pure (Noted t note.End)) (inner_note t w)))))

unfoldable pub outside : ℕ → List ℕ → Reader Record
outside t w =
    cond (bytes_eq w (codes "input")) (input t)
    (cond (bytes_eq w (codes "print")) (print t)
    (cond (bytes_eq w (codes "steps")) (steps t) (transfer t w)))

unfoldable pub region : ℕ → List ℕ → Reader Record
region t w =
    cond (bytes_eq w (codes "alloc")) (alloc t)
    (cond (bytes_eq w (codes "free")) (free t)
    (cond (bytes_eq w (codes "look")) (look t)
    (cond (bytes_eq w (codes "fork")) (fork t) (outside t w))))

unfoldable pub memory : ℕ → List ℕ → Reader Record
memory t w =
    cond (bytes_eq w (codes "get")) (get t)
    (cond (bytes_eq w (codes "put")) (put t)
    (cond (bytes_eq w (codes "load")) (load t)
    (cond (bytes_eq w (codes "store")) (store t)
    (cond (bytes_eq w (codes "lock")) (lock t) (region t w)))))

-- ---- an item, by its first field

unfoldable pub given : Reader Item
given = word >>= (λ v. pure (Given v))

unfoldable pub wrote : Reader Item
wrote = do
  a ← small
  v ← word
  pure (Recorded (Wrote a v))

unfoldable pub threaded : ℕ → Reader Item
threaded t = do
  w ← field
  r ← memory t w
  pure (Recorded r)

abbrev pub by_thread : Option ℕ → Reader Item
by_thread None = mismatch
by_thread (Some t) = cond (nat_lt t 16) (threaded t) mismatch

unfoldable pub item : List ℕ → Reader Item
item first =
    cond (bytes_eq first (codes "in")) given
    (cond (bytes_eq first (codes "w")) wrote (by_thread (u32_of first)))

-- a whole line, without its LF
unfoldable pub whole : Reader Item
whole = do
  first ← field
  read ← item first
  end >> pure read
