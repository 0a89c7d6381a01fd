-- The rule of the shared store: how the words of a table and the views of its seats agree with one history.
use Rattle.std.specs.Prelude.{◌≡◌, ℕ, zero, suc, ◌+◌, ◌*◌, ◌<◌, ◌≤◌, ◌⊎◌, Bool, true, false, ◌||◌, cond, List, [], ◌∷◌, length, slice_index, min, Option, None, Some}
use mathlib.Core.Option.{some}
use mathlib.Core.List.{IsPrefix}
use lib.ListN.{get_elem?}
use Rattle.atomic_table.specs.Table.{State}
use Rattle.meaning.specs.declared.value.Entry.{Entry}
use Rattle.meaning.specs.declared.action.Action.{Action}
use Rattle.meaning.specs.declared.action.Action.TheVariants.{Get, Put, Alloc, Fork}
use Rattle.meaning.specs.declared.action.Reply.{Reply}
use Rattle.meaning.specs.declared.action.Reply.TheVariants.{Found, Slot, Thread}
use Rattle.meaning.specs.Legal.{slots_asked, threads_made, is_ended}
use Rattle.safe_table.specs.declared.history.StoreCall.{StoreCall}
use Rattle.safe_table.specs.declared.history.StoreSize.{StoreSize}
use Rattle.safe_table.specs.declared.view.Draft.{Draft}
use Rattle.safe_table.specs.declared.view.Draft.TheVariants.{Blank, Low, Both}
use Rattle.safe_table.specs.declared.view.Held.{Held}
use Rattle.safe_table.specs.declared.view.View.{View}
use Rattle.safe_table.specs.Entries.{IsEntry, low_word, high_word}
use Rattle.safe_table.specs.History.{calls, last_number, last_entry, calls_by, puts, IsHistory}

-- The sizes that a store may have

pub record IsSize (z : StoreSize) : Type 0 where
  pub least_slots : 1026 ≤ z.slots
  pub most_slots : z.slots ≤ 16384
  pub least_threads : 1 ≤ z.threads
  pub most_threads : z.threads ≤ 16
  pub most_puts : z.quota * z.threads ≤ 131072

-- Where the words lie: three numbers, a cell for each address, an end word for each id, two words for each put

-- how many seats have a number
abbrev pub number_word : ℕ
number_word = 0

-- how many slots were drawn
abbrev pub slot_word : ℕ
slot_word = 1

-- how many thread numbers were drawn
abbrev pub thread_word : ℕ
thread_word = 2

abbrev pub cell_at : ℕ → ℕ
cell_at a = 3 + a

abbrev pub end_at : StoreSize → ℕ → ℕ
end_at z i = 3 + 64 * z.slots + i

abbrev pub records_at : StoreSize → ℕ
records_at z = 3 + 64 * z.slots + z.slots

abbrev pub low_at : StoreSize → ℕ → ℕ
low_at z r = records_at z + 2 * r

abbrev pub high_at : StoreSize → ℕ → ℕ
high_at z r = records_at z + 2 * r + 1

abbrev pub word_count : StoreSize → ℕ
word_count z = records_at z + 2 * (z.quota * z.threads)

-- The parts of the rule

-- Record r belongs to a put in the history: put j of number m has record quota * m + j.
abbrev pub IsMade : StoreSize → List StoreCall → ℕ → Type 0
IsMade z h r = (m : ℕ) × (j : ℕ) × (m < z.threads) × (r ≡ z.quota * m + j) × (j < puts (calls_by m h))

-- 0 and no entry, or the number of a put in the history, whose record has the entry
abbrev pub Known : StoreSize → List ℕ → List StoreCall → ℕ → Option Entry → Type 0
Known z words h n None = n ≡ 0
Known z words h n (Some e) = (r : ℕ) × (n ≡ r + 1) × IsMade z h r
    × (slice_index words (low_at z r) ≡ low_word e) × (slice_index words (high_at z r) ≡ high_word e) × IsEntry z e

abbrev pub found_in : Reply → Option Entry
found_in (Found e) = e
found_in _ = None

-- the entry that a call put or found
abbrev pub entry_of : Action → Reply → Option Entry
entry_of (Put a e) reply = Some e
entry_of (Get a) reply = found_in reply
entry_of _ reply = None

-- numbers: those given are below the number word, and each call names one of them
pub record NumbersFit (z : StoreSize) (words : List ℕ) (h : List StoreCall) : Type 0 where
  pub few : slice_index words number_word ≤ z.threads
  pub named : (k : ℕ) (c : StoreCall) → get_elem? h k ≡ some c → c.by < slice_index words number_word

-- cells: each has the number of the last put at its address, 0 where there is none
abbrev pub CellsFit : StoreSize → List ℕ → List StoreCall → Type 0
CellsFit z words h = (a : ℕ) → a < 64 * z.slots → slice_index words (cell_at a) ≡ last_number a h

-- records: that of each put in the history has the two words of its entry
pub record RecordsFit (z : StoreSize) (words : List ℕ) (h : List StoreCall) : Type 0 where
  pub known : (k : ℕ) (c : StoreCall) → get_elem? h k ≡ some c → Known z words h c.put (entry_of c.action c.reply)
  pub last : (a : ℕ) → Known z words h (last_number a h) (last_entry a h)
  pub within : (n : ℕ) → puts (calls_by n h) ≤ z.quota

-- slots were asked for, and there were too few
abbrev pub late_reply : Reply → Bool
late_reply (Slot None) = true
late_reply _ = false

abbrev pub is_late : Action → Reply → Bool
is_late (Alloc k) reply = late_reply reply
is_late _ reply = false

abbrev pub any_late : List StoreCall → Bool
any_late [] = false
any_late (c ∷ cs) = is_late c.action c.reply || any_late cs

-- a thread number was asked for, and there was none
abbrev pub crowded_reply : Reply → Bool
crowded_reply (Thread None) = true
crowded_reply _ = false

abbrev pub is_crowded : Action → Reply → Bool
is_crowded Fork reply = crowded_reply reply
is_crowded _ reply = false

abbrev pub any_crowded : List StoreCall → Bool
any_crowded [] = false
any_crowded (c ∷ cs) = is_crowded c.action c.reply || any_crowded cs

-- of how many numbers below n the calls pass a test
abbrev pub numbers_with : (List StoreCall → Bool) → ℕ → List StoreCall → ℕ
numbers_with test zero h = 0
numbers_with test (suc n) h = numbers_with test n h + cond (test (calls_by n h)) 1 0

-- the slot behind all that were asked for
abbrev pub next_slot : List StoreCall → ℕ
next_slot h = 1026 + slots_asked (calls h)

-- slots: the slot word tells the next slot, or both are above the limit
pub record SlotsFit (z : StoreSize) (words : List ℕ) (h : List StoreCall) : Type 0 where
  pub next : (1026 + slice_index words slot_word ≡ next_slot h)
      ⊎ ((z.slots < 1026 + slice_index words slot_word) × (z.slots < next_slot h))
  pub bound : slice_index words slot_word ≤ z.slots + 256 * numbers_with any_late z.threads h
  pub late : (k : ℕ) (c : StoreCall) → get_elem? h k ≡ some c → is_late c.action c.reply ≡ true → z.slots < next_slot h

-- thread numbers: the count is the lesser of what the thread word tells and the limit
pub record ThreadsFit (z : StoreSize) (words : List ℕ) (h : List StoreCall) : Type 0 where
  pub count : 1 + threads_made (calls h) ≡ min (1 + slice_index words thread_word) z.threads
  pub bound : slice_index words thread_word ≤ z.threads + numbers_with any_crowded z.threads h
  pub crowded : (k : ℕ) (c : StoreCall) → get_elem? h k ≡ some c → is_crowded c.action c.reply ≡ true
      → 1 + threads_made (calls h) ≡ z.threads

-- ends: an end word is 1 exactly where the id is ended
abbrev pub EndsFit : StoreSize → List ℕ → List StoreCall → Type 0
EndsFit z words h = (i : ℕ) → i < z.slots → slice_index words (end_at z i) ≡ cond (is_ended i (calls h)) 1 0

-- what the words are, where this is the history
pub record WordsFit (z : StoreSize) (words : List ℕ) (h : List StoreCall) : Type 0 where
  pub wide : length words ≡ word_count z
  pub numbers : NumbersFit z words h
  pub cells : CellsFit z words h
  pub records : RecordsFit z words h
  pub slots : SlotsFit z words h
  pub threads : ThreadsFit z words h
  pub ends : EndsFit z words h

-- the next record of a number
abbrev pub next_record : StoreSize → Held → ℕ
next_record z x = z.quota * x.number + puts x.mine

-- drafts: what a seat stored of its next record stands there; a seat that has made all its puts has no next record
abbrev pub Drafted : StoreSize → List ℕ → Held → Draft → Type 0
Drafted z words x Blank = Unit {0}
Drafted z words x (Low y) = (puts x.mine < z.quota) × (slice_index words (low_at z (next_record z x)) ≡ y)
Drafted z words x (Both y w) = (puts x.mine < z.quota) × (slice_index words (low_at z (next_record z x)) ≡ y)
    × (slice_index words (high_at z (next_record z x)) ≡ w)

-- a number that a view holds: no other view holds it, it was given, and its calls in the history are those kept for it
pub record HeldFits (z : StoreSize) (words : List ℕ) (h : List StoreCall) (owner : ℕ → ℕ) (id : ℕ)
    (x : Held) : Type 0 where
  pub owned : owner x.number ≡ id
  pub given : x.number < slice_index words number_word
  pub mine : calls_by x.number h ≡ x.mine
  pub drafted : Drafted z words x x.draft

-- a view: what it has seen and was told are beginnings of the history; the opener alone gives numbers
pub record ViewFits (z : StoreSize) (words : List ℕ) (h : List StoreCall) (owner : ℕ → ℕ)
    (opener_at id : ℕ) (v : View) : Type 0 where
  pub size_is : v.size ≡ z
  pub opens : (g : ℕ) → v.given ≡ Some g → (id ≡ opener_at) × (slice_index words number_word ≡ g)
  pub seen : IsPrefix v.seen h
  pub told : IsPrefix v.told h
  pub held : (k : ℕ) (x : Held) → get_elem? v.held k ≡ some x → HeldFits z words h owner id x

-- the whole rule: there is one legal history, with which the words and each view that isn't spent agree
pub record IsKept (z : StoreSize) (s : State ℕ View) : Type 0 where
  pub history : List StoreCall
  pub owner : ℕ → ℕ
  pub opener_at : ℕ
  pub legal : IsHistory z history
  pub words_fit : WordsFit z s.words history
  pub views_fit : (id : ℕ) (v : View) → get_elem? s.views id ≡ some v → v.live ≡ true
      → ViewFits z s.words history owner opener_at id v
