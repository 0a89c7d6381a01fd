-- What each step of a seat tells it.
use Rattle.std.specs.Prelude.{◌≡◌, ℕ, ◌+◌, ◌-◌, ◌*◌, ◌<◌, ◌≤◌, ◌==◌, Bool, true, false, List, [], ◌∷◌, ◌++◌, Option, None, Some}
use mathlib.Core.Option.{some}
use mathlib.Core.List.{IsPrefix}
use lib.ListN.{get_elem?}
use Rattle.atomic_table.specs.Table.{Me, Step}
use Rattle.meaning.specs.declared.value.Entry.{Entry}
use Rattle.meaning.specs.declared.action.Action.TheVariants.{Get, Put, Alloc, Free, Look, Fork}
use Rattle.meaning.specs.declared.action.Reply.TheVariants.{Nothing, Found, Slot, Flag, Thread}
use Rattle.safe_table.specs.declared.history.StoreCall.{StoreCall}
use Rattle.safe_table.specs.declared.history.StoreSize.{StoreSize}
use Rattle.safe_table.specs.declared.view.Draft.TheVariants.{Blank, Low, Both}
use Rattle.safe_table.specs.declared.view.Held.{Held}
use Rattle.safe_table.specs.declared.view.View.{View}
use Rattle.safe_table.specs.Entries.{low_word, high_word}
use Rattle.safe_table.specs.History.{call, calls_by, IsHistory}
use Rattle.safe_table.specs.Rule.{low_at, high_at, entry_of, any_late, any_crowded}
use Rattle.safe_table.specs.Seat.{HasRecord}
use Rattle.safe_table.specs.inner.Views.{numbered, with_draft, learnt}

abbrev pub Sat : Type 0
Sat = Me ℕ View

-- the seat that held x has made the call c
pub record Calls (v w : View) (x : Held) (c : StoreCall) : Type 0 where
  pub between : List StoreCall
  pub longer : IsPrefix v.seen between
  pub seen : w.seen ≡ between ++ c ∷ []
  pub legal : IsHistory w.size w.seen
  pub held : w.held ≡ record { number = x.number; mine = x.mine ++ c ∷ []; draft = Blank } ∷ []
  pub mine : calls_by x.number w.seen ≡ x.mine ++ c ∷ []
  pub size_is : w.size ≡ v.size
  pub live : w.live ≡ true

-- a load of the cell of the address a
abbrev pub Gets : ℕ → Step ℕ → Sat → ℕ → Sat → Type 0
Gets a st m found m' = (m'.1 ≡ m.1) × ((x : Held) → m.0.held ≡ x ∷ []
    → (e : Option Entry) × Calls m.0 m'.0 x (call x.number (Get a) (Found e) found 0) × HasRecord m.0.size found e)

-- a load of a word of the record that the last call names
abbrev pub Reads : Step ℕ → Sat → ℕ → Sat → Type 0
Reads st m found m' = (m' ≡ m) × ((before : List StoreCall) (c : StoreCall) (e : Entry)
    → m.0.seen ≡ before ++ c ∷ [] → entry_of c.action c.reply ≡ Some e
    → (st.word ≡ low_at m.0.size (c.put - 1) → found ≡ low_word e)
    × (st.word ≡ high_at m.0.size (c.put - 1) → found ≡ high_word e))

-- a store of the low word of the seat's next record
abbrev pub WritesLow : Step ℕ → Sat → ℕ → Sat → Type 0
WritesLow st m found m' = (m'.1 ≡ m.1)
    × ((x : Held) → m.0.held ≡ x ∷ [] → m'.0 ≡ with_draft m.0 x (Low st.first))

-- a store of its high word
abbrev pub WritesHigh : Step ℕ → Sat → ℕ → Sat → Type 0
WritesHigh st m found m' = (m'.1 ≡ m.1)
    × ((x : Held) (low : ℕ) → m.0.held ≡ x ∷ [] → x.draft ≡ Low low → m'.0 ≡ with_draft m.0 x (Both low st.first))

-- a swap of the cell of the address a, where the record has the entry e
abbrev pub Puts : ℕ → Entry → Step ℕ → Sat → ℕ → Sat → Type 0
Puts a e st m found m' = (m'.1 ≡ m.1)
    × ((x : Held) → m.0.held ≡ x ∷ [] → Calls m.0 m'.0 x (call x.number (Put a e) Nothing st.first found))

-- what a seat is told that asks for k slots, at the slot word found
abbrev pub SlotIs : StoreSize → Bool → ℕ → ℕ → Option ℕ → Type 0
SlotIs z true k found s = s ≡ None
SlotIs z false k found s = (1026 + found + k ≤ z.slots → s ≡ Some (1026 + found))
    × (z.slots < 1026 + found + k → s ≡ None)

-- an addition to the slot word, by a seat that asks for k slots
abbrev pub Draws : ℕ → Step ℕ → Sat → ℕ → Sat → Type 0
Draws k st m found m' = (m'.1 ≡ m.1) × ((x : Held) → m.0.held ≡ x ∷ []
    → (s : Option ℕ) × Calls m.0 m'.0 x (call x.number (Alloc k) (Slot s) 0 0)
    × SlotIs m.0.size (any_late x.mine) k found s × (found ≤ m.0.size.slots + 256 * m.0.size.threads))

-- an exchange of the end word of the id i, from 0 to 1
abbrev pub Ends : ℕ → Step ℕ → Sat → ℕ → Sat → Type 0
Ends i st m found m' = (m'.1 ≡ m.1)
    × ((x : Held) → m.0.held ≡ x ∷ [] → Calls m.0 m'.0 x (call x.number (Free i) (Flag (found == 0)) 0 0))

-- a load of the end word of the id i
abbrev pub Looks : ℕ → Step ℕ → Sat → ℕ → Sat → Type 0
Looks i st m found m' = (m'.1 ≡ m.1)
    × ((x : Held) → m.0.held ≡ x ∷ [] → Calls m.0 m'.0 x (call x.number (Look i) (Flag (found == 0)) 0 0))

-- what a seat is told that asks for a thread number, at the thread word found
abbrev pub ThreadIs : StoreSize → Bool → ℕ → Option ℕ → Type 0
ThreadIs z true found t = t ≡ None
ThreadIs z false found t = (1 + found < z.threads → t ≡ Some (1 + found)) × (z.threads ≤ 1 + found → t ≡ None)

-- an addition to the thread word
abbrev pub Forks : Step ℕ → Sat → ℕ → Sat → Type 0
Forks st m found m' = (m'.1 ≡ m.1) × ((x : Held) → m.0.held ≡ x ∷ []
    → (t : Option ℕ) × Calls m.0 m'.0 x (call x.number Fork (Thread t) 0 0)
    × ThreadIs m.0.size (any_crowded x.mine) found t × (found ≤ 2 * m.0.size.threads))

-- a load of word 0: the history so far, with all calls of the numbers held and no others of these
pub record Learns (v w : View) : Type 0 where
  pub is : w ≡ learnt v w.seen
  pub seen : IsPrefix v.seen w.seen
  pub told : IsPrefix v.told w.seen
  pub legal : IsHistory v.size w.seen
  pub mine : (k : ℕ) (x : Held) → get_elem? v.held k ≡ some x → calls_by x.number w.seen ≡ x.mine
  pub named : (k : ℕ) (c : StoreCall) → get_elem? w.seen k ≡ some c → c.by < v.size.threads

abbrev pub Learning : Step ℕ → Sat → ℕ → Sat → Type 0
Learning st m found m' = (m'.1 ≡ m.1) × Learns m.0 m'.0

-- an addition of 1 to the number word, by the opener
abbrev pub Numbers : Step ℕ → Sat → ℕ → Sat → Type 0
Numbers st m found m' = (m'.1 ≡ m.1)
    × ((g : ℕ) → m.0.given ≡ Some g → (found ≡ g) × (m'.0 ≡ record (numbered m.0 g) { given = Some (g + 1) }))
