-- The history of a shared store: its calls in one order, each with its seat, its reply and its put numbers.
use Rattle.std.specs.Prelude.{◌≡◌, ◌≢◌, ℕ, ◌+◌, ◌≤◌, Bool, true, false, ◌||◌, ◌&&◌, cond, nat_eq, List, [], ◌∷◌, ◌++◌, map, Option}
use Rattle.meaning.specs.declared.value.Entry.{Entry}
use Rattle.meaning.specs.declared.action.Action.{Action}
use Rattle.meaning.specs.declared.action.Action.TheVariants.{Get, Put, Alloc, Free, Look, Fork}
use Rattle.meaning.specs.declared.action.Reply.{Reply}
use Rattle.meaning.specs.Legal.{Call, LegalHistory, last_put}
use Rattle.safe_table.specs.declared.history.StoreCall.{StoreCall}
use Rattle.safe_table.specs.declared.history.StoreSize.{StoreSize}

abbrev pub call : ℕ → Action → Reply → ℕ → ℕ → StoreCall
call by action reply put before =
    record { by = by; action = action; reply = reply; put = put; before = before }

-- the action and the reply alone
abbrev pub answered : StoreCall → Call
answered c = (c.action, c.reply)

abbrev pub calls : List StoreCall → List Call
calls h = map answered h

-- the entry of the last put at an address
abbrev pub last_entry : ℕ → List StoreCall → Option Entry
last_entry a h = last_put a (calls h)

-- the number of the present put of an address behind an action with the number p, where it was n before
abbrev pub number_after : ℕ → ℕ → ℕ → Action → ℕ
number_after a n p (Put b e) = cond (nat_eq b a) p n
number_after a n p _ = n

-- the number of the present put of an address behind these calls, where it was n before them
abbrev pub number_behind : ℕ → ℕ → List StoreCall → ℕ
number_behind a n [] = n
number_behind a n (c ∷ cs) = number_behind a (number_after a n c.put c.action) cs

-- the number of the last put at an address, 0 where there is none
abbrev pub last_number : ℕ → List StoreCall → ℕ
last_number a h = number_behind a 0 h

abbrev pub is_put : Action → Bool
is_put (Put a e) = true
is_put _ = false

-- some put there has this number
abbrev pub has_number : ℕ → List StoreCall → Bool
has_number n [] = false
has_number n (c ∷ cs) = (is_put c.action && nat_eq c.put n) || has_number n cs

-- what a call's numbers are behind these calls; no other action stands in a history
abbrev pub IsNumbered : List StoreCall → StoreCall → Action → Type 0
IsNumbered h c (Put a e) = (c.before ≡ last_number a h) × (c.put ≢ 0) × (has_number c.put h ≡ false)
IsNumbered h c (Get a) = (c.put ≡ last_number a h) × (c.before ≡ 0)
IsNumbered h c (Alloc k) = (c.put ≡ 0) × (c.before ≡ 0) × (1 ≤ k) × (k ≤ 256)
IsNumbered h c (Free i) = (c.put ≡ 0) × (c.before ≡ 0)
IsNumbered h c (Look i) = (c.put ≡ 0) × (c.before ≡ 0)
IsNumbered h c Fork = (c.put ≡ 0) × (c.before ≡ 0)
IsNumbered h c _ = ⊥

-- each reply and each number is right behind the calls before it
pub record IsHistory (z : StoreSize) (h : List StoreCall) : Type 0 where
  pub replies : LegalHistory z.slots z.threads (calls h)
  pub numbers : (before after : List StoreCall) (c : StoreCall) → h ≡ before ++ c ∷ after
      → IsNumbered before c c.action

-- the calls of one seat, in their order
abbrev pub calls_by : ℕ → List StoreCall → List StoreCall
calls_by n [] = []
calls_by n (c ∷ cs) = cond (nat_eq c.by n) (c ∷ calls_by n cs) (calls_by n cs)

abbrev pub put_weight : Action → ℕ
put_weight a = cond (is_put a) 1 0

-- how many puts stand there
abbrev pub puts : List StoreCall → ℕ
puts [] = 0
puts (c ∷ cs) = put_weight c.action + puts cs
