-- An item's line and the item determine each other.
use Rattle.std.proofs.Common.{◌≡◌, ◌≢◌, ℕ, ◌^◌, ◌<◌, ◌≤◌, true, false, Bool, List, [], ◌∷◌, ◌++◌, refl, sym, ap, ◌∙◌, arith, Option, None, Some, IfSome, codes}
use Rattle.std.specs.Prelude.{decimal}
use Rattle.std.specs.Fmt.{signed_decimal}
use Rattle.std.specs.Option.{option_map}
use Rattle.std.specs.Str.{all_ascii_digits, bytes_eq}
use Rattle.std.proofs.lemmas.Bool.{cond-false, both_ways, false_from_ne_true, lt-ltb}
use Rattle.std.proofs.lemmas.List.{append_cancel_right}
use Rattle.std.proofs.lemmas.Option.{some_pair_parts, none-some}
use Rattle.std.proofs.lemmas.Slice.Eq.{bytes_eq-Decides}
use Rattle.meaning.specs.declared.value.Entry.{Entry}
use Rattle.meaning.specs.declared.value.Entry.TheVariants as entry
use Rattle.meaning.specs.declared.value.Check.TheVariants.{Bounds, Dead, NoBase, NotCode, WrongType, BadFree}
use Rattle.meaning.specs.declared.value.Stop.{Stop}
use Rattle.meaning.specs.declared.value.Stop.TheVariants.{Failed, Divide, Depth, Slots, Budget, Hijack, Wild}
use Rattle.meaning.specs.declared.action.Action.{Action}
use Rattle.meaning.specs.declared.action.Action.TheVariants as act
use Rattle.meaning.specs.declared.action.Reply.{Reply}
use Rattle.meaning.specs.declared.action.Reply.TheVariants as reply
use Rattle.meaning.specs.declared.note.Place.{Place}
use Rattle.meaning.specs.declared.note.Place.TheVariants.{At, Slot}
use Rattle.meaning.specs.declared.note.Note.{Note}
use Rattle.meaning.specs.declared.note.Note.TheVariants as note
use Rattle.meaning.specs.declared.record.Record.{Record}
use Rattle.meaning.specs.declared.record.Record.TheVariants.{Steps, Did, Noted, Wrote}
use Rattle.job.specs.Lines.{lines_of}
use Rattle.fields.specs.Fields.{fields_of, spaced, line, IsPlain, ArePlain}
use Rattle.fields.specs.Numbers.{u32_of}
use Rattle.fields.specs.Reading.{Fields, Reads, pure, said}
use Rattle.fields.specs.Theorems.{FieldLaws}
use Rattle.trace.specs.Text.{entry_fields, did_fields, note_fields, place_fields, stop_field, flag_field, option_field}
use Rattle.trace_reader.specs.declared.item.Item.{Item}
use Rattle.trace_reader.specs.declared.item.Item.TheVariants.{Given, Recorded}
use Rattle.trace_reader.specs.FullText.{IsFoundEntry, IsOptional, IsDeed, IsPlace, IsNote}
use Rattle.trace_reader.specs.inner.Items.{item_text, IsItem, item_fields, IsReading}
use Rattle.trace_reader.specs.inner.Reading.{based, tagged, found, flag, optional, placed, place, check_word, stop_word, steps, get, put, load, store, lock, alloc, free, look, fork, input, print, call, icall, start_at, start, returned, code_slot, code_own, stopped, inner_note, transfer, outside, region, memory, given, wrote, threaded, item, whole}

-- the first field of an item's line, and the others
record Shape (x : Item) : Type 0 where
  first : List ℕ
  others : Fields
  fields : item_fields x ≡ first ∷ others
  text : item_text x ≡ line first others

shape : (x : Item) → Shape x
shape (Given v) = record { first = codes "in"; others = signed_decimal v ∷ []; fields = refl; text = refl }
shape (Recorded (Steps t n)) = record { first = decimal t; others = codes "steps" ∷ decimal n ∷ []; fields = refl; text = refl }
shape (Recorded (Did t action reply)) = record { first = decimal t; others = did_fields action reply; fields = refl; text = refl }
shape (Recorded (Noted t n)) = record { first = decimal t; others = note_fields n; fields = refl; text = refl }
shape (Recorded (Wrote a v)) = record { first = codes "w"; others = decimal a ∷ signed_decimal v ∷ []; fields = refl; text = refl }

stop_is : (stop : Stop) → stop_word (stop_field stop) ≡ Some stop
unfolding stop_word check_word
stop_is (Failed Bounds) = refl
stop_is (Failed Dead) = refl
stop_is (Failed NoBase) = refl
stop_is (Failed NotCode) = refl
stop_is (Failed WrongType) = refl
stop_is (Failed BadFree) = refl
stop_is Divide = refl
stop_is Depth = refl
stop_is Slots = refl
stop_is Budget = refl
stop_is Hijack = refl
stop_is Wild = refl

stop_plain : (stop : Stop) → IsPlain (stop_field stop)
stop_plain (Failed Bounds) = refl
stop_plain (Failed Dead) = refl
stop_plain (Failed NoBase) = refl
stop_plain (Failed NotCode) = refl
stop_plain (Failed WrongType) = refl
stop_plain (Failed BadFree) = refl
stop_plain Divide = refl
stop_plain Depth = refl
stop_plain Slots = refl
stop_plain Budget = refl
stop_plain Hijack = refl
stop_plain Wild = refl

flag_is : (b : Bool) → flag (flag_field b ∷ []) ≡ Some (b, [])
unfolding flag
flag_is true = refl
flag_is false = refl

flag_plain : (b : Bool) → IsPlain (flag_field b)
flag_plain true = refl
flag_plain false = refl

module _ (laws : FieldLaws) where
  -- ---- the parts of a line are read from their fields

  -- a number is no word
  not_digits : (n : ℕ) (w : List ℕ) → n < 2 ^ 64 → all_ascii_digits w ≡ false → bytes_eq (decimal n) w ≡ false
  not_digits n w few other =
      false_from_ne_true _ (λ yes. both_ways (all_ascii_digits w) other (ap all_ascii_digits (sym ((bytes_eq-Decides (decimal n) w).0 yes)) ∙ laws.digits n few))

  found_is : (e : Option Entry) → IsFoundEntry e → found (entry_fields e) ≡ Some (e, [])
  unfolding found tagged based
  found_is None is = refl
  found_is (Some (entry.Bare v)) is = rw (laws.small_is_read v [] is) refl
  found_is (Some (entry.Based value lower upper id)) is =
      rw (laws.small_is_read value (decimal lower ∷ decimal upper ∷ decimal id ∷ []) is.0, laws.small_is_read lower (decimal upper ∷ decimal id ∷ []) is.1, laws.small_is_read upper (decimal id ∷ []) is.2, laws.small_is_read id [] is.3) refl
  found_is (Some (entry.Code f)) is = rw (laws.small_is_read f [] is) refl

  optional_is : (m : Option ℕ) → IsOptional (2 ^ 32) m → optional (option_field m ∷ []) ≡ Some (m, [])
  unfolding optional
  optional_is None is = refl
  optional_is (Some n) is =
      ap (λ r. r []) (cond-false (bytes_eq (decimal n) (codes "none")) (pure None) (said (option_map Some (u32_of (decimal n)))) (not_digits n (codes "none") (omega arith) refl))
      ∙ ap (λ o. said (option_map Some o) []) (laws.u32_is n is)

  place_is : (p : Place) → IsPlace p → place (place_fields p) ≡ Some (p, [])
  unfolding place placed
  place_is (At a) is = rw (laws.small_is_read a [] is) refl
  place_is (Slot depth slot) is = rw (laws.small_is_read depth (decimal slot ∷ []) is.0, laws.small_is_read slot [] is.1) refl

  -- ---- and so are the records of a thread

  deed_is : (t : ℕ) (action : Action) (answer : Reply) → IsDeed action answer → threaded t (did_fields action answer) ≡ Some (Recorded (Did t action answer), [])
  unfolding threaded memory region outside get put load store lock alloc free look fork input print
  deed_is t (act.Get a) (reply.Found e) is = rw (laws.small_is_read a (entry_fields e) is.0, found_is e is.1) refl
  deed_is t (act.Put a e) reply.Nothing is = rw (laws.small_is_read a (entry_fields (Some e)) is.0, found_is (Some e) is.1) refl
  deed_is t (act.Load a) (reply.Word v) is = rw (laws.small_is_read a (signed_decimal v ∷ []) is.0, laws.word_is_read v [] is.1) refl
  deed_is t (act.Store a v) reply.Nothing is = rw (laws.small_is_read a (signed_decimal v ∷ []) is.0, laws.word_is_read v [] is.1) refl
  deed_is t (act.TryLock a) (reply.Word v) is = rw (laws.small_is_read a (signed_decimal v ∷ []) is.0, laws.word_is_read v [] is.1) refl
  deed_is t (act.Alloc k) (reply.Slot s) is = rw (laws.small_is_read k (option_field s ∷ []) is.0, optional_is s is.1) refl
  deed_is t (act.Free i) (reply.Flag b) is = rw (laws.small_is_read i (flag_field b ∷ []) is, flag_is b) refl
  deed_is t (act.Look i) (reply.Flag b) is = rw (laws.small_is_read i (flag_field b ∷ []) is, flag_is b) refl
  deed_is t act.Fork (reply.Thread None) is = rw (optional_is None tt) refl
  deed_is t act.Fork (reply.Thread (Some m)) is = rw (optional_is (Some m) (omega (arith, is)), lt-ltb m 256 (omega (arith, is))) refl
  deed_is t (act.Input k) (reply.Word v) is = rw (laws.word_is_read k (signed_decimal v ∷ []) is.0, laws.word_is_read v [] is.1) refl
  deed_is t (act.Print v) reply.Nothing is = rw (laws.word_is_read v [] is) refl
  deed_is t _ _ is = absurd is

  note_is : (t : ℕ) (n : Note) → IsNote n → threaded t (note_fields n) ≡ Some (Recorded (Noted t n), [])
  unfolding threaded memory region outside transfer inner_note call icall start start_at returned code_slot code_own stopped
  note_is t (note.Call depth f from) is =
      rw (laws.small_is_read depth (decimal f ∷ decimal from ∷ []) is.0, laws.small_is_read f (decimal from ∷ []) is.1, laws.small_is_read from [] is.2) refl
  note_is t (note.Indirect depth f from target) is =
      rw (laws.small_is_read depth (decimal f ∷ decimal from ∷ place_fields target) is.0, laws.small_is_read f (decimal from ∷ place_fields target) is.1, laws.small_is_read from (place_fields target) is.2, place_is target is.3) refl
  note_is t (note.Start f at) is =
      rw (laws.small_is_read f (codes "at" ∷ decimal at ∷ []) is.0, laws.small_is_read at [] is.1) refl
  note_is t (note.Return depth f to) is =
      rw (laws.small_is_read depth (decimal f ∷ decimal to ∷ []) is.0, laws.small_is_read f (decimal to ∷ []) is.1, laws.small_is_read to [] is.2) refl
  note_is t note.End is = refl
  note_is t (note.CodeSlot depth slot f) is =
      rw (laws.small_is_read depth (decimal slot ∷ decimal f ∷ []) is.0, laws.small_is_read slot (decimal f ∷ []) is.1, laws.small_is_read f [] is.2) refl
  note_is t (note.CodeOwn at f) is = rw (laws.small_is_read at (decimal f ∷ []) is.0, laws.small_is_read f [] is.1) refl
  note_is t (note.Stopped stop) is = rw (stop_is stop) refl

  steps_are : (t n : ℕ) → 0 < n → n < 2 ^ 64 → threaded t (codes "steps" ∷ decimal n ∷ []) ≡ Some (Recorded (Steps t n), [])
  unfolding threaded memory region outside steps
  steps_are t n some few = rw (laws.number_is_read n [] few, lt-ltb 0 n some) refl

  of_thread : (t : ℕ) (fs : Fields) (r : Record) → t < 16 → threaded t fs ≡ Some (Recorded r, []) → whole (decimal t ∷ fs) ≡ Some (Recorded r, [])
  unfolding whole item
  of_thread t fs r few is =
      rw (not_digits t (codes "in") (omega arith) refl, not_digits t (codes "w") (omega arith) refl, laws.u32_is t (omega arith), lt-ltb t 16 few, is, laws.end_is_read) refl

  -- ---- each item is read from its line's fields

  item_is : (x : Item) → IsItem x → whole (item_fields x) ≡ Some (x, [])
  unfolding whole item given wrote
  item_is (Given v) is = rw (laws.word_is_read v [] is, laws.end_is_read) refl
  item_is (Recorded (Steps t n)) is = of_thread t (codes "steps" ∷ decimal n ∷ []) (Steps t n) is.0 (steps_are t n is.1 is.2)
  item_is (Recorded (Did t action answer)) is = of_thread t (did_fields action answer) (Did t action answer) is.0 (deed_is t action answer is.1)
  item_is (Recorded (Noted t n)) is = of_thread t (note_fields n) (Noted t n) is.0 (note_is t n is.1)
  item_is (Recorded (Wrote a v)) is = rw (laws.small_is_read a (signed_decimal v ∷ []) is.0, laws.word_is_read v [] is.1, laws.end_is_read) refl

  -- ---- these fields are plain

  small_plain : (n : ℕ) → n < 2 ^ 32 → IsPlain (decimal n)
  small_plain n few = laws.plain n (omega arith)

  entry_plain : (e : Option Entry) → IsFoundEntry e → ArePlain (entry_fields e)
  entry_plain None is = (refl, tt)
  entry_plain (Some (entry.Bare v)) is = (refl, (small_plain v is, tt))
  entry_plain (Some (entry.Based value lower upper id)) is =
      (refl, (small_plain value is.0, (small_plain lower is.1, (small_plain upper is.2, (small_plain id is.3, tt)))))
  entry_plain (Some (entry.Code f)) is = (refl, (small_plain f is, tt))

  optional_plain : (bound : ℕ) (m : Option ℕ) → bound ≤ 2 ^ 64 → IsOptional bound m → IsPlain (option_field m)
  optional_plain bound None fits is = refl
  optional_plain bound (Some n) fits is = laws.plain n (omega (arith, is))

  deed_plain : (action : Action) (answer : Reply) → IsDeed action answer → ArePlain (did_fields action answer)
  deed_plain (act.Get a) (reply.Found e) is = (refl, (small_plain a is.0, entry_plain e is.1))
  deed_plain (act.Put a e) reply.Nothing is = (refl, (small_plain a is.0, entry_plain (Some e) is.1))
  deed_plain (act.Load a) (reply.Word v) is = (refl, (small_plain a is.0, (laws.plain_word v is.1, tt)))
  deed_plain (act.Store a v) reply.Nothing is = (refl, (small_plain a is.0, (laws.plain_word v is.1, tt)))
  deed_plain (act.TryLock a) (reply.Word v) is = (refl, (small_plain a is.0, (laws.plain_word v is.1, tt)))
  deed_plain (act.Alloc k) (reply.Slot s) is = (refl, (small_plain k is.0, (optional_plain (2 ^ 32) s (omega arith) is.1, tt)))
  deed_plain (act.Free i) (reply.Flag b) is = (refl, (small_plain i is, (flag_plain b, tt)))
  deed_plain (act.Look i) (reply.Flag b) is = (refl, (small_plain i is, (flag_plain b, tt)))
  deed_plain act.Fork (reply.Thread m) is = (refl, (optional_plain (2 ^ 8) m (omega arith) is, tt))
  deed_plain (act.Input k) (reply.Word v) is = (refl, (laws.plain_word k is.0, (laws.plain_word v is.1, tt)))
  deed_plain (act.Print v) reply.Nothing is = (refl, (laws.plain_word v is, tt))
  deed_plain _ _ is = absurd is

  place_plain : (p : Place) → IsPlace p → ArePlain (place_fields p)
  place_plain (At a) is = (refl, (small_plain a is, tt))
  place_plain (Slot depth slot) is = (refl, (small_plain depth is.0, (small_plain slot is.1, tt)))

  note_plain : (n : Note) → IsNote n → ArePlain (note_fields n)
  note_plain (note.Call depth f from) is = (refl, (small_plain depth is.0, (small_plain f is.1, (small_plain from is.2, tt))))
  note_plain (note.Indirect depth f from target) is = (refl, (small_plain depth is.0, (small_plain f is.1, (small_plain from is.2, place_plain target is.3))))
  note_plain (note.Start f at) is = (refl, (small_plain f is.0, (refl, (small_plain at is.1, tt))))
  note_plain (note.Return depth f to) is = (refl, (small_plain depth is.0, (small_plain f is.1, (small_plain to is.2, tt))))
  note_plain note.End is = (refl, tt)
  note_plain (note.CodeSlot depth slot f) is = (refl, (small_plain depth is.0, (small_plain slot is.1, (small_plain f is.2, tt))))
  note_plain (note.CodeOwn at f) is = (refl, (small_plain at is.0, (small_plain f is.1, tt)))
  note_plain (note.Stopped stop) is = (refl, (stop_plain stop, tt))

  plain : (x : Item) → IsItem x → IsPlain (shape x).first × ArePlain (shape x).others
  unfolding shape
  plain (Given v) is = (refl, (laws.plain_word v is, tt))
  plain (Recorded (Steps t n)) is = (laws.plain t (omega (arith, is.0)), (refl, (laws.plain n is.2, tt)))
  plain (Recorded (Did t action answer)) is = (laws.plain t (omega (arith, is.0)), deed_plain action answer is.1)
  plain (Recorded (Noted t n)) is = (laws.plain t (omega (arith, is.0)), note_plain n is.1)
  plain (Recorded (Wrote a v)) is = (refl, (small_plain a is.0, (laws.plain_word v is.1, tt)))

  -- ---- lines

  -- the text of an item's line, without its LF
  abbrev bare_text : Item → List ℕ
  bare_text x = (shape x).first ++ spaced (shape x).others

  bare_fields : (x : Item) → IsItem x → fields_of (bare_text x) ≡ item_fields x
  bare_fields x is =
      let p = plain x is in
      laws.found (shape x).first (shape x).others p.0 p.1 ∙ sym (shape x).fields

  -- a text with an item's line in front has it as its first line
  pub line_comes : (x : Item) (rest : List ℕ) → IsItem x → lines_of (item_text x ++ rest) ≡ item_text x ∷ lines_of rest
  line_comes x rest is =
      let p = plain x is in
      ap (λ t. lines_of (t ++ rest)) (shape x).text ∙ laws.first_line (shape x).first (shape x).others rest p.0 p.1 ∙ ap (λ t. t ∷ lines_of rest) (sym (shape x).text)

  -- one line is one item
  pub one_item : (x y : Item) → IsItem x → IsItem y → item_text x ≡ item_text y → x ≡ y
  one_item x y a b is =
      let texts : bare_text x ≡ bare_text y = append_cancel_right (bare_text x) (bare_text y) (10 ∷ []) (sym (shape x).text ∙ is ∙ (shape y).text) in
      let fields : item_fields x ≡ item_fields y = sym (bare_fields x a) ∙ ap fields_of texts ∙ bare_fields y b in
      (some_pair_parts x y [] [] (sym (item_is x a) ∙ ap whole fields ∙ item_is y b)).0

  -- what is read of the fields of a line is the line's item
  read_some : (text : List ℕ) (x : Item) → fields_of text ≡ item_fields x → text ++ 10 ∷ [] ≡ item_text x
  read_some text x is = ap (λ t. t ++ 10 ∷ []) (laws.text text (shape x).first (shape x).others (is ∙ (shape x).fields)) ∙ sym (shape x).text

  read_none : (text : List ℕ) → whole (fields_of text) ≡ None → (x : Item) → IsItem x → text ++ 10 ∷ [] ≢ item_text x
  read_none text none x is same =
      let bare : text ≡ bare_text x = append_cancel_right text (bare_text x) (10 ∷ []) (same ∙ (shape x).text) in
      none-some (x, []) (sym none ∙ ap (λ t. whole (fields_of t)) bare ∙ ap whole (bare_fields x is) ∙ item_is x is)

  pub reading_is : (raw text : List ℕ) (r : Option Item) (new : Fields) → raw ≡ text ++ 10 ∷ [] → Reads (whole (fields_of text)) r new → IfSome r (λ x. fields_of text ≡ item_fields x) → IfSome r IsItem → IsReading raw r
  reading_is raw text (Some x) new line reads same is = (is, line ∙ read_some text x same)
  reading_is raw text None new line reads same is = λ x may written. read_none text reads x may (sym line ∙ written)

  -- a line without an LF is no item's
  pub no_lf_reading : (raw : List ℕ) → ((front : List ℕ) → raw ≢ front ++ 10 ∷ []) → IsReading raw None
  no_lf_reading raw none = λ x may written. none (bare_text x) (written ∙ (shape x).text)
