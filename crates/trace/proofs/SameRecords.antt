-- What `==` says is equal is one record.
use Rattle.std.proofs.Common.{◌≡◌, ℕ, ◌&&◌, nat_eq, true, rules}
use Rattle.std.proofs.lemmas.Bool.{and_parts, eqb-true}
use Rattle.meaning.specs.contracts.record.RecordPartialEq.TheImpl as record_eq
use Rattle.meaning.specs.contracts.action.ActionPartialEq.TheImpl as action_eq
use Rattle.meaning.specs.contracts.action.ReplyPartialEq.TheImpl as reply_eq
use Rattle.meaning.specs.contracts.note.NotePartialEq.TheImpl as note_eq
use Rattle.meaning.specs.declared.record.Record.{Record}
use Rattle.meaning.specs.declared.record.Record.TheVariants.{Steps, Did, Noted, Wrote}
use Rattle.meaning.specs.declared.action.Action.{Action}
use Rattle.meaning.specs.declared.action.Reply.{Reply}
use Rattle.meaning.specs.declared.note.Note.{Note}

same_action : (a b : Action) → action_eq.ghosts.eq a b ≡ true → a ≡ b
same_action a b h = search rules

same_reply : (r s : Reply) → reply_eq.ghosts.eq r s ≡ true → r ≡ s
same_reply r s h = search rules

same_note : (m n : Note) → note_eq.ghosts.eq m n ≡ true → m ≡ n
same_note m n h = search rules

same_did : (t u : ℕ) (a b : Action) (r s : Reply) → (nat_eq t u && (action_eq.ghosts.eq a b && reply_eq.ghosts.eq r s)) ≡ true → Did t a r ≡ Did u b s
same_did t u a b r s h =
    let by_thread = and_parts (nat_eq t u) (action_eq.ghosts.eq a b && reply_eq.ghosts.eq r s) h in
    let by_action = and_parts (action_eq.ghosts.eq a b) (reply_eq.ghosts.eq r s) by_thread.1 in
    cc (eqb-true t u by_thread.0, same_action a b by_action.0, same_reply r s by_action.1)

same_noted : (t u : ℕ) (m n : Note) → (nat_eq t u && note_eq.ghosts.eq m n) ≡ true → Noted t m ≡ Noted u n
same_noted t u m n h =
    let by_thread = and_parts (nat_eq t u) (note_eq.ghosts.eq m n) h in
    cc (eqb-true t u by_thread.0, same_note m n by_thread.1)

pub same_record : (x y : Record) → record_eq.ghosts.eq x y ≡ true → x ≡ y
same_record (Steps t n) (Steps u m) h = search rules
same_record (Steps t n) (Did u b s) h = cc
same_record (Steps t n) (Noted u m) h = cc
same_record (Steps t n) (Wrote b w) h = cc
same_record (Did t a r) (Steps u m) h = cc
same_record (Did t a r) (Did u b s) h = same_did t u a b r s h
same_record (Did t a r) (Noted u m) h = cc
same_record (Did t a r) (Wrote b w) h = cc
same_record (Noted t n) (Steps u m) h = cc
same_record (Noted t n) (Did u b s) h = cc
same_record (Noted t n) (Noted u m) h = same_noted t u n m h
same_record (Noted t n) (Wrote b w) h = cc
same_record (Wrote a v) (Steps u m) h = cc
same_record (Wrote a v) (Did u b s) h = cc
same_record (Wrote a v) (Noted u m) h = cc
same_record (Wrote a v) (Wrote b w) h = search rules
