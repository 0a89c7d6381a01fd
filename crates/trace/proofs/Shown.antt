-- The text of records, one by one.
use Rattle.std.proofs.Common.{◌≡◌, ◌||◌, Bool, true, false, cond, List, [], ◌∷◌, ◌++◌, refl, sym, append-nil, ap}
use Rattle.std.specs.List.{flat_map}
use Rattle.meaning.specs.declared.record.Record.{Record}
use Rattle.trace.specs.Text.{is_brief, record_text, trace_text}

-- the text of a record that is shown or isn't, before others
shown_first : (shown : Bool) (r : Record) (text : List Record) → flat_map record_text (cond shown (r ∷ text) text) ≡ flat_map record_text (cond shown (r ∷ []) []) ++ flat_map record_text text
shown_first true r text = ap (λ front. front ++ flat_map record_text text) (sym (append-nil (record_text r)))
shown_first false r text = refl

pub text_of_first : (full : Bool) (r : Record) (rs : List Record) → trace_text full (r ∷ rs) ≡ trace_text full (r ∷ []) ++ trace_text full rs
text_of_first full r rs = shown_first (full || is_brief r) r _
