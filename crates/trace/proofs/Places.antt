-- Records that are kept, at their places.
use Rattle.std.proofs.Common.{◌≡◌, ℕ, ◌+◌, ◌<◌, List, [], ◌∷◌, ◌++◌, Some, pos, refl, ap, sym, ◌∙◌, length, drop, slice_get, arith}
use Rattle.std.proofs.lemmas.List.{map-append, drop_more, get_or_append_left, get_or_push, length_push}
use Rattle.std.proofs.lemmas.List.Elements.{All-head, All-tail}
use Rattle.std.proofs.lemmas.Option.{slice_get_within, slice_get_read, get_or_from_slice_get}
use Rattle.meaning.specs.declared.record.Record.{Record}
use Rattle.meaning.specs.declared.record.Record.TheVariants.{Wrote}
use Rattle.trace.specs.inner.Kept.{record_at, records_at, ArePlaces}

-- the rest of a list from an element on
pub drop_from : {X : Type 0} (xs : List X) (i : ℕ) (x : X) → slice_get xs i ≡ Some x → drop i xs ≡ x ∷ drop (i + 1) xs
drop_from xs i x h =
    drop_more xs i x (slice_get_within xs i x h) ∙ ap (λ y. y ∷ drop (i + 1) xs) (get_or_from_slice_get xs i x x h)

-- records are where they were behind one more that is kept
pub same_records_at : (kept : List Record) (item : Record) (places : List ℕ) → ArePlaces kept places
    → records_at (kept ++ item ∷ []) places ≡ records_at kept places
same_records_at kept item [] h = refl
same_records_at kept item (p ∷ ps) h =
    let here = get_or_append_left kept (item ∷ []) (Wrote 0 (pos 0)) p (All-head (λ place. place < length kept) p ps h) in
    let rest = same_records_at kept item ps (All-tail (λ place. place < length kept) p ps h) in
    cc

-- a place more
pub records_push : (kept : List Record) (places : List ℕ) (place : ℕ) (item : Record) → slice_get kept place ≡ Some item
    → records_at kept (places ++ place ∷ []) ≡ records_at kept places ++ item ∷ []
records_push kept places place item h =
    map-append (record_at kept) places (place ∷ [])
    ∙ ap (λ r. records_at kept places ++ r ∷ []) (get_or_from_slice_get kept place item (Wrote 0 (pos 0)) h)

-- a record more that is kept behind all others, at its place
pub records_push_kept : (kept : List Record) (places : List ℕ) (item : Record) → ArePlaces kept places
    → records_at (kept ++ item ∷ []) (places ++ length kept ∷ []) ≡ records_at kept places ++ item ∷ []
records_push_kept kept places item h =
    let item_is = slice_get_read (kept ++ item ∷ []) _ (length kept) item refl (omega (arith, length_push kept item)) (sym (get_or_push kept item item _ refl)) in
    records_push (kept ++ item ∷ []) places (length kept) item item_is
    ∙ ap (λ rs. rs ++ item ∷ []) (same_records_at kept item places h)
