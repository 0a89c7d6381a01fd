-- Walks of lists of items, from the front on.
use Rattle.std.proofs.Common.{◌≡◌, ◌∙◌, ℕ, suc, List, [], ◌∷◌, ◌++◌, Ok, Err, refl, ap, sym, append_assoc}
use Rattle.std.proofs.lemmas.List.{append-nil}
use Rattle.c_tree.specs.declared.statement.Item.{Item}
use Rattle.c_typed.specs.declared.unit.TypedItem.{TypedItem}
use Rattle.c_scope.specs.declared.world.World.{World}
use Rattle.c_typing.specs.Sources.{Verdict, items_behind, numbered_item, typed_items, with_first}

-- what was found before stands in front
abbrev behind : List TypedItem → Verdict (List TypedItem × World) → Verdict (List TypedItem × World)
behind found (Ok r) = Ok (found ++ r.0, r.1)
behind found (Err e) = Err e

abbrev next : (TypedItem → World → Verdict (List TypedItem × World)) → Verdict (TypedItem × World)
    → Verdict (List TypedItem × World)
next rest (Ok r) = rest r.0 r.1
next rest (Err e) = Err e

-- items from this number on, behind these
abbrev pub items_from : List TypedItem → ℕ → List Item → World → Verdict (List TypedItem × World)
items_from found n [] w = Ok (found, w)
items_from found n (i ∷ is) w = next (λ x. items_from (found ++ x ∷ []) (suc n) is) (numbered_item n i w)

regroup : (found : List TypedItem) (x : TypedItem) (r : Verdict (List TypedItem × World))
    → behind (found ++ x ∷ []) r ≡ behind found (with_first x r)
regroup found x (Err e) = refl
regroup found x (Ok r) = ap (λ ys. Ok (ys, r.1)) (append_assoc found (x ∷ []) r.0)

by_first : (found : List TypedItem) (n : ℕ) (is : List Item)
    → ((prefix : List TypedItem) (w : World) → items_from prefix (suc n) is w ≡ behind prefix (typed_items (suc n) is w))
    → (r : Verdict (TypedItem × World))
    → next (λ x. items_from (found ++ x ∷ []) (suc n) is) r ≡ behind found (items_behind (typed_items (suc n) is) r)
by_first found n is rest (Err e) = refl
by_first found n is rest (Ok r) = rest (found ++ r.0 ∷ []) r.1 ∙ regroup found r.0 (typed_items (suc n) is r.1)

items_from-is : (found : List TypedItem) (n : ℕ) (is : List Item) (w : World)
    → items_from found n is w ≡ behind found (typed_items n is w)
items_from-is found n [] w = ap (λ xs. Ok (xs, w)) (sym (append-nil found))
items_from-is found n (i ∷ is) w = by_first found n is (λ prefix. items_from-is prefix (suc n) is) (numbered_item n i w)

alone : (r : Verdict (List TypedItem × World)) → behind [] r ≡ r
alone (Ok r) = refl
alone (Err e) = refl

pub items_from-none : (n : ℕ) (is : List Item) (w : World) → items_from [] n is w ≡ typed_items n is w
items_from-none n is w = items_from-is [] n is w ∙ alone (typed_items n is w)

pub ruleset item_lists = (items_from-none)
