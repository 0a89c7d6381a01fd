-- The items and declarators of a source, one at a time.
use Rattle.std.proofs.Common.{◌≡◌, ◌∙◌, ℕ, ◌+◌, ◌<◌, ◌≤◌, List, [], ◌∷◌, ◌++◌, length, take, drop, get_or, ap, refl, sym, append-nil}
use Rattle.std.proofs.lemmas.List.{at_drop_all, at_drop_more, take-append-drop, take_more}
use Rattle.c_typed.specs.declared.statement.TypedInitDeclarator.{TypedInitDeclarator}
use Rattle.c_typed.specs.declared.unit.TypedItem.{TypedItem}
use Rattle.c_typed.specs.declared.unit.TypedItem.TheVariants as item
use Rattle.elab_pieces.specs.Globals.{declared_globals, globals}
use Rattle.elab_pieces.specs.Program.{definitions}
use Rattle.elab.proofs.Layouts.{declared_append, with_append}

-- ---- declarators

pub declared_first : (d : TypedInitDeclarator) (ds : List TypedInitDeclarator)
    → declared_globals (d ∷ ds) [] ≡ declared_globals (d ∷ []) [] ++ declared_globals ds []
declared_first d ds = with_append d d.entity (declared_globals ds []) [] (declared_globals ds []) refl

module _ (ds : List TypedInitDeclarator) (i : ℕ) where
  pub declared_turn : (d : TypedInitDeclarator) → i < length ds
      → declared_globals (drop i ds) [] ≡ declared_globals (get_or ds i d ∷ []) [] ++ declared_globals (drop (i + 1) ds) []
  declared_turn d within = at_drop_more (λ es. declared_globals es []) ds i d within ∙ declared_first (get_or ds i d) (drop (i + 1) ds)

  pub declared_end : length ds ≤ i → declared_globals (drop i ds) [] ≡ []
  declared_end h = at_drop_all (λ es. declared_globals es []) ds i h

-- ---- items

pub globals_first : (x : TypedItem) (xs : List TypedItem) → globals (x ∷ xs) ≡ globals (x ∷ []) ++ globals xs
globals_first (item.Decl d) xs = declared_append d.declarators (globals xs)
globals_first (item.Function f) xs = refl
globals_first (item.Typedef s ds) xs = refl

pub definitions_append : (xs ys : List TypedItem) → definitions (xs ++ ys) ≡ definitions xs ++ definitions ys
definitions_append [] ys = refl
definitions_append (item.Function f ∷ xs) ys = ap (λ fs. f ∷ fs) (definitions_append xs ys)
definitions_append (item.Decl d ∷ xs) ys = definitions_append xs ys
definitions_append (item.Typedef s ds ∷ xs) ys = definitions_append xs ys

module _ (xs : List TypedItem) (i : ℕ) where
  pub globals_turn : (d : TypedItem) → i < length xs → globals (drop i xs) ≡ globals (get_or xs i d ∷ []) ++ globals (drop (i + 1) xs)
  globals_turn d within = at_drop_more globals xs i d within ∙ globals_first (get_or xs i d) (drop (i + 1) xs)

  pub globals_end : length xs ≤ i → globals (drop i xs) ≡ []
  globals_end h = at_drop_all globals xs i h

  pub definitions_next : (d : TypedItem) → i < length xs
      → definitions (drop i xs) ≡ definitions (get_or xs i d ∷ []) ++ definitions (drop (i + 1) xs)
  definitions_next d within =
      at_drop_more definitions xs i d within ∙ definitions_append (get_or xs i d ∷ []) (drop (i + 1) xs)

  -- the definitions so far, and one item more
  pub definitions_turn : (d : TypedItem) → i < length xs → definitions (take (i + 1) xs) ≡ definitions (take i xs) ++ definitions (get_or xs i d ∷ [])
  definitions_turn d within = ap definitions (take_more xs i d within) ∙ definitions_append (take i xs) (get_or xs i d ∷ [])

  pub definitions_split : (d : TypedItem) → i < length xs
      → definitions xs ≡ definitions (take i xs) ++ (definitions (get_or xs i d ∷ []) ++ definitions (drop (i + 1) xs))
  definitions_split d within =
      ap definitions (sym (take-append-drop i xs)) ∙ definitions_append (take i xs) (drop i xs)
      ∙ ap (λ fs. definitions (take i xs) ++ fs) (definitions_next d within)

  pub definitions_all : length xs ≤ i → definitions (take i xs) ≡ definitions xs
  definitions_all h =
      sym (append-nil (definitions (take i xs))) ∙ ap (λ fs. definitions (take i xs) ++ fs) (sym (at_drop_all definitions xs i h))
      ∙ sym (definitions_append (take i xs) (drop i xs)) ∙ ap definitions (take-append-drop i xs)
