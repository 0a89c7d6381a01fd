-- Views: how they begin, are cut and joined, and what a step makes of one.
use Rattle.std.specs.Prelude.{ℕ, true, false, List, [], ◌∷◌, ◌++◌, None, Some}
use Rattle.safe_table.specs.declared.history.StoreCall.{StoreCall}
use Rattle.safe_table.specs.declared.history.StoreSize.{StoreSize}
use Rattle.safe_table.specs.declared.view.Draft.{Draft}
use Rattle.safe_table.specs.declared.view.Draft.TheVariants.{Blank}
use Rattle.safe_table.specs.declared.view.Held.{Held}
use Rattle.safe_table.specs.declared.view.View.{View}

-- the opener, which has given g numbers
abbrev pub opened : StoreSize → ℕ → View
opened z g = record { live = true; size = z; given = Some g; seen = []; told = []; held = [] }

abbrev pub opener : StoreSize → View
opener z = opened z 0

-- a copy for a meeting, with no number
abbrev pub note : View → View
note v = record { live = v.live; size = v.size; given = None; seen = v.seen; told = []; held = [] }

abbrev pub joined : View → View → View
joined v w =
    record { live = v.live; size = v.size; given = v.given; seen = v.seen; told = w.seen; held = v.held ++ w.held }

abbrev pub no_size : StoreSize
no_size = record { slots = 0; threads = 0; quota = 0 }

abbrev pub spent : View
spent = record { live = false; size = no_size; given = None; seen = []; told = []; held = [] }

abbrev pub newcomer : ℕ → Held
newcomer n = record { number = n; mine = []; draft = Blank }

-- the opener has given one number more, and holds it
abbrev pub numbered : View → ℕ → View
numbered v g =
    record { live = v.live; size = v.size; given = Some g; seen = v.seen; told = v.told; held = newcomer g ∷ [] }

-- the opener keeps the right to number, and the new seat has the number
abbrev pub dealer : View → View
dealer v = record { live = v.live; size = v.size; given = v.given; seen = v.seen; told = v.told; held = [] }

abbrev pub dealt : View → View
dealt v = record { live = v.live; size = v.size; given = None; seen = v.seen; told = []; held = v.held }

abbrev pub with_draft : View → Held → Draft → View
with_draft v x d =
    let one : Held = record { number = x.number; mine = x.mine; draft = d } in
    record { live = v.live; size = v.size; given = v.given; seen = v.seen; told = v.told; held = one ∷ [] }

-- the history is h
abbrev pub learnt : View → List StoreCall → View
learnt v h = record { live = v.live; size = v.size; given = v.given; seen = h; told = v.told; held = v.held }

-- the seat has made the call c behind the history h
abbrev pub called_view : View → Held → List StoreCall → StoreCall → View
called_view v x h c =
    let one : Held = record { number = x.number; mine = x.mine ++ c ∷ []; draft = Blank } in
    record { live = v.live; size = v.size; given = v.given; seen = h ++ c ∷ []; told = v.told; held = one ∷ [] }

abbrev pub mine_in : List Held → List StoreCall
mine_in [] = []
mine_in (x ∷ xs) = x.mine

abbrev pub draft_in : List Held → Draft
draft_in [] = Blank
draft_in (x ∷ xs) = x.draft
