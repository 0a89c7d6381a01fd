-- Loops over lists, whose items have pieces: what is there, and what is left.
use Rattle.std.proofs.Common.{ℕ, ◌+◌, ◌<◌, List, ◌∷◌, length, map, drop, get_or, subst, Ok}
use Rattle.std.proofs.lemmas.List.{at_drop_more}
use Rattle.elab_emit.specs.Emits.{IsSound, Stops}
use Rattle.elab_emit.specs.declared.emitter.Trouble.{Trouble}
use Rattle.elab_pieces.specs.Lines.{Piece, PieceCode, all_joined, led}
use Rattle.elab_statements.specs.declared.body.Body.{Body}
use Rattle.elab_statements.specs.declared.open.Open.{Open}
use Rattle.elab_statements.specs.inner.Pieces.{Reaches, reaches_stop}
use Rattle.elab_statements.specs.Bodies.{piece_at}
use Rattle.elab_statements.specs.inner.Jumps.{Leads, StatementOutcome}
use Rattle.elab_statements.proofs.Joined.{leads_step, leads_stop}

module _ {A : Type 0} (f : A → PieceCode) (xs : List A) where
  -- what is left from an item on
  abbrev pub rest : ℕ → PieceCode
  rest i = all_joined (map f (drop i xs))

  module _ (start : Body) (all : Piece) (now : Body) (i : ℕ) where
    module _ (d : A) (h : i < length xs) (r : Reaches start all now (piece_at now (rest i))) where
      here : Reaches start all now (piece_at now (all_joined (f (get_or xs i d) ∷ map f (drop (i + 1) xs))))
      here = subst (λ c. Reaches start all now (piece_at now c)) (at_drop_more (λ ys. all_joined (map f ys)) xs i d h) r

      pub item_stops : (e : Trouble) → Stops now.out (led 0 0 (piece_at now (f (get_or xs i d))).lines) e → Stops start.out (led 0 0 all.lines) e
      item_stops = reaches_stop start all now (f (get_or xs i d)) (map f (drop (i + 1) xs)) here

  module _ (start : Body) (before : List Open) (all : Piece) (now : Body) (kept : List Open) (i : ℕ) where
    module _ (d : A) (h : i < length xs) (r : Leads start before all now kept (piece_at now (rest i))) where
      here_too : Leads start before all now kept (piece_at now (all_joined (f (get_or xs i d) ∷ map f (drop (i + 1) xs))))
      here_too = subst (λ c. Leads start before all now kept (piece_at now c)) (at_drop_more (λ ys. all_joined (map f ys)) xs i d h) r

      pub leads_item : (next : Body) (more : List Open) → StatementOutcome now kept (piece_at now (f (get_or xs i d))) (Ok tt) next more → IsSound next.out
          → Leads start before all next more (piece_at next (rest (i + 1)))
      leads_item = leads_step start before all now kept (f (get_or xs i d)) (map f (drop (i + 1) xs)) here_too

      pub leading_stops : (e : Trouble) → Stops now.out (led 0 0 (piece_at now (f (get_or xs i d))).lines) e → Stops start.out (led 0 0 all.lines) e
      leading_stops = leads_stop start before all now kept (f (get_or xs i d)) (map f (drop (i + 1) xs)) here_too
