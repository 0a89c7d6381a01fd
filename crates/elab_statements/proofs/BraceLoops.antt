-- Loops over the parts in braces: what is there, and what is left.
use Rattle.std.proofs.Common.{◌≡◌, ◌∙◌, ℕ, suc, ◌+◌, ◌<◌, ◌≤◌, List, [], ◌∷◌, length, map, drop, get_or, ap, sym, subst, Result, Ok, Err}
use Rattle.std.proofs.lemmas.List.{at_drop_all, at_drop_more}
use Rattle.c_types.specs.declared.structs.Member.{Member}
use Rattle.c_types.specs.declared.ty.Ty.{Ty}
use Rattle.c_typed.specs.declared.statement.TypedInit.{TypedInit}
use Rattle.elab_emit.specs.Emits.{IsSound}
use Rattle.elab_rows.specs.Units.{repeated, units}
use Rattle.elab_emit.specs.declared.emitter.Trouble.{Trouble}
use Rattle.elab_rows.specs.declared.scope.Scope.{Scope}
use Rattle.elab_pieces.specs.Initialisers.{Leaves, all_scalars, leaves}
use Rattle.elab_pieces.specs.Lines.{Piece, PieceCode, joined}
use Rattle.elab_statements.specs.declared.body.Body.{Body}
use Rattle.elab_statements.specs.declared.targets.Target.{Target}
use Rattle.elab_statements.specs.Bodies.{PieceOutcome, piece_at}
use Rattle.elab_statements.specs.inner.Pieces.{Reaches, joined_step, joined_stop, reaches_end, reaches_last}
use Rattle.elab_statements.specs.inner.Leaves.{element_leaves, leaf_lines, member_leaves, missing_lines}
use Rattle.elab_statements.proofs.LeafLines.{element_first, element_none, element_rest, member_first, member_none, member_rest}

module _ (scope : Scope) (x : Target) (ps : List TypedInit) where
  abbrev given : List TypedInit → List Leaves
  given qs = map (leaves scope.structs) qs

  -- the leaves of a part
  abbrev pub part_lines : TypedInit → Ty → ℕ → PieceCode
  part_lines p t k = leaf_lines scope x (leaves scope.structs p t k)

  -- ---- elements

  abbrev pub element_lines : List TypedInit → Ty → ℕ → ℕ → PieceCode
  element_lines qs t left k = leaf_lines scope x (element_leaves scope.structs (given qs) t left k)

  module _ (t : Ty) (start : Body) (all : Piece) (now : Body) (i left k : ℕ)
      (h : Reaches start all now (piece_at now (element_lines (drop i ps) t left k))) where
    pub elements_full : left ≡ 0 → PieceOutcome start all (Ok tt) now
    elements_full e =
        reaches_end start all now
        (subst (λ c. Reaches start all now (piece_at now c))
        (ap (λ n. element_lines (drop i ps) t n k) e ∙ element_none scope x (given (drop i ps)) t k) h)

    pub elements_rest : length ps ≤ i → (r : Result (Unit {0}) Trouble) (new : Body)
        → PieceOutcome now (piece_at now (missing_lines x (all_scalars scope.structs (repeated left (t ∷ []))) k)) r new → PieceOutcome start all r new
    elements_rest m r new g =
        let same : element_lines (drop i ps) t left k ≡ missing_lines x (all_scalars scope.structs (repeated left (t ∷ []))) k =
        at_drop_all (λ qs. element_lines qs t left k) ps i m ∙ element_rest scope x t left k in
        reaches_last start all now (piece_at now (missing_lines x (all_scalars scope.structs (repeated left (t ∷ []))) k))
        (subst (λ c. Reaches start all now (piece_at now c)) same h) r new g

    module _ (d : TypedInit) (within : i < length ps) (n : ℕ) (e : left ≡ suc n) where
      abbrev behind : PieceCode
      behind = element_lines (drop (i + 1) ps) t n (k + units scope.structs t)

      element_here : Reaches start all now (piece_at now (joined (part_lines (get_or ps i d) t k) behind))
      element_here =
          let same : piece_at now (element_lines (drop i ps) t left k) ≡ piece_at now (joined (part_lines (get_or ps i d) t k) behind) =
          at_drop_more (λ qs. piece_at now (element_lines qs t left k)) ps i d within
          ∙ ap (λ l. piece_at now (element_lines (get_or ps i d ∷ drop (i + 1) ps) t l k)) e
          ∙ element_first scope x (leaves scope.structs (get_or ps i d)) (given (drop (i + 1) ps)) t n k (length now.out.code) now.out.slot in
          subst (λ p. Reaches start all now p) same h

      pub element_further : (next : Body) → PieceOutcome now (piece_at now (part_lines (get_or ps i d) t k)) (Ok tt) next → IsSound next.out
          → (at : ℕ) → at ≡ k + units scope.structs t → Reaches start all next (piece_at next (element_lines (drop (i + 1) ps) t n at))
      element_further next g s at m =
          subst (λ o. Reaches start all next (piece_at next (element_lines (drop (i + 1) ps) t n o))) (sym m)
          (joined_step start all now (part_lines (get_or ps i d) t k) behind element_here next g s)

      pub element_stops : (next : Body) (f : Trouble) → PieceOutcome now (piece_at now (part_lines (get_or ps i d) t k)) (Err f) next → PieceOutcome start all (Err f) next
      element_stops next f g = joined_stop start all now (part_lines (get_or ps i d) t k) behind element_here f g

  -- ---- members

  abbrev pub member_lines : List TypedInit → List Member → ℕ → PieceCode
  member_lines qs left k = leaf_lines scope x (member_leaves scope.structs (given qs) left k)

  module _ (start : Body) (all : Piece) (now : Body) (i : ℕ) (left : List Member) (k : ℕ)
      (h : Reaches start all now (piece_at now (member_lines (drop i ps) left k))) where
    pub members_full : left ≡ [] → PieceOutcome start all (Ok tt) now
    members_full e =
        reaches_end start all now
        (subst (λ c. Reaches start all now (piece_at now c))
        (ap (λ ms. member_lines (drop i ps) ms k) e ∙ member_none scope x (given (drop i ps)) k) h)

    pub members_rest : length ps ≤ i → (r : Result (Unit {0}) Trouble) (new : Body)
        → PieceOutcome now (piece_at now (missing_lines x (all_scalars scope.structs (map (λ m. m.ty) left)) k)) r new → PieceOutcome start all r new
    members_rest m r new g =
        let same : member_lines (drop i ps) left k ≡ missing_lines x (all_scalars scope.structs (map (λ n. n.ty) left)) k =
        at_drop_all (λ qs. member_lines qs left k) ps i m ∙ member_rest scope x left k in
        reaches_last start all now (piece_at now (missing_lines x (all_scalars scope.structs (map (λ n. n.ty) left)) k))
        (subst (λ c. Reaches start all now (piece_at now c)) same h) r new g

    module _ (d : TypedInit) (within : i < length ps) (m : Member) (ms : List Member) (e : left ≡ m ∷ ms) where
      abbrev beyond : PieceCode
      beyond = member_lines (drop (i + 1) ps) ms (k + units scope.structs m.ty)

      member_here : Reaches start all now (piece_at now (joined (part_lines (get_or ps i d) m.ty k) beyond))
      member_here =
          let same : piece_at now (member_lines (drop i ps) left k) ≡ piece_at now (joined (part_lines (get_or ps i d) m.ty k) beyond) =
          at_drop_more (λ qs. piece_at now (member_lines qs left k)) ps i d within
          ∙ ap (λ l. piece_at now (member_lines (get_or ps i d ∷ drop (i + 1) ps) l k)) e
          ∙ member_first scope x (leaves scope.structs (get_or ps i d)) (given (drop (i + 1) ps)) m ms k (length now.out.code) now.out.slot in
          subst (λ p. Reaches start all now p) same h

      pub member_further : (next : Body) → PieceOutcome now (piece_at now (part_lines (get_or ps i d) m.ty k)) (Ok tt) next → IsSound next.out
          → (at : ℕ) → at ≡ k + units scope.structs m.ty → Reaches start all next (piece_at next (member_lines (drop (i + 1) ps) ms at))
      member_further next g s at f =
          subst (λ o. Reaches start all next (piece_at next (member_lines (drop (i + 1) ps) ms o))) (sym f)
          (joined_step start all now (part_lines (get_or ps i d) m.ty k) beyond member_here next g s)

      pub member_stops : (next : Body) (f : Trouble) → PieceOutcome now (piece_at now (part_lines (get_or ps i d) m.ty k)) (Err f) next → PieceOutcome start all (Err f) next
      member_stops next f g = joined_stop start all now (part_lines (get_or ps i d) m.ty k) beyond member_here f g
