-- The copies of parameters: what is there, and what is left.
use Rattle.std.proofs.Common.{◌≡◌, ◌∙◌, ℕ, suc, ◌+◌, ◌<◌, ◌≤◌, List, [], ◌∷◌, length, drop, get_or, sym, subst, refl, arith, Ok, Err}
use Rattle.std.proofs.lemmas.List.{at_drop_all, at_drop_more}
use Rattle.c_types.specs.declared.ty.Ty.{Ty}
use Rattle.elab_emit.specs.Emits.{IsSound}
use Rattle.elab_emit.specs.declared.emitter.Trouble.{Trouble}
use Rattle.elab_rows.specs.declared.scope.Standing.{Standing}
use Rattle.elab_pieces.specs.Functions.{copy_by, parameter_copies}
use Rattle.elab_pieces.specs.Lines.{Piece, PieceCode, joined, no_lines}
use Rattle.elab_statements.specs.declared.body.Body.{Body}
use Rattle.elab_statements.specs.Bodies.{PieceOutcome, piece_at}
use Rattle.elab_statements.specs.inner.Pieces.{Reaches, joined_step, joined_stop, reaches_end}

no_locals : (s : ℕ) (ts : List Ty) → parameter_copies s ts [] ≡ no_lines
no_locals s [] = refl
no_locals s (t ∷ ts) = refl

module _ (ts : List Ty) (ls : List Standing) (start : Body) (all : Piece) (now : Body) (i : ℕ)
    (h : Reaches start all now (piece_at now (parameter_copies i (drop i ts) (drop i ls)))) where
  -- no local is left, or no parameter
  pub copies_without : length ls ≤ i → PieceOutcome start all (Ok tt) now
  copies_without e =
      reaches_end start all now
      (subst (λ c. Reaches start all now (piece_at now c)) (at_drop_all (parameter_copies i (drop i ts)) ls i e ∙ no_locals i (drop i ts)) h)

  module _ (d : Ty) (within : i < length ts) where
    abbrev t : Ty
    t = get_or ts i d

    abbrev behind : PieceCode
    behind = parameter_copies (i + 1) (drop (i + 1) ts) (drop (i + 1) ls)

    first : (l : Standing) → i < length ls → l ≡ get_or ls i l → parameter_copies i (drop i ts) (drop i ls) ≡ joined (copy_by i t l) behind
    first l k e =
        let m : suc i ≡ i + 1 = omega arith in
        at_drop_more (λ us. parameter_copies i us (drop i ls)) ts i d within
        ∙ at_drop_more (parameter_copies i (t ∷ drop (i + 1) ts)) ls i l k
        ∙ (λ j. joined (copy_by i t (sym e j)) (parameter_copies (m j) (drop (i + 1) ts) (drop (i + 1) ls)))

    module _ (l : Standing) (k : i < length ls) (e : l ≡ get_or ls i l) (next : Body) where
      here : Reaches start all now (piece_at now (joined (copy_by i t l) behind))
      here = subst (λ c. Reaches start all now (piece_at now c)) (first l k e) h

      pub copies_further : PieceOutcome now (piece_at now (copy_by i t l)) (Ok tt) next → IsSound next.out → Reaches start all next (piece_at next behind)
      copies_further g s = joined_step start all now (copy_by i t l) behind here next g s

      pub copies_stop : (f : Trouble) → PieceOutcome now (piece_at now (copy_by i t l)) (Err f) next → PieceOutcome start all (Err f) next
      copies_stop f g = joined_stop start all now (copy_by i t l) behind here f g
