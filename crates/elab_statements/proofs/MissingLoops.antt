-- Loops over scalars and bytes: what is there, and what is left.
use Rattle.std.proofs.Common.{◌≡◌, ◌∙◌, ℕ, pos, ◌+◌, ◌<◌, ◌≤◌, List, [], ◌∷◌, ◌++◌, length, drop, get_or, ap, refl, subst, arith, Some, Ok, Err}
use Rattle.std.proofs.lemmas.List.{at_drop_all, at_drop_more}
use Rattle.c_types.specs.declared.ty.Ty.{Ty}
use Rattle.c_types.specs.declared.ty.Ty.TheVariants as ty
use Rattle.elab_rows.specs.Addresses.{assigned}
use Rattle.elab_emit.specs.Emits.{Stops}
use Rattle.elab_rows.specs.Made.{Code, converted}
use Rattle.elab_rows.specs.Rows.{number}
use Rattle.elab_emit.specs.declared.emitter.Trouble.{Trouble}
use Rattle.elab_pieces.specs.Lines.{Piece, PieceCode, all_full, full, joined, led}
use Rattle.elab_statements.specs.declared.body.Body.{Body}
use Rattle.elab_statements.specs.declared.targets.Target.{Target}
use Rattle.elab_statements.specs.inner.Expressions.{DoneOutcome, made_at}
use Rattle.elab_statements.specs.Bodies.{PieceOutcome, piece_at}
use Rattle.elab_statements.specs.inner.Pieces.{Reaches, joined_stop, reaches_end}
use Rattle.elab_statements.specs.inner.Leaves.{lvalue_of, missing_codes, text_lines}
use Rattle.elab_statements.proofs.Settled.{full_piece}

pub no_items : {A : Type 0} (xs : List A) → length xs ≡ 0 → xs ≡ []
no_items [] h = refl
no_items (x ∷ xs) h = absurd (omega (arith, h))

-- one full expression, and what stands behind it
module _ (start : Body) (all : Piece) (now : Body) (C : Code) (b : PieceCode) (c : PieceCode) (e : c ≡ joined (full C) b)
    (h : Reaches start all now (piece_at now c)) (next : Body) where
  pub one_stops : (t : Trouble) → DoneOutcome now (made_at now C) (Err t) next → Stops start.out (led 0 0 all.lines) t
  one_stops t g =
      joined_stop start all now (full C) b (subst (λ d. Reaches start all now (piece_at now d)) e h) t (full_piece now next C (Err t) g)

abbrev pub missing_value : Target → ℕ → Ty → Code
missing_value x k t = assigned (lvalue_of x (Some k) t) (converted ty.Int t (number (pos 0)))

abbrev pub byte_value : Target → ℕ → Ty → ℕ → Code
byte_value x k t n = assigned (lvalue_of x (Some k) t) (number (pos n))

-- ---- scalars that nothing gives

module _ (x : Target) (ts : List Ty) (start : Body) (all : Piece) (now : Body) (i k : ℕ)
    (h : Reaches start all now (piece_at now (all_full (missing_codes x (drop i ts) k)))) where
  module _ (d : Ty) (within : i < length ts) (next : Body) where
    abbrev value : Code
    value = missing_value x k (get_or ts i d)

    here : all_full (missing_codes x (drop i ts) k) ≡ joined (full value) (all_full (missing_codes x (drop (i + 1) ts) (k + 1)))
    here = at_drop_more (λ ys. all_full (missing_codes x ys k)) ts i d within

    pub missing_stops : (t : Trouble) → DoneOutcome now (made_at now value) (Err t) next → Stops start.out (led 0 0 all.lines) t
    missing_stops t g = one_stops start all now value (all_full (missing_codes x (drop (i + 1) ts) (k + 1))) _ here h next t g

-- ---- the bytes of a string

module _ (x : Target) (bs : List ℕ) (start : Body) (all : Piece) (now : Body) (i k : ℕ) (ts : List Ty)
    (h : Reaches start all now (piece_at now (text_lines x (drop i bs ++ 0 ∷ []) ts k))) where
  module _ (d : ℕ) (within : i < length bs) where
    abbrev byte : ℕ
    byte = get_or bs i d

    -- no scalar is left
    pub text_full : ts ≡ [] → PieceOutcome start all (Ok tt) now
    text_full e =
        reaches_end start all now
        (subst (λ c. Reaches start all now (piece_at now c))
        (at_drop_more (λ ys. text_lines x (ys ++ 0 ∷ []) ts k) bs i d within ∙ ap (λ us. text_lines x (byte ∷ drop (i + 1) bs ++ 0 ∷ []) us k) e) h)

    module _ (t : Ty) (us : List Ty) (e : ts ≡ t ∷ us) (next : Body) where
      first : text_lines x (drop i bs ++ 0 ∷ []) ts k ≡ joined (full (byte_value x k t byte)) (text_lines x (drop (i + 1) bs ++ 0 ∷ []) us (k + 1))
      first =
          at_drop_more (λ ys. text_lines x (ys ++ 0 ∷ []) ts k) bs i d within
          ∙ ap (λ vs. text_lines x (byte ∷ drop (i + 1) bs ++ 0 ∷ []) vs k) e

      pub text_stops : (f : Trouble) → DoneOutcome now (made_at now (byte_value x k t byte)) (Err f) next → Stops start.out (led 0 0 all.lines) f
      text_stops f g = one_stops start all now (byte_value x k t byte) (text_lines x (drop (i + 1) bs ++ 0 ∷ []) us (k + 1)) _ first h next f g

  -- the final 0 is left
  pub text_last : length bs ≤ i → Reaches start all now (piece_at now (text_lines x (0 ∷ []) ts k))
  text_last m = subst (λ c. Reaches start all now (piece_at now c)) (at_drop_all (λ ys. text_lines x (ys ++ 0 ∷ []) ts k) bs i m) h
