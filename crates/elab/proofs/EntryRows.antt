-- The initialisers of globals and strings, one behind the other.
use Rattle.std.proofs.Common.{◌≡◌, ◌∙◌, ℕ, suc, ◌+◌, ◌<◌, List, [], ◌∷◌, ◌++◌, length, drop, get_or, ap, sym, subst, arith, Some, Ok, Err}
use Rattle.std.proofs.lemmas.List.{at_drop_more}
use Rattle.c_typed.specs.declared.statement.TypedInit.TheVariants as init
use Rattle.elab_emit.specs.Emits.{IsSound, Stops}
use Rattle.elab_emit.specs.declared.emitter.Trouble.{Trouble}
use Rattle.elab_rows.specs.declared.scope.Scope.{Scope}
use Rattle.elab_pieces.specs.Entry.{globals_initialised, optional_given, strings_initialised}
use Rattle.elab_pieces.specs.Globals.{Global, string_type}
use Rattle.elab_pieces.specs.Lines.{Piece, PieceCode, joined, joined_made, led}
use Rattle.elab_statements.specs.declared.body.Body.{Body}
use Rattle.elab_statements.specs.Bodies.{PieceOutcome, piece_at}
use Rattle.elab_statements.specs.inner.Pieces.{Reaches, joined_assoc, joined_none, joined_step, joined_stop, reaches_end}
use Rattle.elab.specs.inner.Programs.{RunOutcome}

module _ (scope : Scope) where
  pub globals_append : (g : ℕ) (vs ws : List Global) (place slot : ℕ) → globals_initialised scope g (vs ++ ws) place slot
      ≡ joined (globals_initialised scope g vs) (globals_initialised scope (g + length vs) ws) place slot
  globals_append g [] ws place slot =
      let e : g ≡ g + 0 = omega arith in
      ap (λ n. globals_initialised scope n ws place slot) e ∙ sym (joined_none (globals_initialised scope (g + 0) ws) place slot)
  globals_append g (v ∷ vs) ws place slot =
      let first = optional_given scope g v.ty v.init in
      let x = first place slot in
      let e : suc g + length vs ≡ g + length (v ∷ vs) = omega arith in
      ap (λ p. joined_made x p) (globals_append (suc g) vs ws (place + length x.lines) x.slot)
      ∙ joined_assoc first (globals_initialised scope (suc g) vs) (globals_initialised scope (suc g + length vs) ws) place slot
      ∙ ap (λ n. joined (joined first (globals_initialised scope (suc g) vs)) (globals_initialised scope n ws) place slot) e

  -- what a string adds in its object
  abbrev pub string_given : ℕ → List ℕ → PieceCode
  string_given g s = optional_given scope g (string_type s) (Some (init.Text s))

-- ---- loops over globals and strings

module _ (scope : Scope) (g : ℕ) (vs : List Global) (start : Body) (all : Piece) (now : Body)
    (h : Reaches start all now (piece_at now (globals_initialised scope g vs))) where
  pub globals_whole : vs ≡ [] → PieceOutcome start all (Ok tt) now
  globals_whole e = reaches_end start all now (subst (λ us. Reaches start all now (piece_at now (globals_initialised scope g us))) e h)

  -- those of one declaration
  module _ (us ws : List Global) (e : vs ≡ us ++ ws) (next : Body) where
    these : Reaches start all now (piece_at now (joined (globals_initialised scope g us) (globals_initialised scope (g + length us) ws)))
    these =
        subst (λ p. Reaches start all now p)
        (ap (λ xs. piece_at now (globals_initialised scope g xs)) e ∙ globals_append scope g us ws (length now.out.code) now.out.slot) h

    pub declaration_further : (n : ℕ) → RunOutcome now (globals_initialised scope g us) (g + length us) (Ok n) next → IsSound next.out
        → Reaches start all next (piece_at next (globals_initialised scope n ws))
    declaration_further n o s =
        subst (λ f. Reaches start all next (piece_at next (globals_initialised scope f ws))) (sym o.1)
        (joined_step start all now (globals_initialised scope g us) (globals_initialised scope (g + length us) ws) these next o.0 s)

    pub declaration_stops : (f : Trouble) → RunOutcome now (globals_initialised scope g us) (g + length us) (Err f) next → Stops start.out (led 0 0 all.lines) f
    declaration_stops f o = joined_stop start all now (globals_initialised scope g us) (globals_initialised scope (g + length us) ws) these f o

module _ (scope : Scope) (ss : List (List ℕ)) (start : Body) (all : Piece) (now : Body) (i g : ℕ)
    (h : Reaches start all now (piece_at now (strings_initialised scope g (drop i ss)))) where
  module _ (d : List ℕ) (within : i < length ss) (next : Body) where
    abbrev text : PieceCode
    text = string_given scope g (get_or ss i d)

    next_string : Reaches start all now (piece_at now (joined text (strings_initialised scope (suc g) (drop (i + 1) ss))))
    next_string =
        subst (λ c. Reaches start all now (piece_at now c)) (at_drop_more (strings_initialised scope g) ss i d within) h

    pub strings_further : PieceOutcome now (piece_at now text) (Ok tt) next → IsSound next.out → (n : ℕ) → n ≡ g + 1
        → Reaches start all next (piece_at next (strings_initialised scope n (drop (i + 1) ss)))
    strings_further o s n m =
        let k : suc g ≡ n = omega (arith, m) in
        subst (λ f. Reaches start all next (piece_at next (strings_initialised scope f (drop (i + 1) ss)))) k
        (joined_step start all now text (strings_initialised scope (suc g) (drop (i + 1) ss)) next_string next o s)

    pub strings_stop : (f : Trouble) → PieceOutcome now (piece_at now text) (Err f) next → Stops start.out (led 0 0 all.lines) f
    strings_stop f o = joined_stop start all now text (strings_initialised scope (suc g) (drop (i + 1) ss)) next_string f o
