-- One statement behind another, and lists of statements with their open jumps.
use Rattle.std.proofs.Common.{◌≡◌, ◌∙◌, ◌+◌, List, [], ◌∷◌, ◌++◌, length, ap, refl, sym, append_assoc, append-nil, Result, Ok, Err}
use Rattle.elab_emit.specs.Emits.{IsSound, Stops}
use Rattle.elab_emit.specs.declared.emitter.Trouble.{Trouble}
use Rattle.elab_pieces.specs.Lines.{Piece, PieceCode, all_joined, joined, led}
use Rattle.elab_statements.specs.declared.body.Body.{Body}
use Rattle.elab_statements.specs.declared.open.Open.{Open}
use Rattle.elab_statements.specs.inner.Jumps.{Leads, StatementOutcome, opens}
use Rattle.elab_statements.specs.Bodies.{PieceOutcome, piece_at}
use Rattle.elab_statements.specs.inner.Pieces.{Reaches, grown, joined_step, joined_stop, reaches_end, reaches_last, reaches_start, reaches_step, reaches_stop}
use Rattle.elab_statements.proofs.Lead.{opens_append}

-- ---- two pieces

module _ (old : Body) (s : IsSound old.out) (a b : PieceCode) (mid : Body) where
  pub two_pieces : PieceOutcome old (piece_at old a) (Ok tt) mid → IsSound mid.out → (r : Result (Unit {0}) Trouble) (new : Body)
      → PieceOutcome mid (piece_at mid b) r new → PieceOutcome old (piece_at old (joined a b)) r new
  two_pieces h sm r new k =
      let all = piece_at old (joined a b) in
      reaches_last old all mid (piece_at mid b) (joined_step old all old a b (reaches_start old (joined a b) s) mid h sm) r new k

  pub two_stops : (e : Trouble) → PieceOutcome old (piece_at old a) (Err e) mid → PieceOutcome old (piece_at old (joined a b)) (Err e) mid
  two_stops e k =
      let all = piece_at old (joined a b) in joined_stop old all old a b (reaches_start old (joined a b) s) e k

-- ---- lists of statements, with their open jumps

module _ (start : Body) (before : List Open) where
  pub leads_start : (c : PieceCode) → IsSound start.out → Leads start before (piece_at start c) start before (piece_at start c)
  leads_start c s = record { reaches = reaches_start start c s; opened = refl }

  module _ (all : Piece) (now : Body) (kept : List Open) where
    pub leads_end : Leads start before all now kept (piece_at now (all_joined [])) → StatementOutcome start before all (Ok tt) now kept
    leads_end h = (reaches_end start all now h.reaches, sym (h.opened ∙ append-nil kept))

    module _ (a : PieceCode) (others : List PieceCode) (h : Leads start before all now kept (piece_at now (all_joined (a ∷ others)))) where
      pub leads_step : (next : Body) (more : List Open) → StatementOutcome now kept (piece_at now a) (Ok tt) next more → IsSound next.out
          → Leads start before all next more (piece_at next (all_joined others))
      leads_step next more g s =
          let x = piece_at now a in
          let y = all_joined others (length now.out.code + length x.lines) x.slot in
          let same : piece_at next (all_joined others) ≡ y = λ i. all_joined others (grown now x next g.0 i) (g.0.next_slot i) in
          record {
            reaches = reaches_step start all now a others h.reaches next g.0 s;
            opened = h.opened ∙ ap (λ os. kept ++ os) (opens_append (length now.out.code) x.lines y.lines)
                ∙ sym (append_assoc kept (opens (length now.out.code) x.lines) (opens (length now.out.code + length x.lines) y.lines))
                ∙ (λ i. sym g.1 i ++ opens (sym (grown now x next g.0) i) (sym same i).lines);
          }

      pub leads_stop : (e : Trouble) → Stops now.out (led 0 0 (piece_at now a).lines) e → Stops start.out (led 0 0 all.lines) e
      leads_stop e k = reaches_stop start all now a others h.reaches e k

pub ruleset reaches = (reaches_start, reaches_step, reaches_stop, reaches_end)

pub ruleset leads = (leads_start, leads_step, leads_stop, leads_end)
