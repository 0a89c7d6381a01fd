-- Lines and pieces one behind the other: what is there of them, and what is left to be made.
use Rattle.std.proofs.Common.{◌≡◌, ◌∙◌, ℕ, suc, ◌+◌, max, List, [], ◌∷◌, ◌++◌, length, ap, refl, sym, subst, arith, append_assoc, append-nil, length-append, Result, Ok, Err}
use Rattle.core_ir.specs.declared.instr.Instr.{Instr}
use Rattle.elab_emit.specs.Emits.{IsSound, Stops}
use Rattle.elab_emit.specs.declared.emitter.Trouble.{Trouble}
use Rattle.elab_emit.specs.declared.emitter.Trouble.TheVariants.{TooLong, Memory}
use Rattle.elab_pieces.specs.Lines.{Line, Piece, PieceCode, all_joined, joined, joined_made, led, led_line, no_lines, plain_lines}
use Rattle.elab_pieces.specs.Statements.{does}
use Rattle.elab_statements.specs.declared.body.Body.{Body}
use Rattle.elab_statements.specs.Bodies.{Grows, PieceOutcome, PutAll, piece_at}

-- what is there, and what is left to be made
pub record Reaches (start : Body) (all : Piece) (now : Body) (rest : Piece) : Type 0 where
  pub code : start.out.code ++ led 0 0 all.lines ≡ now.out.code ++ led 0 0 rest.lines
  pub most : max start.registers all.registers ≡ max now.registers rest.registers
  pub slot : all.slot ≡ rest.slot
  pub sound : IsSound now.out

-- ---- lines

pub led_length : (b k : ℕ) (ls : List Line) → length (led b k ls) ≡ length ls
led_length b k [] = refl
led_length b k (l ∷ ls) = ap (λ n. suc n) (led_length b k ls)

pub led_append : (b k : ℕ) (ls ms : List Line) → led b k (ls ++ ms) ≡ led b k ls ++ led b k ms
led_append b k [] ms = refl
led_append b k (l ∷ ls) ms = ap (λ is. led_line b k l ∷ is) (led_append b k ls ms)

pub led_does : (b k : ℕ) (is : List Instr) → led b k (does is) ≡ is
led_does b k [] = refl
led_does b k (i ∷ is) = ap (λ js. i ∷ js) (led_does b k is)

-- ---- pieces

pub max_assoc : (a b c : ℕ) → max (max a b) c ≡ max a (max b c)
max_assoc a b c = omega arith

pub max_zero : (a : ℕ) → max a 0 ≡ a
max_zero a = omega arith

-- how long the code is then
pub grown : (old : Body) (x : Piece) (new : Body) → Grows old (led 0 0 x.lines) x.registers x.slot new
    → length new.out.code ≡ length old.out.code + length x.lines
grown old x new g =
    ap length g.added ∙ length-append old.out.code (led 0 0 x.lines) ∙ ap (λ n. length old.out.code + n) (led_length 0 0 x.lines)

pub joined_assoc : (a b c : PieceCode) (place slot : ℕ) → joined a (joined b c) place slot ≡ joined (joined a b) c place slot
joined_assoc a b c place slot =
    let x = a place slot in
    let y = b (place + length x.lines) x.slot in
    let e : place + length x.lines + length y.lines ≡ place + length (x.lines ++ y.lines) = omega (arith, length-append x.lines y.lines) in
    let z = c (place + length (x.lines ++ y.lines)) y.slot in
    (λ i. joined_made x (joined_made y (c (e i) y.slot)))
    ∙ (λ i. record {
      lines = sym (append_assoc x.lines y.lines z.lines) i;
      registers = sym (max_assoc x.registers y.registers z.registers) i;
      slot = z.slot;
    })

pub joined_none : (c : PieceCode) (place slot : ℕ) → joined no_lines c place slot ≡ c place slot
joined_none c place slot =
    let e : place + 0 ≡ place = omega arith in
    let z = c place slot in
    let r : max 0 z.registers ≡ z.registers = omega arith in
    (λ i. joined_made (no_lines place slot) (c (e i) slot))
    ∙ (λ i. record { lines = z.lines; registers = r i; slot = z.slot })

-- instructions as a piece
pub put_piece : (old new : Body) (is : List Instr) (r : Result (Unit {0}) Trouble) → PutAll old is r new → PieceOutcome old (piece_at old (plain_lines is)) r new
put_piece old new is (Ok u) h = subst (λ js. Grows old js 0 old.out.slot new) (sym (led_does 0 0 is)) h
put_piece old new is (Err e) h = subst (λ js. Stops old.out js e) (sym (led_does 0 0 is)) h

-- ---- lists of pieces

module _ (start : Body) where
  pub reaches_start : (c : PieceCode) → IsSound start.out → Reaches start (piece_at start c) start (piece_at start c)
  reaches_start c s = record { code = refl; most = refl; slot = refl; sound = s }

  module _ (all : Piece) (now : Body) where
    pub reaches_end : Reaches start all now (piece_at now (all_joined [])) → PieceOutcome start all (Ok tt) now
    reaches_end h = record {
      added = sym (h.code ∙ append-nil now.out.code);
      most = sym (h.most ∙ max_zero now.registers);
      next_slot = sym h.slot;
    }

    module _ (a b : PieceCode) (h : Reaches start all now (piece_at now (joined a b))) where
      abbrev first : Piece
      first = piece_at now a

      abbrev behind : Piece
      behind = b (length now.out.code + length first.lines) first.slot

      pub joined_step : (next : Body) → PieceOutcome now first (Ok tt) next → IsSound next.out → Reaches start all next (piece_at next b)
      joined_step next g s =
          let same : piece_at next b ≡ behind = λ i. b (grown now first next g i) (g.next_slot i) in
          let made : Reaches start all next behind = record {
            code = h.code ∙ ap (λ c. now.out.code ++ c) (led_append 0 0 first.lines behind.lines)
                ∙ sym (append_assoc now.out.code (led 0 0 first.lines) (led 0 0 behind.lines))
                ∙ ap (λ c. c ++ led 0 0 behind.lines) (sym g.added);
            most = h.most ∙ sym (max_assoc now.registers first.registers behind.registers) ∙ ap (λ n. max n behind.registers) (sym g.most);
            slot = h.slot;
            sound = s;
          } in
          subst (λ p. Reaches start all next p) (sym same) made

      pub joined_stop : (e : Trouble) → Stops now.out (led 0 0 first.lines) e → Stops start.out (led 0 0 all.lines) e
      joined_stop Memory k = tt
      joined_stop TooLong k =
          omega (
            arith,
            k,
            ap length h.code,
            length-append start.out.code (led 0 0 all.lines),
            length-append now.out.code (led 0 0 (first.lines ++ behind.lines)),
            ap length (led_append 0 0 first.lines behind.lines),
            length-append (led 0 0 first.lines) (led 0 0 behind.lines),
          )

    module _ (a : PieceCode) (others : List PieceCode) (h : Reaches start all now (piece_at now (all_joined (a ∷ others)))) where
      pub reaches_step : (next : Body) → PieceOutcome now (piece_at now a) (Ok tt) next → IsSound next.out
          → Reaches start all next (piece_at next (all_joined others))
      reaches_step = joined_step a (all_joined others) h

      pub reaches_stop : (e : Trouble) → Stops now.out (led 0 0 (piece_at now a).lines) e → Stops start.out (led 0 0 all.lines) e
      reaches_stop = joined_stop a (all_joined others) h

    -- the last of them
    module _ (rest : Piece) (h : Reaches start all now rest) where
      pub reaches_last : (r : Result (Unit {0}) Trouble) (new : Body) → PieceOutcome now rest r new → PieceOutcome start all r new
      reaches_last (Ok u) new g = record {
        added = g.added ∙ sym h.code;
        most = g.most ∙ sym h.most;
        next_slot = g.next_slot ∙ sym h.slot;
      }
      reaches_last (Err Memory) new g = tt
      reaches_last (Err TooLong) new g =
          omega (arith, g, ap length h.code, length-append start.out.code (led 0 0 all.lines), length-append now.out.code (led 0 0 rest.lines))
