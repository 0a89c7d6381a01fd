-- Whole bodies, from their parts.
use Rattle.std.proofs.Common.{◌≡◌, ◌∙◌, ℕ, max, [], ◌∷◌, ◌++◌, length, ap, subst, arith, Result, Ok, Err}
use Rattle.elab_emit.specs.Emits.{IsSound, Stops}
use Rattle.elab_emit.specs.declared.emitter.Trouble.{Trouble}
use Rattle.elab_emit.specs.declared.emitter.Trouble.TheVariants.{TooLong, Memory}
use Rattle.elab_pieces.specs.Lines.{Piece, PieceCode, all_joined, led}
use Rattle.elab_statements.specs.declared.body.Body.{Body}
use Rattle.elab_statements.specs.Bodies.{PieceOutcome, piece_at}
use Rattle.elab_statements.specs.inner.Pieces.{Reaches, led_length, reaches_end, reaches_start, reaches_step, reaches_stop}
use Rattle.elab.specs.inner.Programs.{BodyOutcome, IsWhole}

-- from no code on
pub whole : (b new : Body) (c : PieceCode) (slots : ℕ) (r : Result (Unit {0}) Trouble)
    → b.out.code ≡ [] → b.registers ≡ 0 → b.out.slot ≡ slots → IsSound new.out → PieceOutcome b (piece_at b c) (Ok tt) new → IsWhole (c 0 slots) new
whole b new c slots r hc hr hs s h =
    let same : piece_at b c ≡ c 0 slots = λ i. c (length (hc i)) (hs i) in
    let n : max b.registers (piece_at b c).registers ≡ (piece_at b c).registers = omega (arith, hr) in
    subst (λ p. IsWhole p new) same
    (record {
      code = h.added ∙ ap (λ is. is ++ led 0 0 (piece_at b c).lines) hc;
      registers = h.most ∙ n;
      slots = h.next_slot;
      within = s.code;
    })

pub whole_stops : (b : Body) (c : PieceCode) (slots : ℕ) (e : Trouble)
    → b.out.code ≡ [] → b.out.slot ≡ slots → Stops b.out (led 0 0 (piece_at b c).lines) e → BodyOutcome (c 0 slots) (Err e)
whole_stops b c slots Memory hc hs k = tt
whole_stops b c slots TooLong hc hs k =
    let same : piece_at b c ≡ c 0 slots = λ i. c (length (hc i)) (hs i) in
    omega (arith, k, ap length hc, led_length 0 0 (piece_at b c).lines, ap (λ p. length p.lines) same)

-- ---- three parts, and four

module _ (b : Body) (s : IsSound b.out) (c1 c2 c3 : PieceCode) (m1 : Body) where
  abbrev all : Piece
  all = piece_at b (all_joined (c1 ∷ c2 ∷ c3 ∷ []))

  one : PieceOutcome b (piece_at b c1) (Ok tt) m1 → IsSound m1.out → Reaches b all m1 (piece_at m1 (all_joined (c2 ∷ c3 ∷ [])))
  one h s1 = reaches_step b all b c1 (c2 ∷ c3 ∷ []) (reaches_start b (all_joined (c1 ∷ c2 ∷ c3 ∷ [])) s) m1 h s1

  pub three_first : (e : Trouble) → PieceOutcome b (piece_at b c1) (Err e) m1 → PieceOutcome b all (Err e) m1
  three_first e k = reaches_stop b all b c1 (c2 ∷ c3 ∷ []) (reaches_start b (all_joined (c1 ∷ c2 ∷ c3 ∷ [])) s) e k

  module _ (h1 : PieceOutcome b (piece_at b c1) (Ok tt) m1) (s1 : IsSound m1.out) (m2 : Body) where
    pub three_second : (e : Trouble) → PieceOutcome m1 (piece_at m1 c2) (Err e) m2 → PieceOutcome b all (Err e) m2
    three_second e k = reaches_stop b all m1 c2 (c3 ∷ []) (one h1 s1) e k

    pub three_last : PieceOutcome m1 (piece_at m1 c2) (Ok tt) m2 → IsSound m2.out → (m3 : Body) (r : Result (Unit {0}) Trouble) → IsSound m3.out
        → PieceOutcome m2 (piece_at m2 c3) r m3 → PieceOutcome b all r m3
    three_last h2 s2 m3 (Err e) s3 k = reaches_stop b all m2 c3 [] (reaches_step b all m1 c2 (c3 ∷ []) (one h1 s1) m2 h2 s2) e k
    three_last h2 s2 m3 (Ok u) s3 k =
        reaches_end b all m3 (reaches_step b all m2 c3 [] (reaches_step b all m1 c2 (c3 ∷ []) (one h1 s1) m2 h2 s2) m3 k s3)

module _ (b : Body) (s : IsSound b.out) (c1 c2 c3 c4 : PieceCode) (m1 : Body) where
  abbrev every : Piece
  every = piece_at b (all_joined (c1 ∷ c2 ∷ c3 ∷ c4 ∷ []))

  first_of_four : PieceOutcome b (piece_at b c1) (Ok tt) m1 → IsSound m1.out → Reaches b every m1 (piece_at m1 (all_joined (c2 ∷ c3 ∷ c4 ∷ [])))
  first_of_four h s1 = reaches_step b every b c1 (c2 ∷ c3 ∷ c4 ∷ []) (reaches_start b (all_joined (c1 ∷ c2 ∷ c3 ∷ c4 ∷ [])) s) m1 h s1

  pub four_first : (e : Trouble) → PieceOutcome b (piece_at b c1) (Err e) m1 → PieceOutcome b every (Err e) m1
  four_first e k = reaches_stop b every b c1 (c2 ∷ c3 ∷ c4 ∷ []) (reaches_start b (all_joined (c1 ∷ c2 ∷ c3 ∷ c4 ∷ [])) s) e k

  module _ (h1 : PieceOutcome b (piece_at b c1) (Ok tt) m1) (s1 : IsSound m1.out) (m2 : Body) where
    pub four_second : (e : Trouble) → PieceOutcome m1 (piece_at m1 c2) (Err e) m2 → PieceOutcome b every (Err e) m2
    four_second e k = reaches_stop b every m1 c2 (c3 ∷ c4 ∷ []) (first_of_four h1 s1) e k

    module _ (h2 : PieceOutcome m1 (piece_at m1 c2) (Ok tt) m2) (s2 : IsSound m2.out) (m3 : Body) where
      second_of_four : Reaches b every m2 (piece_at m2 (all_joined (c3 ∷ c4 ∷ [])))
      second_of_four = reaches_step b every m1 c2 (c3 ∷ c4 ∷ []) (first_of_four h1 s1) m2 h2 s2

      pub four_third : (e : Trouble) → PieceOutcome m2 (piece_at m2 c3) (Err e) m3 → PieceOutcome b every (Err e) m3
      four_third e k = reaches_stop b every m2 c3 (c4 ∷ []) second_of_four e k

      pub four_last : PieceOutcome m2 (piece_at m2 c3) (Ok tt) m3 → IsSound m3.out → (m4 : Body) (r : Result (Unit {0}) Trouble) → IsSound m4.out
          → PieceOutcome m3 (piece_at m3 c4) r m4 → PieceOutcome b every r m4
      four_last h3 s3 m4 (Err e) s4 k = reaches_stop b every m3 c4 [] (reaches_step b every m2 c3 (c4 ∷ []) second_of_four m3 h3 s3) e k
      four_last h3 s3 m4 (Ok u) s4 k =
          reaches_end b every m4 (reaches_step b every m3 c4 [] (reaches_step b every m2 c3 (c4 ∷ []) second_of_four m3 h3 s3) m4 k s4)
