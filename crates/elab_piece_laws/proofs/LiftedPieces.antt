-- The laws of pieces, over instructions, and lines that are closed.
use Rattle.std.proofs.Common.{◌≡◌, inl, inr, ℕ, ◌+◌, ◌≤◌, Bool, List, [], ◌∷◌, ◌++◌, length, map, refl, ap, sym, subst, ◌∙◌, arith, length-append}
use Rattle.std.proofs.lemmas.List.{length-map, map-append}
use Rattle.core_ir.specs.declared.instr.Instr.{Instr}
use Rattle.core_ir.specs.declared.instr.Instr.TheVariants.{Branch, Jump}
use Rattle.core_ir.specs.Instructions.{outline_of}
use Rattle.core_parts.specs.Pieces.{Each, IsOutside, IsPart, IsPiece, Leads, end_of}
use Rattle.core_parts.specs.Theorems.{PartLaws}
use Rattle.elab_rows.specs.Choices.{tested}
use Rattle.elab_rows.specs.Made.{Made}
use Rattle.elab_pieces.specs.Lines.{Does, Line, led, led_line}
use Rattle.elab_piece_laws.specs.Lines.{outlines}

-- ---- lines

pub led_length : (b k : ℕ) (ls : List Line) → length (led b k ls) ≡ length ls
led_length b k ls = length-map ls (led_line b k)

pub led_does : (b k : ℕ) (c : List Instr) → led b k (map Does c) ≡ c
led_does b k [] = refl
led_does b k (i ∷ c) = ap (λ d. i ∷ d) (led_does b k c)

pub does_length : (c : List Instr) → length (map Does c) ≡ length c
does_length c = length-map c Does

pub led_append : (b k : ℕ) (xs ys : List Line) → led b k (xs ++ ys) ≡ led b k xs ++ led b k ys
led_append b k xs ys = map-append (led_line b k) xs ys

-- ---- places

pub narrower : (from middle to l : ℕ) → middle ≤ to → IsOutside from to l → IsOutside from middle l
narrower from middle to l le (inl x) = inl x
narrower from middle to l le (inr x) = inr (omega arith)

pub narrower_front : (from middle to l : ℕ) → from ≤ middle → IsOutside from to l → IsOutside middle to l
narrower_front from middle to l le (inl x) = inl (omega arith)
narrower_front from middle to l le (inr x) = inr x

end_outlines : (c : List Instr) (start : ℕ) → end_of (outlines c) start ≡ start + length c
end_outlines c start = ap (λ n. start + n) (length-map c outline_of)

pub outlines_append : (c d : List Instr) → outlines (c ++ d) ≡ outlines c ++ outlines d
outlines_append c d = map-append outline_of c d

module _ (laws : PartLaws) (frame : Bool) where
  -- one piece behind another, where the places between and behind are known
  pub pieces_at : (c d : List Instr) (start middle last : ℕ) (exits more all : List ℕ) → start + length c ≡ middle → middle + length d ≡ last → IsPiece frame (outlines c) start exits → IsPiece frame (outlines d) middle more
      → Each (IsOutside middle last) exits → Each (IsOutside start middle) more → Each (Leads start last all) exits → Each (Leads start last all) more → IsPiece frame (outlines (c ++ d)) start all
  pieces_at c d start middle last exits more all at_middle at_last hc hd out behind lead lead_more =
      let m : middle ≡ end_of (outlines c) start = sym (end_outlines c start ∙ at_middle) in
      let l : last ≡ end_of (outlines d) (end_of (outlines c) start) = sym (end_outlines d (end_of (outlines c) start) ∙ ap (λ n. n + length d) (sym m) ∙ at_last) in
      subst (λ o. IsPiece frame o start all) (sym (outlines_append c d))
      (laws.pieces.pieces frame (outlines c) (outlines d) start exits more all hc (subst (λ n. IsPiece frame (outlines d) n more) m hd)
      (subst (λ n. Each (IsOutside n (end_of (outlines d) (end_of (outlines c) start))) exits) m (subst (λ n. Each (IsOutside middle n) exits) l out))
      (subst (λ n. Each (IsOutside start n) more) m behind)
      (subst (λ n. Each (Leads start n all) exits) l lead)
      (subst (λ n. Each (Leads start n all) more) l lead_more))

  pub weaker : (c : List Instr) (start last : ℕ) (exits other : List ℕ) → start + length c ≡ last → IsPiece frame (outlines c) start exits → Each (Leads start last other) exits → IsPiece frame (outlines c) start other
  weaker c start last exits other at_last h lead = laws.pieces.weaker frame (outlines c) start exits other h (subst (λ n. Each (Leads start n other) exits) (sym (end_outlines c start ∙ at_last)) lead)

  pub jump_piece : (start l : ℕ) → IsOutside start (start + 1) l → IsPiece frame (outlines (Jump l ∷ [])) start (l ∷ [])
  jump_piece start l out =
      let zero : start + 1 ≡ start + 0 + 1 = omega arith in
      (laws.pieces.jump [] start 0 0 [] l (laws.composition.none start 0) (subst (λ n. IsOutside start n l) zero out)).piece frame

  pub tested_piece : (x : Made) (start register l : ℕ) → IsPart (outlines x.code) start register x.register (x.result ∷ []) → IsOutside start (start + length x.code + 1) l → IsPiece frame (outlines (tested x l)) start (l ∷ [])
  tested_piece x start register l h out =
      subst (λ o. IsPiece frame o start (l ∷ [])) (sym (outlines_append x.code (Branch x.result l ∷ [])))
      ((laws.pieces.branch (outlines x.code) start register x.register (x.result ∷ []) x.result l h (inl refl) (subst (λ n. IsOutside start (n + 1) l) (sym (end_outlines x.code start)) out)).piece frame)

pub tested_length : (x : Made) (l : ℕ) → length (tested x l) ≡ length x.code + 1
tested_length x l = length-append x.code (Branch x.result l ∷ [])
