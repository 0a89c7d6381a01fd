-- The rows that branch: each is a part where its operands are.
use Rattle.std.proofs.Common.{◌≡◌, inl, inr, ℕ, ℤ, pos, ◌+◌, ◌≤◌, List, [], ◌∷◌, ◌++◌, length, refl, ap, sym, subst, ◌∙◌, arith, length-append, append_assoc}
use Rattle.core_ir.specs.declared.instr.Instr.{Instr}
use Rattle.core_ir.specs.declared.instr.Instr.TheVariants.{Const, GetLocal, SetLocal, Jump, Branch}
use Rattle.core_parts.specs.Pieces.{IsPart, IsSection}
use Rattle.core_parts.specs.Theorems.{PartLaws}
use Rattle.elab_rows.specs.Choices.{and_made, conditional_made, kept_in, or_lines, or_made, sets, tested, truth_lines}
use Rattle.elab_rows.specs.Made.{Made}
use Rattle.elab_laws.proofs.Lifted.{branch, gives, jump, part_of, sections_at, uses}
use Rattle.elab_laws.specs.Values.{IsValue, outlines}

-- ---- lengths

length_more : (c : List Instr) (i : Instr) → length (c ++ i ∷ []) ≡ length c + 1
length_more c i = length-append c (i ∷ [])

-- two tails, grouped from the left
grouped : {A : Type 0} (a b c d : List A) → a ++ (b ++ c ++ d) ≡ a ++ b ++ c ++ d
grouped a b c d = sym (append_assoc a (b ++ c) d) ∙ ap (λ x. x ++ d) (sym (append_assoc a b c))

module _ (laws : PartLaws) where
  sets_part : (place d s : ℕ) (v : ℤ) → IsPart (outlines (sets d v s)) place d (d + 1) (d ∷ [])
  sets_part place d s v = uses laws (Const d v ∷ []) (SetLocal s d) place d (d + 1) (d ∷ [])
      (gives laws [] (Const d v) place d d [] (laws.composition.none place d) tt refl refl (λ r is. absurd is)) tt refl refl (λ r is. is)

  tested_section : (x : Made) (place register f : ℕ) → IsValue x place register [] → place + length x.code + 1 ≤ f → IsSection (outlines (tested x f)) place register x.register (f ∷ [])
  tested_section x place register f h far = branch laws x.code place register x.register (x.result ∷ []) x.result f h (inl refl) (inr far)

  -- ---- a truth value

  truth_part : (operands : List Instr) (place register d s f : ℕ) → IsSection (outlines operands) place register d (f ∷ []) → f ≡ place + length operands + 3
      → IsPart (outlines (operands ++ truth_lines d s f)) place register (d + 3) ((d + 2) ∷ [])
  truth_part operands place register d s f h at_f =
      let t = place + length operands in
      let p3 = sets d (pos 1) s ++ Jump (f + 2) ∷ [] in
      let p4 = sets (d + 1) (pos 0) s in
      let h3 : IsSection (outlines p3) t d (d + 1) ((f + 2) ∷ []) = jump laws (sets d (pos 1) s) t d (d + 1) (d ∷ []) (f + 2) (sets_part t d s (pos 1)) (inr (omega arith)) in
      let h13 : IsSection (outlines (operands ++ p3)) place register (d + 1) ((f + 2) ∷ []) =
      sections_at laws operands p3 place t (t + 3) register d (d + 1) (f ∷ []) ((f + 2) ∷ []) ((f + 2) ∷ []) refl refl h h3
      (inr (omega arith), tt) (inr (omega arith), tt) (inl (omega arith, omega arith), tt) (inr (inl refl), tt) in
      let l13 : place + length (operands ++ p3) ≡ t + 3 = omega (arith, length-append operands p3) in
      let h134 : IsSection (outlines (operands ++ p3 ++ p4)) place register (d + 1 + 1) [] =
      sections_at laws (operands ++ p3) p4 place (t + 3) (t + 3 + 2) register (d + 1) (d + 1 + 1) ((f + 2) ∷ []) [] [] l13 refl h13 (sets_part (t + 3) (d + 1) s (pos 0)).is_section
      (inr (omega arith), tt) tt (inl (omega arith, omega arith), tt) tt in
      let two : d + 1 + 1 ≡ d + 2 = omega arith in
      let three : d + 2 + 1 ≡ d + 3 = omega arith in
      let front : IsPart (outlines (operands ++ p3 ++ p4)) place register (d + 2) [] = subst (λ n. IsPart (outlines (operands ++ p3 ++ p4)) place register n []) two (part_of laws (operands ++ p3 ++ p4) place register (d + 1 + 1) h134) in
      let all = gives laws (operands ++ p3 ++ p4) (GetLocal (d + 2) s) place register (d + 2) [] front tt refl refl (λ r is. absurd is) in
      subst (λ c. IsPart (outlines c) place register (d + 3) ((d + 2) ∷ [])) (sym (grouped operands p3 p4 (GetLocal (d + 2) s ∷ [])))
      (subst (λ n. IsPart (outlines (operands ++ p3 ++ p4 ++ GetLocal (d + 2) s ∷ [])) place register n ((d + 2) ∷ [])) three all)

  -- ---- `&&` and `||`

  pub and_value : (x y : Made) (place register : ℕ) → IsValue x place register [] → IsValue y (place + length x.code + 1) x.register [] → IsValue (and_made place x y) place register []
  and_value x y place register hx hy =
      let f = place + length x.code + 1 + length y.code + 4 in
      let lx = length_more x.code (Branch x.result f) in
      let ly = length_more y.code (Branch y.result f) in
      let at_y : place + length (tested x f) ≡ place + length x.code + 1 = omega arith in
      let end : place + length x.code + 1 + length (tested y f) ≡ place + length x.code + 1 + length y.code + 1 = omega arith in
      let operands : IsSection (outlines (tested x f ++ tested y f)) place register y.register (f ∷ []) =
      sections_at laws (tested x f) (tested y f) place (place + length x.code + 1) (place + length x.code + 1 + length y.code + 1) register x.register y.register (f ∷ []) (f ∷ []) (f ∷ []) at_y end
      (tested_section x place register f hx (omega arith)) (tested_section y (place + length x.code + 1) x.register f hy (omega arith))
      (inr (omega arith), tt) (inr (omega arith), tt) (inr (inl refl), tt) (inr (inl refl), tt) in
      truth_part (tested x f ++ tested y f) place register y.register y.slot f operands (omega (arith, length-append (tested x f) (tested y f)))

  pub or_value : (x y : Made) (place register : ℕ) → IsValue x place register [] → IsValue y (place + length x.code + 2) x.register [] → IsValue (or_made place x y) place register []
  or_value x y place register hx hy =
      let m = place + length x.code + 2 in
      let t = m + length y.code + 1 in
      let lx = length_more x.code (Branch x.result m) in
      let ly = length_more y.code (Branch y.result (t + 3)) in
      let skip = Jump t ∷ [] in
      let first : IsSection (outlines (tested x m ++ skip)) place register x.register (t ∷ []) =
      sections_at laws (tested x m) skip place (place + length x.code + 1) m register x.register x.register (m ∷ []) (t ∷ []) (t ∷ []) (let q : place + length (tested x m) ≡ place + length x.code + 1 = omega arith in q) (omega arith)
      (tested_section x place register m hx (omega arith))
      (jump laws [] (place + length x.code + 1) x.register x.register [] t (laws.composition.none (place + length x.code + 1) x.register) (inr (omega arith)))
      (inr (omega arith), tt) (inr (omega arith), tt) (inl (omega arith, omega arith), tt) (inr (inl refl), tt) in
      let lf = length-append (tested x m) skip in
      let at_y : place + length (tested x m ++ skip) ≡ m = omega arith in
      let end : m + length (tested y (t + 3)) ≡ t = omega arith in
      let operands : IsSection (outlines (or_lines x y m t)) place register y.register ((t + 3) ∷ []) =
      sections_at laws (tested x m ++ skip) (tested y (t + 3)) place m t register x.register y.register (t ∷ []) ((t + 3) ∷ []) ((t + 3) ∷ []) at_y end first
      (tested_section y m x.register (t + 3) hy (omega arith))
      (inr (omega arith), tt) (inr (omega arith), tt) (inl (omega arith, omega arith), tt) (inr (inl refl), tt) in
      truth_part (or_lines x y m t) place register y.register y.slot (t + 3) operands (omega (arith, length-append (tested x m ++ skip) (tested y (t + 3))))

  -- ---- `c ? a : b`

  kept_part : (x : Made) (place register s : ℕ) → IsValue x place register [] → IsPart (outlines (kept_in x s)) place register x.register (x.result ∷ [])
  kept_part x place register s h = uses laws x.code (SetLocal s x.result) place register x.register (x.result ∷ []) h tt refl refl (λ r is. is)

  pub conditional_value : (c x y : Made) (place register : ℕ) → IsValue c place register [] → IsValue x (place + length c.code + 1) c.register []
      → IsValue y (place + length c.code + 1 + length x.code + 2) x.register [] → IsValue (conditional_made place c x y) place register []
  conditional_value c x y place register hc hx hy =
      let p1 = place + length c.code + 1 in
      let f = p1 + length x.code + 2 in
      let e = f + length y.code + 1 in
      let s = x.slot in
      let a1 = kept_in x s ++ Jump e ∷ [] in
      let a2 = kept_in y s in
      let lc = length_more c.code (Branch c.result f) in
      let lx = length_more x.code (SetLocal s x.result) in
      let lj = length_more (kept_in x s) (Jump e) in
      let ly = length_more y.code (SetLocal s y.result) in
      let at_x : place + length (tested c f) ≡ p1 = omega arith in
      let end_x : p1 + length a1 ≡ f = omega arith in
      let h1 : IsSection (outlines a1) p1 c.register x.register (e ∷ []) = jump laws (kept_in x s) p1 c.register x.register (x.result ∷ []) e (kept_part x p1 c.register s hx) (inr (omega arith)) in
      let h01 : IsSection (outlines (tested c f ++ a1)) place register x.register (e ∷ []) =
      sections_at laws (tested c f) a1 place p1 f register c.register x.register (f ∷ []) (e ∷ []) (e ∷ []) at_x end_x (tested_section c place register f hc (omega arith)) h1
      (inr (omega arith), tt) (inr (omega arith), tt) (inl (omega arith, omega arith), tt) (inr (inl refl), tt) in
      let at_y : place + length (tested c f ++ a1) ≡ f = omega (arith, length-append (tested c f) a1) in
      let end_y : f + length a2 ≡ e = omega arith in
      let h012 : IsSection (outlines (tested c f ++ a1 ++ a2)) place register y.register [] =
      sections_at laws (tested c f ++ a1) a2 place f e register x.register y.register (e ∷ []) [] [] at_y end_y h01 (kept_part y f x.register s hy).is_section
      (inr (omega arith), tt) tt (inl (omega arith, omega arith), tt) tt in
      let all = gives laws (tested c f ++ a1 ++ a2) (GetLocal y.register s) place register y.register [] (part_of laws (tested c f ++ a1 ++ a2) place register y.register h012) tt refl refl (λ r is. absurd is) in
      subst (λ z. IsPart (outlines z) place register (y.register + 1) (y.register ∷ [])) (sym (grouped (tested c f) a1 a2 (GetLocal y.register s ∷ []))) all
