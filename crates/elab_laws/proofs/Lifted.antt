-- The laws of parts and pieces, over instructions.
use Rattle.std.proofs.Common.{◌≡◌, ℕ, ◌+◌, List, [], ◌∷◌, ◌++◌, length, Option, Some, None, ap, sym, subst, ◌∙◌}
use Rattle.std.proofs.lemmas.List.{length-map, map-append}
use Rattle.core_ir.specs.declared.instr.Instr.{Instr}
use Rattle.core_ir.specs.declared.instr.Instr.TheVariants.{Touch, Load, Store, Jump, Branch, CallInd, Fork, StartArg, StartFn, Lock, Unlock}
use Rattle.core_ir.specs.Flow.{Chain, IsAmong}
use Rattle.core_ir.specs.Instructions.{defined, outline_of, role_of, target, used}
use Rattle.c_types.specs.declared.ty.FnTy.{FnTy}
use Rattle.c_types.specs.declared.ty.Ty.{Ty}
use Rattle.core_parts.specs.Pieces.{Each, IsOutside, IsPart, IsSection, Leads, end_of}
use Rattle.core_parts.specs.Places.{Forks}
use Rattle.core_parts.specs.Theorems.{AreAmong, IsFree, PartLaws}
use Rattle.elab_laws.specs.Values.{outlines}

pub end_outlines : (c : List Instr) (start : ℕ) → end_of (outlines c) start ≡ start + length c
end_outlines c start = ap (λ n. start + n) (length-map c outline_of)

pub outlines_append : (c d : List Instr) → outlines (c ++ d) ≡ outlines c ++ outlines d
outlines_append c d = map-append outline_of c d

module _ (laws : PartLaws) where
  -- ---- parts

  pub append : (c d : List Instr) (start a b e : ℕ) (live more : List ℕ) → IsPart (outlines c) start a b live → IsPart (outlines d) (start + length c) b e more → IsPart (outlines (c ++ d)) start a e (live ++ more)
  append c d start a b e live more hc hd =
      subst (λ o. IsPart o start a e (live ++ more)) (sym (outlines_append c d))
      (laws.composition.append (outlines c) (outlines d) start a b e live more hc (subst (λ n. IsPart (outlines d) n b e more) (sym (end_outlines c start)) hd))

  pub fewer : (c : List Instr) (start a b : ℕ) (live less : List ℕ) → IsPart (outlines c) start a b live → AreAmong less live → IsPart (outlines c) start a b less
  fewer c start a b live less h known = laws.composition.fewer (outlines c) start a b live less h known

  pub gives : (c : List Instr) (i : Instr) (start a b : ℕ) (live : List ℕ) → IsPart (outlines c) start a b live → IsFree (role_of i) → target i ≡ None → defined i ≡ Some b → AreAmong (used i) live
      → IsPart (outlines (c ++ i ∷ [])) start a (b + 1) (b ∷ live)
  gives c i start a b live h free quiet defines known =
      subst (λ o. IsPart o start a (b + 1) (b ∷ live)) (sym (outlines_append c (i ∷ []))) (laws.extension.gives (outlines c) start a b live (outline_of i) h free quiet defines known)

  pub uses : (c : List Instr) (i : Instr) (start a b : ℕ) (live : List ℕ) → IsPart (outlines c) start a b live → IsFree (role_of i) → target i ≡ None → defined i ≡ None → AreAmong (used i) live
      → IsPart (outlines (c ++ i ∷ [])) start a b live
  uses c i start a b live h free quiet none known =
      subst (λ o. IsPart o start a b live) (sym (outlines_append c (i ∷ []))) (laws.extension.uses (outlines c) start a b live (outline_of i) h free quiet none known)

  pub loads : (c : List Instr) (start a b : ℕ) (live : List ℕ) (p : ℕ) (root t : Ty) → IsPart (outlines c) start a b live → IsAmong live p → IsPart (outlines (c ++ Touch p root ∷ Load b p t ∷ [])) start a (b + 1) (b ∷ live)
  loads c start a b live p root t h is =
      subst (λ o. IsPart o start a (b + 1) (b ∷ live)) (sym (outlines_append c (Touch p root ∷ Load b p t ∷ []))) (laws.extension.loads (outlines c) start a b live p h is)

  pub stores : (c : List Instr) (start a b : ℕ) (live : List ℕ) (p x : ℕ) (root t : Ty) → IsPart (outlines c) start a b live → IsAmong live p → IsAmong live x → IsPart (outlines (c ++ Touch p root ∷ Store p x t ∷ [])) start a b live
  stores c start a b live p x root t h is is_x =
      subst (λ o. IsPart o start a b live) (sym (outlines_append c (Touch p root ∷ Store p x t ∷ []))) (laws.extension.stores (outlines c) start a b live p x h is is_x)

  pub locks : (c : List Instr) (start a b : ℕ) (live : List ℕ) (p : ℕ) (root : Ty) → IsPart (outlines c) start a b live → IsAmong live p → IsPart (outlines (c ++ Touch p root ∷ Lock p ∷ [])) start a b live
  locks c start a b live p root h is =
      subst (λ o. IsPart o start a b live) (sym (outlines_append c (Touch p root ∷ Lock p ∷ []))) (laws.extension.locks (outlines c) start a b live p h is)

  pub unlocks : (c : List Instr) (start a b : ℕ) (live : List ℕ) (p : ℕ) (root : Ty) → IsPart (outlines c) start a b live → IsAmong live p → IsPart (outlines (c ++ Touch p root ∷ Unlock p ∷ [])) start a b live
  unlocks c start a b live p root h is =
      subst (λ o. IsPart o start a b live) (sym (outlines_append c (Touch p root ∷ Unlock p ∷ []))) (laws.extension.locks (outlines c) start a b live p h is)

  pub starts : (c : List Instr) (start a b : ℕ) (live : List ℕ) (f x : ℕ) → IsPart (outlines c) start a b live → IsAmong live f → IsAmong live x → ((k : ℕ) → Forks (outlines c) start k f → ⊥)
      → IsPart (outlines (c ++ Fork b ∷ StartArg b x ∷ StartFn b f ∷ [])) start a (b + 1) (b ∷ [])
  starts c start a b live f x h is is_x none =
      subst (λ o. IsPart o start a (b + 1) (b ∷ [])) (sym (outlines_append c (Fork b ∷ StartArg b x ∷ StartFn b f ∷ []))) (laws.extension.starts (outlines c) start a b live f x h is is_x none)

  pub calls : (c : List Instr) (start a b : ℕ) (live : List ℕ) (f k : ℕ) (args : List ℕ) (t : FnTy) (s : Option ℕ) → IsPart (outlines c) start a b live → IsAmong live f → AreAmong args live
      → Chain (outlines c) start (start + length c) f k → IsPart (outlines (c ++ CallInd f args t s ∷ [])) start a b live
  calls c start a b live f k args t s h is known chain =
      subst (λ o. IsPart o start a b live) (sym (outlines_append c (CallInd f args t s ∷ [])))
      (laws.extension.calls (outlines c) start a b live f k args s h is known (subst (λ n. Chain (outlines c) start n f k) (sym (end_outlines c start)) chain))

  -- ---- sections

  pub branch : (c : List Instr) (start a b : ℕ) (live : List ℕ) (x l : ℕ) → IsPart (outlines c) start a b live → IsAmong live x → IsOutside start (start + length c + 1) l → IsSection (outlines (c ++ Branch x l ∷ [])) start a b (l ∷ [])
  branch c start a b live x l h is out =
      subst (λ o. IsSection o start a b (l ∷ [])) (sym (outlines_append c (Branch x l ∷ [])))
      (laws.pieces.branch (outlines c) start a b live x l h is (subst (λ n. IsOutside start (n + 1) l) (sym (end_outlines c start)) out))

  pub jump : (c : List Instr) (start a b : ℕ) (live : List ℕ) (l : ℕ) → IsPart (outlines c) start a b live → IsOutside start (start + length c + 1) l → IsSection (outlines (c ++ Jump l ∷ [])) start a b (l ∷ [])
  jump c start a b live l h out =
      subst (λ o. IsSection o start a b (l ∷ [])) (sym (outlines_append c (Jump l ∷ [])))
      (laws.pieces.jump (outlines c) start a b live l h (subst (λ n. IsOutside start (n + 1) l) (sym (end_outlines c start)) out))

  pub sections : (c d : List Instr) (start a b e : ℕ) (exits more all : List ℕ) → IsSection (outlines c) start a b exits → IsSection (outlines d) (start + length c) b e more
      → Each (IsOutside (start + length c) (start + length c + length d)) exits → Each (IsOutside start (start + length c)) more
      → Each (Leads start (start + length c + length d) all) exits → Each (Leads start (start + length c + length d) all) more
      → IsSection (outlines (c ++ d)) start a e all
  sections c d start a b e exits more all hc hd out behind lead lead_more =
      let middle : start + length c ≡ end_of (outlines c) start = sym (end_outlines c start) in
      let end : start + length c + length d ≡ end_of (outlines d) (end_of (outlines c) start) = sym (end_outlines d (end_of (outlines c) start) ∙ ap (λ n. n + length d) (end_outlines c start)) in
      subst (λ o. IsSection o start a e all) (sym (outlines_append c d))
      (laws.pieces.sections (outlines c) (outlines d) start a b e exits more all hc (subst (λ n. IsSection (outlines d) n b e more) middle hd)
      (subst (λ n. Each (IsOutside n (end_of (outlines d) (end_of (outlines c) start))) exits) middle (subst (λ n. Each (IsOutside (start + length c) n) exits) end out))
      (subst (λ n. Each (IsOutside start n) more) middle behind)
      (subst (λ n. Each (Leads start n all) exits) end lead)
      (subst (λ n. Each (Leads start n all) more) end lead_more))

  -- the same, where the places between and behind are known
  pub sections_at : (c d : List Instr) (start middle last a b e : ℕ) (exits more all : List ℕ) → start + length c ≡ middle → middle + length d ≡ last → IsSection (outlines c) start a b exits → IsSection (outlines d) middle b e more
      → Each (IsOutside middle last) exits → Each (IsOutside start middle) more → Each (Leads start last all) exits → Each (Leads start last all) more → IsSection (outlines (c ++ d)) start a e all
  sections_at c d start middle last a b e exits more all at_middle at_last hc hd out behind lead lead_more =
      let m : middle ≡ start + length c = sym at_middle in
      let l : last ≡ start + length c + length d = sym at_last ∙ ap (λ n. n + length d) m in
      sections c d start a b e exits more all hc (subst (λ n. IsSection (outlines d) n b e more) m hd)
      (subst (λ n. Each (IsOutside n (start + length c + length d)) exits) m (subst (λ n. Each (IsOutside middle n) exits) l out))
      (subst (λ n. Each (IsOutside start n) more) m behind)
      (subst (λ n. Each (Leads start n all) exits) l lead)
      (subst (λ n. Each (Leads start n all) more) l lead_more)

  -- a section without exits is a part, of which nothing is live
  pub part_of : (c : List Instr) (start a b : ℕ) → IsSection (outlines c) start a b [] → IsPart (outlines c) start a b []
  part_of c start a b h = record {
    is_section = h;
    lives = λ r is. absurd is;
    fresh = λ r k t is has. is;
  }
