-- The rows of calls: each is a part where its arguments and its callee are.
use Rattle.std.proofs.Common.{◌≡◌, inl, inr, ℕ, ◌+◌, true, false, List, [], ◌∷◌, ◌++◌, length, Option, Some, None, refl, sym, subst, append_assoc}
use Rattle.c_types.specs.declared.ty.FnTy.{FnTy}
use Rattle.core_ir.specs.declared.instr.Instr.{Instr}
use Rattle.core_ir.specs.declared.instr.Instr.TheVariants.{GetLocal, SetLocal, Call, CallInd, Fork, StartArg, StartFn}
use Rattle.core_ir.specs.Flow.{Chain}
use Rattle.core_parts.specs.Pieces.{IsPart}
use Rattle.core_parts.specs.Theorems.{PartLaws}
use Rattle.elab_rows.specs.Calls.{Listed, arguments, call_made, first_of, indirect_made, kept, second_of, spawned}
use Rattle.elab_rows.specs.Made.{Code, Made}
use Rattle.elab_laws.proofs.GoodRows.{among_left, among_right, first_among}
use Rattle.elab_laws.proofs.Lifted.{calls, end_outlines, fewer, gives, outlines_append, starts, append, uses}
use Rattle.elab_laws.specs.Values.{AreGood, AreValues, EndsChain, IsMade, IsNoNumber, IsValue, outlines}

module _ (laws : PartLaws) where
  -- ---- arguments

  pub arguments_values : (cs : List Code) (place register slot : ℕ) → AreGood cs → AreValues (arguments cs place register slot) place register
  arguments_values [] place register slot h = laws.composition.none place register
  arguments_values (c ∷ cs) place register slot h =
      let x = c place register slot in
      let l = arguments cs (place + length x.code) x.register x.slot in
      append laws x.code l.code place register x.register l.register (x.result ∷ []) l.results (h.0 place register slot) (arguments_values cs (place + length x.code) x.register x.slot h.1)

  -- ---- the call and its result

  -- behind the call stands GetLocal of its slot
  result_value : (code : List Instr) (i : Instr) (place register b s : ℕ) (live : List ℕ) → IsPart (outlines (code ++ i ∷ [])) place register b live
      → IsPart (outlines (code ++ i ∷ GetLocal b s ∷ [])) place register (b + 1) (b ∷ [])
  result_value code i place register b s live h =
      let all = gives laws (code ++ i ∷ []) (GetLocal b s) place register b live h tt refl refl (λ r is. absurd is) in
      let less = fewer laws (code ++ i ∷ [] ++ GetLocal b s ∷ []) place register (b + 1) (b ∷ live) (b ∷ []) all (first_among b live) in
      subst (λ c. IsPart (outlines c) place register (b + 1) (b ∷ [])) (append_assoc code (i ∷ []) (GetLocal b s ∷ [])) less

  pub call_value : (f : ℕ) (l : Listed) (place register : ℕ) → AreValues l place register → IsValue (call_made f true l) place register []
  call_value f l place register h =
      result_value l.code (Call f l.results (Some l.slot)) place register l.register l.slot l.results
      (uses laws l.code (Call f l.results (Some l.slot)) place register l.register l.results h tt refl refl (λ r is. is))

  pub call_done : (f : ℕ) (l : Listed) (place register : ℕ) → AreValues l place register → IsMade (call_made f false l) place register []
  call_done f l place register h =
      fewer laws (l.code ++ Call f l.results None ∷ []) place register l.register l.results []
      (uses laws l.code (Call f l.results None) place register l.register l.results h tt refl refl (λ r is. is)) (λ r is. absurd is)

  -- ---- other calls

  callee_chain : (l : Listed) (x : Made) (place k : ℕ) → EndsChain x.code (place + length l.code) x.result k → Chain (outlines (l.code ++ x.code)) place (place + length (l.code ++ x.code)) x.result k
  callee_chain l x place k h =
      let whole = l.code ++ x.code in
      let at_x = end_outlines l.code place in
      let moved = laws.chains.behind (outlines l.code) (outlines x.code) place x.result k
      (subst (λ n. Chain (outlines x.code) n (n + length (outlines x.code)) x.result k) (sym at_x) h) in
      subst (λ n. Chain (outlines whole) place n x.result k) (end_outlines whole place)
      (subst (λ o. Chain o place (place + length o) x.result k) (sym (outlines_append l.code x.code)) moved)

  with_call : (t : FnTy) (s : Option ℕ) (l : Listed) (x : Made) (place register k : ℕ) → AreValues l place register → IsValue x (place + length l.code) l.register [] → EndsChain x.code (place + length l.code) x.result k
      → IsPart (outlines (l.code ++ x.code ++ CallInd x.result l.results t s ∷ [])) place register x.register (l.results ++ x.result ∷ [])
  with_call t s l x place register k hl hx chain =
      let both = append laws l.code x.code place register l.register x.register l.results (x.result ∷ []) hl hx in
      calls laws (l.code ++ x.code) place register x.register (l.results ++ x.result ∷ []) x.result k l.results t s both
      (among_right l.results (x.result ∷ []) x.result (inl refl)) (λ r is. among_left l.results (x.result ∷ []) r is) (callee_chain l x place k chain)

  pub indirect_value : (t : FnTy) (l : Listed) (x : Made) (place register k : ℕ) → AreValues l place register → IsValue x (place + length l.code) l.register [] → EndsChain x.code (place + length l.code) x.result k
      → IsValue (indirect_made t true l x) place register []
  indirect_value t l x place register k hl hx chain =
      result_value (l.code ++ x.code) (CallInd x.result l.results t (Some x.slot)) place register x.register x.slot (l.results ++ x.result ∷ []) (with_call t (Some x.slot) l x place register k hl hx chain)

  pub indirect_done : (t : FnTy) (l : Listed) (x : Made) (place register k : ℕ) → AreValues l place register → IsValue x (place + length l.code) l.register [] → EndsChain x.code (place + length l.code) x.result k
      → IsMade (indirect_made t false l x) place register []
  indirect_done t l x place register k hl hx chain =
      fewer laws (l.code ++ x.code ++ CallInd x.result l.results t None ∷ []) place register x.register (l.results ++ x.result ∷ []) [] (with_call t None l x place register k hl hx chain) (λ r is. absurd is)

  -- a callee without a place goes through a slot
  pub kept_value : (x : Made) (place register : ℕ) → IsValue x place register [] → IsValue (kept x) place register []
  kept_value x place register h =
      result_value x.code (SetLocal x.slot x.result) place register x.register x.slot (x.result ∷ []) (uses laws x.code (SetLocal x.slot x.result) place register x.register (x.result ∷ []) h tt refl refl (λ r is. is))

  -- ---- starts

  pub spawned_value : (l : Listed) (f a : ℕ) (place register : ℕ) → l.results ≡ f ∷ a ∷ [] → IsNoNumber l.code place f → AreValues l place register → IsValue (spawned l) place register []
  spawned_value l f a place register two none h =
      let h2 = subst (λ rs. IsPart (outlines l.code) place register l.register rs) two h in
      let all = starts laws l.code place register l.register (f ∷ a ∷ []) f a h2 (inl refl) (inr (inl refl)) none in
      subst (λ rs. IsPart (outlines (l.code ++ Fork l.register ∷ StartArg l.register (second_of rs) ∷ StartFn l.register (first_of rs) ∷ [])) place register (l.register + 1) (l.register ∷ [])) (sym two) all
