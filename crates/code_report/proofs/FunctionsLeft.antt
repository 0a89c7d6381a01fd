-- What is left of the functions behind some definitions.
use Rattle.std.proofs.Common.{◌≡◌, ◌∙◌, ℕ, ◌+◌, zero, suc, List, [], ◌∷◌, length, drop, IfSome, Some, slice_get, ap, refl, sym, subst, arith, add-one}
use Rattle.std.proofs.lemmas.Option.{slice_get_within}
use Rattle.c_typed.specs.declared.unit.TypedFn.{TypedFn}
use Rattle.c_typed.specs.declared.unit.TypedItem.{TypedItem}
use Rattle.c_typed.specs.declared.unit.TypedItem.TheVariants as item
use Rattle.core_ir.specs.declared.program.Function.{Function}
use Rattle.core_ir.specs.declared.program.Program.{Program}
use Rattle.elab_pieces.specs.Program.{definitions}
use Rattle.code_report.specs.Names.{frame_names}
use Rattle.code_report.specs.Report.{FunctionLines, no_functions}
use Rattle.code_report.specs.inner.Appending.{FunctionLinesFrom, HasFunction, HaveFunctions, IsDefined, entry_alone, one_more}

first_left : (fs : List Function) (n : ℕ) (f : Function) (gs : List Function) → drop n fs ≡ f ∷ gs → slice_get fs n ≡ Some f
first_left [] zero f gs e = absurd (cc)
first_left [] (suc n) f gs e = absurd (cc)
first_left (g ∷ fs) zero f gs e = let same : g ≡ f = cc in ap Some same
first_left (g ∷ fs) (suc n) f gs e = first_left fs n f gs e

rest_left : (fs : List Function) (n : ℕ) (f : Function) (gs : List Function) → drop n fs ≡ f ∷ gs → drop (suc n) fs ≡ gs
rest_left [] zero f gs e = absurd (cc)
rest_left [] (suc n) f gs e = absurd (cc)
rest_left (g ∷ fs) zero f gs e = let same : fs ≡ gs = cc in same
rest_left (g ∷ fs) (suc n) f gs e = rest_left fs n f gs e

module _ (fs : List Function) (n : ℕ) where
  has_first : (d : TypedFn) (ds : List TypedFn) (gs : List Function) → drop n fs ≡ gs → HaveFunctions (d ∷ ds) gs → HasFunction fs n d
  has_first _ _ _ e (one_more d ds f gs count h) =
      let there = first_left fs n f gs e in
      record {
        within = slice_get_within fs n f there;
        locals = subst (λ found. IfSome found (λ (g : Function). length (frame_names d.locals) ≡ length g.locals)) (sym there) count;
      }

  have_rest : (d : TypedFn) (ds : List TypedFn) (gs : List Function) → drop n fs ≡ gs → HaveFunctions (d ∷ ds) gs → HaveFunctions ds (drop (n + 1) fs)
  have_rest _ _ _ e (one_more d ds f gs count h) =
      subst (λ hs. HaveFunctions ds hs) (sym (ap (λ k. drop k fs) (add-one n) ∙ rest_left fs n f gs e)) h

  pub is_defined : (x : TypedItem) (is : List TypedItem) → HaveFunctions (definitions (x ∷ is)) (drop n fs) → IsDefined fs n x
  is_defined (item.Function d) is h = has_first d (definitions is) (drop n fs) refl h
  is_defined (item.Decl d) is h = tt
  is_defined (item.Typedef s ds) is h = tt

  pub have_next : (m : ℕ) (x : TypedItem) (is : List TypedItem) → m + length (definitions is) ≡ n + length (definitions (x ∷ is))
      → HaveFunctions (definitions (x ∷ is)) (drop n fs) → HaveFunctions (definitions is) (drop m fs)
  have_next m (item.Function d) is e h =
      subst (λ k. HaveFunctions (definitions is) (drop k fs)) (let same : n + 1 ≡ m = omega (arith, e) in same) (have_rest d (definitions is) (drop n fs) refl h)
  have_next m (item.Decl d) is e h = subst (λ k. HaveFunctions (definitions is) (drop k fs)) (let same : n ≡ m = omega (arith, e) in same) h
  have_next m (item.Typedef s ds) is e h = subst (λ k. HaveFunctions (definitions is) (drop k fs)) (let same : n ≡ m = omega (arith, e) in same) h

entry_left : (p : Program) (n : ℕ) (gs : List Function) → drop n p.functions ≡ gs → HaveFunctions [] gs → FunctionLinesFrom p n [] []
entry_left p n _ e (entry_alone entry) = subst (λ fs. FunctionLines p.structs n [] fs []) (sym e) (no_functions n entry)

-- behind the last definition stands the entry function, which has no lines
pub none_left : (p : Program) (n : ℕ) → HaveFunctions [] (drop n p.functions) → FunctionLinesFrom p n [] []
none_left p n h = entry_left p n (drop n p.functions) refl h
