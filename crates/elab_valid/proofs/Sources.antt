-- Registers that an instruction gives which starts no thread: so they are no thread's number.
use Rattle.std.proofs.Common.{◌≡◌, ◌≢◌, ℕ, pos, ◌+◌, ◌-◌, ◌<◌, ◌≤◌, Bool, true, false, List, [], ◌∷◌, ◌++◌, length, Option, Some, refl, ap, sym, subst, ◌∙◌, ⊎_elim, arith, slice_get}
use Rattle.std.proofs.lemmas.Bool.{cases_eq, cases_lt}
use Rattle.std.proofs.lemmas.List.{length-map, map-append}
use Rattle.std.proofs.lemmas.Option.{same_Some}
use Rattle.std.specs.Prelude.{if◌then◌else◌}
use Rattle.c_types.specs.declared.ty.Ty.{Ty}
use Rattle.c_types.specs.declared.ty.Ty.TheVariants as ty
use Rattle.c_types.specs.Same.{same}
use Rattle.core_ir.specs.declared.instr.Instr.{Instr}
use Rattle.core_ir.specs.declared.instr.Instr.TheVariants.{Cast, GetLocal, Load, Store, Touch, Jump}
use Rattle.core_ir.specs.declared.role.Role.TheVariants as role
use Rattle.core_ir.specs.Flow.{Stands}
use Rattle.core_ir.specs.Instructions.{defined, outline_of, role_of}
use Rattle.core_ir.specs.Outline.{Outline}
use Rattle.core_ir.specs.Typed.{element_of}
use Rattle.core_parts.specs.Pieces.{IsOwned, IsPart, end_of}
use Rattle.core_parts.specs.Theorems.{PartLaws}
use Rattle.elab_rows.specs.Addresses.{Lvalue, assigned, loaded, pointing, updated}
use Rattle.elab_rows.specs.Calls.{Listed, called}
use Rattle.elab_rows.specs.Choices.{and_code, arms, conditional_code, kept_in, or_code, or_lines, sets, tested, truth_lines}
use Rattle.elab_rows.specs.Made.{Code, behind, combined, converted, extended, followed, single}
use Rattle.elab_laws.specs.Values.{IsNoNumber, outlines}

-- the code has an instruction that defines the register and is no `Fork`
pub record Sourced (code : List Instr) (place r : ℕ) : Type 0 where
  pub at : ℕ
  pub by : Outline
  pub there : Stands (outlines code) place at by
  pub defines : by.defined ≡ Some r
  pub other : by.role ≢ role.Fork

-- so it is with the register of its value, from everywhere
abbrev pub HasSource : Code → Type 0
HasSource c = (place register slot : ℕ) → Sourced (c place register slot).code place (c place register slot).result

end_outlines : (c : List Instr) (start : ℕ) → end_of (outlines c) start ≡ start + length c
end_outlines c start = ap (λ n. start + n) (length-map c outline_of)

outlines_append : (c d : List Instr) → outlines (c ++ d) ≡ outlines c ++ outlines d
outlines_append c d = map-append outline_of c d

-- two places that define one register are one
once : (c : List Outline) (start from to k j r : ℕ) (i h : Outline) → IsOwned c start from to → Stands c start k i → Stands c start j h → i.defined ≡ Some r → h.defined ≡ Some r → k ≡ j
once c start from to k j r i h owned at_k at_j is_k is_j = ⊎_elim
    (λ (e : k ≡ j). e)
    (λ (ne : k ≡ j → ⊥). ⊎_elim
    (λ (lt : k < j). let z : r < r = owned.rising k j r r i h at_k at_j is_k is_j lt in absurd (omega arith))
    (λ (le : j ≤ k). let z : r < r = owned.rising j k r r h i at_j at_k is_j is_k (omega arith) in absurd (omega arith))
    (cases_lt k j))
    (cases_eq k j)

stands-first : (i : Outline) (is : List Outline) (start : ℕ) → Stands (i ∷ is) start start i
stands-first i is start =
    let zero_place : start - start ≡ 0 = omega arith in
    record { from = omega arith; there = ap (slice_get (i ∷ is)) zero_place }

module _ (laws : PartLaws) where
  pub in_front : (c d : List Instr) (place r : ℕ) → Sourced c place r → Sourced (c ++ d) place r
  in_front c d place r h = record {
    at = h.at;
    by = h.by;
    there = subst (λ o. Stands o place h.at h.by) (sym (outlines_append c d)) (laws.composition.in_front (outlines c) (outlines d) place h.at h.by h.there);
    defines = h.defines;
    other = h.other;
  }

  pub in_back : (c d : List Instr) (place r : ℕ) → Sourced d (place + length c) r → Sourced (c ++ d) place r
  in_back c d place r h =
      let moved = subst (λ n. Stands (outlines d) n h.at h.by) (sym (end_outlines c place)) h.there in
      record {
        at = h.at;
        by = h.by;
        there = subst (λ o. Stands o place h.at h.by) (sym (outlines_append c d)) (laws.composition.in_back (outlines c) (outlines d) place h.at h.by moved);
        defines = h.defines;
        other = h.other;
      }

  pub alone : (i : Instr) (place r : ℕ) → defined i ≡ Some r → role_of i ≢ role.Fork → Sourced (i ∷ []) place r
  alone i place r is other = record { at = place; by = outline_of i; there = stands-first (outline_of i) [] place; defines = is; other = other }

  pub last : (c : List Instr) (i : Instr) (place r : ℕ) → defined i ≡ Some r → role_of i ≢ role.Fork → Sourced (c ++ i ∷ []) place r
  last c i place r is other = in_back c (i ∷ []) place r (alone i (place + length c) r is other)

  -- a register that has a source is no thread's number
  pub no_number : (c : List Instr) (place from to r : ℕ) (live : List ℕ) → IsPart (outlines c) place from to live → Sourced c place r → IsNoNumber c place r
  no_number c place from to r live part h k forks =
      let same = once (outlines c) place from to h.at k r h.by forks.instruction part.is_section.owned h.there forks.there h.defines forks.defines in
      let at_k = subst (λ n. Stands (outlines c) place n h.by) same h.there in
      let is : h.by ≡ forks.instruction = same_Some h.by forks.instruction (sym at_k.there ∙ forks.there.there) in
      h.other (ap (λ o. o.role) is ∙ forks.is)

  -- ---- rows

  pub single_source : (i : ℕ → Instr) → ((d : ℕ) → defined (i d) ≡ Some d) → ((d : ℕ) → role_of (i d) ≢ role.Fork) → HasSource (single i)
  single_source i is other place register slot = alone (i register) place register (is register) (other register)

  pub extended_source : (i : ℕ → ℕ → Instr) (a : Code) → ((d x : ℕ) → defined (i d x) ≡ Some d) → ((d x : ℕ) → role_of (i d x) ≢ role.Fork) → HasSource (extended i a)
  extended_source i a is other place register slot = let x = a place register slot in last x.code (i x.register x.result) place x.register (is x.register x.result) (other x.register x.result)

  pub combined_source : (i : ℕ → ℕ → ℕ → Instr) (a b : Code) → ((d x y : ℕ) → defined (i d x y) ≡ Some d) → ((d x y : ℕ) → role_of (i d x y) ≢ role.Fork) → HasSource (combined i a b)
  combined_source i a b is other place register slot =
      let x = a place register slot in
      let y = behind place x b in
      last (x.code ++ y.code) (i y.register x.result y.result) place y.register (is y.register x.result y.result) (other y.register x.result y.result)

  pub followed_source : (i : ℕ → Instr) (a : Code) → HasSource a → HasSource (followed i a)
  followed_source i a h place register slot = let x = a place register slot in in_front x.code (i x.result ∷ []) place x.result (h place register slot)

  either_source : (b : Bool) (c d : Code) → (b ≡ true → HasSource c) → HasSource d → HasSource (if b then c else d)
  either_source true c d hc hd = hc refl
  either_source false c d hc hd = hd

  pub converted_source : (from to : Ty) (a : Code) → (same from to ≡ true → HasSource a) → HasSource (converted from to a)
  converted_source from to a h = either_source (same from to) a (extended (λ d x. Cast d x from to) a) h (extended_source (λ d x. Cast d x from to) a (λ d x. refl) (λ d x e. cc))

  pub pointing_source : (root target : Ty) (a : Code) → HasSource a → HasSource (pointing root target a)
  pointing_source root target a h =
      either_source (same (element_of root) (element_of target)) a (extended (λ d p. Cast d p (ty.Pointer root) (ty.Pointer target)) a) (λ e. h)
      (extended_source (λ d p. Cast d p (ty.Pointer root) (ty.Pointer target)) a (λ d x. refl) (λ d x e. cc))

  pub loaded_source : (x : Lvalue) → HasSource (loaded x)
  loaded_source x = extended_source (λ d p. Load d p x.ty) (followed (λ p. Touch p x.root) x.address) (λ d p. refl) (λ d p e. cc)

  pub assigned_source : (x : Lvalue) (v : Code) → HasSource v → HasSource (assigned x v)
  assigned_source x v h place register slot =
      let y = v place register slot in
      let z = behind place y x.address in
      in_front (y.code ++ z.code) (Touch z.result x.root ∷ Store z.result y.result x.ty ∷ []) place y.result (in_front y.code z.code place y.result (h place register slot))

  pub updated_source : (x : Lvalue) (new : Code → Code) → HasSource (new (loaded x)) → HasSource (updated x new)
  updated_source x new h place register slot =
      let a = (x.address place register slot).result in
      let y = new (loaded x) place register slot in
      in_front y.code (Touch a x.root ∷ Store a y.result x.ty ∷ []) place y.result (h place register slot)

  pub conditional_source : (c a b : Code) → HasSource (conditional_code c a b)
  conditional_source c a b place register slot =
      let t = c place register slot in
      let x = a (place + length t.code + 1) t.register t.slot in
      let y = b (place + length t.code + 1 + length x.code + 2) x.register (x.slot + 1) in
      let f = place + length t.code + 1 + length x.code + 2 in
      let e = f + length y.code + 1 in
      in_back (tested t f) (arms x y e) place y.register
      (last ((kept_in x x.slot ++ Jump e ∷ []) ++ kept_in y x.slot) (GetLocal y.register x.slot) (place + length (tested t f)) y.register refl (λ z. cc))

  pub called_source : (call : Option ℕ → Instr) (l : Listed) (place : ℕ) → Sourced (called true call l).code place (called true call l).result
  called_source call l place =
      in_back l.code (call (Some l.slot) ∷ GetLocal l.register l.slot ∷ []) place l.register
      (last (call (Some l.slot) ∷ []) (GetLocal l.register l.slot) (place + length l.code) l.register refl (λ z. cc))

  -- the value of `&&` and `||`
  truth_source : (operands : List Instr) (d s t place : ℕ) → Sourced (operands ++ truth_lines d s t) place (d + 2)
  truth_source operands d s t place =
      in_back operands (truth_lines d s t) place (d + 2)
      (last ((sets d (pos 1) s ++ Jump (t + 2) ∷ []) ++ sets (d + 1) (pos 0) s) (GetLocal (d + 2) s) (place + length operands) (d + 2) refl (λ z. cc))

  pub truth_source_and : (a b : Code) → HasSource (and_code a b)
  truth_source_and a b place register slot =
      let x = a place register slot in
      let y = b (place + length x.code + 1) x.register x.slot in
      let t = place + length x.code + 1 + length y.code + 4 in
      truth_source (tested x t ++ tested y t) y.register y.slot t place

  pub truth_source_or : (a b : Code) → HasSource (or_code a b)
  truth_source_or a b place register slot =
      let x = a place register slot in
      let y = b (place + length x.code + 2) x.register x.slot in
      let m = place + length x.code + 2 in
      let t = m + length y.code + 1 in
      truth_source (or_lines x y m t) y.register y.slot (t + 3) place
