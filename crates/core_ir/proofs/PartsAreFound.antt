-- The search for a part: what it finds is a part, and what it doesn't find is none.
use Rattle.std.proofs.Common.{◌≡◌, ◌∙◌, ◌⊎◌, inl, inr, ℕ, ◌+◌, ◌<◌, ◌≤◌, Bool, List, length, slice_get, slice_index, Some, refl, sym, ap, subst, arith}
use Rattle.std.specs.List.{All}
use Rattle.std.proofs.lemmas.Bool.{cases_eq}
use Rattle.std.proofs.lemmas.Option.{slice_get_within}
use Rattle.std.proofs.lemmas.List.Elements.{All-weaker}
use Rattle.std.proofs.lemmas.List.Sums.{count_by-le-length}
use Rattle.c_types.specs.declared.structs.Member.{Member}
use Rattle.c_types.specs.declared.structs.StructDef.{StructDef}
use Rattle.c_types.specs.declared.ty.Ty.{Ty}
use Rattle.c_types.specs.declared.ty.Ty.TheVariants as ty
use Rattle.c_types.specs.Structs.{body_of}
use Rattle.core_ir.specs.declared.found.Found.{Found}
use Rattle.core_ir.specs.Parts.{HasPart, element, member, whole}
use Rattle.core_ir.specs.inner.Search.{AreFound, AreSearched, Extends, HasLayer, Includes, IsClean, IsScanned, inside, outermost}
use Rattle.core_ir.proofs.Places.{some_of_then}

pub extends_then : (a b c : Found) → Extends a b → Extends b c → Extends a c
extends_then a b c ab bc = record {
  more = omega (arith, ab.more, bc.more);
  same = λ k low. bc.same k (omega (arith, ab.more)) ∙ ab.same k low;
  kept = λ s i. bc.kept s (ab.kept s i);
}

pub clean_kept : (a b : Found) (x t : Ty) → Extends a b → IsClean a x t → IsClean b x t
clean_kept a b x t ab clean = record { no_layer = clean.no_layer; structs = λ s h low. ab.kept s (clean.structs s h low) }

pub all_clean_kept : (a b : Found) (x : Ty) (ms : List Member) → Extends a b → All (λ m. IsClean a x m.ty) ms → All (λ m. IsClean b x m.ty) ms
all_clean_kept a b x ms ab all = All-weaker (λ (m : Member). IsClean a x m.ty) (λ (m : Member). IsClean b x m.ty) (λ m clean. clean_kept a b x m.ty ab clean) ms all

module _ (defs : List StructDef) where
  pub layer_part : {t u : Ty} (x : Ty) → HasLayer t u → HasPart defs u x → HasPart defs t x
  layer_part x (outermost t) h = h
  layer_part x (inside t u n l) h = element t x n (layer_part x l h)

  pub layer_is_part : (t x : Ty) → HasLayer t x → HasPart defs t x
  layer_is_part t x l = layer_part x l (whole x)

  body_low : length defs ≤ 1024 → (s : ℕ) (ms : List Member) → body_of defs s ≡ Some ms → s < 1024
  body_low few s ms is =
      let d = some_of_then (λ (d : StructDef). d.members) (slice_get defs s) ms is in
      let low = slice_get_within defs s d.0 d.1 in
      omega (arith, low)

  pub searched_first : (old new : Found) (w x : Ty) → AreFound new → ((s : ℕ) → Includes old s → ⊥) → (HasLayer w x → ⊥)
      → ((s : ℕ) → HasLayer w (ty.Struct s) → s < 1024 → Includes new s)
      → ((s : ℕ) → Includes new s → Includes old s ⊎ HasLayer w (ty.Struct s)) → AreSearched defs w x new 0
  searched_first old new w x are none no_layer added others = record {
    are = are;
    parts = λ s i y h. elim (others s i) [ inl e ↦ absurd (none s e) | inr l ↦ layer_part y l h ];
    scanned = λ k low. absurd (omega arith);
    start = record { no_layer = no_layer; structs = added };
  }

  module _ (w x : Ty) where
    scanned_kept : (a b : Found) (s : ℕ) → Extends a b → IsScanned defs a x s → IsScanned defs b x s
    scanned_kept a b s ab scanned ms m body there = clean_kept a b x m.ty ab (scanned ms m body there)

    pub searched_more : (old new : Found) (k number : ℕ) → AreSearched defs w x old k → k < old.count → number ≡ slice_index old.numbers k → Includes old number
        → AreFound new → Extends old new → IsScanned defs new x number
        → ((s : ℕ) → Includes new s → Includes old s ⊎ ((y : Ty) → HasPart defs (ty.Struct s) y → HasPart defs (ty.Struct number) y))
        → AreSearched defs w x new (k + 1)
    searched_more old new k number are low is included found grows scanned others = record {
      are = found;
      parts = λ s i y h. elim (others s i) [ inl e ↦ are.parts s e y h | inr deeper ↦ are.parts number included y (deeper y h) ];
      scanned = λ j before. elim (cases_eq j k) [
        | inl e ↦ subst (λ n. IsScanned defs new x n) (is ∙ sym (ap (λ n. slice_index new.numbers n) e ∙ grows.same k low)) scanned
        | inr ne ↦ subst (λ n. IsScanned defs new x n) (sym (grows.same j (omega arith))) (scanned_kept old new (slice_index old.numbers j) grows (are.scanned j (omega arith)))
      ];
      start = clean_kept old new x w grows are.start;
    }

  module _ (few : length defs ≤ 1024) (w x : Ty) (found : Found) (next : ℕ) (are : AreSearched defs w x found next) (all : found.count ≤ next) where
    clean_element : (t : Ty) (n : ℕ) → IsClean found x (ty.Array t n) → IsClean found x t
    clean_element t n clean = record { no_layer = λ h. clean.no_layer (inside t x n h); structs = λ s h low. clean.structs s (inside t (ty.Struct s) n h) low }

    not_in : {t y : Ty} → HasPart defs t y → y ≡ x → IsClean found x t → ⊥
    not_in (whole t) e clean = clean.no_layer (subst (λ u. HasLayer t u) e (outermost t))
    not_in (element t y n h) e clean = not_in h e (clean_element t n clean)
    not_in (member s ms m y body there h) e clean =
        let i = clean.structs s (outermost (ty.Struct s)) (body_low few s ms body) in
        let k = are.are.at s i in
        let scanned = are.scanned k.0 (omega (arith, k.1)) ms m (ap (λ n. body_of defs n) k.2 ∙ body) there in
        not_in h e scanned

    pub no_part : HasPart defs w x → ⊥
    no_part h = not_in h refl are.start

pub count_few : (found : Found) → AreFound found → found.count ≤ 1024
count_few found are = let most = count_by-le-length (λ (b : Bool). b) found.is_found in omega (arith, most, are.counted, are.marks)
