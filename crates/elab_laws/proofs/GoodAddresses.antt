-- The rows of addresses, of lvalues as values and of assignments: each is a part where its operands are.
use Rattle.std.proofs.Common.{◌≡◌, inl, inr, ℕ, suc, ◌+◌, ◌*◌, List, [], ◌∷◌, ◌++◌, length, refl, sym, subst, ◌∙◌, arith, append_assoc, append-nil}
use Rattle.c_types.specs.declared.ty.Ty.{Ty, out-Ty}
use Rattle.c_types.specs.declared.ty.Ty.TheOpen.{Ty-F}
use Rattle.c_types.specs.declared.ty.Ty.TheVariants as ty
use Rattle.c_types.specs.Kinds.{Outer}
use Rattle.c_types.specs.Same.{same}
use Rattle.core_ir.specs.declared.instr.Instr.{Instr}
use Rattle.core_ir.specs.declared.instr.Instr.TheVariants.{PtrConst, Cast, Touch, Load, Store}
use Rattle.core_ir.specs.Flow.{IsAmong}
use Rattle.core_ir.specs.Typed.{element_of}
use Rattle.core_parts.specs.Pieces.{IsPart}
use Rattle.core_parts.specs.Theorems.{PartLaws}
use Rattle.elab_rows.specs.Addresses.{Lvalue, assigned, copied_part, copied_parts, loaded, lvalue_value, pointing, stored_made, struct_assigned, updated, value_at}
use Rattle.elab_rows.specs.Made.{Code, Made, behind, extended}
use Rattle.elab_laws.proofs.GoodRows.{ahead, among_left, among_right, either, extended_value, first_is}
use Rattle.elab_laws.proofs.Lifted.{fewer, gives, loads, stores, append}
use Rattle.elab_laws.specs.Values.{IsGood, IsValue, behind_made, outlines}

module _ (laws : PartLaws) where
  -- ---- lvalues as values

  pub loaded_value : (x : Lvalue) (place register slot : ℕ) (more : List ℕ) → IsValue (x.address place register slot) place register more → IsValue (loaded x place register slot) place register more
  loaded_value x place register slot more h =
      let y = x.address place register slot in
      let all = loads laws y.code place register y.register (y.result ∷ more) y.result x.root x.ty h (inl refl) in
      let less = fewer laws (y.code ++ Touch y.result x.root ∷ Load y.register y.result x.ty ∷ []) place register (y.register + 1) (y.register ∷ y.result ∷ more) (y.register ∷ more) all
      (ahead y.register more (y.result ∷ more) (λ r is. inr is)) in
      subst (λ c. IsPart (outlines c) place register (y.register + 1) (y.register ∷ more)) (sym (append_assoc y.code (Touch y.result x.root ∷ []) (Load y.register y.result x.ty ∷ []))) less

  pub pointing_value : (root target : Ty) (a : Code) (place register slot : ℕ) (more : List ℕ) → IsValue (a place register slot) place register more → IsValue (pointing root target a place register slot) place register more
  pointing_value root target a place register slot more h =
      either laws (same (element_of root) (element_of target)) a (extended (λ d p. Cast d p (ty.Pointer root) (ty.Pointer target)) a) place register slot more h
      (extended_value laws (λ d p. Cast d p (ty.Pointer root) (ty.Pointer target)) (a place register slot) place register more tt refl refl (λ r is. is) h)

  value_at_value : (x : Lvalue) (o : Outer) (place register slot : ℕ) (more : List ℕ) → IsValue (x.address place register slot) place register more → IsValue (value_at x o place register slot) place register more
  value_at_value x (Ty-F.Array element n) place register slot more h = pointing_value x.root element x.address place register slot more h
  value_at_value x (Ty-F.Struct s) place register slot more h = h
  value_at_value x _ place register slot more h = loaded_value x place register slot more h

  pub lvalue_value_value : (x : Lvalue) (place register slot : ℕ) (more : List ℕ) → IsValue (x.address place register slot) place register more → IsValue (lvalue_value x place register slot) place register more
  lvalue_value_value x place register slot more h = value_at_value x (out-Ty x.ty) place register slot more h

  -- ---- assignments

  pub stored_value : (root t : Ty) (x y : Made) (place register : ℕ) (more : List ℕ) → IsValue x place register more → IsValue y (behind_made place x) x.register [] → IsValue (stored_made root t x y) place register more
  stored_value root t x y place register more hx hy =
      let live = (x.result ∷ more) ++ y.result ∷ [] in
      let both = append laws x.code y.code place register x.register y.register (x.result ∷ more) (y.result ∷ []) hx hy in
      let all = stores laws (x.code ++ y.code) place register y.register live y.result x.result root t both (among_right (x.result ∷ more) (y.result ∷ []) y.result (inl refl)) (inl refl) in
      fewer laws (x.code ++ y.code ++ Touch y.result root ∷ Store y.result x.result t ∷ []) place register y.register live (x.result ∷ more) all (λ r is. among_left (x.result ∷ more) (y.result ∷ []) r is)

  pub assigned_value : (x : Lvalue) (v : Code) (place register slot : ℕ) (more : List ℕ) → IsValue (v place register slot) place register more → IsGood x.address → IsValue (assigned x v place register slot) place register more
  assigned_value x v place register slot more hv ha =
      let y = v place register slot in
      stored_value x.root x.ty y (behind place y x.address) place register more hv (ha (place + length y.code) y.register y.slot)

  -- the new value's code keeps the address's register
  pub updated_value : (x : Lvalue) (new : Code → Code) (place register slot : ℕ) (more : List ℕ)
      → IsValue (new (loaded x) place register slot) place register ((x.address place register slot).result ∷ more) → IsValue (updated x new place register slot) place register more
  updated_value x new place register slot more h =
      let p = (x.address place register slot).result in
      let y = new (loaded x) place register slot in
      let all = stores laws y.code place register y.register (y.result ∷ p ∷ more) p y.result x.root x.ty h (inr (inl refl)) (inl refl) in
      fewer laws (y.code ++ Touch p x.root ∷ Store p y.result x.ty ∷ []) place register y.register (y.result ∷ p ∷ more) (y.result ∷ more) all (ahead y.result more (p ∷ more) (λ r is. inr is))

  -- ---- structs

  regrouped : {A : Type 0} (c a b d e : List A) → c ++ a ++ b ++ d ++ e ≡ c ++ (a ++ (b ++ (d ++ e)))
  regrouped c a b d e = append_assoc (c ++ a ++ b) d e ∙ append_assoc (c ++ a) b (d ++ e) ∙ append_assoc c a (b ++ (d ++ e))

  part_copied : (from to : Ty) (p q k : ℕ) (t : Ty) (c : List Instr) (start a b : ℕ) (live : List ℕ) → IsAmong live p → IsAmong live q → IsPart (outlines c) start a b live
      → IsPart (outlines (c ++ copied_part from to p q b k t)) start a (b + 3) live
  part_copied from to p q k t c start a b live is_p is_q h =
      let i = PtrConst b p k in
      let l = Touch b from ∷ Load (b + 1) b t ∷ [] in
      let j = PtrConst (b + 2) q k in
      let s = Touch (b + 2) to ∷ Store (b + 2) (b + 1) t ∷ [] in
      let two : b + 1 + 1 ≡ b + 2 = omega arith in
      let three : b + 2 + 1 ≡ b + 3 = omega arith in
      let h1 = gives laws c i start a b live h tt refl refl (λ r is. first_is p live is_p r is) in
      let h2 = loads laws (c ++ i ∷ []) start a (b + 1) (b ∷ live) b from t h1 (inl refl) in
      let h3 : IsPart (outlines (c ++ i ∷ [] ++ l)) start a (b + 2) ((b + 1) ∷ b ∷ live) = subst (λ n. IsPart (outlines (c ++ i ∷ [] ++ l)) start a n ((b + 1) ∷ b ∷ live)) two h2 in
      let h4 = gives laws (c ++ i ∷ [] ++ l) j start a (b + 2) ((b + 1) ∷ b ∷ live) h3 tt refl refl (λ r is. inr (inr (first_is q live is_q r is))) in
      let h5 = stores laws (c ++ i ∷ [] ++ l ++ j ∷ []) start a (b + 2 + 1) ((b + 2) ∷ (b + 1) ∷ b ∷ live) (b + 2) (b + 1) to t h4 (inl refl) (inr (inl refl)) in
      let h6 = fewer laws (c ++ i ∷ [] ++ l ++ j ∷ [] ++ s) start a (b + 2 + 1) ((b + 2) ∷ (b + 1) ∷ b ∷ live) live h5 (λ r is. inr (inr (inr is))) in
      subst (λ x. IsPart (outlines x) start a (b + 3) live) (regrouped c (i ∷ []) l (j ∷ []) s) (subst (λ n. IsPart (outlines (c ++ i ∷ [] ++ l ++ j ∷ [] ++ s)) start a n live) three h6)

  pub parts_copied : (from to : Ty) (p q k : ℕ) (ts : List Ty) (c : List Instr) (start a b : ℕ) (live : List ℕ) → IsAmong live p → IsAmong live q → IsPart (outlines c) start a b live
      → IsPart (outlines (c ++ copied_parts from to p q b k ts)) start a (b + 3 * length ts) live
  parts_copied from to p q k [] c start a b live is_p is_q h =
      let e : b ≡ b + 3 * 0 = omega arith in
      subst (λ x. IsPart (outlines x) start a (b + 3 * 0) live) (sym (append-nil c)) (subst (λ n. IsPart (outlines c) start a n live) e h)
  parts_copied from to p q k (t ∷ ts) c start a b live is_p is_q h =
      let one = copied_part from to p q b k t in
      let e : b + 3 + 3 * length ts ≡ b + 3 * suc (length ts) = omega arith in
      let rest = parts_copied from to p q (k + 1) ts (c ++ one) start a (b + 3) live is_p is_q (part_copied from to p q k t c start a b live is_p is_q h) in
      subst (λ x. IsPart (outlines x) start a (b + 3 * suc (length ts)) live) (append_assoc c one (copied_parts from to p q (b + 3) (k + 1) ts))
      (subst (λ n. IsPart (outlines (c ++ one ++ copied_parts from to p q (b + 3) (k + 1) ts)) start a n live) e rest)

  pub struct_value : (parts : List Ty) (to from : Lvalue) (place register slot : ℕ) (more : List ℕ) → IsValue (from.address place register slot) place register more → IsGood to.address
      → IsValue (struct_assigned parts to from place register slot) place register more
  struct_value parts to from place register slot more h ha =
      let x = from.address place register slot in
      let y = behind place x to.address in
      let live = (x.result ∷ more) ++ y.result ∷ [] in
      let both = append laws x.code y.code place register x.register y.register (x.result ∷ more) (y.result ∷ []) h (ha (place + length x.code) x.register x.slot) in
      let all = parts_copied from.root to.root x.result y.result 0 parts (x.code ++ y.code) place register y.register live (inl refl) (among_right (x.result ∷ more) (y.result ∷ []) y.result (inl refl)) both in
      fewer laws (x.code ++ y.code ++ copied_parts from.root to.root x.result y.result y.register 0 parts) place register (y.register + 3 * length parts) live (x.result ∷ more) all
      (λ r is. among_left (x.result ∷ more) (y.result ∷ []) r is)
