-- What stands at the end of a body.
use Rattle.std.proofs.Common.{◌≡◌, ◌∙◌, ◌+◌, ◌-◌, ◌<◌, List, [], ◌∷◌, ◌++◌, Some, length, take, get_or, slice_get, sym, ap, arith}
use Rattle.std.proofs.lemmas.List.{get_or_push, length_push, take_all, take_more}
use Rattle.std.proofs.lemmas.Option.{get_or_from_slice_get, slice_get-get_or}
use Rattle.core_ir.specs.declared.role.Role.{Role}
use Rattle.core_ir.specs.Outline.{Outline}
use Rattle.core_ir.specs.Order.{EndsWith}
use Rattle.core_ir.specs.inner.Found.{role_in}
use Rattle.core_ir.proofs.Places.{got, has_role_in, role_in_has, stands}

module _ (code : List Outline) (r : Role) where
  pub ends_from : 0 < length code → role_in code (length code - 1) ≡ Some r → EndsWith code r
  ends_from some there =
      let has = role_in_has code (length code - 1) r there in
      let i = has.instruction in
      let n : length code - 1 + 1 ≡ length code = omega arith in
      record {
        before = take (length code - 1) code;
        last = i;
        is = sym (take_all (length code) code (omega arith)) ∙ ap (λ k. take k code) (sym n) ∙ take_more code (length code - 1) i (omega arith)
            ∙ ap (λ x. take (length code - 1) code ++ x ∷ []) (get_or_from_slice_get code (length code - 1) i i (got has.there));
        has = has.is;
      }

  pub ends_role : EndsWith code r → (0 < length code) × (role_in code (length code - 1) ≡ Some r)
  ends_role e =
      let n : length code ≡ length e.before + 1 = ap (λ c. length c) e.is ∙ length_push e.before e.last in
      let at : slice_get code (length code - 1) ≡ Some e.last =
      slice_get-get_or code (length code - 1) e.last (omega arith) ∙ ap Some (ap (λ c. get_or c (length code - 1) e.last) e.is ∙ get_or_push e.before e.last e.last (length code - 1) (omega arith)) in
      (omega arith, has_role_in code (length code - 1) r (record { instruction = e.last; there = stands code (length code - 1) e.last at; is = e.has }))
