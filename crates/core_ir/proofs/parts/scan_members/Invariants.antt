use Rattle.std.proofs.Common.{ℕ, ◌⊎◌, take}
use Rattle.std.specs.List.{All, Contains}
use Rattle.c_types.specs.declared.structs.Member.{Member}
use Rattle.c_types.specs.declared.ty.Ty.TheVariants as ty
use Rattle.core_ir.specs.inner.Search.{AreFound, Extends, HasLayer, Includes, IsClean}
use Rattle.core_ir.proofs.parts.scan_members.Given as goal

abbrev pub invariant-loop-member : goal.invariant-loop-member
invariant-loop-member l = record {
  are : AreFound l.found;
  grows : Extends l.fn.found l.found;
  clean : All (λ m. IsClean l.found l.part m.ty) (take l.member-index l.members);
  others : (s : ℕ) → Includes l.found s → Includes l.fn.found s ⊎ ((m : Member) × Contains l.members m × HasLayer m.ty (ty.Struct s));
}
