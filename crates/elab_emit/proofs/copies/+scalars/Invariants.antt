use Rattle.std.proofs.Common.{◌≡◌, ◌+◌, ◌*◌, ◌++◌, take}
use Rattle.c_types.specs.declared.ty.Ty.{size-Ty}
use Rattle.elab_rows.specs.Units.{each_scalars, repeated, scalars_in, struct_scalars}
use Rattle.elab_emit.specs.inner.Copies.{greatest, greatest_of}
use Rattle.elab_emit.proofs.copies.+scalars.Given as goal

-- Each step into a struct lessens the depth, and each other one the type.

abbrev pub decreases-push_scalars : goal.decreases-push_scalars
decreases-push_scalars l = l.depth * (3 * greatest l.structs.now + 6) + 3 * size-Ty l.ty.now + 2

abbrev pub decreases-push_form : goal.decreases-push_form
decreases-push_form l = l.depth * (3 * greatest l.structs.now + 6) + 3 * size-Ty l.ty.now + 1

abbrev pub decreases-push_elements : goal.decreases-push_elements
decreases-push_elements l = l.depth * (3 * greatest l.structs.now + 6) + 3 * size-Ty l.element.now + 3

abbrev pub decreases-push_nested : goal.decreases-push_nested
decreases-push_nested l = l.depth * (3 * greatest l.structs.now + 6)

abbrev pub decreases-push_struct : goal.decreases-push_struct
decreases-push_struct l = l.depth * (3 * greatest l.structs.now + 6) + 3 * greatest l.structs.now + 4

abbrev pub decreases-push_members : goal.decreases-push_members
decreases-push_members l = l.depth * (3 * greatest l.structs.now + 6) + 3 * greatest_of l.members.now + 3

abbrev pub invariant-push_elements-loop-turn : goal.invariant-push_elements-loop-turn
invariant-push_elements-loop-turn l =
    l.found ≡ l.initial.found ++ repeated l.turn (scalars_in (struct_scalars l.depth l.structs) l.element)

abbrev pub invariant-push_members-loop-member : goal.invariant-push_members-loop-member
invariant-push_members-loop-member l =
    l.found ≡ l.initial.found ++ each_scalars (struct_scalars l.depth l.structs) (take l.member-index l.members)
