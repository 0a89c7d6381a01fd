-- The kind of a type, by its outer form.
use Rattle.std.proofs.Common.{◌≡◌, true, false, is_some, refl}
use Rattle.c_types.specs.declared.ty.Ty.{Ty, out-Ty}
use Rattle.c_types.specs.declared.ty.Ty.TheOpen.{Ty-F}
use Rattle.c_types.specs.Kinds.{Outer, is_char, is_char_at, is_pointer, target_at, target_of}
use Rattle.sensitivity.specs.declared.class.Class.{Class}
use Rattle.machine.specs.declared.code.ScalarKind.TheVariants as kind
use Rattle.machine.specs.Decided.{kind_at, kind_of_class}

pointer_at : (a : Class) (y : Outer) → is_some (target_at y) ≡ true → kind_at a y ≡ kind_of_class a
pointer_at a (Ty-F.Pointer t) is = refl
pointer_at a _ is = absurd (cc)

char_at : (a : Class) (y : Outer) → is_char_at y ≡ true → kind_at a y ≡ kind.Char
char_at a Ty-F.Char is = refl
char_at a _ is = absurd (cc)

int_at : (a : Class) (y : Outer) → is_some (target_at y) ≡ false → is_char_at y ≡ false → kind_at a y ≡ kind.Int
int_at a (Ty-F.Pointer t) no_pointer no_char = absurd (cc)
int_at a Ty-F.Char no_pointer no_char = absurd (cc)
int_at a _ no_pointer no_char = refl

pub pointer_kind : (a : Class) (t : Ty) → is_pointer t ≡ true → kind_at a (out-Ty t) ≡ kind_of_class a
unfolding is_pointer target_of
pointer_kind a t is = pointer_at a (out-Ty t) is

pub char_kind : (a : Class) (t : Ty) → is_char t ≡ true → kind_at a (out-Ty t) ≡ kind.Char
unfolding is_char
char_kind a t is = char_at a (out-Ty t) is

pub int_kind : (a : Class) (t : Ty) → is_pointer t ≡ false → is_char t ≡ false → kind_at a (out-Ty t) ≡ kind.Int
unfolding is_pointer target_of is_char
int_kind a t no_pointer no_char = int_at a (out-Ty t) no_pointer no_char
