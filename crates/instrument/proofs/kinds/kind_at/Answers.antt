use Rattle.std.proofs.Common.{◌∙◌, sym}
use Rattle.instrument.proofs.KindsOfTypes.{char_kind, int_kind, pointer_kind}
use Rattle.instrument.proofs.kinds.kind_at.Goals as goal

pub returns-then-is_pointer : goal.returns-then-is_pointer
returns-then-is_pointer c = c.kind_of_class.ensures ∙ sym (pointer_kind c.args.class c.args.ty.now (sym c.is_pointer.ensures ∙ c.if-is_pointer.true))

pub returns-then-is_char : goal.returns-then-is_char
returns-then-is_char c = sym (char_kind c.args.class c.args.ty.now (sym c.is_char.ensures ∙ c.if-is_char.true))

pub returns-else-is_char : goal.returns-else-is_char
returns-else-is_char c = sym (int_kind c.args.class c.args.ty.now (sym c.is_pointer.ensures ∙ c.if-is_pointer.false) (sym c.is_char.ensures ∙ c.if-is_char.false))
