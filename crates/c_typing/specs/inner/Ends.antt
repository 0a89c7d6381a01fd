-- What is answered behind the last item.
use Rattle.std.specs.Prelude.{List, Option, Some, None, Result, Ok, Err}
use Rattle.c_typed.specs.declared.unit.Typed.{Typed}
use Rattle.c_typed.specs.declared.unit.TypedItem.{TypedItem}
use Rattle.c_scope.specs.declared.world.World.{World}
use Rattle.c_typing.specs.declared.error.CheckRefusal.{CheckRefusal}

-- the typed form of these items
abbrev pub with_items : List TypedItem → World → Typed
with_items is w = record { items = is; structs = w.structs; strings = w.strings }

-- the typed form, unless something is refused
abbrev pub ended : Typed → Option CheckRefusal → Result Typed CheckRefusal
ended typed None = Ok typed
ended typed (Some refusal) = Err refusal
