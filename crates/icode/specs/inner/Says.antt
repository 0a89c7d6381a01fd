-- Whether an instruction of code says that it stands at a site.
use Rattle.std.specs.Prelude.{ℕ, ◌==◌, Bool, true, false, is_some, Option, Some, None}
use Rattle.machine.specs.declared.code.CodePlace.{CodePlace}
use Rattle.machine.specs.declared.code.CodePlace.TheVariants.{Touch, Load, Store, CallInd}
use Rattle.machine.specs.declared.code.Origin.{Origin}
use Rattle.machine.specs.declared.code.Origin.TheVariants as origin
use Rattle.icode.specs.declared.site.Site.{Site}

abbrev pub same_bool : Bool → Bool → Bool
same_bool true b = b
same_bool false true = false
same_bool false false = true

abbrev pub same_unit : Option ℕ → Option ℕ → Bool
same_unit None None = true
same_unit (Some u) (Some v) = u == v
same_unit _ _ = false

abbrev pub same_origin : Origin → Origin → Bool
same_origin (origin.Register p) (origin.Register q) = p == q
same_origin (origin.Slot s) (origin.Slot t) = s == t
same_origin _ _ = false

abbrev pub says : CodePlace → Site → Bool
says (Touch p class marked) site = same_bool marked (is_some site.unit)
says (Load d p kind unit) site = same_unit unit site.unit
says (Store p a kind unit) site = same_unit unit site.unit
says (CallInd c args t s o) site = same_origin o site.origin
says _ site = true
