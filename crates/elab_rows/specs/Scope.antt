-- Where the locals of a function stand, and the numbers of functions.
use Rattle.std.specs.Prelude.{ℕ, zero, suc, Bool, not, ◌&&◌, if◌then◌else◌, List, [], ◌∷◌, Option, slice_get, unwrap_or}
use Rattle.c_types.specs.Kinds.{is_scalar}
use Rattle.c_typed.specs.declared.unit.Local.{Local}
use Rattle.elab_rows.specs.declared.scope.Scope.{Scope}
use Rattle.elab_rows.specs.declared.scope.Standing.{Standing}
use Rattle.elab_rows.specs.declared.scope.Standing.TheVariants as stands
use Rattle.tables.specs.Places.{place_of}

-- a scalar whose address is taken nowhere
unfoldable pub is_slot_local : Local → Bool
is_slot_local l = is_scalar l.ty && not l.is_addressed

abbrev pub standing : Bool → ℕ → ℕ → Standing
standing in_slot slot frame = if in_slot then stands.Slot slot else stands.Frame frame

abbrev pub one_more_if : Bool → ℕ → ℕ
one_more_if test n = if test then suc n else n

-- Where locals stand, of which so many are parameters, from a slot and a frame local on. A parameter has a slot also
-- where it is a frame local.
abbrev pub standings : ℕ → ℕ → ℕ → List Local → List Standing
standings parameters slot frame [] = []
standings (suc n) slot frame (l ∷ ls) =
    standing (is_slot_local l) slot frame ∷ standings n (suc slot) (one_more_if (not (is_slot_local l)) frame) ls
standings zero slot frame (l ∷ ls) =
    standing (is_slot_local l) slot frame
    ∷ standings zero (one_more_if (is_slot_local l) slot) (one_more_if (not (is_slot_local l)) frame) ls

-- the first slot behind those of parameters and locals
abbrev pub slots_behind : ℕ → ℕ → List Local → ℕ
slots_behind parameters slot [] = slot
slots_behind (suc n) slot (l ∷ ls) = slots_behind n (suc slot) ls
slots_behind zero slot (l ∷ ls) = slots_behind zero (one_more_if (is_slot_local l) slot) ls

unfoldable pub standing_of : Scope → ℕ → Option Standing
standing_of scope n = slice_get scope.locals n

-- the number of the function of this name
unfoldable pub function_number : List (List ℕ) → List ℕ → ℕ
function_number names x = unwrap_or (place_of (λ f. f) names x) 0
