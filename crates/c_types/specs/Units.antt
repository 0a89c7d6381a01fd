-- The units of types and the offsets of members: sums over members, products over elements.
use Rattle.std.specs.Prelude.{ℕ, zero, suc, ◌+◌, ◌*◌, Bool, if◌then◌else◌, nat_le, List, [], ◌∷◌, length, map, take, Option, Some, None, unwrap_or, Result, Ok, Err, is_ok}
use Rattle.std.specs.Option.{option_map, option_and_then, ok_or}
use Rattle.c_types.specs.declared.error.LayoutRefusal.{LayoutRefusal}
use Rattle.c_types.specs.declared.error.LayoutRefusal.TheVariants.{Incomplete, TooLarge}
use Rattle.c_types.specs.declared.ty.Ty.{Ty, fold-Ty}
use Rattle.c_types.specs.declared.ty.Ty.TheOpen.{Ty-F}
use Rattle.c_types.specs.declared.structs.Member.{Member}
use Rattle.c_types.specs.declared.structs.StructDef.{StructDef}
use Rattle.c_types.specs.Structs.{body_of, members_of}

abbrev pub most_units : ℕ
most_units = 65536

-- ---- exact units, without a limit; none of an incomplete type

-- where this says the units of structs
module _ (of_struct : ℕ → Option ℕ) where
  abbrev pub sized_step : Ty-F (Option ℕ) (Option ℕ) → Option ℕ
  sized_step Ty-F.Int = Some 1
  sized_step Ty-F.Char = Some 1
  sized_step Ty-F.Void = None
  sized_step (Ty-F.Struct s) = of_struct s
  sized_step (Ty-F.Pointer target) = Some 1
  sized_step (Ty-F.Array element bound) = option_map (λ n. n * bound) element
  sized_step (Ty-F.Function f) = None

  unfoldable pub sized : Ty → Option ℕ
  sized = fold-Ty (Option ℕ) (Option ℕ) sized_step (λ f. None)

-- the sum, if each is known
abbrev pub total : List (Option ℕ) → Option ℕ
total [] = Some 0
total (o ∷ os) = option_and_then (λ m. option_map (λ n. m + n) (total os)) o

-- the units of a body, where this says those of structs
abbrev pub body_units : (ℕ → Option ℕ) → List Member → Option ℕ
body_units of_struct ms = total (map (λ m. sized of_struct m.ty) ms)

-- the units of a struct in which structs stand at most so deep
unfoldable pub struct_units : ℕ → List StructDef → ℕ → Option ℕ
struct_units zero defs s = None
struct_units (suc depth) defs s = option_and_then (λ ms. body_units (struct_units depth defs) ms) (body_of defs s)

-- no struct contains itself, so none stands deeper than there are structs
unfoldable pub exact_units : List StructDef → Ty → Option ℕ
exact_units defs = sized (struct_units (length defs) defs)

-- ---- what is answered

abbrev pub limited : Result ℕ LayoutRefusal → Result ℕ LayoutRefusal
limited (Ok n) = if nat_le n most_units then Ok n else Err TooLarge
limited (Err refusal) = Err refusal

unfoldable pub units_of : List StructDef → Ty → Result ℕ LayoutRefusal
units_of defs t = limited (ok_or (exact_units defs t) Incomplete)

-- the type has units that aren't refused
unfoldable pub has_units : List StructDef → Ty → Bool
has_units defs t = is_ok (units_of defs t)

abbrev pub added : ℕ → Result ℕ LayoutRefusal → Result ℕ LayoutRefusal
added n (Ok m) = Ok (n + m)
added n (Err refusal) = Err refusal

-- the sum, or the first refusal
abbrev pub sum_of : List (Result ℕ LayoutRefusal) → Result ℕ LayoutRefusal
sum_of [] = Ok 0
sum_of (Err refusal ∷ rs) = Err refusal
sum_of (Ok n ∷ rs) = added n (sum_of rs)

-- the units of the members before
unfoldable pub offset_of : List StructDef → ℕ → ℕ → Result ℕ LayoutRefusal
offset_of defs s member =
    limited (sum_of (map (λ m. units_of defs m.ty) (take member (members_of defs s))))
