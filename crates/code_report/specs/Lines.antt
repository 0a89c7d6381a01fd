-- The lines of a report: words split by one space, and LF behind the last.
use Rattle.std.specs.Prelude.{ℕ, Bool, true, false, ◌++◌, List, [], ◌∷◌, codes, decimal}
use Rattle.std.specs.List.{flat_map}
use Rattle.core_ir.specs.declared.program.GlobalVar.{GlobalVar}
use Rattle.sensitivity.specs.declared.class.Class.{Class}
use Rattle.sensitivity.specs.declared.class.Class.TheVariants as class

abbrev pub spaced : List (List ℕ) → List ℕ
spaced words = flat_map (λ word. 32 ∷ word) words

abbrev pub line : List ℕ → List (List ℕ) → List ℕ
line first others = first ++ spaced others ++ 10 ∷ []

-- no pointer to a struct is a code pointer
abbrev pub class_word : Class → List ℕ
class_word class.Code = codes "code"
class_word class.Sensitive = codes "sensitive"
class_word class.Universal = codes "universal"
class_word class.Regular = codes "regular"

-- struct NAME CLASS
abbrev pub struct_line : List ℕ → Class → List ℕ
struct_line name c = line (codes "struct") (name ∷ class_word c ∷ [])

-- global NAME ADDRESS UNITS
abbrev pub global_line : List ℕ → GlobalVar → List ℕ
global_line name g = line (codes "global") (name ∷ decimal g.address ∷ decimal g.units ∷ [])

-- function F NAME I C
abbrev pub function_line : ℕ → List ℕ → ℕ → ℕ → List ℕ
function_line f name instructions checks =
    line (codes "function") (decimal f ∷ name ∷ decimal instructions ∷ decimal checks ∷ [])

abbrev pub safe_word : Bool → List ℕ
safe_word true = codes "safe"
safe_word false = codes "unsafe"

-- local NAME safe, or local NAME unsafe
abbrev pub local_line : List ℕ → Bool → List ℕ
local_line name is_safe = line (codes "local") (name ∷ safe_word is_safe ∷ [])
