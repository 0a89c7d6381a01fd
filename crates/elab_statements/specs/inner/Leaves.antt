-- Leaves of initialisers, of all or of those that are given.
use Rattle.std.specs.Prelude.{ℕ, pos, ◌+◌, if◌then◌else◌, List, [], ◌∷◌, map, Option, Some, None}
use Rattle.c_types.specs.declared.structs.StructDef.{StructDef}
use Rattle.c_types.specs.declared.structs.Member.{Member}
use Rattle.c_types.specs.declared.ty.Ty.{Ty}
use Rattle.c_types.specs.declared.ty.Ty.TheVariants as ty
use Rattle.elab_rows.specs.Addresses.{Lvalue, assigned, member_address}
use Rattle.elab_rows.specs.Made.{Code, converted}
use Rattle.elab_rows.specs.Rows.{number}
use Rattle.elab_rows.specs.Units.{repeated}
use Rattle.elab_rows.specs.declared.scope.Scope.{Scope}
use Rattle.elab_pieces.specs.Initialisers.{Leaf, Leaves, brace_leaves, leaf_code, part_lvalue}
use Rattle.elab_pieces.specs.Lines.{PieceCode, all_full, full, joined, no_lines}
use Rattle.elab_statements.specs.declared.targets.Base.{Base}
use Rattle.elab_statements.specs.declared.targets.Target.{Target}
use Rattle.elab_statements.specs.Initialised.{base_code, kept_leaves}

-- the address of a variable, or of a part of it
abbrev pub place_code : Base → Option ℕ → Code
place_code b None = base_code b
place_code b (Some k) = member_address k (base_code b)

abbrev pub lvalue_of : Target → Option ℕ → Ty → Lvalue
lvalue_of x offset t = part_lvalue x.ty (place_code x.base offset) t

-- the code of leaves, of all or of those that are given
abbrev pub leaf_lines : Scope → Target → List Leaf → PieceCode
leaf_lines scope x ls = all_full (map (leaf_code scope x.ty (base_code x.base)) (kept_leaves x.all ls))

-- parts of an array of so many elements, of the members of a struct
abbrev pub element_leaves : List StructDef → List Leaves → Ty → ℕ → ℕ → List Leaf
element_leaves defs ps t bound k = brace_leaves defs ps (repeated bound (t ∷ [])) k

abbrev pub member_leaves : List StructDef → List Leaves → List Member → ℕ → List Leaf
member_leaves defs ps ms k = brace_leaves defs ps (map (λ m. m.ty) ms) k

-- scalars from an offset on that nothing gives
abbrev pub missing_codes : Target → List Ty → ℕ → List Code
missing_codes x [] k = []
missing_codes x (t ∷ ts) k =
    assigned (lvalue_of x (Some k) t) (converted ty.Int t (number (pos 0))) ∷ missing_codes x ts (k + 1)

abbrev pub missing_lines : Target → List Ty → ℕ → PieceCode
missing_lines x ts k = if x.all then all_full (missing_codes x ts k) else no_lines

-- bytes for scalars from an offset on; the rest is missing
abbrev pub text_lines : Target → List ℕ → List Ty → ℕ → PieceCode
text_lines x [] ts k = missing_lines x ts k
text_lines x bs [] k = no_lines
text_lines x (b ∷ bs) (t ∷ ts) k =
    joined (full (assigned (lvalue_of x (Some k) t) (number (pos b)))) (text_lines x bs ts (k + 1))
