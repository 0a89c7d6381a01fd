-- The outlines of single instructions.
use Rattle.std.specs.Prelude.{ℕ, List, [], ◌∷◌, Option, Some, None}
use Rattle.core_ir.specs.declared.role.Role.{Role}
use Rattle.core_ir.specs.declared.role.Role.TheVariants as role
use Rattle.core_ir.specs.Outline.{Outline}

-- an instruction that defines no register, names no slot and jumps nowhere
abbrev pub acting : Role → List ℕ → Outline
acting r used = record { role = r; defined = None; used = used; slot = None; target = None }

-- a test of address p
abbrev pub touching : ℕ → Outline
touching p = acting (role.Touch p) (p ∷ [])

abbrev pub loading : ℕ → ℕ → Outline
loading d p = record { role = role.Load p; defined = Some d; used = p ∷ []; slot = None; target = None }

abbrev pub storing : ℕ → ℕ → Outline
storing p a = acting (role.Store p) (p ∷ a ∷ [])

-- a lock or an unlock
abbrev pub locking : ℕ → Outline
locking p = acting (role.Lock p) (p ∷ [])

abbrev pub forking : ℕ → Outline
forking d = record { role = role.Fork; defined = Some d; used = []; slot = None; target = None }

abbrev pub starting_argument : ℕ → ℕ → Outline
starting_argument t a = acting (role.StartArg t) (t ∷ a ∷ [])

abbrev pub starting_function : ℕ → ℕ → Outline
starting_function t f = acting (role.StartFn t f) (t ∷ f ∷ [])

-- an indirect call, with the slot of its result
abbrev pub calling : ℕ → List ℕ → Option ℕ → Outline
calling c args s = record { role = role.Indirect c; defined = None; used = c ∷ args; slot = s; target = None }

abbrev pub jumping : ℕ → Outline
jumping l = record { role = role.Plain; defined = None; used = []; slot = None; target = Some l }

-- a jump where the number in x is 0
abbrev pub branching : ℕ → ℕ → Outline
branching x l = record { role = role.Plain; defined = None; used = x ∷ []; slot = None; target = Some l }

abbrev pub entering : Outline
entering = acting role.Enter []

abbrev pub leaving : Outline
leaving = acting role.Leave []

abbrev pub returning : List ℕ → Outline
returning used = acting role.Return used
