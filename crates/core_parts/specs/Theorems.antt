-- How code composes: parts into parts, parts into pieces, pieces into bodies that are well formed.
use Rattle.std.specs.Prelude.{◌≡◌, ◌≢◌, ℕ, ◌+◌, ◌<◌, ◌⊎◌, Bool, true, false, List, [], ◌∷◌, ◌++◌, Option, Some, None, IfSome}
use Rattle.core_ir.specs.declared.role.Role.{Role}
use Rattle.core_ir.specs.declared.role.Role.TheVariants as role
use Rattle.core_ir.specs.Outline.{Outline}
use Rattle.core_ir.specs.Flow.{Chain, IsAmong, Stands}
use Rattle.core_ir.specs.Order.{IsWellFormed}
use Rattle.core_parts.specs.Outlines.{branching, calling, entering, forking, jumping, leaving, loading, locking, returning, starting_argument, starting_function, storing, touching}
use Rattle.core_parts.specs.Pieces.{Each, IsOutside, IsPart, IsPiece, IsSection, Leads, end_of}
use Rattle.core_parts.specs.Places.{Forks}

-- each of the first is one of the second
abbrev pub AreAmong : List ℕ → List ℕ → Type 0
AreAmong xs ys = (r : ℕ) → IsAmong xs r → IsAmong ys r

-- an instruction of this role asks nothing of those before it but what it uses, and it is no start and no way out
abbrev pub IsFree : Role → Type 0
IsFree (role.Load p) = ⊥
IsFree (role.Store p) = ⊥
IsFree (role.Lock p) = ⊥
IsFree (role.Indirect c) = ⊥
IsFree role.Enter = ⊥
IsFree role.Leave = ⊥
IsFree role.Return = ⊥
IsFree role.Fork = ⊥
IsFree (role.StartArg t) = ⊥
IsFree (role.StartFn t f) = ⊥
IsFree _ = Unit {0}

-- registers and slots that code defines and names are of the first so many
pub record AreNumbered (registers slots : ℕ) (code : List Outline) (start : ℕ) : Type 0 where
  pub defined : (u : ℕ) (i : Outline) → Stands code start u i → IfSome i.defined (λ d. d < registers)
  pub slot : (u : ℕ) (i : Outline) → Stands code start u i → IfSome i.slot (λ s. s < slots)

-- ---- parts of a full expression

pub record CompositionLaws : Type 0 where
  -- what stands in two codes, one behind the other, stands in one of them, and the other way round
  pub split :
      (c d : List Outline) (start k : ℕ) (i : Outline)
      → Stands (c ++ d) start k i
      → Stands c start k i ⊎ Stands d (end_of c start) k i
  pub in_front : (c d : List Outline) (start k : ℕ) (i : Outline) → Stands c start k i → Stands (c ++ d) start k i
  pub in_back :
      (c d : List Outline) (start k : ℕ) (i : Outline)
      → Stands d (end_of c start) k i
      → Stands (c ++ d) start k i
  -- no code
  pub none : (start a : ℕ) → IsPart [] start a a []
  -- one part behind another
  pub append :
      (c d : List Outline) (start a b e : ℕ) (live more : List ℕ)
      → IsPart c start a b live
      → IsPart d (end_of c start) b e more
      → IsPart (c ++ d) start a e (live ++ more)
  -- fewer registers that may be used behind it
  pub fewer :
      (c : List Outline) (start a b : ℕ) (live less : List ℕ)
      → IsPart c start a b live
      → AreAmong less live
      → IsPart c start a b less

-- a part, and one or more instructions that use what is live
pub record ExtensionLaws : Type 0 where
  -- one that defines the next register
  pub gives :
      (c : List Outline) (start a b : ℕ) (live : List ℕ) (i : Outline)
      → IsPart c start a b live
      → IsFree i.role
      → i.target ≡ None
      → i.defined ≡ Some b
      → AreAmong i.used live
      → IsPart (c ++ i ∷ []) start a (b + 1) (b ∷ live)
  -- one that defines no register
  pub uses :
      (c : List Outline) (start a b : ℕ) (live : List ℕ) (i : Outline)
      → IsPart c start a b live
      → IsFree i.role
      → i.target ≡ None
      → i.defined ≡ None
      → AreAmong i.used live
      → IsPart (c ++ i ∷ []) start a b live
  -- accesses, behind the test of their address
  pub loads :
      (c : List Outline) (start a b : ℕ) (live : List ℕ) (p : ℕ)
      → IsPart c start a b live
      → IsAmong live p
      → IsPart (c ++ touching p ∷ loading b p ∷ []) start a (b + 1) (b ∷ live)
  pub stores :
      (c : List Outline) (start a b : ℕ) (live : List ℕ) (p x : ℕ)
      → IsPart c start a b live
      → IsAmong live p
      → IsAmong live x
      → IsPart (c ++ touching p ∷ storing p x ∷ []) start a b live
  pub locks :
      (c : List Outline) (start a b : ℕ) (live : List ℕ) (p : ℕ)
      → IsPart c start a b live
      → IsAmong live p
      → IsPart (c ++ touching p ∷ locking p ∷ []) start a b live
  -- the start of a thread, with a function that no start in the part has, and that is no thread's number
  pub starts :
      (c : List Outline) (start a b : ℕ) (live : List ℕ) (f x : ℕ)
      → IsPart c start a b live
      → IsAmong live f
      → IsAmong live x
      → ((k : ℕ) → Forks c start k f → ⊥)
      → IsPart (c ++ forking b ∷ starting_argument b x ∷ starting_function b f ∷ []) start a (b + 1) (b ∷ [])
  -- an indirect call, where the callee's register has a chain
  pub calls :
      (c : List Outline) (start a b : ℕ) (live : List ℕ) (f k : ℕ) (args : List ℕ) (s : Option ℕ)
      → IsPart c start a b live
      → IsAmong live f
      → AreAmong args live
      → Chain c start (end_of c start) f k
      → IsPart (c ++ calling f args s ∷ []) start a b live

-- ---- chains

-- the register, as a use directly behind the code would have it, is made by conversions alone from what place k gives
abbrev pub EndsChain : List Outline → ℕ → ℕ → ℕ → Type 0
EndsChain code start r k = Chain code start (end_of code start) r k

pub record ChainLaws : Type 0 where
  -- a load or the value of a slot, behind any code
  pub load :
      (c : List Outline) (start r p : ℕ) (i : Outline)
      → i.role ≡ role.Load p
      → i.defined ≡ Some r
      → EndsChain (c ++ i ∷ []) start r (end_of c start)
  pub slot :
      (c : List Outline) (start r s : ℕ) (i : Outline)
      → i.role ≡ role.Slot s
      → i.defined ≡ Some r
      → EndsChain (c ++ i ∷ []) start r (end_of c start)
  -- a conversion, behind the chain of what it converts
  pub cast :
      (c : List Outline) (start r a k : ℕ) (i : Outline)
      → i.role ≡ role.Cast a
      → i.defined ≡ Some r
      → EndsChain c start a k
      → EndsChain (c ++ i ∷ []) start r k
  -- an instruction that doesn't define the register
  pub over :
      (c : List Outline) (start r k : ℕ) (i : Outline)
      → i.defined ≢ Some r
      → EndsChain c start r k
      → EndsChain (c ++ i ∷ []) start r k
  -- other code in front
  pub behind :
      (c d : List Outline) (start r k : ℕ)
      → EndsChain d (end_of c start) r k
      → EndsChain (c ++ d) start r k

-- ---- pieces

pub record PieceLaws : Type 0 where
  -- a part, and a jump
  pub branch :
      (c : List Outline) (start a b : ℕ) (live : List ℕ) (x l : ℕ)
      → IsPart c start a b live
      → IsAmong live x
      → IsOutside start (end_of c start + 1) l
      → IsSection (c ++ branching x l ∷ []) start a b (l ∷ [])
  pub jump :
      (c : List Outline) (start a b : ℕ) (live : List ℕ) (l : ℕ)
      → IsPart c start a b live
      → IsOutside start (end_of c start + 1) l
      → IsSection (c ++ jumping l ∷ []) start a b (l ∷ [])
  -- a part, and a return
  pub returns :
      (c : List Outline) (start a b : ℕ) (live used : List ℕ)
      → IsPart c start a b live
      → AreAmong used live
      → IsPiece false (c ++ returning used ∷ []) start []
  pub leaves :
      (c : List Outline) (start a b : ℕ) (live used : List ℕ)
      → IsPart c start a b live
      → AreAmong used live
      → IsPiece true (c ++ leaving ∷ returning used ∷ []) start []
  -- One piece behind another, where no exit of one is strictly inside the other: an exit that is inside both together,
  -- or at an end of them, is one no more.
  pub pieces :
      (frame : Bool) (c d : List Outline) (start : ℕ) (exits more all : List ℕ)
      → IsPiece frame c start exits
      → IsPiece frame d (end_of c start) more
      → Each (IsOutside (end_of c start) (end_of d (end_of c start))) exits
      → Each (IsOutside start (end_of c start)) more
      → Each (Leads start (end_of d (end_of c start)) all) exits
      → Each (Leads start (end_of d (end_of c start)) all) more
      → IsPiece frame (c ++ d) start all
  pub sections :
      (c d : List Outline) (start a b e : ℕ) (exits more all : List ℕ)
      → IsSection c start a b exits
      → IsSection d (end_of c start) b e more
      → Each (IsOutside (end_of c start) (end_of d (end_of c start))) exits
      → Each (IsOutside start (end_of c start)) more
      → Each (Leads start (end_of d (end_of c start)) all) exits
      → Each (Leads start (end_of d (end_of c start)) all) more
      → IsSection (c ++ d) start a e all
  -- other exits, where each that was one leads inside or is one of them
  pub weaker :
      (frame : Bool) (c : List Outline) (start : ℕ) (exits other : List ℕ)
      → IsPiece frame c start exits
      → Each (Leads start (end_of c start) other) exits
      → IsPiece frame c start other

-- ---- bodies

pub record BodyLaws : Type 0 where
  -- a piece without exits, and a return
  pub frameless :
      (c : List Outline) (registers slots : ℕ)
      → IsPiece false c 0 []
      → AreNumbered registers slots c 0
      → IsWellFormed registers slots false (c ++ returning [] ∷ [])
  -- the same where the frame is entered and left
  pub framed :
      (c : List Outline) (registers slots : ℕ)
      → IsPiece true c 1 []
      → AreNumbered registers slots c 1
      → IsWellFormed registers slots true ((entering ∷ []) ++ c ++ leaving ∷ returning [] ∷ [])

pub record PartLaws : Type 0 where
  pub composition : CompositionLaws
  pub extension : ExtensionLaws
  pub chains : ChainLaws
  pub pieces : PieceLaws
  pub bodies : BodyLaws
