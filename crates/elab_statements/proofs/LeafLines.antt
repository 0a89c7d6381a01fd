-- The code of leaves, one behind the other.
use Rattle.std.proofs.Common.{◌≡◌, ◌∙◌, ℕ, suc, pos, ◌+◌, max, Bool, true, false, if◌then◌else◌, List, [], ◌∷◌, ◌++◌, length, map, ap, refl, sym, subst, arith, append-nil, Some, Result}
use Rattle.std.proofs.lemmas.List.{map-append}
use Rattle.c_types.specs.declared.structs.Member.{Member}
use Rattle.c_types.specs.declared.structs.StructDef.{StructDef}
use Rattle.c_types.specs.declared.ty.Ty.{Ty}
use Rattle.c_types.specs.declared.ty.Ty.TheVariants as ty
use Rattle.c_types.specs.Kinds.{is_struct}
use Rattle.c_typed.specs.declared.expression.TypedExpr.{TypedExpr}
use Rattle.elab_rows.specs.Addresses.{assigned}
use Rattle.elab_rows.specs.Made.{Code, converted}
use Rattle.elab_rows.specs.Rows.{number}
use Rattle.elab_rows.specs.Units.{repeated, units}
use Rattle.elab_emit.specs.declared.emitter.Trouble.{Trouble}
use Rattle.elab_rows.specs.declared.scope.Scope.{Scope}
use Rattle.elab_pieces.specs.Initialisers.{ByByte, ByExpr, Leaf, Leaves, Missing, all_scalars, brace_leaves, given_leaves, is_given, leaf, leaf_assigned, leaf_code, missing, text_leaves}
use Rattle.elab_pieces.specs.Lines.{PieceCode, all_full, full, joined, joined_made, no_lines}
use Rattle.elab_statements.specs.declared.body.Body.{Body}
use Rattle.elab_statements.specs.declared.targets.Target.{Target}
use Rattle.elab_statements.specs.inner.Expressions.{DoneOutcome, made_at}
use Rattle.elab_statements.specs.Bodies.{PieceOutcome, piece_at}
use Rattle.elab_statements.specs.Initialised.{base_code, kept_leaves}
use Rattle.elab_statements.specs.inner.Leaves.{element_leaves, leaf_lines, lvalue_of, member_leaves, missing_codes, missing_lines, text_lines}
use Rattle.elab_statements.specs.inner.Pieces.{joined_assoc, joined_none}
use Rattle.elab_statements.proofs.Settled.{full_piece}

-- ---- pieces one behind the other

-- nothing behind it
pub joined_last : (c : PieceCode) (place slot : ℕ) → joined c no_lines place slot ≡ c place slot
joined_last c place slot =
    let z = c place slot in
    let r : max z.registers 0 ≡ z.registers = omega arith in
    λ i. record { lines = append-nil z.lines i; registers = r i; slot = z.slot }

all_full_append : (cs ds : List Code) (place slot : ℕ) → all_full (cs ++ ds) place slot ≡ joined (all_full cs) (all_full ds) place slot
all_full_append [] ds place slot = sym (joined_none (all_full ds) place slot)
all_full_append (c ∷ cs) ds place slot =
    let x = full c place slot in
    ap (λ p. joined_made x p) (all_full_append cs ds (place + length x.lines) x.slot)
    ∙ joined_assoc (full c) (all_full cs) (all_full ds) place slot

-- ---- leaves, of all or of those that are given

given_more : (b : Bool) (l : Leaf) (ls ms os : List Leaf) → os ≡ ls ++ ms → (if b then l ∷ os else os) ≡ (if b then l ∷ ls else ls) ++ ms
given_more true l ls ms os e = ap (λ xs. l ∷ xs) e
given_more false l ls ms os e = e

given_append : (ls ms : List Leaf) → given_leaves (ls ++ ms) ≡ given_leaves ls ++ given_leaves ms
given_append [] ms = refl
given_append (l ∷ ls) ms = given_more (is_given l.given) l (given_leaves ls) (given_leaves ms) (given_leaves (ls ++ ms)) (given_append ls ms)

kept_append : (b : Bool) (ls ms : List Leaf) → kept_leaves b (ls ++ ms) ≡ kept_leaves b ls ++ kept_leaves b ms
kept_append true ls ms = refl
kept_append false ls ms = given_append ls ms

kept_none : (b : Bool) → kept_leaves b [] ≡ []
kept_none true = refl
kept_none false = refl

-- a leaf that an expression or a byte gives is kept
kept_expr : (b : Bool) (k : ℕ) (t : Ty) (e : TypedExpr) → kept_leaves b (leaf k t (ByExpr e) ∷ []) ≡ leaf k t (ByExpr e) ∷ []
kept_expr true k t e = refl
kept_expr false k t e = refl

kept_byte : (b : Bool) (k : ℕ) (t : Ty) (n : ℕ) (ls : List Leaf) → kept_leaves b (leaf k t (ByByte n) ∷ ls) ≡ leaf k t (ByByte n) ∷ kept_leaves b ls
kept_byte true k t n ls = refl
kept_byte false k t n ls = refl

given_missing : (ts : List Ty) (k : ℕ) → given_leaves (missing ts k) ≡ []
given_missing [] k = refl
given_missing (t ∷ ts) k = given_missing ts (k + 1)

-- ---- the code of leaves

same_arms : (b : Bool) (u : Code) → (if b then u else u) ≡ u
same_arms true u = refl
same_arms false u = refl

module _ (scope : Scope) (x : Target) where
  abbrev code : Leaf → Code
  code = leaf_code scope x.ty (base_code x.base)

  no_leaves : leaf_lines scope x [] ≡ no_lines
  no_leaves = ap (λ ls. all_full (map code ls)) (kept_none x.all)

  byte_code : (k : ℕ) (t : Ty) (n : ℕ) → code (leaf k t (ByByte n)) ≡ assigned (lvalue_of x (Some k) t) (number (pos n))
  byte_code k t n = same_arms (is_struct t) (assigned (lvalue_of x (Some k) t) (number (pos n)))

  missing_code : (k : ℕ) (t : Ty) → code (leaf k t Missing) ≡ assigned (lvalue_of x (Some k) t) (converted ty.Int t (number (pos 0)))
  missing_code k t = same_arms (is_struct t) (assigned (lvalue_of x (Some k) t) (converted ty.Int t (number (pos 0))))

  missing_map : (ts : List Ty) (k : ℕ) → missing_codes x ts k ≡ map code (missing ts k)
  missing_map [] k = refl
  missing_map (t ∷ ts) k = λ i. sym (missing_code k t) i ∷ missing_map ts (k + 1) i

  missing_by : (b : Bool) (ts : List Ty) (k : ℕ)
      → (if b then all_full (missing_codes x ts k) else no_lines) ≡ all_full (map code (kept_leaves b (missing ts k)))
  missing_by true ts k = ap all_full (missing_map ts k)
  missing_by false ts k = ap (λ ls. all_full (map code ls)) (sym (given_missing ts k))

  pub missing_is : (ts : List Ty) (k : ℕ) → missing_lines x ts k ≡ leaf_lines scope x (missing ts k)
  missing_is ts k = missing_by x.all ts k

  pub text_is : (bs : List ℕ) (ts : List Ty) (k : ℕ) → text_lines x bs ts k ≡ leaf_lines scope x (text_leaves bs ts k)
  text_is [] ts k = missing_is ts k
  text_is (b ∷ bs) [] k = sym no_leaves
  text_is (b ∷ bs) (t ∷ ts) k =
      (λ i. joined (full (sym (byte_code k t b) i)) (text_is bs ts (k + 1) i))
      ∙ ap (λ ls. all_full (map code ls)) (sym (kept_byte x.all k t b (text_leaves bs ts (k + 1))))

  pub lines_append : (ls ms : List Leaf) (place slot : ℕ)
      → leaf_lines scope x (ls ++ ms) place slot ≡ joined (leaf_lines scope x ls) (leaf_lines scope x ms) place slot
  lines_append ls ms place slot =
      ap (λ os. all_full (map code os) place slot) (kept_append x.all ls ms)
      ∙ ap (λ cs. all_full cs place slot) (map-append code (kept_leaves x.all ls) (kept_leaves x.all ms))
      ∙ all_full_append (map code (kept_leaves x.all ls)) (map code (kept_leaves x.all ms)) place slot

  -- a part that an expression gives
  pub expr_lines : (k : ℕ) (t : Ty) (e : TypedExpr) → leaf_lines scope x (leaf k t (ByExpr e) ∷ [])
      ≡ all_full (leaf_assigned scope (lvalue_of x (Some k) t) (ByExpr e) ∷ [])
  expr_lines k t e = ap (λ ls. all_full (map code ls)) (kept_expr x.all k t e)

-- ---- parts in braces

brace_none : (defs : List StructDef) (ps : List Leaves) (k : ℕ) → brace_leaves defs ps [] k ≡ []
brace_none defs [] k = refl
brace_none defs (p ∷ ps) k = refl

module _ (scope : Scope) (x : Target) where
  -- braces of what has no parts
  pub no_parts : (ps : List Leaves) (k : ℕ) → leaf_lines scope x (brace_leaves scope.structs ps [] k) ≡ no_lines
  no_parts ps k = ap (leaf_lines scope x) (brace_none scope.structs ps k) ∙ no_leaves scope x

  pub element_first : (p : Leaves) (ps : List Leaves) (t : Ty) (n k place slot : ℕ)
      → leaf_lines scope x (element_leaves scope.structs (p ∷ ps) t (suc n) k) place slot
      ≡ joined (leaf_lines scope x (p t k)) (leaf_lines scope x (element_leaves scope.structs ps t n (k + units scope.structs t))) place slot
  element_first p ps t n k place slot =
      lines_append scope x (p t k) (element_leaves scope.structs ps t n (k + units scope.structs t)) place slot

  pub member_first : (p : Leaves) (ps : List Leaves) (m : Member) (ms : List Member) (k place slot : ℕ)
      → leaf_lines scope x (member_leaves scope.structs (p ∷ ps) (m ∷ ms) k) place slot
      ≡ joined (leaf_lines scope x (p m.ty k)) (leaf_lines scope x (member_leaves scope.structs ps ms (k + units scope.structs m.ty))) place slot
  member_first p ps m ms k place slot =
      lines_append scope x (p m.ty k) (member_leaves scope.structs ps ms (k + units scope.structs m.ty)) place slot

  -- what nothing gives behind the last part in braces
  pub element_rest : (t : Ty) (n k : ℕ)
      → leaf_lines scope x (element_leaves scope.structs [] t n k) ≡ missing_lines x (all_scalars scope.structs (repeated n (t ∷ []))) k
  element_rest t n k = sym (missing_is scope x (all_scalars scope.structs (repeated n (t ∷ []))) k)

  pub member_rest : (ms : List Member) (k : ℕ)
      → leaf_lines scope x (member_leaves scope.structs [] ms k) ≡ missing_lines x (all_scalars scope.structs (map (λ m. m.ty) ms)) k
  member_rest ms k = sym (missing_is scope x (all_scalars scope.structs (map (λ m. m.ty) ms)) k)

  -- where no element is left
  pub element_none : (ps : List Leaves) (t : Ty) (k : ℕ) → leaf_lines scope x (element_leaves scope.structs ps t 0 k) ≡ no_lines
  element_none ps t k = no_parts ps k

  pub member_none : (ps : List Leaves) (k : ℕ) → leaf_lines scope x (member_leaves scope.structs ps [] k) ≡ no_lines
  member_none ps k = no_parts ps k

-- ---- one full expression

pub one_full : (old new : Body) (C : Code) (r : Result (Unit {0}) Trouble) → DoneOutcome old (made_at old C) r new → PieceOutcome old (piece_at old (all_full (C ∷ []))) r new
one_full old new C r h =
    subst (λ p. PieceOutcome old p r new) (sym (joined_last (full C) (length old.out.code) old.out.slot)) (full_piece old new C r h)
