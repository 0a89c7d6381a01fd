-- The scalars of types, one part after the other.
use Rattle.std.proofs.Common.{◌≡◌, ◌∙◌, ℕ, zero, suc, ◌+◌, ◌*◌, ◌-◌, ◌<◌, ◌≤◌, List, [], ◌∷◌, ◌++◌, length, get_or, take, ap, sym, refl, subst, arith, append_assoc, append-nil, Option, Some, None, unwrap_or}
use Rattle.std.proofs.lemmas.List.{take_more}
use denote.Param.Weighed.{at_most}
use Rattle.c_types.specs.declared.structs.Member.{Member}
use Rattle.c_types.specs.declared.structs.StructDef.{StructDef}
use Rattle.c_types.specs.declared.ty.Ty.{Ty, size-Ty}
use Rattle.c_types.specs.Structs.{members_of}
use Rattle.elab_rows.specs.Units.{each_scalars, repeated, scalars_in, struct_scalars}
use Rattle.elab_emit.specs.inner.Copies.{greatest, greatest_in, greatest_of}

repeated_next : (n : ℕ) (ts : List Ty) → repeated n ts ++ ts ≡ repeated (suc n) ts
repeated_next zero ts = sym (append-nil ts)
repeated_next (suc n) ts = append_assoc ts (repeated n ts) ts ∙ ap (λ l. ts ++ l) (repeated_next n ts)

repeated_more : (n : ℕ) (ts : List Ty) → repeated n ts ++ ts ≡ repeated (n + 1) ts
repeated_more n ts =
    let e : suc n ≡ n + 1 = omega arith in
    repeated_next n ts ∙ ap (λ m. repeated m ts) e

-- one element more
pub repeated_on : (before found new ts : List Ty) (n : ℕ) → found ≡ before ++ repeated n ts → new ≡ found ++ ts → new ≡ before ++ repeated (n + 1) ts
repeated_on before found new ts n is more =
    more ∙ ap (λ l. l ++ ts) is ∙ append_assoc before (repeated n ts) ts ∙ ap (λ l. before ++ l) (repeated_more n ts)

each_more : (of_struct : ℕ → List Ty) (ms : List Member) (m : Member)
    → each_scalars of_struct (ms ++ m ∷ []) ≡ each_scalars of_struct ms ++ scalars_in of_struct m.ty
each_more of_struct [] m = append-nil (scalars_in of_struct m.ty)
each_more of_struct (n ∷ ms) m =
    ap (λ l. scalars_in of_struct n.ty ++ l) (each_more of_struct ms m)
    ∙ sym (append_assoc (scalars_in of_struct n.ty) (each_scalars of_struct ms) (scalars_in of_struct m.ty))

-- one member more
pub each_on : (of_struct : ℕ → List Ty) (before found new : List Ty) (ms : List Member) (i : ℕ) (m : Member) → i < length ms → m ≡ get_or ms i m
    → found ≡ before ++ each_scalars of_struct (take i ms) → new ≡ found ++ scalars_in of_struct m.ty
    → new ≡ before ++ each_scalars of_struct (take (i + 1) ms)
each_on of_struct before found new ms i m within here is more =
    let one : take (i + 1) ms ≡ take i ms ++ m ∷ [] = take_more ms i m within ∙ ap (λ x. take i ms ++ x ∷ []) (sym here) in
    more ∙ ap (λ l. l ++ scalars_in of_struct m.ty) is
    ∙ append_assoc before (each_scalars of_struct (take i ms)) (scalars_in of_struct m.ty)
    ∙ ap (λ l. before ++ l) (sym (each_more of_struct (take i ms) m) ∙ ap (each_scalars of_struct) (sym one))

none_there : (defs : List StructDef) (s : ℕ) → struct_scalars 0 defs s ≡ []
unfolding struct_scalars
none_there defs s = refl

pub no_struct : (found : List Ty) (depth : ℕ) (defs : List StructDef) (s : ℕ) → depth ≡ 0 → found ≡ found ++ struct_scalars depth defs s
no_struct found depth defs s none =
    sym (append-nil found) ∙ ap (λ l. found ++ l) (sym (ap (λ d. struct_scalars d defs s) none ∙ none_there defs s))

pub struct_more : (depth : ℕ) (defs : List StructDef) (s : ℕ)
    → struct_scalars (depth + 1) defs s ≡ each_scalars (struct_scalars depth defs) (members_of defs s)
unfolding struct_scalars
struct_more depth defs s =
    let e : depth + 1 ≡ suc depth = omega arith in
    ap (λ d. struct_scalars d defs s) e

of_body : (body : Option (List Member)) → greatest_of (unwrap_or body []) ≤ greatest_in body
of_body None = omega arith
of_body (Some ms) = omega arith

-- a struct's members are among those of all
greatest_members : (defs : List StructDef) (s : ℕ) → greatest_of (members_of defs s) ≤ greatest defs
greatest_members [] s = omega arith
greatest_members (d ∷ defs) zero = let here : greatest_of (unwrap_or d.members []) ≤ greatest_in d.members = of_body d.members in omega (arith, here)
greatest_members (d ∷ defs) (suc s) =
    let less : greatest_of (members_of defs s) ≤ greatest defs = greatest_members defs s in
    omega (arith, less)

pub greatest_among : (defs : List StructDef) (s : ℕ) (ms : List Member) → ms ≡ members_of defs s → greatest_of ms ≤ greatest defs
greatest_among defs s ms is = subst (λ l. greatest_of l ≤ greatest defs) (sym is) (greatest_members defs s)

-- a member's type is at most as deep as the greatest of its struct's
pub member_is : (ms : List Member) (i : ℕ) (m : Member) → i < length ms → m ≡ get_or ms i m → size-Ty m.ty ≤ greatest_of ms
member_is ms i m within is =
    subst (λ x. size-Ty x.ty ≤ greatest_of ms) (sym is) (at_most (λ x. size-Ty x.ty) ms i m within)

-- a struct's members weigh less than a type that holds it, since structs stand less deep in them
pub deeper : (depth g : ℕ) → (depth ≡ 0 → ⊥) → (depth - 1) * (3 * g + 6) + 3 * g + 4 < depth * (3 * g + 6)
deeper zero g some = absurd (some refl)
deeper (suc depth) g some =
    let less : suc depth - 1 ≡ depth = omega arith in
    rw less (omega arith)

pub one_less : (depth : ℕ) (defs : List StructDef) (s : ℕ) → (depth ≡ 0 → ⊥) → struct_scalars (depth - 1 + 1) defs s ≡ struct_scalars depth defs s
one_less depth defs s some =
    let same : depth - 1 + 1 ≡ depth = omega arith in
    ap (λ d. struct_scalars d defs s) same
