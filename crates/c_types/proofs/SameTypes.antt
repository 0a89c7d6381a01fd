-- Two types are the same where they are equal.
use Rattle.std.proofs.Common.{◌≡◌, ◌↔◌, IsTrue, ℕ, suc, Bool, true, false, ◌&&◌, nat_eq, List, [], ◌∷◌, map, length, refl, sym, ap, ◌∙◌, subst}
use Rattle.std.proofs.lemmas.Bool.Decides.{Decides-eqb}
use Rattle.c_types.specs.declared.ty.Ty.{Ty, out-Ty, roll-Ty, roll-out-Ty, out-roll-Ty, map-Ty, fold-roll-Ty, ind-Ty}
use Rattle.c_types.specs.declared.ty.Ty.TheOpen.{Ty-F, FnTy-F}
use Rattle.c_types.specs.declared.ty.FnTy.{FnTy, out-FnTy, roll-FnTy, roll-out-FnTy, out-roll-FnTy, map-FnTy, fold-roll-FnTy, ind-FnTy}
use Rattle.c_types.specs.Same.{Test, agree, all_same, same, same_function, same_at, same_step, same_function_step}

both : (a b : Bool) → (a && b) ≡ true → (a ≡ true) × (b ≡ true)
both true b is = (refl, is)
both false b is = absurd (cc)

and_false : (a : Bool) → (a && false) ≡ false
and_false true = refl
and_false false = refl

nat_eq_same : (n : ℕ) → nat_eq n n ≡ true
nat_eq_same n = (Decides-eqb n n).1 refl

-- lists of other lengths aren't the same
pub all_same_unequal : (ts us : List Ty) → (length ts ≡ length us → ⊥) → false ≡ all_same ts us
all_same_unequal [] [] unequal = absurd (unequal refl)
all_same_unequal [] (u ∷ us) unequal = refl
all_same_unequal (t ∷ ts) [] unequal = refl
all_same_unequal (t ∷ ts) (u ∷ us) unequal =
    sym (and_false (same t u)) ∙ ap (λ b. same t u && b) (all_same_unequal ts us (λ e. unequal (ap suc e)))

-- the type is the same as itself, and as no other
abbrev Exact : Ty → Type 0
Exact t = ((u : Ty) → same t u ≡ true → t ≡ u) × (same t t ≡ true)

abbrev ExactFn : FnTy → Type 0
ExactFn f = ((g : FnTy) → same_function f g ≡ true → f ≡ g) × (same_function f f ≡ true)

abbrev Held : Type 0
Held = (t : Ty) × Exact t

abbrev HeldFn : Type 0
HeldFn = (f : FnTy) × ExactFn f

abbrev bare : Ty-F Held HeldFn → Ty-F Ty FnTy
bare y = map-Ty Held HeldFn Ty FnTy (λ e. e.0) (λ e. e.0) y

abbrev bare_fn : FnTy-F Held HeldFn → FnTy-F Ty FnTy
bare_fn y = map-FnTy Held HeldFn Ty FnTy (λ e. e.0) (λ e. e.0) y

abbrev tests : Ty-F Held HeldFn → Ty-F (Test Ty) (Test FnTy)
tests y = map-Ty Ty FnTy (Test Ty) (Test FnTy) same same_function (bare y)

abbrev tests_fn : FnTy-F Held HeldFn → FnTy-F (Test Ty) (Test FnTy)
tests_fn y = map-FnTy Ty FnTy (Test Ty) (Test FnTy) same same_function (bare_fn y)

same_rolled : (y : Ty-F Ty FnTy) (u : Ty) → same (roll-Ty y) u ≡ same_at (map-Ty Ty FnTy (Test Ty) (Test FnTy) same same_function y) (out-Ty u)
unfolding same same_function
same_rolled y u = ap (λ (p : Test Ty). p u) (fold-roll-Ty (Test Ty) (Test FnTy) same_step same_function_step y)

same_function_rolled : (y : FnTy-F Ty FnTy) (g : FnTy) → same_function (roll-FnTy y) g ≡ same_function_step (map-FnTy Ty FnTy (Test Ty) (Test FnTy) same same_function y) g
unfolding same same_function
same_function_rolled y g = ap (λ (p : Test FnTy). p g) (fold-roll-FnTy (Test Ty) (Test FnTy) same_step same_function_step y)

-- what is the same is equal
equal : (y : Ty-F Held HeldFn) (z : Ty-F Ty FnTy) → same_at (tests y) z ≡ true → bare y ≡ z
equal Ty-F.Int Ty-F.Int is = refl
equal Ty-F.Char Ty-F.Char is = refl
equal Ty-F.Void Ty-F.Void is = refl
equal (Ty-F.Struct m) (Ty-F.Struct n) is = ap Ty-F.Struct ((Decides-eqb m n).0 is)
equal (Ty-F.Pointer e) (Ty-F.Pointer u) is = ap Ty-F.Pointer (e.1.0 u is)
equal (Ty-F.Array e m) (Ty-F.Array u n) is =
    let parts : (nat_eq m n ≡ true) × (same e.0 u ≡ true) = both (nat_eq m n) (same e.0 u) is in
    ap (λ (t : Ty). Ty-F.Array t m) (e.1.0 u parts.1) ∙ ap (λ n. Ty-F.Array u n) ((Decides-eqb m n).0 parts.0)
equal (Ty-F.Function e) (Ty-F.Function g) is = ap Ty-F.Function (e.1.0 g is)
equal _ _ is = cc

same_self : (y : Ty-F Held HeldFn) → same_at (tests y) (bare y) ≡ true
same_self Ty-F.Int = refl
same_self Ty-F.Char = refl
same_self Ty-F.Void = refl
same_self (Ty-F.Struct m) = nat_eq_same m
same_self (Ty-F.Pointer e) = e.1.1
same_self (Ty-F.Array e m) = ap (λ b. b && same e.0 e.0) (nat_eq_same m) ∙ e.1.1
same_self (Ty-F.Function e) = e.1.1

exact : (y : Ty-F Held HeldFn) → Exact (roll-Ty (bare y))
exact y = (
  λ u is. ap roll-Ty (equal y (out-Ty u) (sym (same_rolled (bare y) u) ∙ is)) ∙ roll-out-Ty u,
  same_rolled (bare y) (roll-Ty (bare y)) ∙ ap (same_at (tests y)) (out-roll-Ty (bare y)) ∙ same_self y,
)

abbrev types : List Held → List Ty
types hs = map (λ (e : Held). e.0) hs

equal_lists : (hs : List Held) (us : List Ty) → agree (map same (types hs)) us ≡ true → types hs ≡ us
equal_lists [] [] is = refl
equal_lists (h ∷ hs) (u ∷ us) is =
    let parts : (same h.0 u ≡ true) × (agree (map same (types hs)) us ≡ true) = both (same h.0 u) (agree (map same (types hs)) us) is in
    ap (λ (t : Ty). t ∷ types hs) (h.1.0 u parts.0) ∙ ap (λ ts. u ∷ ts) (equal_lists hs us parts.1)
equal_lists _ _ is = cc

same_list : (hs : List Held) → agree (map same (types hs)) (types hs) ≡ true
same_list [] = refl
same_list (h ∷ hs) = ap (λ b. b && agree (map same (types hs)) (types hs)) h.1.1 ∙ same_list hs

equal_fn : (y : FnTy-F Held HeldFn) (z : FnTy-F Ty FnTy) → (same y.result.0 z.result && agree (map same (types y.params)) z.params) ≡ true → bare_fn y ≡ z
equal_fn y z is =
    let parts : (same y.result.0 z.result ≡ true) × (agree (map same (types y.params)) z.params ≡ true) = both (same y.result.0 z.result) (agree (map same (types y.params)) z.params) is in
    let results : y.result.0 ≡ z.result = y.result.1.0 z.result parts.0 in
    let params : types y.params ≡ z.params = equal_lists y.params z.params parts.1 in
    (λ i. record { result = results i; params = params i })

exact_fn : (y : FnTy-F Held HeldFn) → ExactFn (roll-FnTy (bare_fn y))
exact_fn y = (
  λ g is. ap roll-FnTy (equal_fn y (out-FnTy g) (sym (same_function_rolled (bare_fn y) g) ∙ is)) ∙ roll-out-FnTy g,
  same_function_rolled (bare_fn y) (roll-FnTy (bare_fn y))
      ∙ ap (λ (z : FnTy-F Ty FnTy). same y.result.0 z.result && agree (map same (types y.params)) z.params) (out-roll-FnTy (bare_fn y))
      ∙ ap (λ b. b && agree (map same (types y.params)) (types y.params)) y.result.1.1
      ∙ same_list y.params,
)

same_exact : (t : Ty) → Exact t
same_exact = ind-Ty Exact ExactFn (λ x y is. subst (λ z. Exact (roll-Ty z)) is (exact y)) (λ x y is. subst (λ z. ExactFn (roll-FnTy z)) is (exact_fn y))

same_function_exact : (f : FnTy) → ExactFn f
same_function_exact = ind-FnTy Exact ExactFn (λ x y is. subst (λ z. Exact (roll-Ty z)) is (exact y)) (λ x y is. subst (λ z. ExactFn (roll-FnTy z)) is (exact_fn y))

pub same_is_equality : (a b : Ty) → IsTrue (same a b) ↔ (a ≡ b)
same_is_equality a b = ((same_exact a).0 b, λ e. subst (λ u. same a u ≡ true) e (same_exact a).1)

pub same_function_is_equality : (f g : FnTy) → IsTrue (same_function f g) ↔ (f ≡ g)
same_function_is_equality f g = ((same_function_exact f).0 g, λ e. subst (λ h. same_function f h ≡ true) e (same_function_exact f).1)
