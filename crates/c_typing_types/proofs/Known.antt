-- What is known of names, members, functions and locals passes, where all that is known does, also behind a change.
use Rattle.std.proofs.Common.{◌≡◌, ℕ, zero, suc, Bool, true, false, if◌then◌else◌, List, [], ◌∷◌, ◌++◌, Option, Some, None, slice_get, refl, subst}
use Rattle.std.specs.List.{AllByRecursion}
use Rattle.std.specs.Option.{option_and_then, option_map, option_or}
use Rattle.std.specs.Str.{bytes_eq}
use Rattle.tables.specs.Places.{first_named}
use Rattle.c_types.specs.declared.structs.Member.{Member}
use Rattle.c_types.specs.declared.structs.StructDef.{StructDef}
use Rattle.c_types.specs.declared.ty.FnTy.{FnTy}
use Rattle.c_types.specs.declared.ty.Ty.{Ty}
use Rattle.c_types.specs.Kinds.{function_of, struct_of, target_of}
use Rattle.c_types.specs.Structs.{member_named, with_body, with_tag}
use Rattle.c_types.specs.Units.{has_units}
use Rattle.c_typed.specs.declared.unit.Local.{Local}
use Rattle.c_scope.specs.declared.scopes.Binding.{Binding}
use Rattle.c_scope.specs.declared.scopes.Meaning.{Meaning}
use Rattle.c_scope.specs.declared.world.KnownFunction.{KnownFunction}
use Rattle.c_scope.specs.BuiltIns.{Name}
use Rattle.c_scope.specs.Definitions.{marked}
use Rattle.c_scope.specs.Scopes.{bound_in, known_function, meaning_here, meaning_of, with_function}
use Rattle.c_rules.specs.Rules.{addressed_at, member_at, member_in, member_of, numbered}
use Rattle.c_typing_types.proofs.Good.{Fine, FunctionFine, Good, called-fine, target-fine}
use Rattle.c_typing_types.proofs.Steps.{BodyFine, FunctionsFine, LocalsFine, MeaningFine, MembersFine, ScopesFine, StructsFine}

-- ---- lists

pub at-held : {A : Type 0} (P : A → Type 0) (xs : List A) (n : ℕ) (x : A) → AllByRecursion P xs → slice_get xs n ≡ Some x → P x
at-held P [] n x all is = cc
at-held P (y ∷ xs) zero x all is = let same : y ≡ x = cc in subst P same all.0
at-held P (y ∷ xs) (suc n) x all is = at-held P xs n x all.1 is

pub last-held : {A : Type 0} (P : A → Type 0) (xs : List A) (x : A) → AllByRecursion P xs → P x → AllByRecursion P (xs ++ x ∷ [])
last-held P [] x all here = (here, tt)
last-held P (y ∷ xs) x all here = (all.0, last-held P xs x all.1 here)

module _ (g : Good) where
  -- ---- names

  first_by : (b : Binding) (o : Option Binding) (m : Meaning) (here : Bool) → MeaningFine g b.meaning
      → (option_map (λ b. b.meaning) o ≡ Some m → MeaningFine g m) → option_map (λ b. b.meaning) (if here then Some b else o) ≡ Some m → MeaningFine g m
  first_by b o m true first rest is = let same : b.meaning ≡ m = cc in subst (MeaningFine g) same first
  first_by b o m false first rest is = rest is

  here-fine : (bs : List Binding) (x : Name) (m : Meaning) → AllByRecursion (λ b. MeaningFine g b.meaning) bs → meaning_here bs x ≡ Some m → MeaningFine g m
  here-fine [] x m all is = cc
  here-fine (b ∷ bs) x m all is = first_by b (first_named (λ b. b.name) bs x) m (bytes_eq b.name x) all.0 (here-fine bs x m all.1) is

  either_by : (o p : Option Meaning) (m : Meaning) → (o ≡ Some m → MeaningFine g m) → (p ≡ Some m → MeaningFine g m) → option_or o p ≡ Some m → MeaningFine g m
  either_by (Some k) p m first second is = first is
  either_by None p m first second is = second is

  -- what a name in scope stands for
  pub meaning-fine : (ss : List (List Binding)) (x : Name) (m : Meaning) → ScopesFine g ss → meaning_of ss x ≡ Some m → MeaningFine g m
  meaning-fine [] x m all is = cc
  meaning-fine (s ∷ ss) x m all is = either_by (meaning_here s x) (meaning_of ss x) m (here-fine s x m all.0) (meaning-fine ss x m all.1) is

  pub bound-fine : (ss : List (List Binding)) (x : Name) (m : Meaning) → ScopesFine g ss → MeaningFine g m → ScopesFine g (bound_in ss x m)
  bound-fine [] x m all here = ((here, tt), tt)
  bound-fine (s ∷ ss) x m all here = (last-held (λ b. MeaningFine g b.meaning) s (record { name = x; meaning = m }) all.0 here, all.1)

  -- ---- functions

  known_by : (k : KnownFunction) (o : Option KnownFunction) (f : KnownFunction) (here : Bool) → FunctionFine g k.ty
      → (o ≡ Some f → FunctionFine g f.ty) → (if here then Some k else o) ≡ Some f → FunctionFine g f.ty
  known_by k o f true first rest is = let same : k ≡ f = cc in subst (λ (j : KnownFunction). FunctionFine g j.ty) same first
  known_by k o f false first rest is = rest is

  pub known-fine : (ks : List KnownFunction) (x : Name) (f : KnownFunction) → FunctionsFine g ks → known_function ks x ≡ Some f → FunctionFine g f.ty
  known-fine [] x f all is = cc
  known-fine (k ∷ ks) x f all is = known_by k (known_function ks x) f (bytes_eq k.name x) all.0 (known-fine ks x f all.1) is

  marked_by : (used defined : Bool) (k : KnownFunction) (ks changed : List KnownFunction) (here : Bool) → FunctionsFine g (k ∷ ks) → FunctionsFine g changed
      → FunctionsFine g (if here then marked used defined k ∷ ks else k ∷ changed)
  unfolding marked
  marked_by used defined k ks changed true all rest = all
  marked_by used defined k ks changed false all rest = (all.0, rest)

  pub marked-fine : (used defined : Bool) (ks : List KnownFunction) (x : Name) → FunctionsFine g ks → FunctionsFine g (with_function (marked used defined) ks x)
  marked-fine used defined [] x all = tt
  marked-fine used defined (k ∷ ks) x all = marked_by used defined k ks (with_function (marked used defined) ks x) (bytes_eq k.name x) all (marked-fine used defined ks x all.1)

  -- ---- locals

  pub addressed-fine : (n : ℕ) (ls : List Local) → LocalsFine g ls → LocalsFine g (addressed_at n ls)
  addressed-fine n [] all = tt
  addressed-fine zero (l ∷ ls) all = all
  addressed-fine (suc n) (l ∷ ls) all = (all.0, addressed-fine n ls all.1)

  -- ---- structs

  pub tagged-fine : (ds : List StructDef) (x : Name) → StructsFine g ds → StructsFine g (with_tag ds x)
  tagged-fine ds x all = last-held (λ d. BodyFine g d.members) ds (record { name = x; members = None }) all tt

  pub defined-fine : (ds : List StructDef) (n : ℕ) (ms : List Member) → StructsFine g ds → BodyFine g (Some ms) → StructsFine g (with_body ds n ms)
  defined-fine [] n ms all fine = tt
  defined-fine (d ∷ ds) zero ms all fine = (fine, all.1)
  defined-fine (d ∷ ds) (suc n) ms all fine = (all.0, defined-fine ds n ms all.1 fine)

  in_members : (ms : List Member) (n : ℕ) (t : Ty) (o : Option Member) → slice_get ms n ≡ o → MembersFine g ms → option_map (λ m. m.ty) o ≡ Some t → Fine g t
  in_members ms n t None at fine is = cc
  in_members ms n t (Some m) at fine is = let same : m.ty ≡ t = cc in subst (Fine g) same (at-held (λ m. Fine g m.ty) ms n m fine at)

  in_body : (n : ℕ) (t : Ty) (o : Option (List Member)) → BodyFine g o → option_map (λ m. m.ty) (option_and_then (λ ms. slice_get ms n) o) ≡ Some t → Fine g t
  in_body n t None fine is = cc
  in_body n t (Some ms) fine is = in_members ms n t (slice_get ms n) refl fine.0 is

  in_struct : (ds : List StructDef) (s n : ℕ) (t : Ty) (o : Option StructDef) → slice_get ds s ≡ o → StructsFine g ds
      → option_map (λ m. m.ty) (option_and_then (λ ms. slice_get ms n) (option_and_then (λ d. d.members) o)) ≡ Some t → Fine g t
  in_struct ds s n t None at all is = cc
  in_struct ds s n t (Some d) at all is = in_body n t d.members (at-held (λ d. BodyFine g d.members) ds s d all at) is

  numbered-fine : (n : ℕ) (m : ℕ × Ty) (o : Option Ty) → ((t : Ty) → o ≡ Some t → Fine g t) → option_map (λ t. (n, t)) o ≡ Some m → Fine g m.1
  numbered-fine n m None fine is = cc
  numbered-fine n m (Some t) fine is = let same : t ≡ m.1 = cc in subst (Fine g) same (fine t refl)

  in-fine : (ds : List StructDef) (s : ℕ) (m : ℕ × Ty) (o : Option ℕ) → StructsFine g ds → option_and_then (numbered ds s) o ≡ Some m → Fine g m.1
  in-fine ds s m None all is = cc
  in-fine ds s m (Some n) all is = numbered-fine n m (member_at ds s n) (λ t at. in_struct ds s n t (slice_get ds s) refl all at) is

  of_struct : (ds : List StructDef) (x : Name) (m : ℕ × Ty) (sized : Bool) (o : Option ℕ) → StructsFine g ds
      → (if sized then option_and_then (member_in ds x) o else None) ≡ Some m → Fine g m.1
  of_struct ds x m true (Some s) all is = in-fine ds s m (member_named ds s x) all is
  of_struct ds x m true None all is = cc
  of_struct ds x m false o all is = cc

  -- a member that is found
  pub member-fine : (ds : List StructDef) (x : Name) (t : Ty) (m : ℕ × Ty) → StructsFine g ds → member_of ds x t ≡ Some m → Fine g m.1
  unfolding member_of
  member-fine ds x t m all is = of_struct ds x m (has_units ds t) (struct_of t) all is

  pub behind_by : (ds : List StructDef) (x : Name) (m : ℕ × Ty) (o : Option Ty) → StructsFine g ds → option_and_then (member_of ds x) o ≡ Some m → Fine g m.1
  behind_by ds x m None all is = cc
  behind_by ds x m (Some t) all is = member-fine ds x t m all is

  -- ---- functions that are called

  called_by : (t : Ty) (f : FnTy) (o : Option Ty) → target_of t ≡ o → Fine g t → option_and_then function_of o ≡ Some f → FunctionFine g f
  called_by t f None at fine is = cc
  called_by t f (Some u) at fine is = called-fine g u f is (target-fine g t u at fine)

  pub callee-fine : (t : Ty) (f : FnTy) → Fine g t → option_and_then function_of (target_of t) ≡ Some f → FunctionFine g f
  callee-fine t f fine is = called_by t f (target_of t) refl fine is
