-- Where no struct stands deeper than there are bodies, the units of a struct are the sum of its members'.
use Rattle.std.proofs.Common.{◌≡◌, ℕ, zero, suc, ◌+◌, ◌≤◌, ◌*◌, Bool, true, false, ◌||◌, List, [], ◌∷◌, map, length, Option, Some, None, is_some, refl, sym, ap, ◌∙◌, subst, arith}
use Rattle.std.specs.Option.{option_map, option_and_then}
use Rattle.std.specs.List.{list_any}
use Rattle.std.proofs.lemmas.Bool.Decides.{Decides-eqb}
use Rattle.std.proofs.lemmas.List.Sums.{count_by-le-length}
use Rattle.c_types.specs.declared.ty.Ty.{Ty, roll-Ty, map-Ty, fold-roll-Ty, ind-Ty}
use Rattle.c_types.specs.declared.ty.Ty.TheVariants as ty
use Rattle.c_types.specs.declared.ty.Ty.TheOpen.{Ty-F}
use Rattle.c_types.specs.declared.ty.FnTy.{FnTy, fold-FnTy}
use Rattle.c_types.specs.declared.structs.Member.{Member}
use Rattle.c_types.specs.declared.structs.StructDef.{StructDef}
use Rattle.c_types.specs.Structs.{body_of}
use Rattle.c_types.specs.Units.{sized, sized_step, total, struct_units, exact_units}
use Rattle.c_types.specs.Sound.{embeds, embeds_step, HasMemberOf, Contains, member, deeper}
use Rattle.c_types.specs.Theorems.{UnitsAreSums, Extends}
use Rattle.c_types.specs.inner.Layouts.{bodies}
use Rattle.c_types.proofs.Growing.{Covers, BodiesStay, struct_units_more, total_more, sized_more, sized_int, sized_char, sized_void, sized_struct, sized_pointer, sized_array, sized_function}

-- a value that is known
pub record Known (o : Option ℕ) : Type 0 where
  pub value : ℕ
  pub is : o ≡ Some value

pub known : (o : Option ℕ) → is_some o ≡ true → Known o
known None some = absurd (cc)
known (Some n) some = record { value = n; is = refl }

pub covered : (o p : Option ℕ) → Covers o p → is_some o ≡ true → is_some p ≡ true
covered o p covers some = let v : Known o = known o some in ap (λ q. is_some q) (covers v.value v.is)

none_known : is_some {T = ℕ} None ≡ true → ⊥
none_known is = cc

-- ---- a struct that stands in another

some_first : (o p : Option ℕ) → is_some (option_and_then (λ m. option_map (λ n. m + n) p) o) ≡ true → is_some o ≡ true
some_first None p some = some
some_first (Some m) p some = refl

some_rest : (o p : Option ℕ) → is_some (option_and_then (λ m. option_map (λ n. m + n) p) o) ≡ true → is_some p ≡ true
some_rest None p some = absurd (none_known some)
some_rest (Some m) None some = some
some_rest (Some m) (Some n) some = refl

some_element : (b : ℕ) (o : Option ℕ) → is_some (option_map (λ n. n * b) o) ≡ true → is_some o ≡ true
some_element b None some = some
some_element b (Some n) some = refl

module _ (f : ℕ → Option ℕ) (s : ℕ) where
  abbrev Within : Ty → Type 0
  Within t = embeds s t ≡ true → is_some (sized f t) ≡ true → is_some (f s) ≡ true

  abbrev AnyFn : FnTy → Type 0
  AnyFn h = Unit {0}

  abbrev bare : Ty-F ((t : Ty) × Within t) ((h : FnTy) × AnyFn h) → Ty-F Ty FnTy
  bare y = map-Ty ((t : Ty) × Within t) ((h : FnTy) × AnyFn h) Ty FnTy (λ e. e.0) (λ e. e.0) y

  step : (i : FnTy → Bool) (j : FnTy → Option ℕ) (y : Ty-F ((t : Ty) × Within t) ((h : FnTy) × AnyFn h))
      → embeds_step s (map-Ty Ty FnTy Bool Bool (embeds s) i (bare y)) ≡ true → is_some (sized_step f (map-Ty Ty FnTy (Option ℕ) (Option ℕ) (sized f) j (bare y))) ≡ true → is_some (f s) ≡ true
  step i j (Ty-F.Struct n) inside some = subst (λ m. is_some (f m) ≡ true) ((Decides-eqb n s).0 inside) some
  step i j (Ty-F.Array e b) inside some = e.1 inside (some_element b (sized f e.0) some)
  step i j y inside some = absurd (cc)

  rolled : (y : Ty-F ((t : Ty) × Within t) ((h : FnTy) × AnyFn h)) → Within (roll-Ty (bare y))
  unfolding embeds sized
  rolled y inside some =
      step (fold-FnTy Bool Bool (embeds_step s) (λ f. false)) (fold-FnTy (Option ℕ) (Option ℕ) (sized_step f) (λ h. None)) y
      (sym (fold-roll-Ty Bool Bool (embeds_step s) (λ f. false) (bare y)) ∙ inside)
      (ap (λ o. is_some o) (sym (fold-roll-Ty (Option ℕ) (Option ℕ) (sized_step f) (λ h. None) (bare y))) ∙ some)

  -- a type that has units has only structs inside that have units
  embedded : (t : Ty) → Within t
  embedded = ind-Ty Within AnyFn (λ x y is. subst (λ z. Within (roll-Ty z)) is (rolled y)) (λ x y is. tt)

  any_embedded_by : (b : Bool) (m : Member) (ms : List Member) → embeds s m.ty ≡ b → (b || list_any (λ m. embeds s m.ty) ms) ≡ true → is_some (total (map (λ m. sized f m.ty) (m ∷ ms))) ≡ true
      → (list_any (λ m. embeds s m.ty) ms ≡ true → is_some (total (map (λ m. sized f m.ty) ms)) ≡ true → is_some (f s) ≡ true) → is_some (f s) ≡ true
  any_embedded_by true m ms is any some behind = embedded m.ty is (some_first (sized f m.ty) (total (map (λ m. sized f m.ty) ms)) some)
  any_embedded_by false m ms is any some behind = behind any (some_rest (sized f m.ty) (total (map (λ m. sized f m.ty) ms)) some)

  any_embedded : (ms : List Member) → list_any (λ m. embeds s m.ty) ms ≡ true → is_some (total (map (λ m. sized f m.ty) ms)) ≡ true → is_some (f s) ≡ true
  any_embedded [] any some = absurd (cc)
  any_embedded (m ∷ ms) any some = any_embedded_by (embeds s m.ty) m ms refl any some (any_embedded ms)

-- ---- the units of structs, level by level

-- the struct has a body
record HasBody (defs : List StructDef) (s : ℕ) : Type 0 where
  members : List Member
  are : body_of defs s ≡ Some members

module _ (defs : List StructDef) where
  stay_self : BodiesStay defs defs
  stay_self s ms is = is

  -- a struct that is known is known one level further
  deeper_known : (k j : ℕ) → k ≤ j → (s : ℕ) → is_some (struct_units k defs s) ≡ true → is_some (struct_units j defs s) ≡ true
  deeper_known k j below s some = covered (struct_units k defs s) (struct_units j defs s) (struct_units_more defs defs stay_self k j below s) some

  pub opened : (k s : ℕ) (ms : List Member) → body_of defs s ≡ Some ms → struct_units (suc k) defs s ≡ total (map (λ m. sized (struct_units k defs) m.ty) ms)
  unfolding struct_units
  opened k s ms body = ap (λ o. option_and_then (λ ms. total (map (λ m. sized (struct_units k defs) m.ty) ms)) o) body

  pub unknown : (k s : ℕ) → body_of defs s ≡ None → struct_units k defs s ≡ None
  unfolding struct_units
  unknown zero s body = refl
  unknown (suc k) s body = ap (λ o. option_and_then (λ ms. total (map (λ m. sized (struct_units k defs) m.ty) ms)) o) body

  nothing_at_zero : (s : ℕ) → is_some (struct_units zero defs s) ≡ true → ⊥
  unfolding struct_units
  nothing_at_zero s some = none_known some

  has_lower : (s t k : ℕ) → HasMemberOf defs s t → is_some (struct_units (suc k) defs s) ≡ true → is_some (struct_units k defs t) ≡ true
  has_lower s t k has some =
      any_embedded (struct_units k defs) t has.members has.embedded (ap (λ o. is_some o) (sym (opened k s has.members has.are)) ∙ some)

  -- what a struct contains is known one level less deep
  lower : {s t : ℕ} → Contains defs s t → (k : ℕ) → is_some (struct_units (suc k) defs s) ≡ true → is_some (struct_units k defs t) ≡ true
  lower {s} {t} (member has) k some = has_lower s t k has some
  lower {s} {t = u} (deeper {t = t} has inside) zero some = absurd (nothing_at_zero t (has_lower s t zero has some))
  lower {s} {t = u} (deeper {t = t} has inside) (suc k) some = deeper_known k (suc k) (omega arith) u (lower inside k (has_lower s t (suc k) has some))

  none_contains_itself_by : (k s : ℕ) → is_some (struct_units k defs s) ≡ true → Contains defs s s → ⊥
  none_contains_itself_by zero s some inside = nothing_at_zero s some
  none_contains_itself_by (suc k) s some inside = none_contains_itself_by k s (lower inside k some) inside

  -- only a struct with a body contains any
  body_known : {s t : ℕ} → Contains defs s t → HasBody defs s
  body_known (member has) = record { members = has.members; are = has.are }
  body_known (deeper has inside) = record { members = has.members; are = has.are }

-- each struct with a body is known at this level
abbrev pub Shallow : ℕ → List StructDef → Type 0
Shallow k defs = (s : ℕ) (ms : List Member) → body_of defs s ≡ Some ms → is_some (struct_units k defs s) ≡ true

pub bodies_le : (defs : List StructDef) → bodies defs ≤ length defs
bodies_le defs = count_by-le-length (λ d. is_some d.members) defs

module _ (defs : List StructDef) (shallow : Shallow (bodies defs) defs) where
  body_units_by : (k : ℕ) → k ≤ length defs → (s : ℕ) (ms : List Member) → body_of defs s ≡ Some ms → is_some (struct_units k defs s) ≡ true
      → struct_units (length defs) defs s ≡ total (map (λ m. sized (struct_units (length defs) defs) m.ty) ms)
  body_units_by zero below s ms body some = absurd (nothing_at_zero defs s some)
  body_units_by (suc k) below s ms body some =
      let v : Known (struct_units (suc k) defs s) = known (struct_units (suc k) defs s) some in
      let parts : total (map (λ m. sized (struct_units (length defs) defs) m.ty) ms) ≡ Some v.value =
      total_more (struct_units k defs) (struct_units (length defs) defs) (struct_units_more defs defs (stay_self defs) k (length defs) (omega arith)) ms v.value (sym (opened defs k s ms body) ∙ v.is) in
      struct_units_more defs defs (stay_self defs) (suc k) (length defs) below s v.value v.is ∙ sym parts

  exact_body : (s : ℕ) (ms : List Member) → body_of defs s ≡ Some ms → exact_units defs (ty.Struct s) ≡ total (map (λ m. exact_units defs m.ty) ms)
  unfolding exact_units
  exact_body s ms body = sized_struct (struct_units (length defs) defs) s ∙ body_units_by (bodies defs) (bodies_le defs) s ms body (shallow s ms body)

  exact_no_body : (s : ℕ) → body_of defs s ≡ None → exact_units defs (ty.Struct s) ≡ None
  unfolding exact_units
  exact_no_body s body = sized_struct (struct_units (length defs) defs) s ∙ unknown defs (length defs) s body

  pub units_are_sums : UnitsAreSums defs
  unfolding exact_units
  units_are_sums = record {
    int = sized_int (struct_units (length defs) defs);
    char = sized_char (struct_units (length defs) defs);
    pointer = sized_pointer (struct_units (length defs) defs);
    array = sized_array (struct_units (length defs) defs);
    body = exact_body;
    no_body = exact_no_body;
    void = sized_void (struct_units (length defs) defs);
    function = sized_function (struct_units (length defs) defs);
  }

  pub bodies_have_units : (s : ℕ) (ms : List Member) → body_of defs s ≡ Some ms → is_some (exact_units defs (ty.Struct s)) ≡ true
  unfolding exact_units
  bodies_have_units s ms body =
      ap (λ o. is_some o) (sized_struct (struct_units (length defs) defs) s) ∙ deeper_known defs (bodies defs) (length defs) (bodies_le defs) s (shallow s ms body)

  pub none_contains_itself : (s : ℕ) → Contains defs s s → ⊥
  none_contains_itself s inside =
      let b : HasBody defs s = body_known defs inside in
      none_contains_itself_by defs (bodies defs) s (shallow s b.members b.are) inside

-- ---- tables that have more

module _ (defs more : List StructDef) (extends : Extends defs more) where
  pub units_stay : (t : Ty) → Covers (exact_units defs t) (exact_units more t)
  unfolding exact_units
  units_stay =
      sized_more (struct_units (length defs) defs) (struct_units (length more) more) (struct_units_more defs more extends.bodies (length defs) (length more) extends.longer)
