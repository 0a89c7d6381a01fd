-- The type of a member is a part of its struct's, and has units.
use Rattle.std.proofs.Common.{◌≡◌, ◌∙◌, ℕ, zero, suc, ◌<◌, Bool, true, false, List, [], ◌∷◌, length, Contains, Option, Some, None, option_map, option_and_then, is_some, refl, ap, sym, subst, slice_get, arith}
use Rattle.std.specs.List.{list_all}
use Rattle.std.specs.Prelude.{if◌then◌else◌}
use Rattle.std.proofs.lemmas.Option.{same_Some}
use Rattle.c_types.specs.declared.structs.Member.{Member}
use Rattle.c_types.specs.declared.structs.StructDef.{StructDef}
use Rattle.c_types.specs.declared.ty.Ty.{Ty, out-Ty, roll-Ty, roll-out-Ty}
use Rattle.c_types.specs.declared.ty.Ty.TheOpen.{Ty-F}
use Rattle.c_types.specs.declared.ty.Ty.TheVariants as ty
use Rattle.c_types.specs.Kinds.{Outer, is_struct, struct_at, struct_of}
use Rattle.c_types.specs.Sound.{IsSound, is_member_type, names_below}
use Rattle.c_types.specs.Structs.{body_of, member_named}
use Rattle.c_types.specs.Units.{has_units}
use Rattle.c_rules.specs.Rules.{member_in, member_of, numbered}
use Rattle.core_ir.specs.Parts as parts
use Rattle.core_ir.specs.Parts.{HasPart}
use Rattle.elab_valid.proofs.TypeKinds.{first, second}

struct_is_at : (t : Ty) (o : Outer) (s : ℕ) → out-Ty t ≡ o → struct_at o ≡ Some s → t ≡ ty.Struct s
struct_is_at t Ty-F.Int s e h = absurd (cc)
struct_is_at t Ty-F.Char s e h = absurd (cc)
struct_is_at t Ty-F.Void s e h = absurd (cc)
struct_is_at t (Ty-F.Struct n) s e h = sym (roll-out-Ty t) ∙ ap roll-Ty e ∙ ty.rolls-Struct n ∙ ap ty.Struct (same_Some n s h)
struct_is_at t (Ty-F.Pointer u) s e h = absurd (cc)
struct_is_at t (Ty-F.Array u n) s e h = absurd (cc)
struct_is_at t (Ty-F.Function f) s e h = absurd (cc)

pub struct-is : (t : Ty) (s : ℕ) → struct_of t ≡ Some s → t ≡ ty.Struct s
unfolding struct_of
struct-is t s h = struct_is_at t (out-Ty t) s refl h

pub there-at : {A : Type 0} (xs : List A) (n : ℕ) (a : A) → slice_get xs n ≡ Some a → Contains xs a
there-at [] n a e = absurd (cc)
there-at (x ∷ xs) zero a e = (zero, omega arith, same_Some x a e)
there-at (x ∷ xs) (suc n) a e = let h = there-at xs n a e in (suc h.0, (let lt : h.0 < length xs = h.1 in omega arith), h.2)

pub passes-at : {A : Type 0} (test : A → Bool) (xs : List A) (n : ℕ) (a : A) → list_all test xs ≡ true → slice_get xs n ≡ Some a → test a ≡ true
passes-at test [] n a h e = absurd (cc)
passes-at test (x ∷ xs) zero a h e = subst (λ z. test z ≡ true) (same_Some x a e) (first (test x) (list_all test xs) h)
passes-at test (x ∷ xs) (suc n) a h e = passes-at test xs n a (second (test x) (list_all test xs) h) e

module _ (defs : List StructDef) (table : IsSound defs) where
  -- a member of a struct
  pub record MemberFits (u t : Ty) : Type 0 where
    pub part : HasPart defs u t
    pub units : has_units defs t ≡ true
    pub struct : is_struct u ≡ true

  -- ---- a member by its number

  in_body : (s : ℕ) (ms : List Member) (i : ℕ) (o : Option Member) (n : ℕ) (t : Ty) → body_of defs s ≡ Some ms → slice_get ms i ≡ o → option_map {U = ℕ × Ty} (λ (u : Ty). (i, u)) (option_map (λ (m : Member). m.ty) o) ≡ Some (n, t)
      → HasPart defs (ty.Struct s) t × (has_units defs t ≡ true)
  unfolding is_member_type
  in_body s ms i None n t body at h = absurd (cc)
  in_body s ms i (Some m) n t body at h =
      let is : m.ty ≡ t = ap (λ q. q.1) (same_Some (i, m.ty) (n, t) h) in
      let fits = passes-at (λ (m : Member). is_member_type defs m.ty) ms i m (table.members_fit s ms body) at in
      subst (λ u. HasPart defs (ty.Struct s) u × (has_units defs u ≡ true)) is (parts.member s ms m m.ty body (there-at ms i m at) (parts.whole m.ty), first (has_units defs m.ty) (names_below (length defs) m.ty) fits)

  at_number : (s i : ℕ) (o : Option (List Member)) (n : ℕ) (t : Ty) → body_of defs s ≡ o
      → option_map {U = ℕ × Ty} (λ (u : Ty). (i, u)) (option_map (λ (m : Member). m.ty) (option_and_then (λ ms. slice_get ms i) o)) ≡ Some (n, t) → HasPart defs (ty.Struct s) t × (has_units defs t ≡ true)
  at_number s i None n t body h = absurd (cc)
  at_number s i (Some ms) n t body h = in_body s ms i (slice_get ms i) n t body refl h

  -- ---- a member by its name

  at_name : (s : ℕ) (o : Option ℕ) (n : ℕ) (t : Ty) → option_and_then (numbered defs s) o ≡ Some (n, t) → HasPart defs (ty.Struct s) t × (has_units defs t ≡ true)
  at_name s None n t h = absurd (cc)
  at_name s (Some i) n t h = at_number s i (body_of defs s) n t refl h

  in_struct : (name : List ℕ) (u : Ty) (o : Option ℕ) (n : ℕ) (t : Ty) → struct_of u ≡ o → option_and_then (member_in defs name) o ≡ Some (n, t) → MemberFits u t
  unfolding is_struct
  in_struct name u None n t e h = absurd (cc)
  in_struct name u (Some s) n t e h =
      let both = at_name s (member_named defs s name) n t h in
      record { part = subst (λ v. HasPart defs v t) (sym (struct-is u s e)) both.0; units = both.1; struct = ap is_some e }

  unless : (name : List ℕ) (u : Ty) (b : Bool) (n : ℕ) (t : Ty) → (if b then option_and_then (member_in defs name) (struct_of u) else None) ≡ Some (n, t) → MemberFits u t
  unless name u true n t h = in_struct name u (struct_of u) n t refl h
  unless name u false n t h = absurd (cc)

  pub member-fits : (name : List ℕ) (u : Ty) (n : ℕ) (t : Ty) → member_of defs name u ≡ Some (n, t) → MemberFits u t
  unfolding member_of
  member-fits name u n t h = unless name u (has_units defs u) n t h
