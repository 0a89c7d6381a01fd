-- What a declaration and a body leave of a table of structs.
use Rattle.std.proofs.Common.{◌≡◌, ◌≢◌, ℕ, zero, suc, ◌+◌, ◌<◌, cond, List, [], ◌∷◌, ◌++◌, length, map, Option, Some, None, is_some, refl, sym, ap, ◌∙◌, arith}
use Rattle.std.proofs.Math.ListN.{set}
use Rattle.std.specs.Option.{option_map}
use Rattle.std.specs.List.{slice_get}
use Rattle.std.specs.Str.{bytes_eq}
use Rattle.std.proofs.lemmas.List.Sums.{sum_by-cons}
use Rattle.c_types.specs.declared.layout.Layout.{Layout}
use Rattle.c_types.specs.declared.structs.Member.{Member}
use Rattle.c_types.specs.declared.structs.StructDef.{StructDef}
use Rattle.c_types.specs.Structs.{body_of, with_tag, with_body}
use Rattle.c_types.specs.Theorems.{Extends}
use Rattle.c_types.specs.inner.Layouts.{layout_of, layout_in, tag_of, bodies}
use Rattle.tables.specs.Places.{place_of}

-- ---- a declaration

pub body_tagged : (defs : List StructDef) (tag : List ℕ) (s : ℕ) → body_of (with_tag defs tag) s ≡ body_of defs s
body_tagged [] tag zero = refl
body_tagged [] tag (suc s) = refl
body_tagged (d ∷ ds) tag zero = refl
body_tagged (d ∷ ds) tag (suc s) = body_tagged ds tag s

pub length_tagged : (defs : List StructDef) (tag : List ℕ) → length (with_tag defs tag) ≡ suc (length defs)
length_tagged [] tag = refl
length_tagged (d ∷ ds) tag = ap suc (length_tagged ds tag)

pub extends_tagged : (defs : List StructDef) (tag : List ℕ) → Extends defs (with_tag defs tag)
extends_tagged defs tag = record {
  longer = let l : length (with_tag defs tag) ≡ suc (length defs) = length_tagged defs tag in omega arith;
  bodies = λ s ms body. body_tagged defs tag s ∙ body;
}

abbrev counted : StructDef → ℕ
counted d = cond (is_some d.members) 1 0

bodies_cons : (d : StructDef) (ds : List StructDef) → bodies (d ∷ ds) ≡ counted d + bodies ds
bodies_cons d ds = sum_by-cons counted d ds

pub bodies_tagged : (defs : List StructDef) (tag : List ℕ) → bodies (with_tag defs tag) ≡ bodies defs
bodies_tagged [] tag = refl
bodies_tagged (d ∷ ds) tag = bodies_cons d (with_tag ds tag) ∙ ap (λ n. counted d + n) (bodies_tagged ds tag) ∙ sym (bodies_cons d ds)

pub map_tagged : {B : Type 0} (f : StructDef → B) (defs : List StructDef) (tag : List ℕ) → map f (with_tag defs tag) ≡ map f defs ++ f (record { name = tag; members = None }) ∷ []
map_tagged f [] tag = refl
map_tagged f (d ∷ ds) tag = ap (λ bs. f d ∷ bs) (map_tagged f ds tag)

-- ---- a body

pub body_here : (defs : List StructDef) (s : ℕ) (ms : List Member) → s < length defs → body_of (with_body defs s ms) s ≡ Some ms
body_here [] s ms below = absurd (omega arith)
body_here (d ∷ ds) zero ms below = refl
body_here (d ∷ ds) (suc s) ms below = body_here ds s ms (omega arith)

pub body_there : (defs : List StructDef) (s t : ℕ) (ms : List Member) → t ≢ s → body_of (with_body defs s ms) t ≡ body_of defs t
body_there [] s t ms other = refl
body_there (d ∷ ds) zero zero ms other = absurd (other refl)
body_there (d ∷ ds) zero (suc t) ms other = refl
body_there (d ∷ ds) (suc s) zero ms other = refl
body_there (d ∷ ds) (suc s) (suc t) ms other = body_there ds s t ms (λ e. other (ap suc e))

pub length_bodied : (defs : List StructDef) (s : ℕ) (ms : List Member) → length (with_body defs s ms) ≡ length defs
length_bodied [] s ms = refl
length_bodied (d ∷ ds) zero ms = refl
length_bodied (d ∷ ds) (suc s) ms = ap suc (length_bodied ds s ms)

pub tags_bodied : (defs : List StructDef) (s : ℕ) (ms : List Member) → map tag_of (with_body defs s ms) ≡ map tag_of defs
tags_bodied [] s ms = refl
tags_bodied (d ∷ ds) zero ms = refl
tags_bodied (d ∷ ds) (suc s) ms = ap (λ tags. d.name ∷ tags) (tags_bodied ds s ms)

none_counts : (o : Option (List Member)) → o ≡ None → ◌≡◌ {A = ℕ} (cond (is_some o) 1 0) 0
none_counts o is = ap (λ p. cond {A = ℕ} (is_some p) 1 0) is

pub bodies_bodied : (defs : List StructDef) (s : ℕ) (ms : List Member) → s < length defs → body_of defs s ≡ None → bodies (with_body defs s ms) ≡ suc (bodies defs)
bodies_bodied [] s ms below none = absurd (omega arith)
bodies_bodied (d ∷ ds) zero ms below none =
    let before : bodies (d ∷ ds) ≡ counted d + bodies ds = bodies_cons d ds in
    let zero_is : counted d ≡ 0 = none_counts d.members none in
    let after : bodies (record { name = d.name; members = Some ms } ∷ ds) ≡ 1 + bodies ds = bodies_cons (record { name = d.name; members = Some ms }) ds in
    omega arith
bodies_bodied (d ∷ ds) (suc s) ms below none =
    let before : bodies (d ∷ ds) ≡ counted d + bodies ds = bodies_cons d ds in
    let after : bodies (d ∷ with_body ds s ms) ≡ counted d + bodies (with_body ds s ms) = bodies_cons d (with_body ds s ms) in
    let rest : bodies (with_body ds s ms) ≡ suc (bodies ds) = bodies_bodied ds s ms (omega arith) none in
    omega arith

-- the written struct is the one with its body
pub set_bodied : (defs : List StructDef) (s : ℕ) (d : StructDef) (name : List ℕ) (ms : List Member) → slice_get defs s ≡ Some d → name ≡ d.name → set defs s (record { name = name; members = Some ms }) ≡ with_body defs s ms
set_bodied [] s d name ms at same = refl
set_bodied (e ∷ es) zero d name ms at same =
    let here : e ≡ d = cc in
    ap (λ n. record { name = n; members = Some ms } ∷ es) (same ∙ ap (λ (f : StructDef). f.name) (sym here))
set_bodied (e ∷ es) (suc s) d name ms at same = ap (λ ds. e ∷ ds) (set_bodied es s d name ms at same)

pub layouts_bodied : (more ds : List StructDef) (s : ℕ) (ms : List Member) (l : Layout) → l ≡ layout_of more ms → map (layout_in more) (with_body ds s ms) ≡ set (map (layout_in more) ds) s (Some l)
layouts_bodied more [] s ms l is = refl
layouts_bodied more (d ∷ ds) zero ms l is = ap (λ k. Some k ∷ map (layout_in more) ds) (sym is)
layouts_bodied more (d ∷ ds) (suc s) ms l is = ap (λ ls. layout_in more d ∷ ls) (layouts_bodied more ds s ms l is)

-- ---- names

-- a name stands where the thing of that name does
pub place_of_mapped : {A : Type 0} (name_of : A → List ℕ) (xs : List A) (x : List ℕ) → place_of (λ n. n) (map name_of xs) x ≡ place_of name_of xs x
place_of_mapped name_of [] x = refl
place_of_mapped name_of (a ∷ xs) x = ap (λ o. cond (bytes_eq (name_of a) x) (Some 0) (option_map suc o)) (place_of_mapped name_of xs x)
