-- Where a function of a list is changed, as a table finds it.
use Rattle.std.proofs.Common.{◌≡◌, ℕ, zero, suc, Bool, true, false, not, ◌&&◌, ◌||◌, if◌then◌else◌, IsTrue, List, [], ◌∷◌, Option, Some, None, slice_get, slice_set, refl, ap, sym, ◌∙◌}
use Rattle.std.specs.Option.{option_map}
use Rattle.std.specs.Str.{bytes_eq}
use Rattle.tables.specs.Places.{place_of}
use Rattle.c_scope.specs.declared.world.KnownFunction.{KnownFunction}
use Rattle.c_scope.specs.Definitions.{marked}
use Rattle.c_scope.specs.Scopes.{with_function}

changed_by : (f : KnownFunction → KnownFunction) (k : KnownFunction) (ks changed : List KnownFunction) (b : Bool) (o : Option ℕ) (p : ℕ) (found new : KnownFunction)
    → ((q : ℕ) → o ≡ Some q → slice_get ks q ≡ Some found → changed ≡ slice_set ks q new)
    → (if b then Some 0 else option_map suc o) ≡ Some p → slice_get (k ∷ ks) p ≡ Some found → new ≡ f found
    → (if b then f k ∷ ks else k ∷ changed) ≡ slice_set (k ∷ ks) p new
changed_by f k ks changed true o zero found new rest placed there is = cc
changed_by f k ks changed true o (suc p) found new rest placed there is = cc
changed_by f k ks changed false None p found new rest placed there is = cc
changed_by f k ks changed false (Some q) zero found new rest placed there is = cc
changed_by f k ks changed false (Some q) (suc p) found new rest placed there is =
    let same : q ≡ p = cc in
    let e : Some q ≡ Some p = ap Some same in
    ap (λ l. k ∷ l) (rest p e there)

-- the function that a look-up finds is changed where it stands
pub changed_at : (f : KnownFunction → KnownFunction) (ks : List KnownFunction) (x : List ℕ) (p : ℕ) (found new : KnownFunction)
    → place_of (λ k. k.name) ks x ≡ Some p → slice_get ks p ≡ Some found → new ≡ f found
    → with_function f ks x ≡ slice_set ks p new
changed_at f [] x p found new placed there is = cc
changed_at f (k ∷ ks) x p found new placed there is =
    changed_by f k ks (with_function f ks x) (bytes_eq k.name x) (place_of (λ k. k.name) ks x) p found new
    (λ q placed there. changed_at f ks x q found new placed there is) placed there is

absent_by : (f : KnownFunction → KnownFunction) (k : KnownFunction) (ks changed : List KnownFunction) (b : Bool) (o : Option ℕ)
    → (o ≡ None → changed ≡ ks) → (if b then Some 0 else option_map suc o) ≡ None → (if b then f k ∷ ks else k ∷ changed) ≡ k ∷ ks
absent_by f k ks changed true o rest absent = cc
absent_by f k ks changed false None rest absent = ap (λ l. k ∷ l) (rest refl)
absent_by f k ks changed false (Some q) rest absent = cc

-- without a function of this name none is changed
pub absent : (f : KnownFunction → KnownFunction) (ks : List KnownFunction) (x : List ℕ) → place_of (λ k. k.name) ks x ≡ None → with_function f ks x ≡ ks
absent f [] x none = refl
absent f (k ∷ ks) x none = absent_by f k ks (with_function f ks x) (bytes_eq k.name x) (place_of (λ k. k.name) ks x) (absent f ks x) none

set_same : (ks : List KnownFunction) (p : ℕ) (found : KnownFunction) → slice_get ks p ≡ Some found → slice_set ks p found ≡ ks
set_same [] p found there = refl
set_same (k ∷ ks) zero found there = cc
set_same (k ∷ ks) (suc p) found there = ap (λ l. k ∷ l) (set_same ks p found there)

flag_same : (now flag : Bool) → IsTrue (now || not flag) → (flag || now) ≡ now
flag_same true true is = refl
flag_same true false is = refl
flag_same false false is = refl
flag_same false true is = cc

both : (a b : Bool) → IsTrue (a && b) → IsTrue a × IsTrue b
both true true is = (refl, refl)
both true false is = cc
both false b is = cc

with_flags : (k : KnownFunction) (u d : Bool) → u ≡ k.is_used → d ≡ k.is_defined → record k { is_used = u; is_defined = d } ≡ k
with_flags k u d used defined = λ i. record k { is_used = used i; is_defined = defined i }

pub marked_same : (used defined : Bool) (k : KnownFunction) → IsTrue ((k.is_used || not used) && (k.is_defined || not defined)) → marked used defined k ≡ k
unfolding marked
marked_same used defined k is =
    let split = both (k.is_used || not used) (k.is_defined || not defined) is in
    with_flags k _ _ (flag_same k.is_used used split.0) (flag_same k.is_defined defined split.1)

-- a function that has the marks already stays as it is
pub kept : (used defined : Bool) (ks : List KnownFunction) (x : List ℕ) (p : ℕ) (k : KnownFunction) → place_of (λ k. k.name) ks x ≡ Some p
    → slice_get ks p ≡ Some k → marked used defined k ≡ k → with_function (marked used defined) ks x ≡ ks
kept used defined ks x p k placed there is =
    let changed : with_function (marked used defined) ks x ≡ slice_set ks p k = changed_at (marked used defined) ks x p k k placed there (sym is) in
    changed ∙ set_same ks p k there

-- marks keep the name
pub names_stay : (used defined : Bool) (k m earlier : KnownFunction) {o : Option KnownFunction} → m ≡ marked used defined k → Some k ≡ o → o ≡ Some earlier → m.name ≡ earlier.name
unfolding marked
names_stay used defined k m earlier is found there =
    let same : k ≡ earlier = cc in
    ap (λ k. k.name) is ∙ ap (λ k. k.name) same

pub ruleset marks = (changed_at, absent, kept)
