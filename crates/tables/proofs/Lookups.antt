-- What a map with byte keys finds behind an insertion.
use Rattle.std.proofs.Common.{◌≡◌, ℕ, Bool, true, false, cond, List, [], ◌∷◌, Some, refl, sym, ap, ◌∙◌}
use Rattle.std.specs.declared.cmp.Ordering.{Ordering}
use Rattle.std.specs.declared.cmp.Ordering.TheVariants.{Less, Equal, Greater}
use Rattle.std.specs.Ordering.{is_eq, nat_cmp, match_ordering}
use Rattle.std.specs.Cmp.Lexicographic.{slice_cmp}
use Rattle.std.specs.Map.{lookup}
use Rattle.std.specs.Str.{bytes_eq}
use Rattle.std.specs.BTreeMap.{is_at, insert_entry}
use Rattle.std.proofs.lemmas.Map.Text.{is_eq-slice_cmp}
use Rattle.std.proofs.lemmas.Map.Lookups.{exact_bytes}
use Rattle.std.proofs.lemmas.Cmp.{nat_list_eq_equiv}
use Rattle.std.proofs.lemmas.Slice.Eq.{bytes_eq-Decides}

-- the order of two keys tells whether their bytes are equal
bytes_in_order : (a b : List ℕ) (o : Ordering) → slice_cmp nat_cmp a b ≡ o → bytes_eq a b ≡ is_eq o
bytes_in_order a b o order = sym (is_eq-slice_cmp a b) ∙ ap is_eq order

bytes_equal : (a b : List ℕ) → bytes_eq a b ≡ true → a ≡ b
bytes_equal a b = (bytes_eq-Decides a b).0

cond_twice : {A : Type 0} (b : Bool) (v w rest : A) → cond b v rest ≡ cond b v (cond b w rest)
cond_twice true v w rest = refl
cond_twice false v w rest = refl

-- two tests that never hold both may be asked in either order
cond_second : {A : Type 0} (b c : Bool) (v w rest : A) → (b ≡ true → c ≡ true → ⊥) → cond b v (cond c w rest) ≡ cond c w (cond b v rest)
cond_second true true v w rest apart = absurd (apart refl refl)
cond_second true false v w rest apart = refl
cond_second false true v w rest apart = refl
cond_second false false v w rest apart = refl

module _ {K : Type 0} (items : K → List ℕ) where
  -- the order of keys by their bytes
  abbrev by_items : K → K → Ordering
  by_items a b = slice_cmp nat_cmp (items a) (items b)

  -- whether a key has these bytes
  abbrev has_items : List ℕ → K → Bool
  has_items x = is_at (λ key. slice_cmp nat_cmp x (items key))

  has_bytes : (x : List ℕ) (key : K) → has_items x key ≡ bytes_eq x (items key)
  has_bytes x key = is_eq-slice_cmp x (items key)

  apart : (x : List ℕ) (key first : K) → by_items key first ≡ Greater → has_items x first ≡ true → has_items x key ≡ true → ⊥
  apart x key first order is_first is_key =
      let one : x ≡ items first = bytes_equal x (items first) (sym (has_bytes x first) ∙ is_first) in
      let other : x ≡ items key = bytes_equal x (items key) (sym (has_bytes x key) ∙ is_key) in
      let equal : items key ≡ items first = sym other ∙ one in
      let told : bytes_eq (items key) (items first) ≡ false = bytes_in_order (items key) (items first) Greater order in
      let found : bytes_eq (items key) (items first) ≡ true = (bytes_eq-Decides (items key) (items first)).1 equal in
      (cc)

module _ {K V : Type 0} (items : K → List ℕ) where
  lookup_by : (x : List ℕ) (key first : K) (v w : V) (es : List (K × V)) (o : Ordering) → by_items items key first ≡ o
      → lookup (has_items items x) (insert_entry (by_items items) es key v) ≡ cond (has_items items x key) (Some v) (lookup (has_items items x) es)
      → lookup (has_items items x) (match_ordering o ((key, v) ∷ (first, w) ∷ es) ((first, v) ∷ es) ((first, w) ∷ insert_entry (by_items items) es key v))
      ≡ cond (has_items items x key) (Some v) (cond (has_items items x first) (Some w) (lookup (has_items items x) es))
  lookup_by x key first v w es Less order behind = refl
  lookup_by x key first v w es Equal order behind =
      cond_twice (has_items items x first) (Some v) (Some w) (lookup (has_items items x) es)
      ∙ ap (λ bytes. cond (is_eq (slice_cmp nat_cmp x bytes)) (Some v) (cond (has_items items x first) (Some w) (lookup (has_items items x) es))) (sym (exact_bytes (items key) (items first) order))
  lookup_by x key first v w es Greater order behind =
      ap (λ rest. cond (has_items items x first) (Some w) rest) behind
      ∙ cond_second (has_items items x first) (has_items items x key) (Some w) (Some v) (lookup (has_items items x) es) (apart items x key first order)

  -- an inserted key is found, and so are the others
  lookup_inserted : (x : List ℕ) (key : K) (v : V) (es : List (K × V)) → lookup (has_items items x) (insert_entry (by_items items) es key v) ≡ cond (has_items items x key) (Some v) (lookup (has_items items x) es)
  lookup_inserted x key v [] = refl
  lookup_inserted x key v (e ∷ es) = lookup_by x key e.0 v e.1 es (by_items items key e.0) refl (lookup_inserted x key v es)

  -- the same, with the test on bytes
  pub lookup_inserted_bytes : (x : List ℕ) (key : K) (v : V) (es : List (K × V)) → lookup (has_items items x) (insert_entry (by_items items) es key v) ≡ cond (bytes_eq (items key) x) (Some v) (lookup (has_items items x) es)
  lookup_inserted_bytes x key v es =
      lookup_inserted x key v es
      ∙ ap (λ b. cond b (Some v) (lookup (has_items items x) es)) (has_bytes items x key ∙ nat_list_eq_equiv.symm x (items key))
