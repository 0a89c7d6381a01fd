-- A set of keys answers as the list of names does, and goes on to when both take a name more.
use Rattle.std.proofs.Common.{◌≡◌, ℕ, Bool, true, false, ◌||◌, List, [], ◌∷◌, ◌++◌, refl, sym, ap, ◌∙◌}
use Rattle.std.specs.declared.cmp.Ordering.{Ordering}
use Rattle.std.specs.declared.cmp.Ordering.TheVariants.{Less, Equal, Greater}
use Rattle.std.specs.Ordering.{is_eq, nat_cmp, match_ordering}
use Rattle.std.specs.Cmp.Lexicographic.{slice_cmp}
use Rattle.std.specs.List.{list_any}
use Rattle.std.specs.Str.{bytes_eq}
use Rattle.std.specs.BTreeMap.{is_at}
use Rattle.std.specs.BTreeSet.{insert_key}
use Rattle.std.proofs.lemmas.Map.Text.{is_eq-slice_cmp}
use Rattle.std.proofs.lemmas.Map.Lookups.{exact_bytes}
use Rattle.std.proofs.lemmas.Cmp.{nat_list_eq_equiv}
use Rattle.c_readers.specs.inner.Readers.{is_type_name}

or_twice : (a b : Bool) → (a || b) ≡ (a || (a || b))
or_twice true b = refl
or_twice false b = refl

or_second : (a b c : Bool) → (a || (b || c)) ≡ (b || (a || c))
or_second true true c = refl
or_second true false c = refl
or_second false true c = refl
or_second false false c = refl

-- a name behind the others is found as one before them is
is_type_name_pushed : (names : List (List ℕ)) (name x : List ℕ) → is_type_name (names ++ name ∷ []) x ≡ (bytes_eq name x || is_type_name names x)
is_type_name_pushed [] name x = refl
is_type_name_pushed (first ∷ names) name x = ap (λ b. bytes_eq first x || b) (is_type_name_pushed names name x) ∙ or_second (bytes_eq first x) (bytes_eq name x) (is_type_name names x)

module _ {K : Type 0} (items : K → List ℕ) where
  -- the order of keys by their bytes
  abbrev by_items : K → K → Ordering
  by_items a b = slice_cmp nat_cmp (items a) (items b)

  -- whether a key has these bytes
  abbrev has_items : List ℕ → K → Bool
  has_items x = is_at (λ key. slice_cmp nat_cmp x (items key))

  has_items_bytes : (x : List ℕ) (key : K) → has_items x key ≡ bytes_eq (items key) x
  has_items_bytes x key = is_eq-slice_cmp x (items key) ∙ nat_list_eq_equiv.symm x (items key)

  insert_key_by : (x : List ℕ) (key first : K) (keys : List K) (o : Ordering) → by_items key first ≡ o
      → list_any (has_items x) (insert_key by_items keys key) ≡ (has_items x key || list_any (has_items x) keys)
      → list_any (has_items x) (match_ordering o (key ∷ first ∷ keys) (first ∷ keys) (first ∷ insert_key by_items keys key)) ≡ (has_items x key || (has_items x first || list_any (has_items x) keys))
  insert_key_by x key first keys Less order behind = refl
  insert_key_by x key first keys Equal order behind = or_twice (has_items x first) (list_any (has_items x) keys) ∙ ap (λ bytes. is_eq (slice_cmp nat_cmp x bytes) || (has_items x first || list_any (has_items x) keys)) (sym (exact_bytes (items key) (items first) order))
  insert_key_by x key first keys Greater order behind = ap (λ b. has_items x first || b) behind ∙ or_second (has_items x first) (has_items x key) (list_any (has_items x) keys)

  -- an inserted key is found, and so are the others
  insert_key_finds : (x : List ℕ) (key : K) (keys : List K) → list_any (has_items x) (insert_key by_items keys key) ≡ (has_items x key || list_any (has_items x) keys)
  insert_key_finds x key [] = refl
  insert_key_finds x key (first ∷ keys) = insert_key_by x key first keys (by_items key first) refl (insert_key_finds x key keys)

  -- keys that answer as the names do answer so when both have one more
  pub insert_key_answers : (names : List (List ℕ)) (keys : List K) (key : K) (x : List ℕ) → list_any (has_items x) keys ≡ is_type_name names x → list_any (has_items x) (insert_key by_items keys key) ≡ is_type_name (names ++ items key ∷ []) x
  insert_key_answers names keys key x same = insert_key_finds x key keys ∙ ap (λ b. b || list_any (has_items x) keys) (has_items_bytes x key) ∙ ap (λ b. bytes_eq (items key) x || b) same ∙ sym (is_type_name_pushed names (items key) x)
