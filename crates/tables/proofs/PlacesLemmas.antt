-- Where the things of a name stand in a list that grows.
use Rattle.std.proofs.Common.{◌≡◌, ℕ, zero, suc, ◌<◌, Bool, true, false, cond, if◌then◌else◌, List, [], ◌∷◌, ◌++◌, length, Option, Some, None, IfSome, is_some, refl, ap, ◌∙◌, subst, arith}
use Rattle.std.specs.Option.{option_map, option_and_then}
use Rattle.std.specs.List.{slice_get, slice_set}
use Rattle.std.specs.Str.{bytes_eq}
use Rattle.std.proofs.lemmas.Slice.Eq.{bytes_eq-Decides}
use Rattle.tables.specs.Places.{place_of, first_named}

below_by : (b : Bool) (o : Option ℕ) (n : ℕ) → IfSome o (λ m. m < n) → IfSome (if b then Some 0 else option_map suc o) (λ m. m < suc n)
below_by true o n below = omega arith
below_by false None n below = tt
below_by false (Some m) n below = omega arith

named_by : {A : Type 0} (b : Bool) (a : A) (xs : List A) (o : Option ℕ) (found : Option A) → found ≡ option_and_then (slice_get xs) o
    → (if b then Some a else found) ≡ option_and_then (slice_get (a ∷ xs)) (if b then Some 0 else option_map suc o)
named_by true a xs o found is = refl
named_by false a xs None found is = is
named_by false a xs (Some n) found is = is

-- the first place, or else the second
abbrev pub first_place : Option ℕ → Option ℕ → Option ℕ
first_place (Some n) other = Some n
first_place None other = other

abbrev at_end : Bool → ℕ → Option ℕ
at_end b n = if b then Some n else None

pushed_by : (b c : Bool) (o : Option ℕ) (n : ℕ) → (if b then Some 0 else option_map suc (first_place o (at_end c n))) ≡ first_place (if b then Some 0 else option_map suc o) (at_end c (suc n))
pushed_by true c o n = refl
pushed_by false true None n = refl
pushed_by false false None n = refl
pushed_by false c (Some m) n = refl

known_by : (o : Option ℕ) (b : Bool) (n : ℕ) → (b ≡ true → is_some o ≡ true) → first_place o (at_end b n) ≡ o
known_by None true n known = let is : is_some {T = ℕ} None ≡ true = known refl in cc
known_by None false n known = refl
known_by (Some m) b n known = refl

new_by : (o : Option ℕ) (b : Bool) (n : ℕ) → (b ≡ true → is_some o ≡ false) → first_place o (at_end b n) ≡ cond b (Some n) o
new_by None true n new = refl
new_by None false n new = refl
new_by (Some m) true n new = let is : is_some (Some m) ≡ false = new refl in cc
new_by (Some m) false n new = refl

module _ {A : Type 0} (name_of : A → List ℕ) where
  -- a place is below the length
  pub place_of_below : (xs : List A) (x : List ℕ) → IfSome (place_of name_of xs x) (λ n. n < length xs)
  place_of_below [] x = tt
  place_of_below (a ∷ xs) x = below_by (bytes_eq (name_of a) x) (place_of name_of xs x) (length xs) (place_of_below xs x)

  -- what is found by name stands at the place of the name
  pub first_named_at : (xs : List A) (x : List ℕ) → first_named name_of xs x ≡ option_and_then (slice_get xs) (place_of name_of xs x)
  first_named_at [] x = refl
  first_named_at (a ∷ xs) x = named_by (bytes_eq (name_of a) x) a xs (place_of name_of xs x) (first_named name_of xs x) (first_named_at xs x)

  place_of_pushed : (xs : List A) (a : A) (x : List ℕ) → place_of name_of (xs ++ a ∷ []) x ≡ first_place (place_of name_of xs x) (at_end (bytes_eq (name_of a) x) (length xs))
  place_of_pushed [] a x = refl
  place_of_pushed (first ∷ xs) a x =
      ap (λ o. if bytes_eq (name_of first) x then Some 0 else option_map suc o) (place_of_pushed xs a x)
      ∙ pushed_by (bytes_eq (name_of first) x) (bytes_eq (name_of a) x) (place_of name_of xs x) (length xs)

  along : (xs : List A) (a : A) (x : List ℕ) (b : Bool) → is_some (place_of name_of xs (name_of a)) ≡ b → bytes_eq (name_of a) x ≡ true → is_some (place_of name_of xs x) ≡ b
  along xs a x b is equal = subst (λ y. is_some (place_of name_of xs y) ≡ b) ((bytes_eq-Decides (name_of a) x).0 equal) is

  -- behind an earlier thing of its name it is never found
  pub place_of_known : (xs : List A) (a : A) (x : List ℕ) → is_some (place_of name_of xs (name_of a)) ≡ true → place_of name_of (xs ++ a ∷ []) x ≡ place_of name_of xs x
  place_of_known xs a x known = place_of_pushed xs a x ∙ known_by (place_of name_of xs x) (bytes_eq (name_of a) x) (length xs) (along xs a x true known)

  -- else it is found at the end
  pub place_of_new : (xs : List A) (a : A) (x : List ℕ) → is_some (place_of name_of xs (name_of a)) ≡ false → place_of name_of (xs ++ a ∷ []) x ≡ cond (bytes_eq (name_of a) x) (Some (length xs)) (place_of name_of xs x)
  place_of_new xs a x new = place_of_pushed xs a x ∙ new_by (place_of name_of xs x) (bytes_eq (name_of a) x) (length xs) (along xs a x false new)

  -- whether a name is there, as a look-up told it
  pub told : (xs : List A) (o : Option ℕ) (x y : List ℕ) (r b : Bool) → o ≡ place_of name_of xs x → x ≡ y → r ≡ is_some o → r ≡ b → is_some (place_of name_of xs y) ≡ b
  told xs o x y r b found same asked answer = cc

  -- where a look-up says so before a new thing and its key are added, it does behind them
  pub place_of_added : (xs : List A) (a : A) (ys : List A) (key x : List ℕ) (n : ℕ) (o : Option ℕ) → key ≡ name_of a → n ≡ length xs → o ≡ place_of name_of xs x
      → is_some (place_of name_of xs (name_of a)) ≡ false → ys ≡ xs ++ a ∷ [] → cond (bytes_eq key x) (Some n) o ≡ place_of name_of ys x
  place_of_added xs a ys key x n o is_name is_end found new is = cc (place_of_new xs a x new)

  -- another thing of the same name stands where the first did
  pub place_of_replaced : (xs : List A) (n : ℕ) (b : A) (x : List ℕ) → ((a : A) → slice_get xs n ≡ Some a → name_of b ≡ name_of a) → place_of name_of (slice_set xs n b) x ≡ place_of name_of xs x
  place_of_replaced [] n b x same = refl
  place_of_replaced (a ∷ xs) zero b x same = ap (λ y. if bytes_eq y x then Some 0 else option_map suc (place_of name_of xs x)) (same a refl)
  place_of_replaced (a ∷ xs) (suc n) b x same = ap (λ o. if bytes_eq (name_of a) x then Some 0 else option_map suc o) (place_of_replaced xs n b x same)
