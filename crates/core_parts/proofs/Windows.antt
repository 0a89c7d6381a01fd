-- Code that stands in other code: what is asked at its places is met there too, where no jump from elsewhere leads strictly
-- inside it.
use Rattle.std.proofs.Common.{◌≡◌, ◌≢◌, ◌⊎◌, inl, inr, ℕ, zero, suc, ◌+◌, ◌-◌, ◌<◌, ◌≤◌, Bool, true, false, List, [], ◌∷◌, ◌++◌, length, refl, ap, sym, ◌∙◌, ⊎_elim, arith, length-append}
use Rattle.std.specs.Prelude.{slice_get}
use Rattle.std.proofs.lemmas.Bool.{cases_eq, cases_lt}
use Rattle.std.proofs.lemmas.Option.{same_Some, slice_get_within}
use Rattle.core_ir.specs.declared.role.Role.{Role}
use Rattle.core_ir.specs.declared.role.Role.TheVariants as role
use Rattle.core_ir.specs.Outline.{Outline}
use Rattle.core_ir.specs.Flow.{Chain, from_load, from_slot, through, HasRole, IsAmong, IsUnreached, Jumps, Serves, Stands, Unbroken}
use Rattle.core_parts.specs.Pieces.{end_of}
use Rattle.core_parts.specs.Places.{Behind, Chained, FrameFits, InStart, IsFresh, IsLinked, IsStart, LeaveFits, NamesUsed, ReturnFits, RoleFits, Served}

-- ---- two codes, one behind the other

get_front : {A : Type 0} (xs ys : List A) (k : ℕ) → k < length xs → slice_get (xs ++ ys) k ≡ slice_get xs k
get_front [] ys k lt = absurd (omega arith)
get_front (x ∷ xs) ys zero lt = refl
get_front (x ∷ xs) ys (suc k) lt = get_front xs ys k (omega arith)

get_back : {A : Type 0} (xs ys : List A) (k j : ℕ) → k ≡ length xs + j → slice_get (xs ++ ys) k ≡ slice_get ys j
get_back [] ys k j e = ap (slice_get ys) (let e2 : k ≡ j = omega arith in e2)
get_back (x ∷ xs) ys zero j e = absurd (omega arith)
get_back (x ∷ xs) ys (suc k) j e = get_back xs ys k j (omega arith)

pub within : (c : List Outline) (start k : ℕ) (i : Outline) → Stands c start k i → k < end_of c start
within c start k i h = let lt : k - start < length c = slice_get_within c (k - start) i h.there in let f : start ≤ k = h.from in omega arith

pub one : (c : List Outline) (start k : ℕ) (i j : Outline) → Stands c start k i → Stands c start k j → i ≡ j
one c start k i j a b = same_Some i j (sym a.there ∙ b.there)

pub split : (c d : List Outline) (start k : ℕ) (i : Outline) → Stands (c ++ d) start k i → Stands c start k i ⊎ Stands d (end_of c start) k i
split c d start k i h =
    let f : start ≤ k = h.from in
    ⊎_elim
    (λ lt. inl (record { from = f; there = sym (get_front c d (k - start) lt) ∙ h.there }))
    (λ le. inr (record { from = omega arith; there = sym (get_back c d (k - start) (k - (start + length c)) (omega arith)) ∙ h.there }))
    (cases_lt (k - start) (length c))

pub in_front : (c d : List Outline) (start k : ℕ) (i : Outline) → Stands c start k i → Stands (c ++ d) start k i
in_front c d start k i h = record { from = h.from; there = get_front c d (k - start) (slice_get_within c (k - start) i h.there) ∙ h.there }

pub in_back : (c d : List Outline) (start k : ℕ) (i : Outline) → Stands d (end_of c start) k i → Stands (c ++ d) start k i
in_back c d start k i h =
    let f : start + length c ≤ k = h.from in
    record { from = omega arith; there = get_back c d (k - start) (k - (start + length c)) (omega arith) ∙ h.there }

pub jumps_split : (c d : List Outline) (start q l : ℕ) → Jumps (c ++ d) start q l → Jumps c start q l ⊎ Jumps d (end_of c start) q l
jumps_split c d start q l j =
    ⊎_elim
    (λ h. inl (record { by = j.by; there = h; leads = j.leads }))
    (λ h. inr (record { by = j.by; there = h; leads = j.leads }))
    (split c d start q j.by j.there)

pub end_append : (c d : List Outline) (start : ℕ) → end_of (c ++ d) start ≡ end_of d (end_of c start)
end_append c d start = let e : length (c ++ d) ≡ length c + length d = length-append c d in omega arith

-- ---- servers

-- one use has one server
pub one_server : (c : List Outline) (start s t u r : ℕ) → Serves c start s u r → Serves c start t u r → s ≡ t
one_server c start s t u r a b =
    let su : s < u = a.before in
    let tu : t < u = b.before in
    ⊎_elim
    (λ (e : s ≡ t). e)
    (λ (ne : s ≢ t). ⊎_elim
    (λ (lt : s < t). absurd (a.nearest t b.by b.there lt tu b.defines))
    (λ (le : t ≤ s). absurd (b.nearest s a.by a.there (omega arith) su a.defines))
    (cases_lt s t))
    (cases_eq s t)

-- a chain begins in the code, before its use
pub chain_first : {c : List Outline} {start u r k : ℕ} → Chain c start u r k → (start ≤ k) × (k < u)
chain_first (from_load s u r p serves has) = (serves.there.from, serves.before)
chain_first (from_slot s u r n serves has) = (serves.there.from, serves.before)
chain_first (through s u r a k serves has c) = let f = chain_first c in let b = serves.before in (f.0, omega (arith, f.1, b))

-- ---- windows

-- c, from place `base` on, stands in w, and no jump of the rest of w leads strictly inside it
pub record IsWindow (c : List Outline) (base : ℕ) (w : List Outline) (start : ℕ) : Type 0 where
  pub into : (k : ℕ) (i : Outline) → Stands c base k i → Stands w start k i
  pub back : (k : ℕ) (i : Outline) → Stands w start k i → base ≤ k → k < end_of c base → Stands c base k i
  pub closed : (q l : ℕ) → Jumps w start q l → base < l → l < end_of c base → Jumps c base q l

module _ (c : List Outline) (base : ℕ) (w : List Outline) (start : ℕ) (v : IsWindow c base w start) where
  pub serves_in : (s u r : ℕ) → u ≤ end_of c base → Serves c base s u r → Serves w start s u r
  serves_in s u r inside h =
      let f : base ≤ s = h.there.from in
      record {
        by = h.by;
        there = v.into s h.by h.there;
        defines = h.defines;
        before = h.before;
        nearest = λ k i stands sk ku. h.nearest k i (v.back k i stands (omega arith) (omega arith)) sk ku;
      }

  pub serves_back : (s u r : ℕ) → base ≤ s → u ≤ end_of c base → Serves w start s u r → Serves c base s u r
  serves_back s u r from inside h =
      let b : s < u = h.before in
      record {
        by = h.by;
        there = v.back s h.by h.there from (omega arith);
        defines = h.defines;
        before = h.before;
        nearest = λ k i stands sk ku. h.nearest k i (v.into k i stands) sk ku;
      }

  pub unbroken_in : (s u : ℕ) → base ≤ s → u < end_of c base → Unbroken c base s u → Unbroken w start s u
  unbroken_in s u from inside h q l j sl lu = h q l (v.closed q l j (omega arith) (omega arith)) sl lu

  pub unreached_in : (l : ℕ) → base < l → l < end_of c base → IsUnreached c base l → IsUnreached w start l
  unreached_in l from inside h q j = h q (v.closed q l j from inside)

  pub role_in : (k : ℕ) (r : Role) → HasRole c base k r → HasRole w start k r
  role_in k r h = record { instruction = h.instruction; there = v.into k h.instruction h.there; is = h.is }

  pub role_back : (k : ℕ) (r : Role) → base ≤ k → k < end_of c base → HasRole w start k r → HasRole c base k r
  role_back k r from inside h = record { instruction = h.instruction; there = v.back k h.instruction h.there from inside; is = h.is }

  pub chain_in : {u r k : ℕ} → u ≤ end_of c base → Chain c base u r k → Chain w start u r k
  chain_in b (from_load s u r p serves has) = from_load s u r p (serves_in s u r b serves) (role_in s (role.Load p) has)
  chain_in b (from_slot s u r n serves has) = from_slot s u r n (serves_in s u r b serves) (role_in s (role.Slot n) has)
  chain_in b (through s u r a k serves has rest) =
      let e : s < u = serves.before in
      through s u r a k (serves_in s u r b serves) (role_in s (role.Cast a) has) (chain_in (omega arith) rest)

  role_within : (k : ℕ) (r : Role) → HasRole c base k r → k < end_of c base
  role_within k r h = within c base k h.instruction h.there

  behind_in : (u : ℕ) (r : Role) → u < end_of c base → Behind c base u r → Behind w start u r
  behind_in u r inside h =
      let n : u ≡ suc h.before = h.next in
      let f : base ≤ h.before = h.there.there.from in
      record { before = h.before; next = h.next; there = role_in h.before r h.there; unreached = unreached_in u (omega arith) inside h.unreached }

  pub start_in : (k t f : ℕ) → IsStart c base k t f → IsStart w start k t f
  start_in k t f h =
      let from : base ≤ k = h.number.there.from in
      let b : k + 2 < end_of c base = role_within (k + 2) (role.StartFn t f) h.function in
      record {
        number = record { instruction = h.number.instruction; there = v.into k h.number.instruction h.number.there; is = h.number.is; defines = h.number.defines };
        argument = role_in (k + 1) (role.StartArg t) h.argument;
        function = role_in (k + 2) (role.StartFn t f) h.function;
        argument_unreached = unreached_in (k + 1) (omega arith) (omega arith) h.argument_unreached;
        function_unreached = unreached_in (k + 2) (omega arith) b h.function_unreached;
      }

  pub in_start_in : (u n : ℕ) → InStart c base u n → InStart w start u n
  in_start_in u n h = record { first = h.first; thread = h.thread; function = h.function; is = h.is; run = start_in h.first h.thread h.function h.run }

  chained_in : (u r : ℕ) → u < end_of c base → Chained c base u r → Chained w start u r
  chained_in u r inside h =
      let f = chain_first h.chain in
      let low : base ≤ h.first = f.0 in
      let high : h.first < u = f.1 in
      record {
        first = h.first;
        chain = chain_in (omega arith) h.chain;
        kept = λ p has j i stands kj ju. h.kept p (role_back h.first (role.Load p) low (omega arith) has) j i (v.back j i stands (omega arith) (omega arith)) kj ju;
      }

  pub served_in : (u r : ℕ) → u < end_of c base → Served c base u r → Served w start u r
  served_in u r inside h = record {
    server = h.server;
    serves = serves_in h.server u r (omega arith) h.serves;
    unbroken = unbroken_in h.server u h.serves.there.from inside h.unbroken;
  }

  fresh_in : (u f : ℕ) → u < end_of c base → Served c base u f → IsFresh c base u f → IsFresh w start u f
  fresh_in u f inside served h =
      let same : (s : ℕ) → Serves w start s u f → served.server ≡ s = λ s serves. one_server w start served.server s u f (serves_in served.server u f (omega arith) served.serves) serves in
      let low : base ≤ served.server = served.serves.there.from in
      record {
        no_number = λ s serves has.
            let e = same s serves in
            let from : base ≤ s = omega arith in
            let b : s < u = serves.before in
            h.no_number s (serves_back s u f from (omega arith) serves) (role_back s role.Fork from (omega arith) has);
        first_start = λ s x t g serves before has other.
            let e = same s serves in
            let from : base ≤ s = omega arith in
            let b : s < x = other.before in
            h.first_start s x t g (serves_back s u f from (omega arith) serves) before (role_back x (role.StartFn t g) (omega arith) (omega arith) has) (serves_back s x g from (omega arith) other);
      }

  fits_in : (u : ℕ) (used : List ℕ) (r : Role) → u < end_of c base → NamesUsed used r → ((x : ℕ) → IsAmong used x → Served c base u x) → RoleFits c base u r → RoleFits w start u r
  fits_in u used (role.Indirect x) inside named served h = chained_in u x inside h
  fits_in u used (role.StartArg t) inside named served h = in_start_in u 1 h
  fits_in u used (role.StartFn t f) inside named served h = (in_start_in u 2 h.0, fresh_in u f inside (served f named) h.1)
  fits_in u used (role.Load p) inside named served h = behind_in u (role.Touch p) inside h
  fits_in u used (role.Store p) inside named served h = behind_in u (role.Touch p) inside h
  fits_in u used (role.Lock p) inside named served h = behind_in u (role.Touch p) inside h
  fits_in u used _ inside named served h = tt

  return_in : (frame : Bool) (u : ℕ) → u < end_of c base → ReturnFits frame c base u → ReturnFits frame w start u
  return_in true u inside h = behind_in u role.Leave inside h
  return_in false u inside h = tt

  leave_in : (frame : Bool) (u : ℕ) → LeaveFits frame c base u → LeaveFits frame w start u
  leave_in true u h = role_in (suc u) role.Return h
  leave_in false u h = h

  framed_in : (frame : Bool) (u : ℕ) (r : Role) → u < end_of c base → FrameFits frame c base u r → FrameFits frame w start u r
  framed_in frame u role.Enter inside h = h
  framed_in frame u role.Leave inside h = leave_in frame u h
  framed_in frame u role.Return inside h = return_in frame u inside h
  framed_in frame u _ inside h = tt

  pub linked_in : (frame : Bool) (u : ℕ) (i : Outline) → Stands c base u i → IsLinked frame c base u i → IsLinked frame w start u i
  linked_in frame u i here h =
      let inside : u < end_of c base = within c base u i here in
      record {
        served = λ r uses. served_in u r inside (h.served r uses);
        fits = fits_in u i.used i.role inside h.named h.served h.fits;
        framed = framed_in frame u i.role inside h.framed;
        named = h.named;
      }

-- ---- the two windows of two codes

pub front_window : (c d : List Outline) (start : ℕ) → ((q l : ℕ) → Jumps d (end_of c start) q l → start < l → l < end_of c start → ⊥) → IsWindow c start (c ++ d) start
front_window c d start out = record {
  into = λ k i h. in_front c d start k i h;
  back = λ k i h from inside. ⊎_elim
      (λ (x : Stands c start k i). x)
      (λ (x : Stands d (end_of c start) k i). let f : end_of c start ≤ k = x.from in absurd (omega arith))
      (split c d start k i h);
  closed = λ q l j from inside. ⊎_elim
      (λ (x : Jumps c start q l). x)
      (λ (x : Jumps d (end_of c start) q l). absurd (out q l x from inside))
      (jumps_split c d start q l j);
}

pub back_window : (c d : List Outline) (start : ℕ) → ((q l : ℕ) → Jumps c start q l → end_of c start < l → l < end_of d (end_of c start) → ⊥) → IsWindow d (end_of c start) (c ++ d) start
back_window c d start out = record {
  into = λ k i h. in_back c d start k i h;
  back = λ k i h from inside. ⊎_elim
      (λ (x : Stands c start k i). let b : k < end_of c start = within c start k i x in absurd (omega arith))
      (λ (x : Stands d (end_of c start) k i). x)
      (split c d start k i h);
  closed = λ q l j from inside. ⊎_elim
      (λ (x : Jumps c start q l). absurd (out q l x from inside))
      (λ (x : Jumps d (end_of c start) q l). x)
      (jumps_split c d start q l j);
}
