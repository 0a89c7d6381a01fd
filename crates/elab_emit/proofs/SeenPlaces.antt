-- Whether a register has a place, from the end of code on.
use Rattle.std.proofs.Common.{◌≡◌, ◌∙◌, ℕ, Bool, true, false, not, ◌&&◌, ◌||◌, if◌then◌else◌, nat_eq, List, [], ◌∷◌, ◌++◌, length, reverse, ap, sym, refl, arith}
use Rattle.std.proofs.lemmas.List.{reverse-append}
use Rattle.core_ir.specs.Instructions.{outline_of}
use Rattle.core_ir.specs.declared.instr.Instr.{Instr}
use Rattle.core_ir.specs.declared.instr.Instr.TheVariants.{Const, AddrG, AddrL, AddrF, GetLocal, SetLocal, Binary, Unary, PtrAdd, PtrConst, Cast, Touch, Load, Store, Jump, Branch, Call, CallInd, Return, Enter, Leave, Malloc, Free, Fork, StartArg, StartFn, Lock, Unlock, Join, Print, Input}
use Rattle.elab_rows.specs.Calls.{has_place, has_place_back}
use Rattle.elab_emit.specs.declared.places.Seen.TheVariants as sight
use Rattle.elab_emit.specs.inner.Places.{known, seen}

or_if : (b c : Bool) → (b || c) ≡ (if b then true else c)
or_if true c = refl
or_if false c = refl

and_if : (b c : Bool) → (not b && c) ≡ (if b then false else c)
and_if true c = refl
and_if false c = refl

chosen : (b : Bool) (k : ℕ → Bool) (r : ℕ) (known_one : Bool) → known (if b then sight.Known known_one else sight.Before r) k ≡ (if b then known_one else k r)
chosen true k r known_one = refl
chosen false k r known_one = refl

moved : (b : Bool) (k : ℕ → Bool) (a r : ℕ) → k (if b then a else r) ≡ known (if b then sight.Before a else sight.Before r) k
moved true k a r = refl
moved false k a r = refl

defining : (d r : ℕ) (k : ℕ → Bool) → (not (nat_eq d r) && k r) ≡ known (if nat_eq d r then sight.Known false else sight.Before r) k
defining d r k = and_if (nat_eq d r) (k r) ∙ sym (chosen (nat_eq d r) k r false)

reading : (d r : ℕ) (k : ℕ → Bool) → (nat_eq d r || k r) ≡ known (if nat_eq d r then sight.Known true else sight.Before r) k
reading d r k = or_if (nat_eq d r) (k r) ∙ sym (chosen (nat_eq d r) k r true)

seen_is : (i : Instr) (is : List Instr) (r : ℕ) → has_place_back (i ∷ is) r ≡ known (seen (outline_of i) r) (has_place_back is)
seen_is (Const d v) is r = defining d r (has_place_back is)
seen_is (AddrG d g) is r = defining d r (has_place_back is)
seen_is (AddrL d v) is r = defining d r (has_place_back is)
seen_is (AddrF d f) is r = defining d r (has_place_back is)
seen_is (Binary d op a b) is r = defining d r (has_place_back is)
seen_is (Unary d op a) is r = defining d r (has_place_back is)
seen_is (PtrAdd d p i s) is r = defining d r (has_place_back is)
seen_is (PtrConst d p k) is r = defining d r (has_place_back is)
seen_is (Malloc d a) is r = defining d r (has_place_back is)
seen_is (Fork d) is r = defining d r (has_place_back is)
seen_is (Input d a) is r = defining d r (has_place_back is)
seen_is (Load d p ty) is r = reading d r (has_place_back is)
seen_is (GetLocal d s) is r = reading d r (has_place_back is)
seen_is (Cast d a from to) is r = moved (nat_eq d r) (has_place_back is) a r
seen_is (SetLocal s a) is r = refl
seen_is (Touch p ty) is r = refl
seen_is (Store p a ty) is r = refl
seen_is (Jump l) is r = refl
seen_is (Branch a l) is r = refl
seen_is (Call f args s) is r = refl
seen_is (CallInd c args ty s) is r = refl
seen_is (Return a) is r = refl
seen_is Enter is r = refl
seen_is Leave is r = refl
seen_is (Free p) is r = refl
seen_is (StartArg t a) is r = refl
seen_is (StartFn t f) is r = refl
seen_is (Lock p) is r = refl
seen_is (Unlock p) is r = refl
seen_is (Join t) is r = refl
seen_is (Print a) is r = refl

-- with the last instruction of code
pub last_seen : (before : List Instr) (i : Instr) (r : ℕ) → has_place (before ++ i ∷ []) r ≡ known (seen (outline_of i) r) (has_place before)
unfolding has_place
last_seen before i r = ap (λ l. has_place_back l r) (reverse-append before (i ∷ [])) ∙ seen_is i (reverse before) r

none_seen : (r : ℕ) → has_place [] r ≡ false
unfolding has_place
none_seen r = refl

-- nothing is left to be looked at
pub none_left : (whole left : List Instr) (first r : ℕ) → has_place whole first ≡ has_place left r → length left ≡ 0 → false ≡ has_place whole first
none_left whole [] first r is end = sym (is ∙ none_seen r)
none_left whole (i ∷ left) first r is end = absurd (omega (arith, end))
