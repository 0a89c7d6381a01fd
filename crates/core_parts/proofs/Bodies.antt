-- A body that is a piece, with what enters and leaves it, is well formed.
use Rattle.std.proofs.Common.{◌≡◌, ℕ, suc, ◌+◌, ◌<◌, ◌≤◌, Bool, true, false, List, [], ◌∷◌, ◌++◌, length, Option, Some, None, refl, sym, subst, ⊎_elim, arith, append_assoc}
use Rattle.std.specs.Prelude.{IfSome}
use Rattle.core_ir.specs.declared.role.Role.{Role}
use Rattle.core_ir.specs.declared.role.Role.TheVariants as role
use Rattle.core_ir.specs.Outline.{Outline}
use Rattle.core_ir.specs.Flow.{IsAmong, Jumps, Stands}
use Rattle.core_ir.specs.Order as order
use Rattle.core_ir.specs.Order.{IsFrameless, IsFramed, IsOrdered, IsOrderedAt, IsOutsideFrames, IsWellFormed, NumbersFit}
use Rattle.core_parts.specs.Outlines.{acting, entering, leaving, returning}
use Rattle.core_parts.specs.Pieces.{IsPiece, end_of}
use Rattle.core_parts.specs.Places.{Behind, FrameFits, InStart, IsLinked, IsStart, RoleFits, Served}
use Rattle.core_parts.specs.Theorems.{AreNumbered}
use Rattle.core_parts.proofs.Leaves.{leaves, returns}
use Rattle.core_parts.proofs.PartsCompose.{jumps_inside, none}
use Rattle.core_parts.proofs.PiecesCompose.{pieces}
use Rattle.core_parts.proofs.Tails.{all_one, all_two, first_there, no_jump}
use Rattle.core_parts.proofs.Windows.{back_window, end_append, jumps_split, linked_in, split}

-- ---- places of a whole body

behind_at : (c : List Outline) (u : ℕ) (r : Role) → Behind c 0 u r → order.Behind c u r
behind_at c u r h = record { before = h.before; next = h.next; there = h.there; unreached = h.unreached }

start_at : (c : List Outline) (k t f : ℕ) → IsStart c 0 k t f → order.IsStart c k t f
start_at c k t f h = record {
  number = record { instruction = h.number.instruction; there = h.number.there; is = h.number.is; defines = h.number.defines };
  argument = h.argument;
  function = h.function;
  argument_unreached = h.argument_unreached;
  function_unreached = h.function_unreached;
}

in_start_at : (c : List Outline) (u n : ℕ) → InStart c 0 u n → order.InStart c u n
in_start_at c u n h = record { first = h.first; thread = h.thread; function = h.function; is = h.is; run = start_at c h.first h.thread h.function h.run }

fits_at : (c : List Outline) (u : ℕ) (r : Role) → RoleFits c 0 u r → order.RoleFits c u r
fits_at c u (role.Indirect x) h = record { first = h.first; chain = h.chain; kept = h.kept }
fits_at c u (role.StartArg t) h = in_start_at c u 1 h
fits_at c u (role.StartFn t f) h = (in_start_at c u 2 h.0, record { no_number = h.1.no_number; first_start = h.1.first_start })
fits_at c u (role.Load p) h = behind_at c u (role.Touch p) h
fits_at c u (role.Store p) h = behind_at c u (role.Touch p) h
fits_at c u (role.Lock p) h = behind_at c u (role.Touch p) h
fits_at c u _ h = tt

ordered_at : (frame : Bool) (c : List Outline) (u : ℕ) (i : Outline) → IsLinked frame c 0 u i → IsOrderedAt c u i
ordered_at frame c u i h = record {
  served = λ r uses. let s = h.served r uses in record { server = s.server; serves = s.serves; unbroken = s.unbroken };
  fits = fits_at c u i.role h.fits;
}

outside_at : (c : List Outline) (u : ℕ) (r : Role) → FrameFits false c 0 u r → IsOutsideFrames r
outside_at c u role.Enter h = h
outside_at c u role.Leave h = h
outside_at c u _ h = tt

framed_at : (c : List Outline) (u : ℕ) (r : Role) → FrameFits true c 0 u r → order.FrameFits c u r
framed_at c u role.Enter h = absurd h
framed_at c u role.Leave h = h
framed_at c u role.Return h = behind_at c u role.Leave h
framed_at c u _ h = tt

-- ---- numbers

if_some : (P : ℕ → Type 0) (o : Option ℕ) → ((x : ℕ) → o ≡ Some x → P x) → IfSome o P
if_some P None h = tt
if_some P (Some x) h = h x refl

some_of : (P : ℕ → Type 0) (o : Option ℕ) (x : ℕ) → IfSome o P → o ≡ Some x → P x
some_of P o x h is = subst (λ o. IfSome o P) is h

module _ (registers slots : ℕ) (c : List Outline) (numbered : AreNumbered registers slots c 0) (served : (u r : ℕ) (i : Outline) → Stands c 0 u i → IsAmong i.used r → Served c 0 u r)
    (short : (q l : ℕ) → Jumps c 0 q l → l < length c) where
  numbers : (u : ℕ) (i : Outline) → Stands c 0 u i → NumbersFit registers slots (length c) i
  numbers u i here = record {
    defined = numbered.defined u i here;
    used = λ r uses. let s = (served u r i here uses).serves in some_of (λ d. d < registers) s.by.defined r (numbered.defined (served u r i here uses).server s.by s.there) s.defines;
    slot = numbered.slot u i here;
    target = if_some (λ l. l < length c) i.target (λ l is. short u l (record { by = i; there = here; leads = is }));
  }

-- numbers of two codes
numbered_then : (registers slots : ℕ) (c d : List Outline) (start : ℕ) → AreNumbered registers slots c start → AreNumbered registers slots d (end_of c start) → AreNumbered registers slots (c ++ d) start
numbered_then registers slots c d start hc hd = record {
  defined = λ u i here. ⊎_elim (λ (x : Stands c start u i). hc.defined u i x) (λ (x : Stands d (end_of c start) u i). hd.defined u i x) (split c d start u i here);
  slot = λ u i here. ⊎_elim (λ (x : Stands c start u i). hc.slot u i x) (λ (x : Stands d (end_of c start) u i). hd.slot u i x) (split c d start u i here);
}

numbered_one : (registers slots : ℕ) (r : Role) (start : ℕ) → AreNumbered registers slots (acting r [] ∷ []) start
numbered_one registers slots r start = record {
  defined = all_one (λ u i. IfSome i.defined (λ d. d < registers)) start (acting r []) tt;
  slot = all_one (λ u i. IfSome i.slot (λ s. s < slots)) start (acting r []) tt;
}

quiet_one : (r : Role) (start : ℕ) (q l : ℕ) → Jumps (acting r [] ∷ []) start q l → ⊥
quiet_one r start = no_jump (acting r [] ∷ []) start (all_one (λ u i. i.target ≡ None) start (acting r []) refl)

-- ---- bodies

pub frameless : (c : List Outline) (registers slots : ℕ) → IsPiece false c 0 [] → AreNumbered registers slots c 0 → IsWellFormed registers slots false (c ++ returning [] ∷ [])
frameless c registers slots h numbered =
    let end = returns [] (end_of c 0) 0 0 [] [] (none (end_of c 0) 0) (λ r is. is) in
    let whole = pieces false c (returning [] ∷ []) 0 [] [] [] h end tt tt tt tt in
    let long = end_append c (returning [] ∷ []) 0 in
    record {
      numbers = numbers registers slots (c ++ returning [] ∷ []) (numbered_then registers slots c (returning [] ∷ []) 0 numbered (numbered_one registers slots role.Return (end_of c 0)))
          (λ u r i here uses. (whole.linked u i here).served r uses)
          (λ q l j. ⊎_elim
          (λ (x : Jumps c 0 q l). let b : l ≤ end_of c 0 = (jumps_inside false c 0 h q l x).1 in omega arith)
          (λ (x : Jumps (returning [] ∷ []) (end_of c 0) q l). absurd (quiet_one role.Return (end_of c 0) q l x))
          (jumps_split c (returning [] ∷ []) 0 q l j));
      ordered = record {
        ends = record { before = c; last = returning []; is = refl; has = refl };
        each = λ u i here. ordered_at false (c ++ returning [] ∷ []) u i (whole.linked u i here);
      };
      frame = λ u i here. outside_at (c ++ returning [] ∷ []) u i.role (whole.linked u i here).framed;
    }

module _ (c : List Outline) (registers slots : ℕ) (h : IsPiece true c 1 []) (numbered : AreNumbered registers slots c 1) where
  abbrev tail : List Outline
  tail = leaving ∷ returning [] ∷ []

  abbrev rest : List Outline
  rest = c ++ tail

  abbrev whole : List Outline
  whole = (entering ∷ []) ++ rest

  piece : IsPiece true rest 1 []
  piece = pieces true c tail 1 [] [] [] h (leaves [] (end_of c 1) 0 0 [] [] (none (end_of c 1) 0) (λ r is. is)) tt tt tt tt

  at_front : (P : ℕ → Outline → Type 0) → P 0 entering → ((u : ℕ) (i : Outline) → Stands rest 1 u i → P u i) → (u : ℕ) (i : Outline) → Stands whole 0 u i → P u i
  at_front P p others u i here = ⊎_elim
      (λ (x : Stands (entering ∷ []) 0 u i). all_one P 0 entering p u i x)
      (λ (x : Stands rest 1 u i). others u i x)
      (split (entering ∷ []) rest 0 u i here)

  jumps_rest : (q l : ℕ) → Jumps whole 0 q l → Jumps rest 1 q l
  jumps_rest q l j = ⊎_elim
      (λ (x : Jumps (entering ∷ []) 0 q l). absurd (quiet_one role.Enter 0 q l x))
      (λ (x : Jumps rest 1 q l). x)
      (jumps_split (entering ∷ []) rest 0 q l j)

  linked : (u : ℕ) (i : Outline) → Stands rest 1 u i → IsLinked true whole 0 u i
  linked u i here = linked_in rest 1 whole 0 (back_window (entering ∷ []) rest 0 (λ q l j from to. quiet_one role.Enter 0 q l j)) true u i here (piece.linked u i here)

  served : (u r : ℕ) (i : Outline) → Stands whole 0 u i → IsAmong i.used r → Served whole 0 u r
  served u r i here uses = at_front (λ u i. IsAmong i.used r → Served whole 0 u r) (λ z. absurd z) (λ u i here uses. (linked u i here).served r uses) u i here uses

  short : (q l : ℕ) → Jumps whole 0 q l → l < length whole
  short q l j =
      let long = end_append c tail 1 in
      let all : length whole ≡ suc (length rest) = refl in
      ⊎_elim
      (λ (x : Jumps c 1 q l). let b : l ≤ end_of c 1 = (jumps_inside true c 1 h q l x).1 in omega arith)
      (λ (x : Jumps tail (end_of c 1) q l). absurd (no_jump tail (end_of c 1) (all_two (λ u i. i.target ≡ None) (end_of c 1) leaving (returning []) refl refl) q l x))
      (jumps_split c tail 1 q l (jumps_rest q l j))

  all_numbered : AreNumbered registers slots whole 0
  all_numbered = numbered_then registers slots (entering ∷ []) rest 0 (numbered_one registers slots role.Enter 0)
      (numbered_then registers slots c tail 1 numbered
      (numbered_then registers slots (leaving ∷ []) (returning [] ∷ []) (end_of c 1) (numbered_one registers slots role.Leave (end_of c 1)) (numbered_one registers slots role.Return (end_of c 1 + 1))))

  pub framed : IsWellFormed registers slots true ((entering ∷ []) ++ c ++ tail)
  framed = record {
    numbers = numbers registers slots whole all_numbered served short;
    ordered = record {
      ends = record { before = (entering ∷ []) ++ c ++ leaving ∷ []; last = returning []; is = sym (append_assoc (entering ∷ c) (leaving ∷ []) (returning [] ∷ [])); has = refl };
      each = at_front (λ u i. IsOrderedAt whole u i) (record { served = λ r is. absurd is; fits = tt }) (λ u i here. ordered_at true whole u i (linked u i here));
    };
    frame = record {
      entered = record { instruction = entering; there = first_there entering rest 0; is = refl };
      entry_unreached = λ q j. let b : 1 ≤ 0 = (jumps_inside true rest 1 piece q 0 (jumps_rest q 0 j)).0 in omega arith;
      each = at_front (λ u i. order.FrameFits whole u i.role) refl (λ u i here. framed_at whole u i.role (linked u i here).framed);
    };
  }
