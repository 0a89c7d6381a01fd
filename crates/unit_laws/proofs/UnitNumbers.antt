-- Units of safe locals are numbered as they lie: two of a frame have one number where they have one offset.
use Rattle.std.proofs.Common.{◌≡◌, inl, inr, ℕ, zero, suc, ◌+◌, ◌≤◌, ◌<◌, Bool, if◌then◌else◌, IsTrue, List, [], ◌∷◌, take, Some, slice_get, sym, ap, ◌∙◌, subst, arith}
use Rattle.machine.specs.declared.code.CodeLocal.{CodeLocal}
use Rattle.machine.specs.Stands.{safe_part, safe_units}
use Rattle.machine.specs.ValidCode.{CodeLocalsLie}
use Rattle.thread_laws.proofs.Bodies.{order}

-- a unit of a local, so many behind its first
pub record UnitAt (locals : List CodeLocal) (v o : ℕ) (l : CodeLocal) : Type 0 where
  pub there : slice_get locals v ≡ Some l
  pub safe : IsTrue l.safe
  pub inside : o < l.units

abbrev pub number_at : List CodeLocal → ℕ → ℕ → ℕ
number_at locals v o = safe_units (take v locals) + o

lies_from : (at : ℕ) (ls : List CodeLocal) (v : ℕ) (l : CodeLocal) → CodeLocalsLie at ls → slice_get ls v ≡ Some l → at ≤ l.offset
lies_from at [] v l lie there = absurd (cc)
lies_from at (m ∷ ms) zero l lie there =
    let same : m ≡ l = cc in
    let here : at ≤ m.offset = omega (arith, lie.0) in
    subst (λ (x : CodeLocal). at ≤ x.offset) same here
lies_from at (m ∷ ms) (suc v) l lie there = let rest = lies_from (at + m.units) ms v l lie.2 there in omega (arith, rest)

-- an earlier local ends before a later one begins, by offset and by number
offsets_apart : (at : ℕ) (ls : List CodeLocal) (v w : ℕ) (l m : CodeLocal) → CodeLocalsLie at ls → v < w → slice_get ls v ≡ Some l → slice_get ls w ≡ Some m
    → l.offset + l.units ≤ m.offset
offsets_apart at [] v w l m lie less one other = absurd (cc)
offsets_apart at (x ∷ xs) v zero l m lie less one other = absurd (omega (arith, less))
offsets_apart at (x ∷ xs) zero (suc w) l m lie less one other =
    let same : x ≡ l = cc in
    let begins : at + x.units ≤ m.offset = lies_from (at + x.units) xs w m lie.2 other in
    let ends : x.offset + x.units ≤ m.offset = omega (arith, begins, lie.0) in
    subst (λ (y : CodeLocal). y.offset + y.units ≤ m.offset) same ends
offsets_apart at (x ∷ xs) (suc v) (suc w) l m lie less one other = offsets_apart (at + x.units) xs v w l m lie.2 (omega (arith, less)) one other

safe_part_is : (l : CodeLocal) → IsTrue l.safe → safe_part l ≡ l.units
safe_part_is l safe = ap (λ (b : Bool). if b then l.units else 0) safe

numbers_apart : (ls : List CodeLocal) (v w : ℕ) (l : CodeLocal) → v < w → slice_get ls v ≡ Some l → IsTrue l.safe
    → safe_units (take v ls) + l.units ≤ safe_units (take w ls)
numbers_apart [] v w l less there safe = absurd (cc)
numbers_apart (x ∷ xs) v zero l less there safe = absurd (omega (arith, less))
numbers_apart (x ∷ xs) zero (suc w) l less there safe =
    let same : x ≡ l = cc in
    let part : safe_part x ≡ l.units = ap safe_part same ∙ safe_part_is l safe in
    omega (arith, part)
numbers_apart (x ∷ xs) (suc v) (suc w) l less there safe =
    let rest = numbers_apart xs v w l (omega (arith, less)) there safe in omega (arith, rest)

module _ (locals : List CodeLocal) (lie : CodeLocalsLie 0 locals) (v o w p : ℕ) (l m : CodeLocal) (one : UnitAt locals v o l) (other : UnitAt locals w p m) where
  -- of one local
  same_local : v ≡ w → l ≡ m
  same_local same =
      let is : Some l ≡ Some m = sym one.there ∙ ap (slice_get locals) same ∙ other.there in cc

  pub same_number : number_at locals v o ≡ number_at locals w p → l.offset + o ≡ m.offset + p
  same_number is =
      elim (order v w) [
        | inl less ↦
            let ends = numbers_apart locals v w l less one.there one.safe in absurd (omega (arith, is, ends, one.inside))
        | inr (inl more) ↦
            let ends = numbers_apart locals w v m more other.there other.safe in absurd (omega (arith, is, ends, other.inside))
        | inr (inr same) ↦
            let offset : l.offset ≡ m.offset = ap (λ (x : CodeLocal). x.offset) (same_local same) in
            let before : safe_units (take v locals) ≡ safe_units (take w locals) = ap (λ (n : ℕ). safe_units (take n locals)) same in
            omega (arith, is, offset, before)
      ]

  pub same_offset : l.offset + o ≡ m.offset + p → number_at locals v o ≡ number_at locals w p
  same_offset is =
      elim (order v w) [
        | inl less ↦
            let ends = offsets_apart 0 locals v w l m lie less one.there other.there in absurd (omega (arith, is, ends, one.inside))
        | inr (inl more) ↦
            let ends = offsets_apart 0 locals w v m l lie more other.there one.there in absurd (omega (arith, is, ends, other.inside))
        | inr (inr same) ↦
            let offset : l.offset ≡ m.offset = ap (λ (x : CodeLocal). x.offset) (same_local same) in
            let before : safe_units (take v locals) ≡ safe_units (take w locals) = ap (λ (n : ℕ). safe_units (take n locals)) same in
            omega (arith, is, offset, before)
      ]
