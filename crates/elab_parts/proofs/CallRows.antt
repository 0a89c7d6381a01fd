-- Rows that stand behind several values: calls, and callees that are kept.
use Rattle.std.proofs.Common.{◌≡◌, ◌∙◌, ℕ, ◌+◌, ◌*◌, Bool, true, false, if◌then◌else◌, List, [], ◌∷◌, ◌++◌, length, drop, ap, sym, refl, subst, append_assoc, length-append, Option, Some, None, Result, Ok, Err}
use Rattle.c_types.specs.declared.ty.FnTy.{FnTy, out-FnTy}
use Rattle.c_types.specs.declared.ty.Ty.{Ty}
use Rattle.c_typed.specs.declared.entity.BuiltIn.{BuiltIn}
use Rattle.c_typed.specs.declared.entity.BuiltIn.TheVariants as built_in
use Rattle.core_ir.specs.declared.instr.Instr.{Instr}
use Rattle.core_ir.specs.declared.instr.Instr.TheVariants.{Call, CallInd, GetLocal, SetLocal}
use Rattle.elab_rows.specs.Calls.{Listed, arguments, built_in_made, called, has_place, indirect_made, kept, placed, with_callee}
use Rattle.elab_emit.specs.Emits.{Outcome, Stops, code_of}
use Rattle.elab_rows.specs.Made.{Code, Made, behind, held}
use Rattle.elab_rows.specs.Values.{Part, call_by, call_part, called_type, converted_parts, returns}
use Rattle.elab_emit.specs.declared.emitter.Emitter.{Emitter}
use Rattle.elab_emit.specs.declared.emitter.Trouble.{Trouble}
use Rattle.elab_rows.specs.declared.named.Named.{Named}
use Rattle.elab_rows.specs.declared.named.Named.TheVariants as named
use Rattle.elab_parts.specs.inner.Behind.{prefixed}
use Rattle.elab_emit.specs.Held.{listed}
use Rattle.elab_parts.specs.inner.Lists.{ArgumentsOutcome, call_end, end_by, list_of}
use Rattle.elab_parts.proofs.Operands.{stops_behind, stops_front, then_made}

-- ---- behind several values

-- the same values, whose code stands already
abbrev there : Listed → Listed
there l = record l { code = [] }

abbrev after : Listed → Made → Made
after l y = record y { code = l.code ++ y.code }

behind_list : (old mid new : Emitter) (l : Listed) (rs : List ℕ) (y : Made) (r : Result ℕ Trouble)
    → ArgumentsOutcome old l (Ok rs) mid → Outcome mid y r new → Outcome old (after l y) r new
behind_list old mid new l rs y (Ok r) h k = (
  record {
    added = k.0.added ∙ ap (λ c. c ++ y.code) h.0.added ∙ append_assoc old.code l.code y.code;
    next_register = k.0.next_register;
    next_slot = k.0.next_slot;
  },
  k.1,
)
behind_list old mid new l rs y (Err e) h k = stops_behind old mid l.code y.code l.register l.slot e h.0 k

there_is : (old mid : Emitter) (l : Listed) (rs : List ℕ) → ArgumentsOutcome old l (Ok rs) mid → listed mid rs ≡ there l
there_is old mid l rs h = λ i. record { code = []; results = h.1 i; register = h.0.next_register i; slot = h.0.next_slot i }

called_after : (b : Bool) (call : Option ℕ → Instr) (l : Listed) → called b call l ≡ after l (called b call (there l))
called_after true call l = refl
called_after false call l = refl

built_in_after : (b : BuiltIn) (l : Listed) → built_in_made b l ≡ after l (built_in_made b (there l))
built_in_after built_in.Spawn l = refl
built_in_after built_in.Join l = refl
built_in_after built_in.Lock l = refl
built_in_after built_in.Unlock l = refl
built_in_after built_in.Print l = refl
built_in_after built_in.Input l = refl
built_in_after built_in.Malloc l = refl
built_in_after built_in.Free l = refl

called_assoc : (b : Bool) (call : Option ℕ → Instr) (l : Listed) (x : Made)
    → called b call (with_callee l x) ≡ after l (called b call (with_callee (there l) x))
called_assoc true call l x =
    λ i. record {
      code = append_assoc l.code x.code (call (Some x.slot) ∷ GetLocal x.register x.slot ∷ []) i;
      result = x.register;
      register = x.register + 1;
      slot = x.slot + 1;
    }
called_assoc false call l x =
    λ i. record { code = append_assoc l.code x.code (call None ∷ []) i; result = 0; register = x.register; slot = x.slot }

indirect_after : (t : FnTy) (b : Bool) (l : Listed) (x : Made) → indirect_made t b l x ≡ after l (indirect_made t b (there l) x)
indirect_after t b l x = called_assoc b (λ s. CallInd x.result l.results t s) l x

end_after : (n : Named) (t : FnTy) (l : Listed) (c : Made) → end_by n t l c ≡ after l (end_by n t (there l) c)
end_after (named.Function n) t l c = called_after (returns t) (λ s. Call n l.results s) l
end_after (named.BuiltIn b) t l c = built_in_after b l
end_after (named.Slot s) t l c = indirect_after t (returns t) l (placed c)
end_after (named.Global g) t l c = indirect_after t (returns t) l (placed c)
end_after (named.Frame v) t l c = indirect_after t (returns t) l (placed c)
end_after named.Other t l c = indirect_after t (returns t) l (placed c)

-- ---- calls

call_is : (n : Named) (f : Part) (t : FnTy) (parts : List Code) (place register slot : ℕ) → let l = arguments parts place register slot in
    call_by n f t parts place register slot ≡ end_by n t l (f.value (place + length l.code) l.register l.slot)
call_is (named.Function n) f t parts place register slot = refl
call_is (named.BuiltIn b) f t parts place register slot = refl
call_is (named.Slot s) f t parts place register slot = refl
call_is (named.Global g) f t parts place register slot = refl
call_is (named.Frame v) f t parts place register slot = refl
call_is named.Other f t parts place register slot = refl

pub call_row : (f : Part) (parts : List Code) (t : FnTy) (old mid new : Emitter) (rs : List ℕ) (r : Result ℕ Trouble)
    → ArgumentsOutcome old (list_of old parts) (Ok rs) mid → Outcome mid (call_end f t mid rs) r new
    → Outcome old (code_of old (call_by f.name f t parts)) r new
call_row f parts t old mid new rs r h k =
    let l = list_of old parts in
    let c = f.value (length old.code + length l.code) l.register l.slot in
    let long : length mid.code ≡ length old.code + length l.code = ap length h.0.added ∙ length-append old.code l.code in
    let callee : code_of mid f.value ≡ c = λ i. f.value (long i) (h.0.next_register i) (h.0.next_slot i) in
    let same : call_end f t mid rs ≡ end_by f.name t (there l) c = λ i. end_by f.name t (there_is old mid l rs h i) (callee i) in
    subst (λ m. Outcome old m r new) (sym (call_is f.name f t parts (length old.code) old.register old.slot ∙ end_after f.name t l c))
    (behind_list old mid new l rs (end_by f.name t (there l) c) r h (subst (λ m. Outcome mid m r new) same k))

list_stop : (old : Emitter) (l : Listed) (y : Made) (e : Trouble) → Stops old l.code e → Stops old (after l y).code e
list_stop old l y e h = stops_front old l.code y.code e h

pub call_stop : (f : Part) (parts : List Code) (t : FnTy) (old : Emitter) (e : Trouble)
    → Stops old (list_of old parts).code e → Stops old (code_of old (call_by f.name f t parts)).code e
call_stop f parts t old e h =
    let l = list_of old parts in
    let c = f.value (length old.code + length l.code) l.register l.slot in
    subst (λ m. Stops old m.code e) (sym (call_is f.name f t parts (length old.code) old.register old.slot ∙ end_after f.name t l c))
    (list_stop old l (end_by f.name t (there l) c) e h)

-- the same, with the type of what is called and its parameters
pub call_part_row : (f : Part) (args : List Part) (t : FnTy) (ts : List Ty) (old mid new : Emitter) (rs : List ℕ) (r : Result ℕ Trouble)
    → t ≡ called_type f.ty → ts ≡ (out-FnTy t).params
    → ArgumentsOutcome old (list_of old (converted_parts args ts)) (Ok rs) mid → Outcome mid (call_end f t mid rs) r new
    → Outcome old (code_of old (call_part f args)) r new
call_part_row f args t ts old mid new rs r is params h k =
    subst (λ u. Outcome old (code_of old (call_by f.name f u (converted_parts args (out-FnTy u).params))) r new) is
    (call_row f (converted_parts args (out-FnTy t).params) t old mid new rs r
    (subst (λ us. ArgumentsOutcome old (list_of old (converted_parts args us)) (Ok rs) mid) params h) k)

pub call_part_stop : (f : Part) (args : List Part) (t : FnTy) (ts : List Ty) (old : Emitter) (e : Trouble) → t ≡ called_type f.ty → ts ≡ (out-FnTy t).params
    → Stops old (list_of old (converted_parts args ts)).code e → Stops old (code_of old (call_part f args)).code e
call_part_stop f args t ts old e is params h =
    subst (λ u. Stops old (code_of old (call_by f.name f u (converted_parts args (out-FnTy u).params))).code e) is
    (call_stop f (converted_parts args (out-FnTy t).params) t old e
    (subst (λ us. Stops old (list_of old (converted_parts args us)).code e) params h))

-- what is called by its value; m is what was found to be n
pub end_other : (n m : Named) (t : FnTy) (l : Listed) (x : Made) (old new : Emitter) (r : Result ℕ Trouble) → m ≡ n
    → ((f : ℕ) → m ≡ named.Function f → ⊥) → ((b : BuiltIn) → m ≡ named.BuiltIn b → ⊥)
    → Outcome old (indirect_made t (returns t) l (placed x)) r new → Outcome old (end_by n t l x) r new
end_other (named.Function f) m t l x old new r is not_function not_given h = absurd (not_function f is)
end_other (named.BuiltIn b) m t l x old new r is not_function not_given h = absurd (not_given b is)
end_other (named.Slot s) m t l x old new r is not_function not_given h = h
end_other (named.Global g) m t l x old new r is not_function not_given h = h
end_other (named.Frame v) m t l x old new r is not_function not_given h = h
end_other named.Other m t l x old new r is not_function not_given h = h

-- ---- callees

indirect_prefixed : (b : Bool) (call : Option ℕ → Instr) (rs : List ℕ) (x : Made) (register slot : ℕ)
    → called b call (with_callee (record { code = []; results = rs; register = register; slot = slot }) x)
    ≡ prefixed x (called b call (record { code = []; results = rs; register = x.register; slot = x.slot }))
indirect_prefixed true call rs x register slot = refl
indirect_prefixed false call rs x register slot = refl

pub indirect_row : (t : FnTy) (b : Bool) (rs : List ℕ) (x : Made) (old mid new : Emitter) (c : ℕ) (r : Result ℕ Trouble)
    → Outcome old x (Ok c) mid → Outcome mid (indirect_made t b (listed mid rs) (code_of mid (held c))) r new
    → Outcome old (indirect_made t b (listed old rs) x) r new
indirect_row t b rs x old mid new c r h k =
    let l : Listed = record { code = []; results = rs; register = x.register; slot = x.slot } in
    let y : Made = called b (λ s. CallInd x.result rs t s) l in
    let same : indirect_made t b (listed mid rs) (code_of mid (held c)) ≡ y =
    λ i. called b (λ s. CallInd (h.1 i) rs t s) (record { code = []; results = rs; register = h.0.next_register i; slot = h.0.next_slot i }) in
    subst (λ m. Outcome old m r new) (sym (indirect_prefixed b (λ s. CallInd x.result rs t s) rs x old.register old.slot))
    (then_made old mid new x y c r h (subst (λ m. Outcome mid m r new) same k))

pub indirect_stop : (t : FnTy) (b : Bool) (rs : List ℕ) (x : Made) (old : Emitter) (e : Trouble)
    → Stops old x.code e → Stops old (indirect_made t b (listed old rs) x).code e
indirect_stop t b rs x old e h =
    let y : Made = called b (λ s. CallInd x.result rs t s) (record { code = []; results = rs; register = x.register; slot = x.slot }) in
    subst (λ m. Stops old m.code e) (sym (indirect_prefixed b (λ s. CallInd x.result rs t s) rs x old.register old.slot))
    (stops_front old x.code y.code e h)

drop_front : (a b : List Instr) → drop (length a) (a ++ b) ≡ b
drop_front [] b = refl
drop_front (x ∷ a) b = drop_front a b

-- the code of the callee is what was added
pub added_is : (x : Made) (old mid : Emitter) (c : ℕ) → Outcome old x (Ok c) mid
    → has_place (drop (length old.code) mid.code) c ≡ has_place x.code x.result
added_is x old mid c h = (λ i. has_place ((ap (drop (length old.code)) h.0.added ∙ drop_front old.code x.code) i) (h.1 i))

placed_as : (x : Made) (b : Bool) → has_place x.code x.result ≡ b → placed x ≡ (if b then x else kept x)
placed_as x b h = ap (λ t. if t then x else kept x) h

pub placed_row : (x : Made) (old mid : Emitter) (c : ℕ) → Outcome old x (Ok c) mid
    → has_place (drop (length old.code) mid.code) c ≡ true → Outcome old (placed x) (Ok c) mid
placed_row x old mid c h is =
    subst (λ m. Outcome old m (Ok c) mid) (sym (placed_as x true (sym (added_is x old mid c h) ∙ is))) h

pub kept_row : (x : Made) (old mid new : Emitter) (c : ℕ) (r : Result ℕ Trouble) → Outcome old x (Ok c) mid
    → has_place (drop (length old.code) mid.code) c ≡ false
    → Outcome mid (kept (code_of mid (held c))) r new → Outcome old (placed x) r new
kept_row x old mid new c r h is k =
    let y : Made = record {
      code = SetLocal x.slot x.result ∷ GetLocal x.register x.slot ∷ [];
      result = x.register;
      register = x.register + 1;
      slot = x.slot + 1;
    } in
    let same : kept (code_of mid (held c)) ≡ y =
    λ i. kept (record { code = []; result = h.1 i; register = h.0.next_register i; slot = h.0.next_slot i }) in
    subst (λ m. Outcome old m r new) (sym (placed_as x false (sym (added_is x old mid c h) ∙ is)))
    (then_made old mid new x y c r h (subst (λ m. Outcome mid m r new) same k))

placed_front : (x : Made) (b : Bool) (old : Emitter) (e : Trouble) → Stops old x.code e → Stops old (if b then x else kept x).code e
placed_front x true old e h = h
placed_front x false old e h = stops_front old x.code (SetLocal x.slot x.result ∷ GetLocal x.register x.slot ∷ []) e h

pub placed_stop : (x : Made) (old : Emitter) (e : Trouble) → Stops old x.code e → Stops old (placed x).code e
placed_stop x old e h = placed_front x (has_place x.code x.result) old e h
