-- Code that gives registers types, from any place: instructions and codes one behind the other.
use Rattle.std.proofs.Common.{◌≡◌, ◌∙◌, ℕ, ◌+◌, ◌<◌, ◌≤◌, List, [], ◌∷◌, ◌++◌, length, Some, None, refl, ap, sym, subst, arith, length-append}
use Rattle.c_types.specs.declared.ty.Ty.{Ty}
use Rattle.core_ir.specs.declared.instr.Instr.{Instr}
use Rattle.core_ir.specs.declared.program.Function.{Function}
use Rattle.core_ir.specs.declared.program.Program.{Program}
use Rattle.core_ir.specs.Instructions.{defined}
use Rattle.core_ir.specs.Typed.{plain_type}
use Rattle.elab_rows.specs.Made.{Made}
use Rattle.elab_valid.proofs.RegisterTypes.{Asks, Below, HasAt, Live, Types, Typed, behind-none, behind-one, behind-same, below-append, below-more, has-first, has-rest, live-append, live-kept, run, run-append, type_given, typed-append}

module _ (p : Program) (f : Function) where
  -- Code that stands where the first registers have types. It names slots on from the given one, to which it gives types; where the
  -- function's slots have them, and base holds of these, it is typed, and the second registers have types behind it.
  pub record Holds (base : Types → Type 0) (given : List (ℕ × Ty)) (x : Made) (register slot : ℕ) (live : List (ℕ × Ty)) : Type 0 where
    pub temps : List Ty
    pub slot_is : x.slot ≡ slot + length temps
    pub grows : register ≤ x.register
    pub below : Below x.register live
    pub typed : (slots : Types) → base slots → HasAt slots slot temps → (e : Types) → Live e given → Typed p f slots e x.code
    pub has : (slots : Types) → base slots → HasAt slots slot temps → (e : Types) → Live e given → Live (run p f slots e x.code) live
    pub keeps : (slots e : Types) (r : ℕ) → r < register → run p f slots e x.code r ≡ e r

  -- no code
  pub nothing-holds : (base : Types → Type 0) (register slot : ℕ) → Holds base [] (record { code = []; result = 0; register = register; slot = slot }) register slot []
  nothing-holds base register slot = record {
    temps = [];
    slot_is = omega arith;
    grows = omega arith;
    below = tt;
    typed = λ slots b at e g. tt;
    has = λ slots b at e g. tt;
    keeps = λ slots e w lt. refl;
  }

  -- ---- weaker and stronger

  -- whatever the value's register is
  pub with_result : (base : Types → Type 0) (given : List (ℕ × Ty)) (x : Made) (r register slot : ℕ) (live : List (ℕ × Ty)) → Holds base given x register slot live → Holds base given (record x { result = r }) register slot live
  with_result base given x r register slot live h =
      record { temps = h.temps; slot_is = h.slot_is; grows = h.grows; below = h.below; typed = h.typed; has = h.has; keeps = h.keeps }

  -- what follows from the registers' types
  pub less : (base : Types → Type 0) (given : List (ℕ × Ty)) (x : Made) (register slot : ℕ) (live some : List (ℕ × Ty)) → ((n : ℕ) → Below n live → Below n some) → ((e : Types) → Live e live → Live e some)
      → Holds base given x register slot live → Holds base given x register slot some
  less base given x register slot live some lower fewer h = record {
    temps = h.temps;
    slot_is = h.slot_is;
    grows = h.grows;
    below = lower x.register h.below;
    typed = h.typed;
    has = λ slots b at e g. fewer (run p f slots e x.code) (h.has slots b at e g);
    keeps = h.keeps;
  }

  -- where more is known
  pub under : (base more : Types → Type 0) (given known : List (ℕ × Ty)) (x : Made) (register slot : ℕ) (live : List (ℕ × Ty)) → ((slots : Types) → more slots → base slots) → ((e : Types) → Live e known → Live e given)
      → Holds base given x register slot live → Holds more known x register slot live
  under base more given known x register slot live weaker fewer h = record {
    temps = h.temps;
    slot_is = h.slot_is;
    grows = h.grows;
    below = h.below;
    typed = λ slots b at e g. h.typed slots (weaker slots b) at e (fewer e g);
    has = λ slots b at e g. h.has slots (weaker slots b) at e (fewer e g);
    keeps = h.keeps;
  }

  -- what is given stays
  pub carry : (base : Types → Type 0) (given : List (ℕ × Ty)) (x : Made) (register slot : ℕ) (live : List (ℕ × Ty)) → Below register given → Holds base given x register slot live → Holds base given x register slot (live ++ given)
  carry base given x register slot live low h = record {
    temps = h.temps;
    slot_is = h.slot_is;
    grows = h.grows;
    below = below-append x.register live given h.below (below-more register x.register given h.grows low);
    typed = h.typed;
    has = λ slots b at e g.
        live-append (run p f slots e x.code) live given (h.has slots b at e g) (live-kept register given e (run p f slots e x.code) low (λ r lt. h.keeps slots e r lt) g);
    keeps = h.keeps;
  }

  -- ---- one code behind another

  pub append : (base more : Types → Type 0) (given between live : List (ℕ × Ty)) (x y : Made) (register slot r : ℕ)
      → (h : Holds base given x register slot between)
      → Holds more between y x.register x.slot live
      → ((slots : Types) → base slots → HasAt slots slot h.temps → more slots)
      → Holds base given (record { code = x.code ++ y.code; result = r; register = y.register; slot = y.slot }) register slot (live ++ between)
  append base more given between live x y register slot r h g known =
      let rest = λ (slots : Types) (at : HasAt slots slot (h.temps ++ g.temps)). has-rest slots slot x.slot h.temps g.temps h.slot_is at in
      let front = λ (slots : Types) (at : HasAt slots slot (h.temps ++ g.temps)). has-first slots slot h.temps g.temps at in
      record {
        temps = h.temps ++ g.temps;
        slot_is = omega (arith, h.slot_is, g.slot_is, length-append h.temps g.temps);
        grows = omega (arith, h.grows, g.grows);
        below = below-append y.register live between g.below (below-more x.register y.register between g.grows h.below);
        typed = λ slots b at e is.
            typed-append p f slots x.code y.code e (h.typed slots b (front slots at) e is)
            (g.typed slots (known slots b (front slots at)) (rest slots at) (run p f slots e x.code) (h.has slots b (front slots at) e is));
        has = λ slots b at e is.
            let now = run p f slots e x.code in
            let first = h.has slots b (front slots at) e is in
            subst (λ z. Live z (live ++ between)) (sym (run-append p f slots x.code y.code e))
            (live-append (run p f slots now y.code) live between (g.has slots (known slots b (front slots at)) (rest slots at) now first)
            (live-kept x.register between now (run p f slots now y.code) h.below (λ q lt. g.keeps slots now q lt) first));
        keeps = λ slots e q lt.
            ap (λ z. z q) (run-append p f slots x.code y.code e) ∙ g.keeps slots (run p f slots e x.code) q (omega (arith, lt, h.grows)) ∙ h.keeps slots e q lt;
      }

  -- ---- single instructions, from a register and a slot on

  pub gives-one : (base : Types → Type 0) (given : List (ℕ × Ty)) (n s r : ℕ) (i : Instr) (t : Ty) → defined i ≡ Some n
      → ((slots : Types) → base slots → (e : Types) → Live e given → Asks p f slots e i × (plain_type (type_given p f slots e i) ≡ plain_type t))
      → Holds base given (record { code = i ∷ []; result = r; register = n + 1; slot = s }) n s ((n, t) ∷ [])
  gives-one base given n s r i t is asks = record {
    temps = [];
    slot_is = omega arith;
    grows = omega arith;
    below = (omega arith, tt);
    typed = λ slots b at e g. ((asks slots b e g).0, tt);
    has = λ slots b at e g. (ap plain_type (behind-same (defined i) n (type_given p f slots e i) e is) ∙ (asks slots b e g).1, tt);
    keeps = λ slots e q lt. behind-one (defined i) n q (type_given p f slots e i) e is lt;
  }

  pub uses-one : (base : Types → Type 0) (given : List (ℕ × Ty)) (n s r : ℕ) (i : Instr) → defined i ≡ None
      → ((slots : Types) → base slots → (e : Types) → Live e given → Asks p f slots e i)
      → Holds base given (record { code = i ∷ []; result = r; register = n; slot = s }) n s []
  uses-one base given n s r i is asks = record {
    temps = [];
    slot_is = omega arith;
    grows = omega arith;
    below = tt;
    typed = λ slots b at e g. (asks slots b e g, tt);
    has = λ slots b at e g. tt;
    keeps = λ slots e q lt. behind-none (defined i) q (type_given p f slots e i) e is;
  }

  -- it writes the next slot, which has this type
  pub sets-one : (base : Types → Type 0) (given : List (ℕ × Ty)) (n s r : ℕ) (i : Instr) (t : Ty) → defined i ≡ None
      → ((slots : Types) → base slots → slots s ≡ t → (e : Types) → Live e given → Asks p f slots e i)
      → Holds base given (record { code = i ∷ []; result = r; register = n; slot = s + 1 }) n s []
  sets-one base given n s r i t is asks = record {
    temps = t ∷ [];
    slot_is = refl;
    grows = omega arith;
    below = tt;
    typed = λ slots b at e g. (asks slots b at.0 e g, tt);
    has = λ slots b at e g. tt;
    keeps = λ slots e q lt. behind-none (defined i) q (type_given p f slots e i) e is;
  }

  -- ---- code, and an instruction behind it

  pub gives : (base : Types → Type 0) (given : List (ℕ × Ty)) (x : Made) (register slot r : ℕ) (live : List (ℕ × Ty)) (i : Instr) (t : Ty)
      → Holds base given x register slot live → defined i ≡ Some x.register
      → ((slots : Types) → base slots → (e : Types) → Live e live → Asks p f slots e i × (plain_type (type_given p f slots e i) ≡ plain_type t))
      → Holds base given (record { code = x.code ++ i ∷ []; result = r; register = x.register + 1; slot = x.slot }) register slot ((x.register, t) ∷ live)
  gives base given x register slot r live i t h is asks =
      append base base given live ((x.register, t) ∷ []) x (record { code = i ∷ []; result = r; register = x.register + 1; slot = x.slot }) register slot r h
      (gives-one base live x.register x.slot r i t is asks) (λ slots b at. b)

  pub uses : (base : Types → Type 0) (given : List (ℕ × Ty)) (x : Made) (register slot r : ℕ) (live : List (ℕ × Ty)) (i : Instr)
      → Holds base given x register slot live → defined i ≡ None
      → ((slots : Types) → base slots → (e : Types) → Live e live → Asks p f slots e i)
      → Holds base given (record { code = x.code ++ i ∷ []; result = r; register = x.register; slot = x.slot }) register slot live
  uses base given x register slot r live i h is asks =
      append base base given live [] x (record { code = i ∷ []; result = r; register = x.register; slot = x.slot }) register slot r h
      (uses-one base live x.register x.slot r i is asks) (λ slots b at. b)

  -- two codes, of which the second asks nothing of what is before it
  pub both : (base : Types → Type 0) (given : List (ℕ × Ty)) (x y : Made) (register slot r : ℕ) (first second : List (ℕ × Ty))
      → Holds base given x register slot first → Holds base [] y x.register x.slot second
      → Holds base given (record { code = x.code ++ y.code; result = r; register = y.register; slot = y.slot }) register slot (second ++ first)
  both base given x y register slot r first second hx hy =
      append base base given first second x y register slot r hx (under base base [] first y x.register x.slot second (λ slots b. b) (λ e g. tt) hy) (λ slots b at. b)
