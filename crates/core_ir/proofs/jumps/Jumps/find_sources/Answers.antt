use Rattle.std.proofs.Common.{◌≡◌, ◌∙◌, ℕ, ◌+◌, length, map, sym, subst, arith}
use Rattle.std.proofs.lemmas.List.{length-map}
use Rattle.core_ir.specs.Flow.{Jumps as Jump}
use Rattle.core_ir.specs.inner.Jumps.{AreGreatest, AreLeast}
use Rattle.core_ir.proofs.Places.{jump, jump_leads, read}
use Rattle.core_ir.proofs.SourcesOfJumps.{greatest_more, greatest_none, greatest_same, least_more, least_none, least_same}
use Rattle.core_ir.proofs.jumps.Jumps.find_sources.Goals.{in-Some, in_default}
use Rattle.core_ir.proofs.jumps.Jumps.find_sources.Goals as goal

pub note-requires : goal.note-requires
note-requires g c =
    let outline = g.I.HasOutline.outline in
    let here = read outline c.args.code.now c.loop-source.source c.index-code-source.result c.loop-source-test.true c.index-code-source.is in
    let inside = c.requires.targets c.loop-source.source c.in-Some.target (jump (map outline c.args.code.now) c.loop-source.source c.in-Some.target _ here (sym c.in-Some.ensures)) in
    omega (arith, c.requires.few, inside)

pub loop-source-init : goal.loop-source-init
loop-source-init g c = record {
  least = least_none _ _ (omega (arith, c.requires.few, length-map c.args.code.now g.I.HasOutline.outline)) (λ l inside. c.clear.ensures.least l (omega (arith, length-map c.args.code.now g.I.HasOutline.outline)));
  greatest = greatest_none _ _ (λ l inside. c.clear.ensures.greatest l (omega (arith, length-map c.args.code.now g.I.HasOutline.outline)));
}

pub loop-source-preserved : goal.loop-source-preserved
loop-source-preserved g c =
    let outline = g.I.HasOutline.outline in
    let code = map outline c.args.code.now in
    let q = c.loop-source.source in
    let here = read outline c.args.code.now q c.index-code-source.result c.loop-source-test.true c.index-code-source.is in
    elim c.match-target.branch [
      | in-Some w ↦
          let j = jump code q w.in-Some.target _ here (sym w.in-Some.ensures) in
          record {
            least = subst (λ s. AreLeast code (q + 1) s.least) (sym w.self-is) (least_more code q w.in-Some.target j _ _ w.note.ensures.least c.loop-source.invariant.least);
            greatest = subst (λ s. AreGreatest code (q + 1) s.greatest) (sym w.self-is) (greatest_more code q w.in-Some.target j _ _ w.note.ensures.greatest c.loop-source.invariant.greatest);
          }
      | in_default w ↦
          let none : (l : ℕ) → Jump code 0 q l → ⊥ = λ l j. w.in_default.not-Some l (c.target.ensures ∙ jump_leads _ j here) in
          record {
            least = subst (λ s. AreLeast code (q + 1) s.least) (sym w.self-is) (least_same code q _ c.loop-source.invariant.least none);
            greatest = subst (λ s. AreGreatest code (q + 1) s.greatest) (sym w.self-is) (greatest_same code q _ c.loop-source.invariant.greatest none);
          }
    ]

pub returns-clause-least : goal.returns-clause-least
returns-clause-least g c =
    let code = map g.I.HasOutline.outline c.args.code.now in
    let all : c.loop-source.source ≡ length code = omega (arith, length-map c.args.code.now g.I.HasOutline.outline) in
    subst (λ n. AreLeast code n c.loop-source.self.least) all c.loop-source.invariant.least

pub returns-clause-greatest : goal.returns-clause-greatest
returns-clause-greatest g c =
    let code = map g.I.HasOutline.outline c.args.code.now in
    let all : c.loop-source.source ≡ length code = omega (arith, length-map c.args.code.now g.I.HasOutline.outline) in
    subst (λ n. AreGreatest code n c.loop-source.self.greatest) all c.loop-source.invariant.greatest
