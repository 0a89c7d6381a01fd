use Rattle.std.proofs.Common.{◌≡◌, ◌∙◌, ◌+◌, ◌<◌, ◌≤◌, ℕ, IfSome, Some, length, map, slice_set, sym, ap, subst, arith}
use Rattle.core_ir.specs.Outline.{Outline}
use Rattle.safe_locals.specs.inner.Marks.{AreMarks, IsWithin, made, most_offset}
use Rattle.safe_locals.proofs.MarksTell.{marks_more, marks_same}
use Rattle.safe_locals.proofs.marks.Marks.pass.Goals as goal

pub returns-in_default : goal.returns-in_default
returns-in_default g c =
    marks_same c.args.place (g.I.HasOutline.outline c.args.instr.now) c.requires.here c.args.self.now.marks c.requires.known (sym c.defined.ensures ∙ c.in_default.is)

pub returns-in-Some : goal.returns-in-Some
returns-in-Some g c =
    let i : Outline = g.I.HasOutline.outline c.args.instr.now in
    let marks = c.args.self.now.marks in
    let d : ℕ = c.in-Some.register in
    let m : c.made.result ≡ made marks c.args.place i.role = c.made.ensures.value ∙ ap (λ r. made marks c.args.place r) c.role.ensures in
    let defines : i.defined ≡ Some d = sym c.defined.ensures ∙ c.in-Some.is in
    let few : d < 1024 = subst (λ o. IfSome o (λ x. x < 1024)) defines c.requires.defined in
    let low : d < length marks = omega arith in
    let within = subst (IsWithin (most_offset (c.args.place + 1))) m c.made.ensures.within in
    subst (λ x. AreMarks (map g.I.HasOutline.outline c.args.code.now) (c.args.place + 1) (slice_set marks d x)) (sym m)
    (marks_more c.args.place i c.requires.here marks d c.requires.known defines low within)
