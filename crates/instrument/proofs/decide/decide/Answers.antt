use Rattle.std.proofs.Common.{◌≡◌, ◌∙◌, sym, ap, subst}
use Rattle.machine.specs.declared.code.CodePlace.TheVariants as code
use Rattle.machine.specs.Decided.{decided}
use Rattle.instrument.specs.inner.Places.{context}
use Rattle.instrument.proofs.decide.decide.Goals as goal

pub returns-in-AddrG : goal.returns-in-AddrG
returns-in-AddrG c = λ class are.
    let x = context c.args.program.now c.args.function.now class c.args.site in
    c.global.ensures x are ∙ sym (ap (decided x) c.in-AddrG.is)

pub returns-in-AddrL : goal.returns-in-AddrL
returns-in-AddrL c = λ class are.
    let x = context c.args.program.now c.args.function.now class c.args.site in
    c.local.ensures x are ∙ sym (ap (decided x) c.in-AddrL.is)

pub returns-in-Cast : goal.returns-in-Cast
returns-in-Cast c = λ class are.
    let x = context c.args.program.now c.args.function.now class c.args.site in
    let from = c.kind_of.ensures c.args.program.now.structs class are in
    let to = c.kind_of-in-Cast.ensures c.args.program.now.structs class are in
    subst (λ i. code.Cast c.in-Cast.d c.in-Cast.a c.kind_of.result c.kind_of-in-Cast.result ≡ decided x i) (sym c.in-Cast.is) (cc)

pub returns-in-Touch : goal.returns-in-Touch
returns-in-Touch c = λ class are.
    let x = context c.args.program.now c.args.function.now class c.args.site in
    let of = c.class_of_pointer.ensures c.args.program.now.structs class are in
    let marked = c.is_some.ensures in
    subst (λ i. code.Touch c.in-Touch.p c.class_of_pointer.result c.is_some.result ≡ decided x i) (sym c.in-Touch.is) (cc)

pub returns-in-Load : goal.returns-in-Load
returns-in-Load c = λ class are.
    let x = context c.args.program.now c.args.function.now class c.args.site in
    let of = c.kind_of-in-Load.ensures c.args.program.now.structs class are in
    subst (λ i. code.Load c.in-Load.d c.in-Load.p c.kind_of-in-Load.result c.args.site.unit ≡ decided x i) (sym c.in-Load.is) (cc)

pub returns-in-Store : goal.returns-in-Store
returns-in-Store c = λ class are.
    let x = context c.args.program.now c.args.function.now class c.args.site in
    let of = c.kind_of-in-Store.ensures c.args.program.now.structs class are in
    subst (λ i. code.Store c.in-Store.p c.in-Store.a c.kind_of-in-Store.result c.args.site.unit ≡ decided x i) (sym c.in-Store.is) (cc)
