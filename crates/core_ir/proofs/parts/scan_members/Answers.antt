use Rattle.std.proofs.Common.{◌≡◌, ◌<◌, inl, inr, ℕ, List, get_or, take, length, sym, subst}
use Rattle.std.specs.List.{Contains}
use Rattle.std.proofs.lemmas.Bool.{both_ways}
use Rattle.std.proofs.lemmas.List.{take_all}
use Rattle.std.proofs.lemmas.List.Elements.{All-more, All-same, Contains-get_or}
use Rattle.c_types.specs.declared.structs.Member.{Member}
use Rattle.core_ir.specs.inner.Search.{IsClean}
use Rattle.core_ir.proofs.PartsAreFound.{all_clean_kept, extends_then}
use Rattle.core_ir.proofs.parts.scan_members.Goals as goal

contained : (ms : List Member) (k : ℕ) (m : Member) → k < length ms → m ≡ get_or ms k m → Contains ms m
contained ms k m low is = subst (Contains ms) (sym is) (Contains-get_or ms k m low)

pub returns-then-has_layer-clause-has : goal.returns-then-has_layer-clause-has
returns-then-has_layer-clause-has c =
    λ is. (c.member-item.result, contained c.args.members.now c.loop-member.member-index c.member-item.result c.loop-member-test.true c.member-item.is, c.has_layer.ensures.0 c.if-has_layer.true)

pub loop-member-preserved : goal.loop-member-preserved
loop-member-preserved c =
    let new = c.add_innermost.new.found in
    let P : Member → Type 0 = λ m. IsClean new c.args.part.now m.ty in
    let now : P c.member-item.result = record {
      no_layer = λ h. both_ways _ c.if-has_layer.false (c.has_layer.ensures.1 h);
      structs = c.add_innermost.ensures.added;
    } in
    record {
      are = c.add_innermost.ensures.found;
      grows = extends_then _ _ _ c.loop-member.invariant.grows c.add_innermost.ensures.grows;
      clean = All-more P c.args.members.now c.loop-member.member-index c.member-item.result c.loop-member-test.true
          (all_clean_kept _ new c.args.part.now (take c.loop-member.member-index c.args.members.now) c.add_innermost.ensures.grows c.loop-member.invariant.clean)
          (subst P c.member-item.is now);
      others = λ s i. elim (c.add_innermost.ensures.others s i) [
        | inl old ↦ c.loop-member.invariant.others s old
        | inr layer ↦ inr (c.member-item.result, contained c.args.members.now c.loop-member.member-index c.member-item.result c.loop-member-test.true c.member-item.is, layer)
      ];
    }

pub returns-clause-clean : goal.returns-clause-clean
returns-clause-clean c =
    let P : Member → Type 0 = λ m. IsClean c.loop-member.found c.args.part.now m.ty in
    λ is. All-same P c.args.members.now (take c.loop-member.member-index c.args.members.now) (sym (take_all c.loop-member.member-index c.args.members.now c.loop-member-test.false)) c.loop-member.invariant.clean
