use Rattle.core_parts.proofs.Accesses.{loads, locks, stores}
use Rattle.core_parts.proofs.Bodies.{frameless, framed}
use Rattle.core_parts.proofs.Calls.{calls}
use Rattle.core_parts.proofs.Chains as chain
use Rattle.core_parts.proofs.Extensions.{gives, uses}
use Rattle.core_parts.proofs.Leaves as leave
use Rattle.core_parts.proofs.Leaves.{branch, jump}
use Rattle.core_parts.proofs.PartsCompose as parts
use Rattle.core_parts.proofs.PiecesCompose.{pieces, sections, weaker}
use Rattle.core_parts.proofs.Starts.{starts}
use Rattle.core_parts.proofs.Windows.{in_back, in_front, split}
use Rattle.core_parts.proofs.theorems.parts_compose.Goals as goal

pub returns : goal.returns
returns c = record {
  composition = record {
    split = split;
    in_front = in_front;
    in_back = in_back;
    none = parts.none;
    append = parts.append;
    fewer = parts.fewer;
  };
  extension = record {
    gives = λ c start a b live i h free quiet defines known. gives c start a b live i h free quiet known defines;
    uses = λ c start a b live i h free quiet defines known. uses c start a b live i h free quiet known defines;
    loads = loads;
    stores = stores;
    locks = locks;
    starts = starts;
    calls = calls;
  };
  chains = record {
    load = λ c start r p i is defines. chain.load c start i r p is defines;
    slot = λ c start r s i is defines. chain.slot c start i r s is defines;
    cast = λ c start r a k i is defines h. chain.cast c start i r a k is defines h;
    over = λ c start r k i other h. chain.over c start i r k other h;
    behind = chain.behind;
  };
  pieces = record {
    branch = branch;
    jump = jump;
    returns = leave.returns;
    leaves = leave.leaves;
    pieces = pieces;
    sections = sections;
    weaker = weaker;
  };
  bodies = record {
    frameless = frameless;
    framed = framed;
  };
}
