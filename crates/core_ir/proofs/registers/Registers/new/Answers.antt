use Rattle.core_ir.proofs.RegisterTables.{entry_none}
use Rattle.core_ir.proofs.registers.Registers.new.Goals as goal

pub returns-clause-last : goal.returns-clause-last
returns-clause-last c = λ r. entry_none 1024 r

pub returns-clause-chain : goal.returns-clause-chain
returns-clause-chain c = λ r. entry_none 1024 r

pub returns-clause-started : goal.returns-clause-started
returns-clause-started c = λ r. entry_none 1024 r
