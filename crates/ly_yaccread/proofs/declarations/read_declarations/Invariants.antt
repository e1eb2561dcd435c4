use Rattle.std.proofs.Common.{length}
use Rattle.ly_yaccread.specs.Declarations.{none_declared}
use Rattle.ly_yaccread.specs.Private.Read.{declaring_of, left}
use Rattle.ly_yaccread.proofs.DeclarationLemmas.{DeclarationsGoOn}
use Rattle.ly_yaccread.proofs.declarations.read_declarations.Given as goal

abbrev pub invariant-loop-rules : goal.invariant-loop-rules
invariant-loop-rules l = DeclarationsGoOn none_declared (left l.words) (declaring_of l.preamble) (left l.rest)

abbrev pub decreases-loop-rules : goal.decreases-loop-rules
decreases-loop-rules l = length (left l.rest)
