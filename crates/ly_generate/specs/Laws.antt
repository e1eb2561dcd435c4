-- What holds of rejections, as a statement.
use Rattle.std.specs.Prelude.{◌≢◌, ℕ, List}
use Rattle.ly_base.specs.Limits.{Sizes}
use Rattle.ly_join.specs.Grammar.{Grammar}
use Rattle.ly_join.specs.Joined.{Spec}
use Rattle.ly_generate.specs.Accepted.{IsFit, IsRefusedFor, Specifies}
use Rattle.ly_generate.specs.declared.gen_fault.GenFault.{GenFault}
use Rattle.ly_generate.specs.declared.gen_fault.GenFault.TheVariants.{OutOfMemory}

-- files that are rejected for anything but out of memory are not accepted
abbrev pub RefusalIsExact : Type 0
RefusalIsExact = (limits : Sizes) (lex yacc : List ℕ) (s : Spec) (useful : Grammar) (fault : GenFault)
    → fault ≢ OutOfMemory → IsRefusedFor limits lex yacc fault → Specifies limits lex yacc s → IsFit limits s useful → ⊥
