-- What contracts see of verdicts.
use Rattle.ly_resolve.specs.Actions as spec
use Rattle.ly_resolve.specs.Actions.{to_error, to_reduce, to_shift, unsettled}
use Rattle.ly_resolve.specs.declared.precedence_verdict.PrecedenceVerdict.{PrecedenceVerdict}
use Rattle.ly_resolve.specs.declared.precedence_verdict.PrecedenceVerdict.TheVariants.{Shift, Reduce, Error, Unsettled}

abbrev pub verdict_from : PrecedenceVerdict → spec.PrecedenceVerdict
verdict_from Shift = to_shift
verdict_from Reduce = to_reduce
verdict_from Error = to_error
verdict_from Unsettled = unsettled
