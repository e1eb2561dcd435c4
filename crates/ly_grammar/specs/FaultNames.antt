-- The numbers and the names of the errors of grammars.
use Rattle.std.specs.Prelude.{ℕ, List, Option, Some, None, codes}
use Rattle.ly_grammar.specs.declared.fault.GrammarFault.{GrammarFault}
use Rattle.ly_grammar.specs.declared.fault.GrammarFault.TheVariants.{StartUnproductive, OutOfMemory}

-- an error's number; out of memory has none
abbrev pub grammar_number : GrammarFault → Option ℕ
grammar_number StartUnproductive = Some 60
grammar_number OutOfMemory = None

-- an error's name
abbrev pub grammar_name : GrammarFault → List ℕ
grammar_name StartUnproductive = codes "StartUnproductive"
grammar_name OutOfMemory = codes "OutOfMemory"
