-- The errors of `answer`: how they follow from those of generation, their numbers and names, and what they imply for
-- the reader and the writer.
use Rattle.std.specs.Prelude.{◌≡◌, ◌≢◌, ◌⊎◌, ℕ, List, None, Option}
use Rattle.ly_engine.specs.declared.answer_fault.AnswerFault.{AnswerFault}
use Rattle.ly_engine.specs.declared.answer_fault.AnswerFault.TheVariants.{Gen, Text}
use Rattle.ly_feed.specs.TextFault as text
use Rattle.ly_feed.specs.declared.text_fault.TextFault.TheVariants.{OutOfMemory}
use Rattle.ly_generate.specs.GenFault.{gen_name, gen_number}
use Rattle.ly_generate.specs.declared.gen_fault.GenFault.{GenFault}
use Rattle.ly_generate.specs.declared.gen_fault.GenFault.TheVariants as gen

-- out of memory stays out of memory, and any other error rejects the files
abbrev pub Becomes : GenFault → AnswerFault → Type 0
Becomes fault e = ((fault ≡ gen.OutOfMemory) × (e ≡ Text OutOfMemory)) ⊎ ((fault ≢ gen.OutOfMemory) × (e ≡ Gen fault))

-- an error's number: that of its part; a device that fails and out of memory have none
abbrev pub answer_number : AnswerFault → Option ℕ
answer_number (Gen fault) = gen_number fault
answer_number (Text fault) = text.text_fault_number fault

-- an error's name: that of its part
abbrev pub answer_name : AnswerFault → List ℕ
answer_name (Gen fault) = gen_name fault
answer_name (Text fault) = text.text_fault_name fault

-- nothing was read: the files are rejected
abbrev pub ReadNothing : AnswerFault → Type 0
ReadNothing (Gen fault) = Unit {0}
ReadNothing (Text fault) = ⊥

-- the number of bytes written before the write that failed, if one did
abbrev pub failed_write : AnswerFault → Option ℕ
failed_write (Gen fault) = None
failed_write (Text fault) = text.failed_write fault
