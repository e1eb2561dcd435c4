-- What is printed for an error.
use Rattle.std.specs.Prelude.{◌≡◌, ℕ, List, [], ◌++◌, Option, None, Some, OnSome, codes}
use Rattle.std.specs.Fmt.{decimal}
use Rattle.ly_base.specs.declared.location.Location.{Location}
use Rattle.ly_generate.specs.GenFault.{gen_name, gen_number}
use Rattle.ly_generate.specs.declared.gen_fault.GenFault.{GenFault}
use Rattle.ly_text_buffer.specs.TextBuffer.{behind, location_in}

-- these bytes are appended, and perhaps more after them
abbrev pub SaysFirst : Option (List ℕ) → List ℕ → Option (List ℕ) → Type 0
SaysFirst old first new = OnSome new ((rest : List ℕ) × (new ≡ behind old (first ++ rest)))

-- the name of a file, and a location in it if there is one
abbrev pub place_words : List ℕ → Option Location → List ℕ
place_words name None = name ++ codes ": "
place_words name (Some at) = location_in name at

-- a number, if there is one
abbrev pub number_words : Option ℕ → List ℕ
number_words None = []
number_words (Some n) = decimal n ++ codes " "

-- that it is an error, its number and its name
abbrev pub fault_words : GenFault → List ℕ
fault_words fault = codes "error: " ++ (number_words (gen_number fault) ++ gen_name fault)
