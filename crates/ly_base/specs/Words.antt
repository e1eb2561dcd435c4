-- Words after whitespace and comments, for any kind of word.
use Rattle.std.specs.Prelude.{ℕ, List}
use Rattle.ly_base.specs.Gap.{GapBefore}
use Rattle.ly_base.specs.declared.language.Language.{Language}

-- The text is whitespace and comments, a word, and the rest. `Begins` relates texts to a word and a rest.
abbrev pub WordBefore : {W : Type 0} → (List ℕ → W → List ℕ → Type 0) → Language → List ℕ → W → List ℕ → Type 0
WordBefore Begins l text x rest = (word : List ℕ) × GapBefore l text word × Begins word x rest
