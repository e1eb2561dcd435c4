-- Where the lines of a text begin.
use Rattle.std.specs.Prelude.{ℕ, suc, List, [], ◌∷◌, if◌then◌else◌}
use Rattle.ly_base.specs.Location.{is_newline}

-- where lines begin behind the newlines of bytes, the first of which stands at a byte of the text
abbrev pub starts_from : ℕ → List ℕ → List ℕ
starts_from at [] = []
starts_from at (b ∷ bs) = if is_newline b then suc at ∷ starts_from (suc at) bs else starts_from (suc at) bs

-- where all lines do, the first one at 0
abbrev pub line_starts : List ℕ → List ℕ
line_starts text = 0 ∷ starts_from 0 text
