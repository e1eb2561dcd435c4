-- How long a name is, as it is read.
use Rattle.std.specs.Prelude.{ℕ, List, [], ◌∷◌, if◌then◌else◌}
use Rattle.std.specs.List.{prefix_len}
use Rattle.ly_base.specs.Language.{continues_name, starts_name}
use Rattle.ly_base.specs.declared.language.Language.{Language}

-- how many bytes the name at the front takes, 0 where there is none
abbrev pub name_length : Language → List ℕ → ℕ
name_length l [] = 0
name_length l (b ∷ bs) = if starts_name l b then prefix_len (continues_name l) (b ∷ bs) else 0
