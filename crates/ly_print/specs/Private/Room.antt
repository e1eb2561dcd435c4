-- How much room printed text takes at most.
use Rattle.std.specs.Prelude.{ℕ, ◌+◌, ◌*◌, length}
use Rattle.ly_print.specs.Text.{Terminal, literal, token}

-- a name: a literal's byte may be escaped
abbrev pub name_room : Terminal → ℕ
name_room (token name) = length name
name_room (literal b) = 6

-- a label and a text behind it, by their lengths: each byte of the text may be escaped, and a block may be copied at
-- its end
abbrev pub quoted_room : ℕ → ℕ → ℕ
quoted_room label text = label + 4 * text + 17
