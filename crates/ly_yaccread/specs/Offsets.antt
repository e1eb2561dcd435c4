-- The offsets of tokens and rules in a yacc file.
use Rattle.std.specs.Prelude.{ℕ, ◌+◌, ◌-◌, ◌^◌, List, length, min, slice_index}
use Rattle.ly_yaccread.specs.declared.file.RuleOffsets.{RuleOffsets}
use Rattle.ly_yaccread.specs.declared.standing.Standing.{Standing}

-- an offset as it is stored: the greatest 32-bit number if it doesn't fit
abbrev pub kept : ℕ → ℕ
kept offset = min offset (2 ^ 32 - 1)

-- the offset of the word from which this many are left, out of the offsets of all words of a file
abbrev pub word_offset : List ℕ → ℕ → ℕ
word_offset offsets left = slice_index offsets (length offsets - left)

-- the offset of a token: that of its word
abbrev pub token_offset : List ℕ → ℕ → ℕ
token_offset offsets left = kept (word_offset offsets left)

-- the offsets of a rule: that of the name of its left side, and that of its body, directly after the `:` or the `|`
abbrev pub rule_offsets : List ℕ → Standing → RuleOffsets
rule_offsets offsets s = record {
  left = kept (word_offset offsets s.left);
  body = kept (word_offset offsets (s.body + 1) + 1);
}
