-- The marks of a text's tokens, and what they say of it.
use Rattle.std.specs.Prelude.{◌≡◌, ◌≤◌, ◌+◌, ◌-◌, ◌*◌, ℕ, List, [], ◌∷◌, ◌++◌, Bool, Option, None, Some}
use Rattle.std.specs.Prelude.{drop, length, take, if◌then◌else◌, nat_eq, nat_le, option_and_then, slice_get}
use Rattle.ly_base.specs.Lexed.{Place, Token, start_of, token_if}
use Rattle.ly_listing.specs.Private.SoFar.{SoFar}
use Rattle.ly_listing.specs.declared.marks.Mark.{Mark}
use Rattle.ly_listing.specs.declared.rule_labels.RuleLabels.{RuleLabels}
use Rattle.ly_scan.specs.Lexer.{Scanner}

-- a mark whose bytes both count the token's
abbrev pub is_wide : Mark → Bool
is_wide m = nat_le 32768 m.label

-- how many bytes stand before the token of a mark, how many it has, and the place of its label
abbrev pub gap_of : Mark → ℕ
gap_of m = if is_wide m then 0 else m.gap

abbrev pub taken_of : Mark → ℕ
taken_of m = if is_wide m then m.gap * 256 + m.taken else m.taken

abbrev pub place_of : Mark → ℕ
place_of m = if is_wide m then m.label - 32768 else m.label

-- the label, if it has one
abbrev pub label_of : List (List ℕ) → Mark → Option (List ℕ)
label_of labels m = if nat_eq (place_of m) 32767 then None else slice_get labels (place_of m)

-- the bytes from a mark's token on, and those behind it
abbrev pub from_token : Mark → List ℕ → List ℕ
from_token m rest = drop (gap_of m) rest

abbrev pub behind_token : Mark → List ℕ → List ℕ
behind_token m rest = drop (taken_of m) (from_token m rest)

-- the token of a mark, if it has a label, in a text of so many bytes
abbrev pub marked_token : List (List ℕ) → ℕ → Mark → List ℕ → List (Token (List ℕ))
marked_token labels count m rest = token_if (label_of labels m) (count - length (from_token m rest))
    (take (taken_of m) (from_token m rest))

-- the tokens that are marked at the front of what is left of it
abbrev pub marked_tokens : List (List ℕ) → ℕ → List Mark → List ℕ → List (Token (List ℕ))
marked_tokens labels count [] rest = []
marked_tokens labels count (m ∷ ms) rest =
    marked_token labels count m rest ++ marked_tokens labels count ms (behind_token m rest)

-- what is left of it behind them
abbrev pub marked_rest : List Mark → List ℕ → List ℕ
marked_rest [] rest = rest
marked_rest (m ∷ ms) rest = marked_rest ms (behind_token m rest)

-- it has all of these bytes
abbrev pub AreWithin : List Mark → List ℕ → Type 0
AreWithin [] rest = Unit {0}
AreWithin (m ∷ ms) rest = (gap_of m + taken_of m ≤ length rest) × AreWithin ms (behind_token m rest)

-- The marks stand in the text, and so many of its bytes are left behind them.
pub record AreMarks (marks : List Mark) (left : ℕ) (text : List ℕ) : Type 0 where
  pub within : AreWithin marks text
  pub behind : marked_rest marks text ≡ drop (length text - left) text
  pub fewer : left ≤ length text

-- Marks say: behind a gap a token of so many bytes, with the label at a place.
pub record SayToken (marks : List Mark) (gap place taken : ℕ) (labels : List (List ℕ)) (rest : List ℕ) : Type 0 where
  pub within : AreWithin marks rest
  pub behind : marked_rest marks rest ≡ drop (gap + taken) rest
  pub tokens : (count : ℕ) → marked_tokens labels count marks rest
      ≡ token_if (slice_get labels place) (count - length (drop gap rest)) (take taken (drop gap rest))

-- Where so many bytes are left, a token with the label at a place is noted behind marks that leave so many.
abbrev pub IsNoted : List Mark → ℕ → List Mark → ℕ → ℕ → ℕ → ℕ → Type 0
IsNoted old left_old new left_new left place taken = (more : List Mark) × (new ≡ old ++ more)
    × (left_new ≡ left - taken) × ((labels : List (List ℕ)) (rest : List ℕ)
    → left_old - left + taken ≤ length rest → SayToken more (left_old - left) place taken labels rest)

-- likewise, if the token has a label
abbrev pub IsNotedIf : List Mark → ℕ → List Mark → ℕ → ℕ → Option ℕ → ℕ → Type 0
IsNotedIf old left_old new left_new left None taken = (new ≡ old) × (left_new ≡ left_old)
IsNotedIf old left_old new left_new left (Some place) taken = IsNoted old left_old new left_new left place taken

-- Lexemes lead from the start of a text to a place, and the marks are those of their tokens.
pub record AreMarked (l : RuleLabels) (s : Scanner) (text : List ℕ) (q : Place) (marks : List Mark) (left : ℕ) : Type 0
  where
    pub so_far : SoFar l s (start_of text) q (marked_tokens l.labels.items (length text) marks text)
    pub are : AreMarks marks left text

-- The marks are those of all tokens up to a place.
pub record IsMarkedTo (l : RuleLabels) (s : Scanner) (text : List ℕ) (q : Place) (marks : List Mark) : Type 0 where
  pub so_far : SoFar l s (start_of text) q (marked_tokens l.labels.items (length text) marks text)
  pub within : AreWithin marks text
