-- The meaning of a match.
use Rattle.std.specs.Prelude.{◌≡◌, ℕ, List, Some, None, length}
use Rattle.ly_scan.specs.declared.matching.Match.{Match}
use Rattle.ly_scan.specs.declared.matching.Match.TheVariants.{Win, BadCut, Stuck}
use Rattle.ly_base.specs.declared.cut.Cut.{Cut}
use Rattle.ly_scan.specs.Cuts.{token_len}
use Rattle.ly_scan.specs.Walk.{Walk, IsLongest, HasNone}

-- the match is the longest prefix whose walk has a rule, with the rule's cut
abbrev pub IsMatch : Walk → (ℕ → Cut) → List ℕ → Match → Type 0
IsMatch walk cut text (Win rule matched len) =
    IsLongest walk text (length text) matched rule.0 × (token_len (cut rule.0) matched ≡ Some len)
IsMatch walk cut text BadCut = (n : ℕ)
    × ((r : ℕ) × IsLongest walk text (length text) n r × (token_len (cut r) n ≡ None))
IsMatch walk cut text Stuck = HasNone walk text (length text)
