-- How long terms are as plain text.
use Rattle.std.proofs.Common.{◌+◌, ◌≤◌, ◌++◌, ◌∷◌, [], ℕ, ap, arith, codes, length, length-append}
use Rattle.ly_base.specs.Bytes.{double_quote}
use Rattle.ly_print.proofs.RoomLemmas.{escaped_len}
use Rattle.ly_print.proofs.TextLemmas.{quoted_leaf}
use Rattle.ly_print.specs.Text.{before_leaf, escaped, token}
use Rattle.ly_tree.specs.Shown.{plain, Vocabulary}
use Rattle.ly_tree.specs.Written.{IsWithin}

-- Four bytes are enough for each byte of a leaf, since an escape has four, and four beside the longest label: a quote
-- or a parenthesis stands behind a part, and a comma.
pub plain_within : (v : Vocabulary) (longest : ℕ)
    → ((t : ℕ) → length (before_leaf (token (v.terminal t))) ≤ longest)
    → ((p : ℕ) → length (v.constructor p ++ codes "(") ≤ longest) → IsWithin (plain v) (longest + 4) 4
plain_within v longest leaves nodes = record {
  no_term = omega arith;
  leaves = λ t bytes all.
      let label = before_leaf (token (v.terminal t)) in
      let text = escaped double_quote bytes in
      omega (
        arith,
        leaves t,
        ap length (quoted_leaf (token (v.terminal t)) bytes),
        length-append label (text ++ double_quote ∷ []),
        length-append text (double_quote ∷ []),
        escaped_len double_quote bytes,
      );
  nodes = λ p. omega (arith, nodes p);
}
