use Rattle.std.proofs.Common.{◌≡◌, ◌<◌, ℕ, Some, length}
use Rattle.std.specs.Prelude.{slice_get}
use Rattle.ly_listing.specs.Labels.{label_for}
use Rattle.ly_print.specs.Text.{literal, name_of}
use Rattle.ly_tokens.proofs.labels.literal_labels.Given as goal

-- there are the labels of the bytes so far
abbrev pub invariant-loop-byte : goal.invariant-loop-byte
invariant-loop-byte l = record {
  count : length l.labels.items ≡ l.byte;
  same : (b : ℕ) → b < l.byte → slice_get l.labels.items b ≡ Some (label_for l.form (name_of (literal b)));
}
