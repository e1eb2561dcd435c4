-- The labels of the tokens of a table set's scanner.
use Rattle.std.specs.Prelude.{◌≡◌, ◌<◌, ◌+◌, ℕ, List, ◌++◌, Bool, map, min, option_map, slice_index}
use Rattle.ly_base.specs.declared.scan_action.Emitted.{Emitted}
use Rattle.ly_base.specs.declared.scan_action.Emitted.TheVariants.{FirstByte, Nothing, Terminal}
use Rattle.ly_drive.specs.TableTokens.{token_name_in}
use Rattle.ly_feed.specs.Passing.{ArePassedOver}
use Rattle.ly_feed.specs.ScanPart.{condition_in, scan_part_of}
use Rattle.ly_feed.specs.Vocabularies.{name_in}
use Rattle.ly_listing.specs.Labels.{begin_by, label_for, labelling}
use Rattle.ly_listing.specs.Listings.{ArePassed}
use Rattle.ly_listing.specs.declared.rule_labels.RuleLabel.{RuleLabel}
use Rattle.ly_listing.specs.declared.rule_labels.RuleLabels.{RuleLabels}
use Rattle.ly_print.specs.declared.answer_form.AnswerForm.{AnswerForm}
use Rattle.ly_tables.specs.TableSet.{TableSet}
use Rattle.ly_tables.specs.declared.scan_rule.ScanRule as code

-- the number of the label of tokens that are emitted so: those of terminals stand behind the 256 of the first bytes
abbrev pub label_number : Emitted → ℕ
label_number Nothing = 1
label_number (Terminal t) = min (t.0 + 256) 4294967295
label_number FirstByte = 2

abbrev pub rule_label_of : code.ScanRule → RuleLabel
rule_label_of r = record { number = label_number r.action.emits; begin = r.action.begin }

-- the labels of the bytes' literals, then those of all terminals
abbrev pub labels_in : AnswerForm → TableSet → List (List ℕ)
labels_in form s = map (λ t. label_for form (name_in s.terminals t)) s.literals ++ map (label_for form) s.terminals

-- The labels are those of the set's tokens, and the rules set the same conditions. Rules whose lexemes are skipped have
-- no labels.
pub record AreLabelsOfSet (form : AnswerForm) (s : TableSet) (l : RuleLabels) : Type 0 where
  pub labels : (i : ℕ) (bytes : List ℕ) → slice_index bytes 0 < 256
      → labelling l i bytes ≡ option_map (label_for form) (token_name_in s i bytes)
  pub begins : (i : ℕ) → begin_by l i ≡ condition_in (scan_part_of s) i
  pub passed : (passed : List Bool) → ArePassedOver (scan_part_of s) passed → ArePassed passed (labelling l) (begin_by l)
