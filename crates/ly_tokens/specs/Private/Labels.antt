-- The labels of the tokens that actions return.
use Rattle.std.specs.Prelude.{◌≡◌, ◌<◌, ℕ, List, slice_get, slice_index, Bool, true, false, Option, Some, None, map}
use Rattle.std.specs.Prelude.{option_map}
use Rattle.std.specs.Rc.{rc_slice_items}
use Rattle.ly_lexread.specs.declared.action.LexAction.{LexAction}
use Rattle.ly_lexread.specs.declared.action.Returned.{Returned}
use Rattle.ly_lexread.specs.declared.action.Returned.TheVariants.{FirstByte, Literal, Nothing, Token}
use Rattle.ly_listing.specs.Labels.{begin_by, label_for, labelling}
use Rattle.ly_listing.specs.Listings.{ArePassed}
use Rattle.ly_listing.specs.declared.rule_labels.RuleLabels.{RuleLabels}
use Rattle.ly_print.specs.Text.{literal, name_of, token}
use Rattle.ly_print.specs.declared.answer_form.AnswerForm.{AnswerForm}
use Rattle.ly_tokens.specs.Answering.{names_by}
use Rattle.ly_tokens.specs.Printing.{condition_set}

-- no condition is set, and nothing is returned
abbrev pub is_no_effect : Option ℕ → Returned → Bool
is_no_effect None Nothing = true
is_no_effect _ _ = false

-- the lexemes of a rule with this action are passed over
abbrev pub is_passed : LexAction → Bool
is_passed a = is_no_effect a.begin a.returns

-- a label of its own, by its number: greater numbers than 2 are places among all labels
abbrev pub IsOwn : List (List ℕ) → List ℕ → ℕ → Type 0
IsOwn labels label number = (2 < number) × (slice_get labels number ≡ Some label)

-- the number of the label of the tokens that an action returns: 1 is that of none, 2 that of the first byte's literal
abbrev pub IsLabelOf : AnswerForm → List (List ℕ) → Returned → ℕ → Type 0
IsLabelOf form labels Nothing number = number ≡ 1
IsLabelOf form labels (Token name) number = IsOwn labels (label_for form (name_of (token (rc_slice_items name)))) number
IsLabelOf form labels (Literal b) number = IsOwn labels (label_for form (name_of (literal b))) number
IsLabelOf form labels FirstByte number = number ≡ 2

-- the first labels are those of the bytes' literals, in the order of the bytes
abbrev pub AreLiteralLabels : AnswerForm → List (List ℕ) → Type 0
AreLiteralLabels form labels =
    (b : ℕ) → b < 256 → slice_get labels b ≡ Some (label_for form (name_of (literal b)))

-- The labels are those of the tokens that actions return, and the rules set the same conditions. Those that do nothing
-- have no labels.
pub record AreLabelsOf (form : AnswerForm) (actions : List LexAction) (l : RuleLabels) : Type 0 where
  pub labels : (i : ℕ) (bytes : List ℕ) → slice_index bytes 0 < 256
      → labelling l i bytes ≡ option_map (label_for form) (names_by actions i bytes)
  pub begins : (i : ℕ) → begin_by l i ≡ condition_set actions i
  pub passed : ArePassed (map is_passed actions) (labelling l) (begin_by l)
