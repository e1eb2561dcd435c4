-- The labels of tokens.
use Rattle.std.proofs.Common.{◌≡◌, ◌∙◌, ◌<◌, ◌+◌, ℕ, zero, suc, List, [], ◌∷◌, ◌++◌, Option, None, Some, ap}
use Rattle.std.proofs.Common.{length, arith, false, get_or, map, refl, subst, sym, take, true}
use Rattle.std.proofs.lemmas.List.{take_more}
use Rattle.std.proofs.lemmas.Bool.Decides.{nat_tests}
use Rattle.std.specs.Prelude.{if◌then◌else◌, nat_eq, nat_le, option_and_then, option_map, slice_get, slice_index}
use Rattle.ly_lexread.specs.declared.action.LexAction.{LexAction}
use Rattle.ly_lexread.specs.declared.action.Returned.{Returned}
use Rattle.ly_lexread.specs.declared.action.Returned.TheVariants.{FirstByte, Literal, Nothing, Token}
use Rattle.ly_listing.specs.Labels.{label_at, label_for}
use Rattle.ly_listing.specs.declared.rule_labels.RuleLabel.{RuleLabel}
use Rattle.ly_listing.specs.declared.rule_labels.RuleLabels.{RuleLabels}
use Rattle.ly_print.specs.Text.{name_of}
use Rattle.ly_print.specs.declared.answer_form.AnswerForm.{AnswerForm}
use Rattle.ly_tokens.specs.Answering.{names_by}
use Rattle.ly_tokens.specs.Printing.{condition_set, terminal_for}
use Rattle.ly_tokens.specs.Private.Labels.{AreLabelsOf, AreLiteralLabels, IsLabelOf, IsOwn, is_no_effect, is_passed}

-- a list of what a function gives for the numbers in their order, and one more
pub listed_more : (f : ℕ → List ℕ) (labels : List (List ℕ)) (n : ℕ) (label : List ℕ) → length labels ≡ n
    → ((b : ℕ) → b < n → slice_get labels b ≡ Some (f b)) → label ≡ f n
    → (b : ℕ) → b < n + 1 → slice_get (labels ++ label ∷ []) b ≡ Some (f b)
listed_more f [] zero label count same is zero less = ap Some is
listed_more f [] zero label count same is (suc b) less = absurd (omega (arith, less))
listed_more f [] (suc n) label count same is b less = absurd (omega (arith, count))
listed_more f (x ∷ labels) zero label count same is b less = absurd (omega (arith, count))
listed_more f (x ∷ labels) (suc n) label count same is zero less = same 0 (omega arith)
listed_more f (x ∷ labels) (suc n) label count same is (suc b) less = listed_more (λ k. f (suc k)) labels n label
    (omega (arith, count)) (λ k h. same (suc k) (omega (arith, h))) is b (omega (arith, less))

-- what stands at a place of a list stands there behind more
kept_at : (labels more : List (List ℕ)) (k : ℕ) (label : List ℕ) → slice_get labels k ≡ Some label
    → slice_get (labels ++ more) k ≡ Some label
kept_at [] more k label e = absurd cc
kept_at (x ∷ labels) more zero label e = e
kept_at (x ∷ labels) more (suc k) label e = kept_at labels more k label e

-- a label stays that of its number when more are added
label_kept : (form : AnswerForm) (labels more : List (List ℕ)) (r : Returned) (number : ℕ)
    → IsLabelOf form labels r number → IsLabelOf form (labels ++ more) r number
label_kept form labels more Nothing number h = h
label_kept form labels more (Token name) number h = (h.0, kept_at labels more number _ h.1)
label_kept form labels more (Literal b) number h = (h.0, kept_at labels more number _ h.1)
label_kept form labels more FirstByte number h = h

pub literals_kept : (form : AnswerForm) (labels more : List (List ℕ)) → AreLiteralLabels form labels
    → AreLiteralLabels form (labels ++ more)
literals_kept form labels more h b lt = kept_at labels more b _ (h b lt)

-- there are the numbers and the conditions of actions, one by one
abbrev pub AreNumbers : AnswerForm → List (List ℕ) → List LexAction → List RuleLabel → Type 0
AreNumbers form labels [] [] = Unit {0}
AreNumbers form labels (a ∷ actions) (r ∷ rules) =
    IsLabelOf form labels a.returns r.number × (r.begin ≡ a.begin) × AreNumbers form labels actions rules
AreNumbers form labels _ _ = ⊥

-- one more, and more labels
numbers_more : (form : AnswerForm) (labels more : List (List ℕ)) (actions : List LexAction) (rules : List RuleLabel)
    (a : LexAction) (r : RuleLabel) → AreNumbers form labels actions rules
    → IsLabelOf form (labels ++ more) a.returns r.number → r.begin ≡ a.begin
    → AreNumbers form (labels ++ more) (actions ++ a ∷ []) (rules ++ r ∷ [])
numbers_more form labels more [] [] a r h is begin = (is, begin, tt)
numbers_more form labels more (b ∷ actions) (q ∷ rules) a r h is begin = (
  label_kept form labels more b.returns q.number h.0,
  h.1,
  numbers_more form labels more actions rules a r h.2 is begin,
)
numbers_more form labels more [] (q ∷ rules) a r h is begin = absurd h
numbers_more form labels more (b ∷ actions) [] a r h is begin = absurd h

-- likewise, of actions up to one more
pub numbers_next : (form : AnswerForm) (labels new more : List (List ℕ)) (actions : List LexAction) (index : ℕ)
    (rules longer : List RuleLabel) (a : LexAction) (r : RuleLabel) → index < length actions
    → a ≡ get_or actions index a → new ≡ labels ++ more → longer ≡ rules ++ r ∷ []
    → AreNumbers form labels (take index actions) rules → IsLabelOf form new a.returns r.number → r.begin ≡ a.begin
    → AreNumbers form new (take (index + 1) actions) longer
numbers_next form labels new more actions index rules longer a r lt at e rs h is begin =
    let one : take (index + 1) actions ≡ take index actions ++ a ∷ [] = take_more actions index a lt
    ∙ ap (λ x. take index actions ++ x ∷ []) (sym at) in
    subst (λ x. AreNumbers form x (take (index + 1) actions) longer) (sym e)
    (subst (λ x. AreNumbers form (labels ++ more) x longer) (sym one)
    (subst (λ x. AreNumbers form (labels ++ more) (take index actions ++ a ∷ []) x) (sym rs)
    (numbers_more form labels more (take index actions) rules a r h
    (subst (λ x. IsLabelOf form x a.returns r.number) e is) begin)))

own_at : (labels : List (List ℕ)) (label : List ℕ) (number first : ℕ) → IsOwn labels label number
    → label_at labels number first ≡ Some label
own_at labels label number first h =
    let past : nat_le number 1 ≡ false = (let lt = h.0 in grind (arith, nat_tests, lt)) in
    let other : nat_eq number 2 ≡ false = (let lt = h.0 in grind (arith, nat_tests, lt)) in
    ap (λ b. if b then None else slice_get labels (if nat_eq number 2 then first else number)) past
    ∙ ap (λ b. slice_get labels (if b then first else number)) other ∙ h.1

-- the label of a number is that of the terminal's name
label_is : (form : AnswerForm) (labels : List (List ℕ)) (r : Returned) (number : ℕ) (bytes : List ℕ)
    → AreLiteralLabels form labels → slice_index bytes 0 < 256 → IsLabelOf form labels r number
    → label_at labels number (slice_index bytes 0)
    ≡ option_map (label_for form) (option_map name_of (terminal_for r bytes))
label_is form labels Nothing number bytes literals byte h = ap (λ n. label_at labels n (slice_index bytes 0)) h
label_is form labels (Token name) number bytes literals byte h = own_at labels _ number (slice_index bytes 0) h
label_is form labels (Literal b) number bytes literals byte h = own_at labels _ number (slice_index bytes 0) h
label_is form labels FirstByte number bytes literals byte h =
    ap (λ n. label_at labels n (slice_index bytes 0)) h ∙ literals (slice_index bytes 0) byte

labels_are : (form : AnswerForm) (labels : List (List ℕ)) (actions : List LexAction) (rules : List RuleLabel)
    → AreLiteralLabels form labels → AreNumbers form labels actions rules → (i : ℕ) (bytes : List ℕ)
    → slice_index bytes 0 < 256
    → option_and_then (λ (r : RuleLabel). label_at labels r.number (slice_index bytes 0)) (slice_get rules i)
    ≡ option_map (label_for form) (names_by actions i bytes)
labels_are form labels [] [] literals h i bytes byte = refl
labels_are form labels (a ∷ actions) (r ∷ rules) literals h zero bytes byte =
    label_is form labels a.returns r.number bytes literals byte h.0
labels_are form labels (a ∷ actions) (r ∷ rules) literals h (suc i) bytes byte =
    labels_are form labels actions rules literals h.2 i bytes byte
labels_are form labels [] (r ∷ rules) literals h i bytes byte = absurd h
labels_are form labels (a ∷ actions) [] literals h i bytes byte = absurd h

begins_are : (form : AnswerForm) (labels : List (List ℕ)) (actions : List LexAction) (rules : List RuleLabel)
    → AreNumbers form labels actions rules → (i : ℕ)
    → option_and_then (λ (r : RuleLabel). r.begin) (slice_get rules i) ≡ condition_set actions i
begins_are form labels [] [] h i = refl
begins_are form labels (a ∷ actions) (r ∷ rules) h zero = h.1
begins_are form labels (a ∷ actions) (r ∷ rules) h (suc i) = begins_are form labels actions rules h.2 i
begins_are form labels [] (r ∷ rules) h i = absurd h
begins_are form labels (a ∷ actions) [] h i = absurd h

-- an action that returns nothing and sets no condition
no_effect : (form : AnswerForm) (labels : List (List ℕ)) (begin set : Option ℕ) (r : Returned) (number first : ℕ)
    → is_no_effect begin r ≡ true → set ≡ begin → IsLabelOf form labels r number
    → (set ≡ None) × (label_at labels number first ≡ None)
no_effect form labels None set Nothing number first h same is = (same, ap (λ n. label_at labels n first) is)
no_effect form labels None set (Token name) number first h same is = absurd cc
no_effect form labels None set (Literal b) number first h same is = absurd cc
no_effect form labels None set FirstByte number first h same is = absurd cc
no_effect form labels (Some c) set r number first h same is = absurd cc

passed_are : (form : AnswerForm) (labels : List (List ℕ)) (actions : List LexAction) (rules : List RuleLabel)
    → AreNumbers form labels actions rules → (i : ℕ) → slice_get (map is_passed actions) i ≡ Some true
    → (option_and_then (λ (r : RuleLabel). r.begin) (slice_get rules i) ≡ None) × ((bytes : List ℕ)
    → option_and_then (λ (r : RuleLabel). label_at labels r.number (slice_index bytes 0)) (slice_get rules i) ≡ None)
passed_are form labels [] [] h i is = absurd cc
passed_are form labels (a ∷ actions) (r ∷ rules) h zero is = (
  (no_effect form labels a.begin r.begin a.returns r.number 0 (cc) h.1 h.0).0,
  λ bytes. (no_effect form labels a.begin r.begin a.returns r.number (slice_index bytes 0) (cc) h.1 h.0).1,
)
passed_are form labels (a ∷ actions) (r ∷ rules) h (suc i) is = passed_are form labels actions rules h.2 i is
passed_are form labels [] (r ∷ rules) h i is = absurd h
passed_are form labels (a ∷ actions) [] h i is = absurd h

-- so they are the labels of the actions
pub are_labels_of : (form : AnswerForm) (actions : List LexAction) (l : RuleLabels)
    → AreLiteralLabels form l.labels.items → AreNumbers form l.labels.items actions l.rules.items
    → AreLabelsOf form actions l
are_labels_of form actions l literals h = record {
  labels = labels_are form l.labels.items actions l.rules.items literals h;
  begins = begins_are form l.labels.items actions l.rules.items h;
  passed = passed_are form l.labels.items actions l.rules.items h;
}
