-- The marks of a text's tokens.
use Rattle.std.proofs.Common.{◌≡◌, ◌∙◌, ◌<◌, ◌≤◌, ◌+◌, ◌-◌, ◌*◌, ℕ, List, [], ◌∷◌, ◌++◌, Bool, Option, None, Some}
use Rattle.std.proofs.Common.{ap, append-nil, append_assoc, arith, drop, drop-drop, false, get_or, inl, inr, length}
use Rattle.std.proofs.Common.{length-append, length-drop, refl, subst, sym, take, true}
use Rattle.std.proofs.lemmas.Bool.{cases_lt}
use Rattle.std.proofs.lemmas.Bool.Decides.{nat_tests}
use Rattle.std.proofs.lemmas.List.{drop_all, drop_more}
use Rattle.std.specs.Prelude.{if◌then◌else◌, nat_eq, nat_le, option_and_then, slice_get}
use Rattle.ly_base.specs.Lexed.{LexedTo, Place, Token, moved, place_after, start_of, token_if}
use Rattle.ly_base.specs.declared.lexeme.Lexeme.{Lexeme}
use Rattle.ly_listing.specs.Labels.{begin_by, label_at, labelled_lines, labelling, place_at}
use Rattle.ly_listing.specs.Listings.{ArePassed}
use Rattle.ly_listing.specs.Private.Marks.{AreMarked, AreMarks, AreWithin, IsMarkedTo, IsNotedIf, SayToken}
use Rattle.ly_listing.specs.Private.Marks.{behind_token, from_token, gap_of, is_wide, label_of, marked_rest}
use Rattle.ly_listing.specs.Private.Marks.{marked_token, marked_tokens, place_of, taken_of}
use Rattle.ly_listing.specs.Private.SoFar.{SoFar}
use Rattle.ly_listing.specs.declared.marks.Mark.{Mark}
use Rattle.ly_listing.specs.declared.rule_labels.RuleLabels.{RuleLabels}
use Rattle.ly_listing.proofs.RoomLemmas.{lines_append}
use Rattle.ly_listing.proofs.TokenLemmas.{one_more, passes_tokens}
use Rattle.ly_print.specs.declared.answer_form.AnswerForm.{AnswerForm}
use Rattle.ly_scan.proofs.LexingLemmas.{taken_within}
use Rattle.ly_scan.specs.Lexer.{IsLexemeAt, Scanner}
use Rattle.ly_scan.specs.Pieces.{PassesOver}

-- marks, and more behind them
within_more : (xs ys : List Mark) (rest : List ℕ) → AreWithin xs rest → AreWithin ys (marked_rest xs rest)
    → AreWithin (xs ++ ys) rest
within_more [] ys rest h k = k
within_more (x ∷ xs) ys rest h k = (h.0, within_more xs ys (behind_token x rest) h.1 k)

rest_more : (xs ys : List Mark) (rest : List ℕ) → marked_rest (xs ++ ys) rest ≡ marked_rest ys (marked_rest xs rest)
rest_more [] ys rest = refl
rest_more (x ∷ xs) ys rest = rest_more xs ys (behind_token x rest)

tokens_more : (labels : List (List ℕ)) (count : ℕ) (xs ys : List Mark) (rest : List ℕ)
    → marked_tokens labels count (xs ++ ys) rest
    ≡ marked_tokens labels count xs rest ++ marked_tokens labels count ys (marked_rest xs rest)
tokens_more labels count [] ys rest = refl
tokens_more labels count (x ∷ xs) ys rest =
    ap (λ z. marked_token labels count x rest ++ z) (tokens_more labels count xs ys (behind_token x rest))
    ∙ sym (append_assoc (marked_token labels count x rest) (marked_tokens labels count xs (behind_token x rest))
    (marked_tokens labels count ys (marked_rest xs (behind_token x rest))))

-- what stands from the token of a mark on, and behind it
from_is : (m : Mark) (gap : ℕ) (rest : List ℕ) → gap_of m ≡ gap → from_token m rest ≡ drop gap rest
from_is m gap rest g = ap (λ n. drop n rest) g

behind_is : (m : Mark) (gap taken : ℕ) (rest : List ℕ) → gap_of m ≡ gap → taken_of m ≡ taken
    → behind_token m rest ≡ drop (gap + taken) rest
behind_is m gap taken rest g t = ap (λ n. drop n (from_token m rest)) t ∙ ap (drop taken) (from_is m gap rest g)
    ∙ drop-drop taken gap rest

-- a mark of a token
says_one : (m : Mark) (gap place taken : ℕ) (labels : List (List ℕ)) (rest : List ℕ) → gap_of m ≡ gap
    → taken_of m ≡ taken → label_of labels m ≡ slice_get labels place → gap + taken ≤ length rest
    → SayToken (m ∷ []) gap place taken labels rest
says_one m gap place taken labels rest g t l within = record {
  within = (omega (arith, g, t, within), tt);
  behind = behind_is m gap taken rest g t;
  tokens = λ count. append-nil (marked_token labels count m rest)
      ∙ ap (λ o. token_if o (count - length (from_token m rest)) (take (taken_of m) (from_token m rest))) l
      ∙ ap (λ n. token_if (slice_get labels place) (count - length (from_token m rest)) (take n (from_token m rest))) t
      ∙ ap (λ xs. token_if (slice_get labels place) (count - length xs) (take taken xs)) (from_is m gap rest g);
}

-- one of bytes that are passed over, and then one of a token
says_two : (m n : Mark) (gap place taken : ℕ) (labels : List (List ℕ)) (rest : List ℕ) → gap_of m ≡ 0
    → taken_of m ≡ gap → label_of labels m ≡ None → gap_of n ≡ 0 → taken_of n ≡ taken
    → label_of labels n ≡ slice_get labels place → gap + taken ≤ length rest
    → SayToken (m ∷ n ∷ []) gap place taken labels rest
says_two m n gap place taken labels rest mg mt ml ng nt nl within =
    let none : 0 + gap ≡ gap = omega arith in
    let there : behind_token m rest ≡ drop gap rest = behind_is m 0 gap rest mg mt ∙ ap (λ n. drop n rest) none in
    let no_gap : 0 + taken ≡ taken = omega arith in
    let left : length (behind_token m rest) ≡ length rest - gap = ap length there ∙ length-drop gap rest in
    let one = says_one n 0 place taken labels (behind_token m rest) ng nt nl (omega (arith, left, within)) in record {
      within = (omega (arith, mg, mt, within), one.within);
      behind = one.behind ∙ ap (λ n. drop n (behind_token m rest)) no_gap ∙ ap (drop taken) there
          ∙ drop-drop taken gap rest;
      tokens = λ count. ap (λ o. token_if o (count - length (from_token m rest))
          (take (taken_of m) (from_token m rest)) ++ marked_tokens labels count (n ∷ []) (behind_token m rest)) ml
          ∙ one.tokens count
          ∙ ap (λ xs. token_if (slice_get labels place) (count - length xs) (take taken xs)) there;
    }

-- the label of a mark by its place
label_is : (labels : List (List ℕ)) (m : Mark) (place : ℕ) → place_of m ≡ place → place < 32767
    → label_of labels m ≡ slice_get labels place
label_is labels m place is lt =
    let other : nat_eq place 32767 ≡ false = grind (arith, nat_tests, lt) in
    ap (λ p. if nat_eq p 32767 then None else slice_get labels p) is
    ∙ ap (λ b. if b then None else slice_get labels place) other

pub says_short : (m : Mark) (labels : List (List ℕ)) (rest : List ℕ) → m.label < 32767
    → m.gap + m.taken ≤ length rest → SayToken (m ∷ []) m.gap m.label m.taken labels rest
says_short m labels rest lt within =
    let short : is_wide m ≡ false = grind (arith, nat_tests, lt) in
    says_one m m.gap m.label m.taken labels rest (ap (λ b. if b then 0 else m.gap) short)
    (ap (λ b. if b then m.gap * 256 + m.taken else m.taken) short)
    (label_is labels m m.label (ap (λ b. if b then m.label - 32768 else m.label) short) lt) within

-- wide marks
wide_is : (m : Mark) (place : ℕ) → m.label ≡ 32768 + place → is_wide m ≡ true
wide_is m place e = grind (arith, nat_tests, e)

wide_place : (m : Mark) (place : ℕ) → m.label ≡ 32768 + place → place_of m ≡ place
wide_place m place e = ap (λ b. if b then m.label - 32768 else m.label) (wide_is m place e) ∙ omega (arith, e)

no_label : (labels : List (List ℕ)) (m : Mark) → m.label ≡ 65535 → label_of labels m ≡ None
no_label labels m e =
    let is : m.label ≡ 32768 + 32767 = omega (arith, e) in
    ap (λ p. if nat_eq p 32767 then None else slice_get labels p) (wide_place m 32767 is)

pub says_wide : (m n : Mark) (gap place taken : ℕ) (labels : List (List ℕ)) (rest : List ℕ) → m.label ≡ 65535
    → m.gap * 256 + m.taken ≡ gap → n.label ≡ 32768 + place → n.gap * 256 + n.taken ≡ taken → place < 32767
    → gap + taken ≤ length rest → SayToken (m ∷ n ∷ []) gap place taken labels rest
says_wide m n gap place taken labels rest ml mb nl nb lt within =
    let m_wide : is_wide m ≡ true = wide_is m 32767 (omega (arith, ml)) in
    let n_wide : is_wide n ≡ true = wide_is n place nl in
    says_two m n gap place taken labels rest (ap (λ b. if b then 0 else m.gap) m_wide)
    (ap (λ b. if b then m.gap * 256 + m.taken else m.taken) m_wide ∙ mb) (no_label labels m ml)
    (ap (λ b. if b then 0 else n.gap) n_wide) (ap (λ b. if b then n.gap * 256 + n.taken else n.taken) n_wide ∙ nb)
    (label_is labels n place (wide_place n place nl) lt) within

-- what is left of a text
left_of : (text : List ℕ) (left : ℕ) → left ≤ length text → length (drop (length text - left) text) ≡ left
left_of text left fewer = length-drop (length text - left) text ∙ omega (arith, fewer)

dropped_on : (text : List ℕ) (old n : ℕ) → old ≤ length text → n ≤ old
    → drop n (drop (length text - old) text) ≡ drop (length text - (old - n)) text
dropped_on text old n fewer within = drop-drop n (length text - old) text
    ∙ ap (λ k. drop k text) (omega (arith, fewer, within))

-- A token that is noted behind marks: they stand in the text, and it stands behind theirs.
record GoOn (labels : List (List ℕ)) (old new : List Mark) (left_new left taken : ℕ) (o : Option ℕ) (text : List ℕ)
    : Type 0 where
  are : AreMarks new left_new text
  tokens : marked_tokens labels (length text) new text ≡ marked_tokens labels (length text) old text
      ++ token_if (option_and_then (slice_get labels) o) (length text - left)
      (take taken (drop (length text - left) text))

go_on : (labels : List (List ℕ)) (old new : List Mark) (left_old left_new left taken : ℕ) (o : Option ℕ)
    (text : List ℕ) → AreMarks old left_old text → left ≤ left_old → taken ≤ left
    → IsNotedIf old left_old new left_new left o taken → GoOn labels old new left_new left taken o text
go_on labels old new left_old left_new left taken None text are behind within h = record {
  are = subst (λ ms. AreMarks ms left_new text) (sym h.0) (subst (λ n. AreMarks old n text) (sym h.1) are);
  tokens = ap (λ ms. marked_tokens labels (length text) ms text) h.0
      ∙ sym (append-nil (marked_tokens labels (length text) old text));
}
go_on labels old new left_old left_new left taken (Some place) text are behind within h =
    let more = h.0 in
    let fewer = are.fewer in
    let rest : marked_rest old text ≡ drop (length text - left_old) text = are.behind in
    let room : length (marked_rest old text) ≡ left_old = ap length rest ∙ left_of text left_old fewer in
    let say = h.3 labels (marked_rest old text) (omega (arith, room, behind, within)) in
    let gone : left_old - (left_old - left + taken) ≡ left_new = omega (arith, h.2, behind, within) in
    let back : left_old - (left_old - left) ≡ left = omega (arith, behind) in record {
      are = record {
        within = subst (λ ms. AreWithin ms text) (sym h.1) (within_more old more text are.within say.within);
        behind = ap (λ ms. marked_rest ms text) h.1 ∙ rest_more old more text ∙ say.behind
            ∙ ap (drop (left_old - left + taken)) rest
            ∙ dropped_on text left_old (left_old - left + taken) fewer (omega (arith, behind, within))
            ∙ ap (λ n. drop (length text - n) text) gone;
        fewer = omega (arith, h.2, behind, fewer);
      };
      tokens =
          let count = length text in
          let there : drop (left_old - left) (marked_rest old text) ≡ drop (count - left) text
          = ap (drop (left_old - left)) rest ∙ dropped_on text left_old (left_old - left) fewer (omega (arith, behind))
          ∙ ap (λ n. drop (count - n) text) back in
          ap (λ ms. marked_tokens labels count ms text) h.1 ∙ tokens_more labels count old more text
          ∙ ap (λ z. marked_tokens labels count old text ++ z) (say.tokens count
          ∙ ap (λ xs. token_if (slice_get labels place) (count - length xs) (take taken xs)) there
          ∙ ap (λ n. token_if (slice_get labels place) (count - n) (take taken (drop (count - left) text)))
          (left_of text left (omega (arith, behind, fewer))));
    }

-- what is left of a text behind lexemes
led_rest : (Is : Place → Lexeme → Type 0) (next : ℕ → Option ℕ) (p q : Place) (ts : List Lexeme)
    → LexedTo Is next p ts q → (n : ℕ) × (q.rest ≡ drop n p.rest)
led_rest Is next p q [] h = (0, ap (λ (x : Place). x.rest) h)
led_rest Is next p q (t ∷ ts) h =
    let r = led_rest Is next (place_after next p t) q ts h.1 in
    (t.taken + r.0, r.1 ∙ drop-drop r.0 t.taken p.rest)

dropped_is : (n : ℕ) (xs ys : List ℕ) → ys ≡ drop n xs → ys ≡ drop (length xs - length ys) xs
dropped_is n xs ys e =
    let count : length ys ≡ length xs - n = ap length e ∙ length-drop n xs in elim (cases_lt n (length xs)) [
      | inl less ↦ e ∙ ap (λ k. drop k xs) (omega (arith, count, less))
      | inr more ↦
          let all : length xs - length ys ≡ length xs = omega (arith, count, more) in
          let none : length xs ≤ length xs - length ys = omega (arith, all) in
          e ∙ drop_all n xs more ∙ sym (drop_all (length xs - length ys) xs none)
    ]

rest_left : (l : RuleLabels) (s : Scanner) (p q : Place) (told : List (Token (List ℕ))) → SoFar l s p q told
    → q.rest ≡ drop (length p.rest - length q.rest) p.rest
rest_left l s p q told f =
    let led = led_rest (IsLexemeAt s) (begin_by l) p q f.0 f.1 in dropped_is led.0 p.rest q.rest led.1

-- so many bytes are behind a place and left there as at the start
led_counted : (s : Scanner) (next : ℕ → Option ℕ) (p q : Place) (ts : List Lexeme)
    → LexedTo (IsLexemeAt s) next p ts q → q.at + length q.rest ≡ p.at + length p.rest
led_counted s next p q [] h = ap (λ (x : Place). x.at + length x.rest) h
led_counted s next p q (t ∷ ts) h =
    let is = h.0 in
    let taken = taken_within (s.cut t.rule.0) t.matched t.taken is.0.some_byte is.1 in
    let matched : t.matched ≤ length p.rest = is.0.within in
    omega (
      arith,
      led_counted s next (place_after next p t) q ts h.1,
      length-drop t.taken p.rest,
      taken.1,
      matched,
    )

pub counted_there : (l : RuleLabels) (s : Scanner) (text : List ℕ) (q : Place) (told : List (Token (List ℕ)))
    → SoFar l s (start_of text) q told → q.at + length q.rest ≡ length text
counted_there l s text q told f = omega (arith, led_counted s (begin_by l) (start_of text) q f.0 f.1)

-- the marks up to a place, and then that of the token there
pub marked_next : (l : RuleLabels) (s : Scanner) (text : List ℕ) (here next : Place) (old new : List Mark)
    (left_old left_new taken : ℕ) (o : Option ℕ) (token : List (Token (List ℕ)))
    → AreMarked l s text here old left_old → length here.rest ≤ left_old → taken ≤ length here.rest
    → IsNotedIf old left_old new left_new (length here.rest) o taken
    → token_if (option_and_then (slice_get l.labels.items) o) here.at (take taken here.rest) ≡ token
    → SoFar l s (start_of text) next (marked_tokens l.labels.items (length text) old text ++ token)
    → AreMarked l s text next new left_new
marked_next l s text here next old new left_old left_new taken o token are behind within noted is on =
    let labels = l.labels.items in
    let told = marked_tokens labels (length text) old text in
    let go = go_on labels old new left_old left_new (length here.rest) taken o text are.are behind within noted in
    let rest = rest_left l s (start_of text) here told are.so_far in
    let at : length text - length here.rest ≡ here.at
    = omega (arith, counted_there l s text here told are.so_far) in record {
      so_far = subst (SoFar l s (start_of text) next) (sym (go.tokens ∙ ap (λ z. told ++ z)
          (ap (λ xs. token_if (option_and_then (slice_get labels) o) (length text - length here.rest) (take taken xs))
          (sym rest) ∙ ap (λ n. token_if (option_and_then (slice_get labels) o) n (take taken here.rest)) at ∙ is))) on;
      are = go.are;
    }

-- and how many bytes are left then
pub left_behind : (old new : List Mark) (left_old left_new left taken : ℕ) (o : Option ℕ) → left ≤ left_old
    → IsNotedIf old left_old new left_new left o taken → left - taken ≤ left_new
left_behind old new left_old left_new left taken None behind h = omega (arith, h.1, behind)
left_behind old new left_old left_new left taken (Some place) behind h = omega (arith, h.2)

-- the label of a number is that at its place
pub label_at_place : (labels : List (List ℕ)) (number first : ℕ)
    → label_at labels number first ≡ option_and_then (slice_get labels) (place_at number first)
label_at_place labels number first = by_test (nat_le number 1) (if nat_eq number 2 then first else number)
  where
    by_test : (b : Bool) (k : ℕ) → (if b then None else slice_get labels k)
        ≡ option_and_then (slice_get labels) (if b then None else Some k)
    by_test false k = refl
    by_test true k = refl

-- behind lexemes that are passed over the marks are those of all tokens too
pub marked_over : (l : RuleLabels) (s : Scanner) (passed : List Bool) (text : List ℕ) (q r : Place)
    (marks : List Mark) (left : ℕ) → ArePassed passed (labelling l) (begin_by l)
    → AreMarked l s text q marks left → PassesOver s passed q r → AreMarked l s text r marks left
marked_over l s passed text q r marks left pass are over = record {
  so_far = passes_tokens l s passed (start_of text) q (marked_tokens l.labels.items (length text) marks text) pass
      are.so_far over;
  are = are.are;
}

-- so they are where none is noted
pub same_marks : (l : RuleLabels) (s : Scanner) (text : List ℕ) (q : Place) (old new : List Mark)
    (left_old left_new : ℕ) → new ≡ old → left_new ≡ left_old → AreMarked l s text q old left_old
    → AreMarked l s text q new left_new
same_marks l s text q old new left_old left_new same left are =
    subst (λ ms. AreMarked l s text q ms left_new) (sym same) (subst (AreMarked l s text q old) (sym left) are)

-- and behind a lexeme whose token is noted then
pub marked_on : (l : RuleLabels) (s : Scanner) (passed : List Bool) (text : List ℕ) (q here next : Place)
    (old new : List Mark) (left_old left_new : ℕ) (lexeme : Lexeme) (taken : ℕ) (begin o : Option ℕ)
    → ArePassed passed (labelling l) (begin_by l) → AreMarked l s text q old left_old
    → PassesOver s passed q here → length here.rest ≤ left_old → IsLexemeAt s here lexeme → lexeme.taken ≡ taken
    → taken ≤ length here.rest → begin ≡ begin_by l lexeme.rule.0 → next ≡ moved here taken begin
    → IsNotedIf old left_old new left_new (length here.rest) o taken
    → option_and_then (slice_get l.labels.items) o ≡ labelling l lexeme.rule.0 (take taken here.rest)
    → AreMarked l s text next new left_new
marked_on l s passed text q here next old new left_old left_new lexeme taken begin o pass are over behind at is within
    set moves noted says =
    let there = marked_over l s passed text q here old left_old pass are over in
    let bytes = take taken here.rest in
    let token = token_if (labelling l lexeme.rule.0 bytes) here.at bytes in
    let told = marked_tokens l.labels.items (length text) old text in
    marked_next l s text here next old new left_old left_new taken o token there behind within noted
    (ap (λ x. token_if x here.at bytes) says)
    (one_more l s (start_of text) here next lexeme begin bytes told (told ++ token) at set
    (moves ∙ ap (λ n. moved here n begin) (sym is)) (ap (λ n. take n here.rest) (sym is)) refl there.so_far)

-- no bytes have a mark
pub none_marked : (l : RuleLabels) (s : Scanner) (text : List ℕ) (q : Place) (marks : List Mark) (left : ℕ)
    → q ≡ start_of text → marks ≡ [] → left ≡ length text → AreMarked l s text q marks left
none_marked l s text q marks left at none all =
    let zero_left : length text - left ≡ 0 = omega (arith, all) in record {
      so_far = ([], at, ap (λ ms. marked_tokens l.labels.items (length text) ms text) none);
      are = record {
        within = subst (λ ms. AreWithin ms text) (sym none) tt;
        behind = ap (λ ms. marked_rest ms text) none ∙ ap (λ n. drop n text) (sym zero_left);
        fewer = omega (arith, all);
      };
    }

-- the marks are those of all tokens up to a place
pub marked_to : (l : RuleLabels) (s : Scanner) (text : List ℕ) (p q : Place) (old new : List Mark) (left : ℕ)
    → q ≡ p → new ≡ old → AreMarked l s text p old left → IsMarkedTo l s text q new
marked_to l s text p q old new left at same are =
    subst (λ x. IsMarkedTo l s text x new) (sym at)
    (subst (IsMarkedTo l s text p) (sym same) (record { so_far = are.so_far; within = are.are.within }))

-- What is written of the next mark, and what is left then.
pub record Step (form : AnswerForm) (text : List ℕ) (labels : List (List ℕ)) (marks : List Mark) (i : ℕ) (m : Mark)
    (at : ℕ) (rest next token : List ℕ) : Type 0 where
  pub line : (told : List ℕ) → (told ++ labelled_lines form text (token_if (label_of labels m) at token))
      ++ labelled_lines form text (marked_tokens labels (length text) (drop (i + 1) marks) next)
      ≡ told ++ labelled_lines form text (marked_tokens labels (length text) (drop i marks) rest)
  pub grows : (told : List ℕ) → length (told ++ labelled_lines form text (token_if (label_of labels m) at token))
      ≡ length told + length (labelled_lines form text (token_if (label_of labels m) at token))
  pub within : AreWithin (drop (i + 1) marks) next

pub step : (form : AnswerForm) (text : List ℕ) (labels : List (List ℕ)) (marks : List Mark) (i : ℕ) (d : Mark)
    (at : ℕ) (rest there next token : List ℕ) (gap taken : ℕ) → i < length marks → gap ≡ gap_of (get_or marks i d)
    → there ≡ drop gap rest → taken ≡ taken_of (get_or marks i d) → at ≡ length text - length there
    → token ≡ take taken there → next ≡ drop taken there → AreWithin (drop i marks) rest
    → Step form text labels marks i (get_or marks i d) at rest next token
step form text labels marks i d at rest there next token gap taken lt is_gap is_there is_taken is_at is_token is_next
    within =
    let m = get_or marks i d in
    let count = length text in
    let one : drop i marks ≡ m ∷ drop (i + 1) marks = drop_more marks i d lt in
    let from : there ≡ from_token m rest = is_there ∙ ap (λ n. drop n rest) is_gap in
    let behind : next ≡ behind_token m rest
    = is_next ∙ ap (λ n. drop n there) is_taken ∙ ap (drop (taken_of m)) from in
    let here : token ≡ take (taken_of m) (from_token m rest)
    = is_token ∙ ap (λ n. take n there) is_taken ∙ ap (take (taken_of m)) from in
    let place : at ≡ count - length (from_token m rest) = is_at ∙ ap (λ xs. count - length xs) from in
    let others = marked_tokens labels count (drop (i + 1) marks) next in
    let token_at = token_if (label_of labels m) at token in record {
      line = λ told. append_assoc told (labelled_lines form text token_at) (labelled_lines form text others)
          ∙ ap (λ z. told ++ z) (sym (ap (λ ms. labelled_lines form text (marked_tokens labels count ms rest)) one
          ∙ lines_append form text (marked_token labels count m rest)
          (marked_tokens labels count (drop (i + 1) marks) (behind_token m rest))
          ∙ ap (λ t. labelled_lines form text (token_if (label_of labels m) (count - length (from_token m rest)) t)
          ++ labelled_lines form text (marked_tokens labels count (drop (i + 1) marks) (behind_token m rest)))
          (sym here)
          ∙ ap (λ n. labelled_lines form text (token_if (label_of labels m) n token)
          ++ labelled_lines form text (marked_tokens labels count (drop (i + 1) marks) (behind_token m rest)))
          (sym place)
          ∙ ap (λ n. labelled_lines form text token_at
          ++ labelled_lines form text (marked_tokens labels count (drop (i + 1) marks) n)) (sym behind)));
      grows = λ told. length-append told (labelled_lines form text token_at);
      within = subst (AreWithin (drop (i + 1) marks)) (sym behind) (subst (λ ms. AreWithin ms rest) one within).1;
    }
