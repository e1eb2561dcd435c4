-- The lines of a text of which a part has come.
use Rattle.std.proofs.Common.{◌≡◌, ◌≢◌, ◌∙◌, ◌<◌, ℕ, List, [], ◌∷◌, ◌++◌, Option, Ok, Err, Result, ap, append_assoc}
use Rattle.std.proofs.Common.{append-nil, drop, get_or, if◌then◌else◌, length, refl, subst, suc, sym, take}
use Rattle.std.proofs.Common.{take-append-drop}
use Rattle.std.specs.Io.KnownBytes.{Appends, Consumes, IsAtEnd}
use Rattle.std.specs.Prelude.{IfErr, IfOk, IfSome}
use Rattle.std.proofs.KnownBytes.{Appends-nil, Appends-trans, Consumes-nil, Consumes-trans, Consumes-whole}
use Rattle.std.proofs.Math.Seq.{drop-cons}
use Rattle.std.proofs.lemmas.Bool.{ne_eqb}
use Rattle.ly_base.specs.Bytes.{newline}
use Rattle.ly_drive.proofs.SoFarLemmas.{all_given, left}
use Rattle.ly_drive.specs.Lines.{AreAnswered, AreFirstAnswered, AreLinesAnswered, AreLinesStopped, AreUnbroken}
use Rattle.ly_drive.specs.Lines.{IsAnsweredSoFar, IsStopped, IsUnbroken}
use Rattle.ly_drive.specs.Lines.{ended, in_first, lines_of, outcome_with}
use Rattle.ly_drive.specs.Private.Lines.{AreEnded, IsLineAnswered, IsLineStopped}
use Rattle.ly_drive.specs.declared.lines_outcome.LinesOutcome.{LinesOutcome}
use Rattle.ly_drive.specs.declared.lines_outcome.LinesOutcome.TheVariants.{AllTrees, SomeRefused}
use Rattle.ly_feed.specs.TableAnswer.{TableAnswer}
use Rattle.ly_feed.specs.declared.outcome.Outcome.{Outcome}
use Rattle.ly_feed.specs.declared.outcome.Outcome.TheVariants.{NoRule, Syntax, Tree}
use Rattle.ly_feed.specs.declared.text_fault.TextFault.{TextFault}
use Rattle.ly_feed.specs.declared.text_fault.TextFault.TheVariants.{FaultyTables, OutOfMemory, Read, TooLong, Write}
use Rattle.ly_print.specs.declared.answer_form.AnswerForm.{AnswerForm}
use Rattle.ly_tables.specs.TableSet.{TableSet}

-- what stands behind a byte of a piece
pub rest_of : (front bytes rest : List ℕ) (i : ℕ) → i < length bytes
    → ((front ++ take i bytes) ++ get_or bytes i 0 ∷ []) ++ (drop (suc i) bytes ++ rest) ≡ (front ++ bytes) ++ rest
rest_of front bytes rest i less =
    append_assoc (front ++ take i bytes) (get_or bytes i 0 ∷ []) (drop (suc i) bytes ++ rest)
    ∙ ap (λ l. (front ++ take i bytes) ++ (l ++ rest)) (sym (drop-cons bytes i 0 less))
    ∙ append_assoc front (take i bytes) (drop i bytes ++ rest)
    ∙ ap (λ l. front ++ l) (sym (append_assoc (take i bytes) (drop i bytes) rest)
    ∙ ap (λ l. l ++ rest) (take-append-drop i bytes)) ∙ sym (append_assoc front bytes rest)

-- a read of none where there is room for one
pub nothing_came : (before after : Option (List ℕ)) (n : ℕ) (buf : List ℕ) → n ≡ 0 → 0 < length buf
    → Consumes before after (take n buf) × (n ≡ 0 → 0 < length buf → IsAtEnd after)
    → Consumes before after [] × IsAtEnd after
nothing_came before after n buf is some read =
    (subst (λ k. Consumes before after (take k buf)) is read.0, read.1 is some)

-- bytes that a reader gave are a beginning of its text
pub unread_text : (given now : Option (List ℕ)) (bytes : List ℕ) → Consumes given now bytes
    → IfSome given (λ text. bytes ++ left now ≡ text)
unread_text given now bytes took = all_given given now now bytes [] took (Consumes-nil now)

unbroken_more : (bytes : List ℕ) (b : ℕ) → IsUnbroken bytes → b ≢ newline → IsUnbroken (bytes ++ b ∷ [])
unbroken_more [] b h other = (other, tt)
unbroken_more (c ∷ bytes) b h other = (h.0, unbroken_more bytes b h.1 other)

whole_more : (lines : List (List ℕ)) (line : List ℕ) → AreUnbroken lines → IsUnbroken line
    → AreUnbroken (lines ++ line ∷ [])
whole_more [] line h last = (last, tt)
whole_more (first ∷ lines) line h last = (h.0, whole_more lines line h.1 last)

ended_more : (lines : List (List ℕ)) (line : List ℕ)
    → ended (lines ++ line ∷ []) ≡ ended lines ++ (line ++ newline ∷ [])
ended_more [] line = refl
ended_more (first ∷ lines) line = ap (λ l. first ++ newline ∷ l) (ended_more lines line)
    ∙ sym (append_assoc first (newline ∷ ended lines) (line ++ newline ∷ []))

-- a byte that is no newline stands in the first line
in_line : (b : ℕ) (text : List ℕ) → b ≢ newline → lines_of (b ∷ text) ≡ in_first b (lines_of text)
in_line b text other = ap (λ x. if x then [] ∷ lines_of text else in_first b (lines_of text)) (ne_eqb b newline other)

-- a newline ends a line
line_ends : (line more : List ℕ) → IsUnbroken line → lines_of (line ++ newline ∷ more) ≡ line ∷ lines_of more
line_ends [] more h = refl
line_ends (b ∷ line) more h = in_line b (line ++ newline ∷ more) h.0 ∙ ap (in_first b) (line_ends line more h.1)

-- so does the end of the text, where the line isn't empty
last_line : (b : ℕ) (line : List ℕ) → IsUnbroken (b ∷ line) → lines_of (b ∷ line) ≡ (b ∷ line) ∷ []
last_line b [] h = in_line b [] h.0
last_line b (c ∷ line) h = in_line b (c ∷ line) h.0 ∙ ap (in_first b) (last_line c line h.1)

last_of : (line : List ℕ) → IsUnbroken line → line ≢ [] → lines_of line ≡ line ∷ []
last_of [] h some = absurd (some refl)
last_of (b ∷ line) h some = last_line b line h

-- lines that have ended are the first ones, whatever comes
lines_behind : (lines : List (List ℕ)) (more : List ℕ) → AreUnbroken lines
    → lines_of (ended lines ++ more) ≡ lines ++ lines_of more
lines_behind [] more h = refl
lines_behind (line ∷ lines) more h = ap lines_of (append_assoc line (newline ∷ ended lines) more)
    ∙ line_ends line (ended lines ++ more) h.0 ∙ ap (λ l. line ∷ l) (lines_behind lines more h.1)

refused_stays : (o : Outcome) → outcome_with o SomeRefused ≡ SomeRefused
refused_stays Tree = refl
refused_stays (Syntax token byte length expected) = refl
refused_stays (NoRule byte) = refl

-- it is all one which of two lines comes first
with_both : (o p : Outcome) (all : LinesOutcome)
    → outcome_with p (outcome_with o all) ≡ outcome_with o (outcome_with p all)
with_both o Tree all = refl
with_both o (Syntax token byte length expected) all = sym (refused_stays o)
with_both o (NoRule byte) all = sym (refused_stays o)

module _ (form : AnswerForm) (s : TableSet) where
  -- one line more is answered
  answered_more : (lines : List (List ℕ)) (answer : List ℕ) (all : LinesOutcome) (line : List ℕ) (o : Outcome)
      (own : List ℕ) → AreAnswered form s lines answer all → TableAnswer form s line o own
      → AreAnswered form s (lines ++ line ∷ []) (answer ++ own) (outcome_with o all)
  answered_more [] answer all line o own h told = (
    o,
    own,
    [],
    AllTrees,
    told,
    (refl, refl),
    ap (λ l. l ++ own) h.0 ∙ sym (append-nil own),
    ap (outcome_with o) h.1,
  )
  answered_more (first ∷ lines) answer all line o own h told = (
    h.0,
    h.1,
    h.2 ++ own,
    outcome_with o h.3,
    h.4,
    answered_more lines h.2 h.3 line o own h.5 told,
    ap (λ l. l ++ own) h.6 ∙ append_assoc h.1 h.2 own,
    ap (outcome_with o) h.7 ∙ with_both h.0 o h.3,
  )

  module _ (before : Option (List ℕ)) where
    -- nothing has come yet
    pub starts : (part : List ℕ) (all : LinesOutcome) → part ≡ [] → all ≡ AllTrees
        → IsAnsweredSoFar form s [] before before part all
    starts part all no_part trees = record {
      lines = [];
      answer = [];
      split = sym no_part;
      whole = tt;
      unbroken = subst IsUnbroken (sym no_part) tt;
      answered = (refl, trees);
      written = Appends-nil before;
    }

    module _ (bytes : List ℕ) (now : Option (List ℕ)) (part : List ℕ) (all : LinesOutcome)
        (h : IsAnsweredSoFar form s bytes before now part all) where
      first_of : (lines others : List (List ℕ)) → lines ≡ h.lines ++ others
          → AreFirstAnswered form s lines others h.answer
      first_of lines others split = record { first = h.lines; all = all; split = split; answered = h.answered }

      -- the lines of the whole text
      lines_on : (more : List ℕ) → lines_of (bytes ++ more) ≡ h.lines ++ lines_of (part ++ more)
      lines_on more = ap lines_of (ap (λ l. l ++ more) h.split ∙ append_assoc (ended h.lines) part more)
          ∙ lines_behind h.lines (part ++ more) h.whole

      all_lines : lines_of bytes ≡ h.lines ++ lines_of part
      all_lines = ap lines_of h.split ∙ lines_behind h.lines part h.whole

      -- a byte of the same line
      pub part_grows : (b : ℕ) (grown : List ℕ) → b ≢ newline → grown ≡ part ++ b ∷ []
          → IsAnsweredSoFar form s (bytes ++ b ∷ []) before now grown all
      part_grows b grown other is = subst (λ l. IsAnsweredSoFar form s (bytes ++ b ∷ []) before now l all) (sym is)
          (record {
            lines = h.lines;
            answer = h.answer;
            split = ap (λ l. l ++ b ∷ []) h.split ∙ append_assoc (ended h.lines) part (b ∷ []);
            whole = h.whole;
            unbroken = unbroken_more part b h.unbroken other;
            answered = h.answered;
            written = h.written;
          })

      written_with : (after : Option (List ℕ)) (own : List ℕ) → Appends now after own
          → Appends before after (h.answer ++ own)
      written_with after own out = Appends-trans before now after h.answer own h.written out

      written_so : (after : Option (List ℕ)) → Appends now after [] → Appends before after h.answer
      written_so after out = subst (Appends before after) (append-nil h.answer) (written_with after [] out)

      -- the newline, where the line is answered
      pub line_answered : (after : Option (List ℕ)) (o : Outcome) (b : ℕ) (new : List ℕ) (new_all : LinesOutcome)
          → b ≡ newline → new ≡ [] → new_all ≡ outcome_with o all → IsLineAnswered form s part now after o
          → IsAnsweredSoFar form s (bytes ++ b ∷ []) before after new new_all
      line_answered after o b new new_all is none said a = record {
        lines = h.lines ++ part ∷ [];
        answer = h.answer ++ a.0;
        split = ap (λ x. bytes ++ x ∷ []) is ∙ ap (λ l. l ++ newline ∷ []) h.split
            ∙ append_assoc (ended h.lines) part (newline ∷ []) ∙ sym (ended_more h.lines part)
            ∙ sym (append-nil (ended (h.lines ++ part ∷ []))) ∙ ap (λ l. ended (h.lines ++ part ∷ []) ++ l) (sym none);
        whole = whole_more h.lines part h.whole h.unbroken;
        unbroken = subst IsUnbroken (sym none) tt;
        answered = subst (AreAnswered form s (h.lines ++ part ∷ []) (h.answer ++ a.0)) (sym said)
            (answered_more h.lines h.answer all part o a.0 h.answered a.1);
        written = written_with after a.0 a.2;
      }

      -- it isn't answered
      stopped_at : (after : Option (List ℕ)) (lines others : List (List ℕ)) (fault : TextFault)
          → lines ≡ h.lines ++ part ∷ others → IsLineStopped form s part now after fault
          → IsStopped form s lines before after fault
      stopped_at after lines others FaultyTables split x =
          (part, others, h.answer, first_of lines (part ∷ others) split, x.0, written_so after x.1)
      stopped_at after lines others TooLong split x = absurd x
      stopped_at after lines others Read split x = absurd x
      stopped_at after lines others (Write written) split x = (
        part,
        others,
        h.answer,
        x.0,
        x.1,
        first_of lines (part ∷ others) split,
        x.2,
        x.3.within,
        written_with after (take written x.1) x.3.went_out,
      )
      stopped_at after lines others OutOfMemory split x =
          (part ∷ others, h.answer, first_of lines (part ∷ others) split, written_so after x)

      -- at its newline
      pub line_stopped : (after : Option (List ℕ)) (fault : TextFault) (b : ℕ) → b ≡ newline
          → IsLineStopped form s part now after fault
          → (rest : List ℕ) → IsStopped form s (lines_of ((bytes ++ b ∷ []) ++ rest)) before after fault
      line_stopped after fault b is x rest = stopped_at after _ (lines_of rest) fault
          (ap lines_of (append_assoc bytes (b ∷ []) rest) ∙ ap (λ y. lines_of (bytes ++ y ∷ rest)) is
          ∙ lines_on (newline ∷ rest) ∙ ap (λ l. h.lines ++ l) (line_ends part rest h.unbroken)) x

      -- at the end of the text
      pub last_stopped : (after : Option (List ℕ)) (fault : TextFault) → part ≢ []
          → IsLineStopped form s part now after fault → IsStopped form s (lines_of bytes) before after fault
      last_stopped after fault some x = stopped_at after (lines_of bytes) [] fault
          (all_lines ∙ ap (λ l. h.lines ++ l) (last_of part h.unbroken some)) x

      -- nothing more was written
      pub stopped_behind : (text more : List ℕ) → text ≡ bytes ++ more → (others : List (List ℕ)) × (answer : List ℕ)
          × AreFirstAnswered form s (lines_of text) others answer × Appends before now answer
      stopped_behind text more is = (
        lines_of (part ++ more),
        h.answer,
        first_of (lines_of text) (lines_of (part ++ more)) (ap lines_of is ∙ lines_on more),
        h.written,
      )

      -- the text has ended behind a newline
      pub ended_whole : part ≡ [] → (answer : List ℕ) × AreAnswered form s (lines_of bytes) answer all
          × Appends before now answer
      ended_whole none = (
        h.answer,
        subst (λ l. AreAnswered form s l h.answer all)
            (sym (all_lines ∙ ap (λ l. h.lines ++ lines_of l) none ∙ append-nil h.lines)) h.answered,
        h.written,
      )

      -- or behind a line
      pub ended_in_line : (after : Option (List ℕ)) (o : Outcome) (new_all : LinesOutcome) → part ≢ []
          → new_all ≡ outcome_with o all → IsLineAnswered form s part now after o
          → (answer : List ℕ) × AreAnswered form s (lines_of bytes) answer new_all × Appends before after answer
      ended_in_line after o new_all some said a = (
        h.answer ++ a.0,
        subst (λ x. AreAnswered form s (lines_of bytes) (h.answer ++ a.0) x) (sym said)
            (subst (λ l. AreAnswered form s l (h.answer ++ a.0) (outcome_with o all))
            (sym (all_lines ∙ ap (λ l. h.lines ++ l) (last_of part h.unbroken some)))
            (answered_more h.lines h.answer all part o a.0 h.answered a.1)),
        written_with after a.0 a.2,
      )

  -- the reader is at its end
  pub all_ended : (given mid end before now : Option (List ℕ)) (bytes : List ℕ) (r : Result LinesOutcome TextFault)
      → Consumes given mid bytes → Consumes mid end [] → IsAtEnd end → AreEnded form s bytes before now r
      → IfOk r (AreLinesAnswered form s given before now) × IfErr r (AreLinesStopped form s given before now)
  all_ended given mid end before now bytes r took none over told =
      let all = subst (Consumes given end) (append-nil bytes) (Consumes-trans given mid end bytes [] took none) in
      by r told (Consumes-whole given end bytes (λ text. bytes ≡ text) all over refl)
    where
      by : (r : Result LinesOutcome TextFault) → AreEnded form s bytes before now r
          → IfSome given (λ text. bytes ≡ text)
          → IfOk r (AreLinesAnswered form s given before now) × IfErr r (AreLinesStopped form s given before now)
      by (Ok all) told is = ((bytes, told.0, is, told.1, told.2), tt)
      by (Err fault) told is = (tt, (bytes, is, told))

  -- nothing was written since lines were answered
  pub stopped_reading : (given mid before now : Option (List ℕ)) (bytes part : List ℕ) (all : LinesOutcome)
      → Consumes given mid bytes → IsAnsweredSoFar form s bytes before now part all
      → (text : List ℕ) × IfSome given (λ x. text ≡ x) × ((others : List (List ℕ)) × (answer : List ℕ)
      × AreFirstAnswered form s (lines_of text) others answer × Appends before now answer)
  stopped_reading given mid before now bytes part all took h = (
    bytes ++ left mid,
    unread_text given mid bytes took,
    stopped_behind before bytes now part all h (bytes ++ left mid) (left mid) refl,
  )
