-- What is said of many texts, one behind another.
use Rattle.std.proofs.Common.{◌≡◌, ◌∙◌, ◌<◌, ◌≤◌, ◌+◌, ◌-◌, ◌++◌, ◌∷◌, ◌⊎◌, [], ℕ, suc, List, Result, Ok, Err, ap}
use Rattle.std.proofs.Common.{append-nil, append_assoc, arith, drop, drop-cons, get_or, inl, inr, length, length-append}
use Rattle.std.proofs.Common.{refl, subst, sym, take}
use Rattle.std.specs.Global.{Global}
use Rattle.std.specs.Prelude.{OnOk}
use Rattle.std.specs.declared.vec.Vec.{Vec}
use Rattle.std.proofs.lemmas.Grind.{flat_map-append}
use Rattle.std.proofs.lemmas.List.{drop_all, length-map, take_all}
use Rattle.ly_drive.specs.Answering.{IsDriven}
use Rattle.ly_drive.specs.declared.fault.DriveFault.{DriveFault}
use Rattle.ly_drive.specs.declared.fault.DriveFault.TheVariants.{Tables, Text}
use Rattle.ly_feed.specs.SyntaxError.{verdict_of}
use Rattle.ly_feed.specs.TableAnswer.{IsVerdict}
use Rattle.ly_feed.specs.declared.syntax_error.SyntaxError.{SyntaxError}
use Rattle.ly_feed.specs.declared.syntax_error.SyntaxError.TheVariants as syntax_errors
use Rattle.ly_feed.specs.declared.text_fault.TextFault.TheVariants.{FaultyTables, OutOfMemory, Read, TooLong, Write}
use Rattle.ly_places.proofs.PlacingLemmas.{plain_syntax_error}
use Rattle.ly_places.specs.Parsing.{IsParsedAs}
use Rattle.ly_places.specs.Parts.{parts_of}
use Rattle.ly_places.specs.Placed.{Placed}
use Rattle.ly_places.specs.PlacedAnswer.{IsPlacedVerdict, PlacedVerdict}
use Rattle.ly_places.specs.declared.part.Part as tree
use Rattle.ly_places.specs.declared.parsing.Parsed.{Parsed}
use Rattle.ly_places.specs.declared.parsing.Parsed.TheVariants as parsed
use Rattle.ly_tables.specs.TableSet.{TableSet}
use Rattle.lytab_c.proofs.PartLemmas.{length_listed}
use Rattle.lytab_c.specs.Block.{IsFilled, IsPut}
use Rattle.lytab_c.specs.Many.{all_expected, all_parts, text_reports, texts_from, total_report, AreAllParsed, AreEnds}
use Rattle.lytab_c.specs.Many.{AreSaidAlone, IsSaidAlone, IsWrongEnd, ManyBlocks, TextAnswer}
use Rattle.lytab_c.specs.Parsing.{expected_in, listed}
use Rattle.lytab_c.specs.Private.Answers.{fault_answer, syntax_error_answer, tree_answer, AreAllAnswered, AreAllPut}
use Rattle.lytab_c.specs.Private.Answers.{AreAnswersBy, AreHeld, IsAnswerBy, IsTablesFault}
use Rattle.lytab_c.specs.Private.Putting.{IsFaultTold}
use Rattle.lytab_c.specs.Reports.{needing}
use Rattle.lytab_c.specs.Statuses.{status_number}
use Rattle.lytab_c.specs.declared.answer_list.AnswerList.{AnswerList}
use Rattle.lytab_c.specs.declared.report.Report.{Report}
use Rattle.lytab_c.specs.declared.status.Status.{Status}
use Rattle.lytab_c.specs.declared.status.Status.TheVariants.{Done, Fault, Memory, Misused, Refused, Short}
use Rattle.lytab_c.specs.declared.text_report.TextReport.{TextReport}

-- the report of a text whose parts and terminals end there
abbrev report_at : ℕ → ℕ → TextAnswer → TextReport
report_at parts expected x = record {
  status = status_number x.status;
  unused = 0;
  parts_end = parts;
  expected_end = expected;
  report = x.report;
}

-- one more report stands behind the others
reports_more : (p e : ℕ) (xs : List TextAnswer) (x : TextAnswer) → text_reports p e (xs ++ x ∷ [])
    ≡ text_reports p e xs ++ report_at (p + length (all_parts xs) + length x.blocks.parts)
    (e + length (all_expected xs) + length x.blocks.expected) x ∷ []
reports_more p e [] x = ap (λ r. r ∷ [])
    (let low : p + length x.blocks.parts ≡ p + 0 + length x.blocks.parts = omega arith in
    let high : e + length x.blocks.expected ≡ e + 0 + length x.blocks.expected = omega arith in
    λ i. report_at (low i) (high i) x)
reports_more p e (y ∷ xs) x =
    let parts = length y.blocks.parts in
    let terminals = length y.blocks.expected in
    let low : p + parts + length (all_parts xs) + length x.blocks.parts
    ≡ p + length (all_parts (y ∷ xs)) + length x.blocks.parts
    = omega (arith, length-append y.blocks.parts (all_parts xs)) in
    let high : e + terminals + length (all_expected xs) + length x.blocks.expected
    ≡ e + length (all_expected (y ∷ xs)) + length x.blocks.expected
    = omega (arith, length-append y.blocks.expected (all_expected xs)) in
    ap (λ rest. report_at (p + parts) (e + terminals) y ∷ rest) (reports_more (p + parts) (e + terminals) xs x
    ∙ λ i. text_reports (p + parts) (e + terminals) xs ++ report_at (low i) (high i) x ∷ [])

pub length_reports : (p e : ℕ) (xs : List TextAnswer) → length (text_reports p e xs) ≡ length xs
length_reports p e [] = refl
length_reports p e (x ∷ xs) =
    omega (arith, length_reports (p + length x.blocks.parts) (e + length x.blocks.expected) xs)

parts_more : (xs : List TextAnswer) (x : TextAnswer) → all_parts (xs ++ x ∷ []) ≡ all_parts xs ++ x.blocks.parts
parts_more xs x = flat_map-append (λ (y : TextAnswer). y.blocks.parts) xs (x ∷ [])
    ∙ ap (λ rest. all_parts xs ++ rest) (append-nil x.blocks.parts)

expected_more : (xs : List TextAnswer) (x : TextAnswer)
    → all_expected (xs ++ x ∷ []) ≡ all_expected xs ++ x.blocks.expected
expected_more xs x = flat_map-append (λ (y : TextAnswer). y.blocks.expected) xs (x ∷ [])
    ∙ ap (λ rest. all_expected xs ++ rest) (append-nil x.blocks.expected)

-- what is said of one more text is held: its parts and terminals are put behind the others, and then its report
pub held_more : {A E : Type 0} (r : Result A E) (xs : List TextAnswer) (x : TextAnswer) (old mid new : AnswerList)
    (report : Report) → AreHeld xs old → mid.texts ≡ old.texts → mid.parts.items ≡ old.parts.items ++ x.blocks.parts
    → mid.expected.items ≡ old.expected.items ++ x.blocks.expected → new.parts ≡ mid.parts
    → new.expected ≡ mid.expected → report ≡ x.report
    → OnOk r (new.texts.items ≡ mid.texts.items ++ (record {
      status = status_number x.status;
      unused = 0;
      parts_end = length mid.parts.items;
      expected_end = length mid.expected.items;
      report = report;
    }) ∷ []) → OnOk r (AreHeld (xs ++ x ∷ []) new)
held_more (Err e) xs x old mid new report held same parts expected own_parts own_expected told texts = tt
held_more (Ok a) xs x old mid new report held same parts expected own_parts own_expected told texts =
    let all = parts ∙ ap (λ ps. ps ++ x.blocks.parts) held.parts in
    let wanted = expected ∙ ap (λ ts. ts ++ x.blocks.expected) held.expected in
    let low : length mid.parts.items ≡ 0 + length (all_parts xs) + length x.blocks.parts
    = omega (arith, ap length all, length-append (all_parts xs) x.blocks.parts) in
    let high : length mid.expected.items ≡ 0 + length (all_expected xs) + length x.blocks.expected
    = omega (arith, ap length wanted, length-append (all_expected xs) x.blocks.expected) in
    let front = ap (λ v. v.items) same ∙ held.texts in
    record {
      texts = texts ∙ ((λ i. front i ++ (record {
        status = status_number x.status;
        unused = 0;
        parts_end = low i;
        expected_end = high i;
        report = told i;
      }) ∷ []) ∙ sym (reports_more 0 0 xs x));
      parts = ap (λ v. v.items) own_parts ∙ (all ∙ sym (parts_more xs x));
      expected = ap (λ v. v.items) own_expected ∙ (wanted ∙ sym (expected_more xs x));
    }

-- an answer that is held is one of the text
pub with_answer : {A E : Type 0} (r : Result A E) (s : TableSet) (text : List ℕ) (xs : List TextAnswer) (x : TextAnswer)
    (new : AnswerList) → IsAnswerBy s text x → OnOk r (AreHeld (xs ++ x ∷ []) new)
    → OnOk r ((y : TextAnswer) × IsAnswerBy s text y × AreHeld (xs ++ y ∷ []) new)
with_answer (Ok a) s text xs x new is held = (x, is, held)
with_answer (Err e) s text xs x new is held = tt

-- items that fill a block are there
put_all_of : {T : Type 0} (items : List T) → IsPut items items items
put_all_of items = (
  omega arith,
  sym (ap (λ rest. items ++ rest) (drop_all (length items) items (omega arith)) ∙ append-nil items),
)

filled_of : {T : Type 0} (items : List T) → IsFilled items items items
filled_of items = sym (
    ap (λ front. front ++ drop (length items) items) (take_all (length items) items (omega arith))
    ∙ (ap (λ rest. items ++ rest) (drop_all (length items) items (omega arith)) ∙ append-nil items))

-- what a set says of a text is what is said of it alone
pub said_alone : (tables text : List ℕ) (s : TableSet) (x : TextAnswer) → IsDriven tables s → IsAnswerBy s text x
    → IsSaidAlone tables text x
said_alone tables text s x driven (inl (t, placed, same)) = subst (IsSaidAlone tables text) (sym same) (record {
  old = (tree_answer (parts_of t)).blocks;
  parts_room = refl;
  expected_room = refl;
  parsed = (t, (s, driven, placed), put_all_of (listed 0 (parts_of t)), refl, refl);
  of_text = tt;
  parts = sym (length_listed 0 (parts_of t));
  expected = refl;
})
said_alone tables text s x driven (inr (inl (syntax_error, said, same))) =
    subst (IsSaidAlone tables text) (sym same) (record {
      old = (syntax_error_answer syntax_error).blocks;
      parts_room = refl;
      expected_room = refl;
      parsed = (syntax_error, (s, driven, said), filled_of (expected_in syntax_error), refl, refl);
      of_text = tt;
      parts = needs_none syntax_error;
      expected = as_many syntax_error;
    })
  where
    needs_none : (syntax_error : SyntaxError) → (syntax_error_answer syntax_error).report.needed ≡ 0
    needs_none (syntax_errors.Refused number token expected) = refl
    needs_none (syntax_errors.NoRule byte) = refl

    as_many : (syntax_error : SyntaxError)
        → (syntax_error_answer syntax_error).report.expected ≡ length (expected_in syntax_error)
    as_many (syntax_errors.Refused number token expected) = sym (length-map expected.items (λ t. t.0))
    as_many (syntax_errors.NoRule byte) = refl
said_alone tables text s x driven (inr (inr (said, same))) = subst (IsSaidAlone tables text) (sym same) (record {
  old = fault_answer.blocks;
  parts_room = refl;
  expected_room = refl;
  parsed = (Text FaultyTables, (s, driven, said), (90, refl, refl), refl);
  of_text = tt;
  parts = refl;
  expected = refl;
})

pub all_said_alone : (tables : List ℕ) (s : TableSet) (texts : List (List ℕ)) (xs : List TextAnswer)
    → IsDriven tables s → AreAnswersBy s texts xs → AreSaidAlone tables texts xs
all_said_alone tables s [] [] driven said = tt
all_said_alone tables s [] (x ∷ xs) driven said = absurd said
all_said_alone tables s (text ∷ texts) [] driven said = absurd said
all_said_alone tables s (text ∷ texts) (x ∷ xs) driven said =
    (said_alone tables text s x driven said.0, all_said_alone tables s texts xs driven said.1)

-- there are as many answers as ends
pub as_many_answers : (s : TableSet) (start : ℕ) (texts ends : List ℕ) (xs : List TextAnswer)
    → AreAnswersBy s (texts_from start texts ends) xs → length xs ≡ length ends
as_many_answers s start texts [] [] said = refl
as_many_answers s start texts [] (x ∷ xs) said = absurd said
as_many_answers s start texts (e ∷ ends) [] said = absurd said
as_many_answers s start texts (e ∷ ends) (x ∷ xs) said = omega (arith, as_many_answers s e texts ends xs said.1)

-- what is found of a text: its parts, or what is wrong with it
pub found_parts : (s : TableSet) (text : List ℕ) (p : Parsed) (ps : Vec tree.Part Global) → p ≡ parsed.Tree ps
    → ((v : PlacedVerdict) × IsPlacedVerdict s text v × IsParsedAs text v p) → (t : Placed) × (ps.items ≡ parts_of t)
found_parts s text p ps same told =
    let is = subst (λ x. IsParsedAs text told.0 x) same told.2 in (is.0, is.2)

pub found_syntax_error : (s : TableSet) (text : List ℕ) (p : Parsed) (syntax_error : SyntaxError)
    → p ≡ parsed.Refused syntax_error
    → ((v : PlacedVerdict) × IsPlacedVerdict s text v × IsParsedAs text v p)
    → IsVerdict s text (verdict_of syntax_error)
found_syntax_error s text p syntax_error same told =
    plain_syntax_error s text told.0 syntax_error told.1 (subst (λ x. IsParsedAs text told.0 x) same told.2)

-- The answers so far, of texts whose ends go on from an index.
pub record AreAnsweredTo (s : TableSet) (texts ends : List ℕ) (start i : ℕ) (list : AnswerList) : Type 0 where
  pub xs : List TextAnswer
  pub held : AreHeld xs list
  pub rest : (ys : List TextAnswer) → AreAnswersBy s (texts_from start texts (drop i ends)) ys
      → AreAnswersBy s (texts_from 0 texts ends) (xs ++ ys)
  pub ahead : AreEnds start (length texts) (drop i ends)

pub none_answered : (s : TableSet) (texts ends : List ℕ) (list : AnswerList) → AreEnds 0 (length texts) ends
    → AreHeld [] list → AreAnsweredTo s texts ends 0 0 list
none_answered s texts ends list are held
    = record { xs = []; held = held; rest = λ ys said. said; ahead = are }

pub one_answered : (s : TableSet) (texts ends : List ℕ) (start i d : ℕ) (old new : AnswerList) → i + 1 ≤ length ends
    → (so_far : AreAnsweredTo s texts ends start i old)
    → ((x : TextAnswer) × IsAnswerBy s (take (get_or ends i d - start) (drop start texts)) x
    × AreHeld (so_far.xs ++ x ∷ []) new) → AreAnsweredTo s texts ends (get_or ends i d) (i + 1) new
one_answered s texts ends start i d old new inside so_far (x, said, held) =
    let split = drop-cons ends i d (omega (arith, inside)) in
    let next : suc i ≡ i + 1 = omega arith in
    let end = get_or ends i d in
    record {
      xs = so_far.xs ++ x ∷ [];
      held = held;
      rest = λ ys others. subst (AreAnswersBy s (texts_from 0 texts ends))
          (sym (append_assoc so_far.xs (x ∷ []) ys))
          (so_far.rest (x ∷ ys) (subst (λ es. AreAnswersBy s (texts_from start texts es) (x ∷ ys)) (sym split)
          (said, subst (λ k. AreAnswersBy s (texts_from end texts (drop k ends)) ys) (sym next) others)));
      ahead = subst (λ k. AreEnds end (length texts) (drop k ends)) next
          (subst (AreEnds start (length texts)) split so_far.ahead).1;
    }

pub all_answered : (s : TableSet) (texts ends : List ℕ) (start i : ℕ) (list : AnswerList) → length ends ≤ i
    → AreAnsweredTo s texts ends start i list
    → (xs : List TextAnswer) × AreAnswersBy s (texts_from 0 texts ends) xs × AreHeld xs list
all_answered s texts ends start i list over so_far = (
  so_far.xs,
  subst (AreAnswersBy s (texts_from 0 texts ends)) (append-nil so_far.xs)
      (so_far.rest [] (subst (λ es. AreAnswersBy s (texts_from start texts es) []) (sym (drop_all i ends over)) tt)),
  so_far.held,
)

-- how many parts and terminals there are is told
pub total_told : (xs : List TextAnswer) (list : AnswerList) (r : Report) (n m : ℕ) → AreHeld xs list → r ≡ needing n
    → n ≡ length list.parts.items → m ≡ length list.expected.items → record r { expected = m } ≡ total_report xs
total_told xs list r n m held same parts expected =
    let all : n ≡ length (all_parts xs) = parts ∙ ap length held.parts in
    let wanted : m ≡ length (all_expected xs) = expected ∙ ap length held.expected in
    (λ i. record (same i) { expected = m }) ∙ λ i. record (needing (all i)) { expected = wanted i }

-- a refused table file is told
pub refused_told : (tables texts ends : List ℕ) (old new : ManyBlocks) (report : Report) (status : Status)
    (fault : DriveFault) → IsTablesFault tables fault → IsFaultTold fault report status → new ≡ old
    → AreAllParsed tables texts ends old new report status
refused_told tables texts ends old new report Done fault is told same = absurd told
refused_told tables texts ends old new report Refused fault is told same = absurd told
refused_told tables texts ends old new report Fault (Tables f) is told same = (f, is.0, is.1, told, same)
refused_told tables texts ends old new report Fault (Text OutOfMemory) is told same =
    absurd (let off = told.1 in cc)
refused_told tables texts ends old new report Fault (Text FaultyTables) is told same = absurd is
refused_told tables texts ends old new report Fault (Text TooLong) is told same = absurd is
refused_told tables texts ends old new report Fault (Text Read) is told same = absurd is
refused_told tables texts ends old new report Fault (Text (Write written)) is told same = absurd is
refused_told tables texts ends old new report Memory fault is told same = (told.1, same)
refused_told tables texts ends old new report Misused fault is told same = absurd told
refused_told tables texts ends old new report Short fault is told same = absurd told

-- answers that are put into blocks are told
pub all_told : (tables texts ends : List ℕ) (old new : ManyBlocks) (report : Report) (status : Status)
    (list : AnswerList) → AreEnds 0 (length texts) ends → AreAllAnswered tables texts ends list
    → ((xs : List TextAnswer) → AreHeld xs list → AreAllPut xs old new report status)
    → AreAllParsed tables texts ends old new report status
all_told tables texts ends old new report Done list are said put =
    let xs = said.2.0 in
    let is = put xs said.2.2 in
    let alone = all_said_alone tables said.0 (texts_from 0 texts ends) xs said.1 said.2.1 in
    (are, said.0, said.1, xs, alone, is.0, is.1, is.2, is.3)
all_told tables texts ends old new report Refused list are said put = absurd (put said.2.0 said.2.2)
all_told tables texts ends old new report Fault list are said put = absurd (put said.2.0 said.2.2)
all_told tables texts ends old new report Memory list are said put = absurd (put said.2.0 said.2.2)
all_told tables texts ends old new report Misused list are said put = absurd (put said.2.0 said.2.2)
all_told tables texts ends old new report Short list are said put =
    let xs = said.2.0 in
    let is = put xs said.2.2 in
    let many = as_many_answers said.0 0 texts ends xs said.2.1 in (
      are,
      said.0,
      said.1,
      xs,
      all_said_alone tables said.0 (texts_from 0 texts ends) xs said.1 said.2.1,
      subst (λ n. (length old.told < n) ⊎ (length old.parts < length (all_parts xs))) many is.0,
      is.1,
      is.2,
    )

-- The first wrong end, if there is one, stands among those from an index on.
pub record IsWrongTo (start count i : ℕ) (ends : List ℕ) : Type 0 where
  pub wrong : (k : ℕ) → IsWrongEnd start count (drop i ends) k → IsWrongEnd 0 count ends (i + k)
  pub right : AreEnds start count (drop i ends) → AreEnds 0 count ends

pub next_right : (start count i d : ℕ) (ends : List ℕ) → i + 1 ≤ length ends → start ≤ get_or ends i d
    → get_or ends i d ≤ count → IsWrongTo start count i ends → IsWrongTo (get_or ends i d) count (i + 1) ends
next_right start count i d ends inside low high so_far =
    let split = drop-cons ends i d (omega (arith, inside)) in
    let next : suc i ≡ i + 1 = omega arith in
    let end = get_or ends i d in
    record {
      wrong = λ k is. subst (IsWrongEnd 0 count ends) (let same : i + suc k ≡ i + 1 + k = omega arith in same)
          (so_far.wrong (suc k) (subst (λ es. IsWrongEnd start count es (suc k)) (sym split)
          (inr ((low, high), k, refl, subst (λ n. IsWrongEnd end count (drop n ends) k) (sym next) is))));
      right = λ are. so_far.right (subst (AreEnds start count) (sym split)
          ((low, high), subst (λ n. AreEnds end count (drop n ends)) (sym next) are));
    }
