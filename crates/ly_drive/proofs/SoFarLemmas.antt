-- A text that a reader gives piece by piece.
use Rattle.std.proofs.Common.{◌≡◌, ◌∙◌, ◌<◌, ◌≤◌, ◌+◌, ◌-◌, ℕ, List, [], ◌++◌, Option, Some, None, Ok, Err, Result, ap}
use Rattle.std.proofs.Common.{append_assoc, arith, length, length-append, refl, subst, sym}
use Rattle.std.specs.Io.KnownBytes.{Appends, Consumes, IsAtEnd}
use Rattle.std.specs.Prelude.{◌^◌, false, IfErr, IfOk, IfSome}
use Rattle.std.proofs.KnownBytes.{Consumes-nil, Consumes-trans}
use Rattle.std.proofs.lemmas.List.{append-nil}
use Rattle.ly_drive.specs.Answering.{IsAnsweredBy, IsFaultyOn, IsOpenAfter, NeedsMoreInput, IsReadAsNeeded, IsTooLong}
use Rattle.ly_drive.specs.Private.Reading.{IsGiven, IsReadInto, IsReadSoFar}
use Rattle.ly_feed.proofs.OnwardLemmas.{from_start, onward_on, onward_with}
use Rattle.ly_feed.specs.Held.{Held, IsAnswerOf, IsOnward, IsRestOf, IsSettledBy, nothing_read, seen}
use Rattle.ly_feed.specs.Onward.{Onward, none_yet}
use Rattle.ly_feed.specs.ScanPart.{scan_part_of, scanner_in}
use Rattle.ly_feed.specs.TableAnswer.{IsVerdict, TableAnswer, begun, with_more}
use Rattle.ly_feed.specs.Verdict.{Verdict, faulty, written_in}
use Rattle.ly_feed.specs.Vocabularies.{vocabulary_of}
use Rattle.ly_feed.specs.declared.outcome.Outcome.{Outcome}
use Rattle.ly_feed.specs.declared.text_fault.TextFault.{TextFault}
use Rattle.ly_feed.specs.declared.text_fault.TextFault.TheVariants.{FaultyTables, OutOfMemory, Read, TooLong, Write}
use Rattle.ly_print.specs.declared.answer_form.AnswerForm.{AnswerForm}
use Rattle.ly_scan.specs.Pieces.{IsUndecided}
use Rattle.ly_tables.specs.TableSet.{TableSet, machine_of}

-- what a reader is known to give still; nothing where that isn't known
pub left : Option (List ℕ) → List ℕ
left None = []
left (Some bytes) = bytes

-- what was taken, a piece, and what is left are all that a reader gave
pub all_given : (given before after : Option (List ℕ)) (taken piece : List ℕ) → Consumes given before taken
    → Consumes before after piece → IfSome given (λ bytes. taken ++ (piece ++ left after) ≡ bytes)
unfolding left
all_given None before after taken piece a b = tt
all_given (Some g) None after taken piece a b = absurd a
all_given (Some g) (Some x) None taken piece a b = absurd b
all_given (Some g) (Some x) (Some y) taken piece a b = sym (a ∙ ap (λ l. taken ++ l) b)

-- at the end nothing is left
all_taken : (given before after : Option (List ℕ)) (taken : List ℕ) → Consumes given before taken
    → Consumes before after [] → IsAtEnd after → IfSome given (λ bytes. taken ++ [] ≡ bytes)
all_taken None before after taken a b end = tt
all_taken (Some g) None after taken a b end = absurd a
all_taken (Some g) (Some x) None taken a b end = absurd b
all_taken (Some g) (Some x) (Some y) taken a b end = sym (a ∙ ap (λ l. taken ++ l) (b ∙ end))

-- a text that is longer than its beginning
long_given : (given : Option (List ℕ)) (taken rest : List ℕ) (n : ℕ) → n ≤ length taken
    → IfSome given (λ bytes. taken ++ rest ≡ bytes) → IfSome given (λ bytes. n ≤ length bytes)
long_given None taken rest n low all = tt
long_given (Some g) taken rest n low all = omega (arith, low, sym (length-append taken rest) ∙ ap length all)

-- a read that didn't fail gave a piece
pub given_by : (most : ℕ) (f g : Held) (before after : Option (List ℕ)) (e : TextFault)
    → IsReadInto most f before after g (Err e) → (e ≡ Read → ⊥)
    → (piece : List ℕ) × IsGiven most before after piece
given_by most f g before after FaultyTables is not = (is.0, is.1)
given_by most f g before after TooLong is not = (is.0, is.1)
given_by most f g before after OutOfMemory is not = is
given_by most f g before after Read is not = absurd (not refl)
given_by most f g before after (Write written) is not = absurd is

-- where nothing is read yet the next match isn't decided
none_undecided : (s : TableSet) → IsUndecided (scanner_in (scan_part_of s)) (begun []).place
none_undecided s some = absurd (some refl)

-- nothing was read
pub nothing_needed : (most : ℕ) (s : TableSet) (given : Option (List ℕ)) → IsReadAsNeeded most s given given
nothing_needed most s given = ([], [], Consumes-nil given, (begun [], none_yet, none_undecided s), omega arith)

-- a fault of which something is said
pub if_fault : {A E : Type 0} (P : E → Type 0) (r : Result A E) → ((e : E) → P e) → IfErr r P
if_fault P (Ok x) h = tt
if_fault P (Err e) h = h e

module _ (form : AnswerForm) (s : TableSet) (given : Option (List ℕ)) where
  -- nothing has come yet
  pub begins : (f : Held) → f ≡ nothing_read form s → IsReadSoFar form s given given f
  begins f none = subst (IsReadSoFar form s given given) (sym none) (record {
    taken = [];
    consumed = Consumes-nil given;
    onward = none_yet;
    undecided = none_undecided s;
    says = λ more v. (from_start (scan_part_of s) (machine_of s) more v).0;
    counted = refl;
    countable = omega arith;
    set = refl;
    same_form = refl;
    goes_on = refl;
  })

  module _ (before after : Option (List ℕ)) (f : Held) (so_far : IsReadSoFar form s given before f) where
    -- what is decided of a piece more
    onward_by : (g : Held) (piece : List ℕ) → IsOnward f piece g
        → Onward false (scan_part_of s) (machine_of s) (begun (so_far.taken ++ piece)) g.progress
    onward_by g piece on =
        onward_on false (scan_part_of s) (machine_of s)
        (onward_with (scan_part_of s) (machine_of s) piece so_far.onward)
        (subst (λ x. Onward false (scan_part_of x) (machine_of x) (with_more f.progress piece) g.progress) so_far.set
        on.onward)

    -- a piece more
    pub goes_on : (g : Held) (piece : List ℕ) → Consumes before after piece → IsOnward f piece g
        → IsReadSoFar form s given after g
    goes_on g piece took on = record {
      taken = so_far.taken ++ piece;
      consumed = Consumes-trans given before after so_far.taken piece so_far.consumed took;
      onward = onward_by g piece on;
      undecided = subst (λ x. IsUndecided (scanner_in (scan_part_of x)) g.progress.place) so_far.set on.undecided;
      says = λ more v h. subst (λ text. IsVerdict s text v) (sym (append_assoc so_far.taken piece more))
          (so_far.says (piece ++ more) v ((on.same_rest more v).1 h));
      counted = omega (arith, on.counted, so_far.counted, length-append so_far.taken piece);
      countable = omega (arith, on.counted, on.countable);
      set = on.set ∙ so_far.set;
      same_form = on.form ∙ so_far.same_form;
      goes_on = on.goes_on;
    }

    -- no more was read than is asked for
    pub as_needed : (most room : ℕ) (piece : List ℕ) → room ≡ most → IsGiven room before after piece
        → IsReadAsNeeded most s given after
    as_needed most room piece same is = (
      so_far.taken,
      piece,
      Consumes-trans given before after so_far.taken piece so_far.consumed is.consumed,
      (f.progress, so_far.onward, so_far.undecided),
      omega (arith, is.few, same),
    )

    -- nor where the text has ended
    pub ended_as_needed : (most : ℕ) → Consumes before after [] → IsReadAsNeeded most s given after
    ended_as_needed most took = as_needed most most [] refl (record { consumed = took; few = omega arith })

    -- a read that failed was asked for
    pub asked_for : Consumes before after [] → NeedsMoreInput s given after
    asked_for took = (
      so_far.taken ++ [],
      Consumes-trans given before after so_far.taken [] so_far.consumed took,
      subst (IsOpenAfter s) (sym (append-nil so_far.taken)) (f.progress, so_far.onward, so_far.undecided),
    )

    -- fewer can come then
    pub fewer : (g : Held) (piece : List ℕ) → 0 < length piece → IsOnward f piece g
        → 2 ^ 64 - seen g < 2 ^ 64 - seen f
    fewer g piece some on = omega (arith, some, on.counted, on.countable, so_far.countable)

    -- a verdict is written by the feed's set, and in its form
    same_text : (v : Verdict) → written_in f.form (vocabulary_of f.set) v ≡ written_in form (vocabulary_of s) v
    same_text v = ap (λ x. written_in f.form (vocabulary_of x) v) so_far.set
        ∙ ap (λ x. written_in x (vocabulary_of s) v) so_far.same_form

    -- the text is answered by now
    pub settles : (o : Outcome) (answer piece : List ℕ) → Consumes before after piece → IsSettledBy f piece o answer
        → (text : List ℕ) × IfSome given (λ bytes. text ≡ bytes) × TableAnswer form s text o answer
    settles o answer piece took h = (
      so_far.taken ++ (piece ++ left after),
      all_given given before after so_far.taken piece so_far.consumed took,
      (
        h.0,
        so_far.says (piece ++ left after) h.0 (h.1 (left after)),
        h.2,
        h.4 ∙ same_text h.0,
      ),
    )

    -- the tables are at fault by now
    pub at_fault : (piece : List ℕ) → Consumes before after piece
        → ((more : List ℕ) → IsRestOf f (piece ++ more) faulty) → IsFaultyOn s given
    at_fault piece took h = (
      so_far.taken ++ (piece ++ left after),
      all_given given before after so_far.taken piece so_far.consumed took,
      so_far.says (piece ++ left after) faulty (h (left after)),
    )

    -- the text is too long
    pub too_long : (piece : List ℕ) → Consumes before after piece → 2 ^ 64 ≤ seen f + length piece → IsTooLong given
    too_long piece took h = long_given given (so_far.taken ++ piece) (left after) (2 ^ 64)
        (omega (arith, h, so_far.counted, length-append so_far.taken piece))
        (subst (λ x. IfSome given (λ bytes. x ≡ bytes)) (sym (append_assoc so_far.taken piece (left after)))
        (all_given given before after so_far.taken piece so_far.consumed took))

    -- it has ended
    pub ends : (v : Verdict) → Consumes before after [] → IsAtEnd after → IsRestOf f [] v
        → (text : List ℕ) × IfSome given (λ bytes. text ≡ bytes) × IsVerdict s text v
    ends v took end said = (
      so_far.taken ++ [],
      all_taken given before after so_far.taken so_far.consumed took end,
      so_far.says [] v said,
    )

    -- and this is its answer
    pub ended_so : (g : Held) (o : Outcome) (answer : List ℕ) → g ≡ f → Consumes before after [] → IsAtEnd after
        → IsAnswerOf g o answer
        → (text : List ℕ) × IfSome given (λ bytes. text ≡ bytes) × TableAnswer form s text o answer
    ended_so g o answer same took end a =
        let h = subst (λ x. IsAnswerOf x o answer) same a in
        let text = ends h.0 took end h.1 in (
          text.0,
          text.1,
          (h.0, text.2, h.2, h.3 ∙ same_text h.0),
        )

    -- where there is one
    pub answered : {E : Type 0} (g : Held) (old new : Option (List ℕ)) (r : Result Outcome E) → g ≡ f
        → Consumes before after [] → IsAtEnd after
        → IfOk r (λ o. (answer : List ℕ) × IsAnswerOf g o answer × Appends old new answer)
        → IfOk r (IsAnsweredBy form s given old new)
    answered g old new (Ok o) same took end told =
        let text = ended_so g o told.0 same took end told.1 in
        (text.0, told.0, text.1, text.2, told.2)
    answered g old new (Err e) same took end told = tt
