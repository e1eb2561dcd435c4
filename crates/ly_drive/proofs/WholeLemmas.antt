-- A line that is answered as a text of its own, by a feed to which it comes whole.
use Rattle.std.proofs.Common.{◌≡◌, ℕ, List, [], ◌++◌, Option, Some, Ok, Err, Result, append-nil, refl, subst, sym}
use Rattle.std.specs.Io.KnownBytes.{Appends}
use Rattle.std.specs.Prelude.{IfErr, IfOk}
use Rattle.std.proofs.KnownBytes.{Appends-nil}
use Rattle.ly_drive.proofs.SoFarLemmas.{at_fault, begins, ended_so, ends, goes_on, settles}
use Rattle.ly_drive.specs.Private.Lines.{IsLineAnswered, IsLineStopped}
use Rattle.ly_drive.specs.Private.Reading.{IsReadSoFar}
use Rattle.ly_feed.specs.Held.{Held, IsAnswerOf, IsOnward, IsRestOf, IsSettledBy, nothing_read}
use Rattle.ly_feed.specs.TableAnswer.{IsVerdict, TableAnswer}
use Rattle.ly_print.specs.Device.{WroteNothing}
use Rattle.ly_feed.specs.TextFault.{IsOfEnding, failed_write}
use Rattle.ly_feed.specs.Verdict.{faulty}
use Rattle.ly_feed.specs.declared.outcome.Outcome.{Outcome}
use Rattle.ly_feed.specs.declared.text_fault.TextFault.{TextFault}
use Rattle.ly_feed.specs.declared.text_fault.TextFault.TheVariants.{FaultyTables, OutOfMemory, Read, TooLong, Write}
use Rattle.ly_print.specs.TextWriter.{IsCutShort}
use Rattle.ly_print.specs.declared.answer_form.AnswerForm.{AnswerForm}
use Rattle.ly_tables.specs.TableSet.{TableSet}

module _ (form : AnswerForm) (s : TableSet) (line : List ℕ) where
  -- a feed is made, and the line comes to it
  module _ (f : Held) (begun : f ≡ nothing_read form s) where
    none : IsReadSoFar form s (Some line) (Some line) f
    none = begins form s (Some line) f begun

    -- the line is answered whatever comes
    pub settled_whole : (o : Outcome) (answer : List ℕ) → IsSettledBy f line o answer → TableAnswer form s line o answer
    settled_whole o answer h =
        let text = settles form s (Some line) (Some line) (Some []) f none o answer line (sym (append-nil line)) h in
        subst (λ t. TableAnswer form s t o answer) text.1 text.2

    -- the tables are at fault on it
    pub faulty_whole : ((more : List ℕ) → IsRestOf f (line ++ more) faulty) → IsVerdict s line faulty
    faulty_whole h =
        let text = at_fault form s (Some line) (Some line) (Some []) f none line (sym (append-nil line)) h in
        subst (λ t. IsVerdict s t faulty) text.1 text.2

    -- more is wanted
    pub onward_whole : (g : Held) → IsOnward f line g → IsReadSoFar form s (Some line) (Some []) g
    onward_whole g on = goes_on form s (Some line) (Some line) (Some []) f none g line (sym (append-nil line)) on

  -- all of it has come, and it ends
  module _ (f : Held) (so_far : IsReadSoFar form s (Some line) (Some []) f) where
    pub answered_whole : (old new : Option (List ℕ)) (r : Result Outcome TextFault)
        → IfOk r (λ o. (answer : List ℕ) × IsAnswerOf f o answer × Appends old new answer)
        → IfOk r (IsLineAnswered form s line old new)
    answered_whole old new (Ok o) told =
        let text = ended_so form s (Some line) (Some []) (Some []) f so_far f o told.0 refl refl refl told.1 in
        (told.0, subst (λ t. TableAnswer form s t o told.0) text.1 text.2, told.2)
    answered_whole old new (Err e) told = tt

    pub stopped_whole : {W : Type 0} (contents : W → Option (List ℕ)) (old new : W) (r : Result Outcome TextFault)
        → ((written : ℕ) → r ≡ Err (Write written) → (answer : List ℕ) × (o : Outcome) × IsAnswerOf f o answer
        × IsCutShort (contents old) (contents new) written answer) → (r ≡ Err FaultyTables → IsRestOf f [] faulty)
        → IfErr r IsOfEnding → IfErr r (λ e. WroteNothing (failed_write e) → new ≡ old)
        → IfErr r (IsLineStopped form s line (contents old) (contents new))
    stopped_whole contents old new (Ok o) begun fault ending kept = tt
    stopped_whole contents old new (Err FaultyTables) begun fault ending kept =
        let text = ends form s (Some line) (Some []) (Some []) f so_far faulty refl refl (fault refl) in (
          subst (λ t. IsVerdict s t faulty) text.1 text.2,
          subst (λ w. Appends (contents old) (contents w) []) (sym (kept tt)) (Appends-nil (contents old)),
        )
    stopped_whole contents old new (Err TooLong) begun fault ending kept = absurd ending
    stopped_whole contents old new (Err Read) begun fault ending kept = absurd ending
    stopped_whole contents old new (Err (Write written)) begun fault ending kept =
        let h = begun written refl in
        let text = ended_so form s (Some line) (Some []) (Some []) f so_far f h.1 h.0 refl refl refl h.2 in
        (h.1, h.0, subst (λ t. TableAnswer form s t h.1 h.0) text.1 text.2, h.3)
    stopped_whole contents old new (Err OutOfMemory) begun fault ending kept =
        subst (λ w. Appends (contents old) (contents w) []) (sym (kept tt)) (Appends-nil (contents old))
