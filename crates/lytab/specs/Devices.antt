-- Which failures of readers and writers are reported, given their failure counts before and after a call.
use Rattle.std.specs.Prelude.{◌≡◌, ◌⊎◌, ◌<◌, ℕ, IfErr, List, MatchResult, OnOk, Option, Result, length, take}
use Rattle.std.specs.Io.KnownBytes.{Appends}
use Rattle.ly_print.specs.Device.{next_count}
use Rattle.ly_cli.specs.Request.{Request, lines}
use Rattle.lytab.specs.Failure.{IsOfReader, IsOfWriter}
use Rattle.lytab.specs.declared.completion.Completion.{Completion}
use Rattle.lytab.specs.declared.failure.Failure.{Failure}

-- A text was written to a writer with these contents before and after; or, if a command failed, a proper prefix of the
-- text.
abbrev pub WroteAllOrPrefix : Result Completion Failure → Option (List ℕ) → Option (List ℕ) → List ℕ → Type 0
WroteAllOrPrefix result before after text = MatchResult result (λ _. Appends before after text)
    (λ _. (written : ℕ) × (written < length text) × Appends before after (take written text))

-- this was done and reported, or a command failed before it wrote anything
abbrev pub DoneOrUnchanged : Result Completion Failure → Option (List ℕ) → Option (List ℕ) → Type 0 → Type 0
DoneOrUnchanged result before after told = MatchResult result (λ _. told) (λ _. (after ≡ before) ⊎ told)

-- a write failure is reported only if a write failed, and a command succeeds only if none failed
pub record WriteFailuresReported (result : Result Completion Failure) (before after : ℕ) : Type 0 where
  pub failed : IfErr result (λ f. IsOfWriter f → after ≡ next_count before)
  pub held : OnOk result (after ≡ before)

-- A failure left the writer and its failure count unchanged; or a write failed, it is that write's failure, and the
-- count is one more.
abbrev pub UnchangedOrWriteFailed : {W : Type 0} → W → W → ℕ → ℕ → Failure → Type 0
UnchangedOrWriteFailed old new before after f =
    ((after ≡ before) × (new ≡ old)) ⊎ ((after ≡ next_count before) × IsOfWriter f)

-- this holds if a command fails; if it succeeds, the count is unchanged
pub record OutputFailuresReported {W : Type 0} (result : Result Completion Failure) (old new : W)
    (before after : ℕ) : Type 0
  where
    pub failed : IfErr result (UnchangedOrWriteFailed old new before after)
    pub held : OnOk result (after ≡ before)

-- With `--lines`, the output for the lines before a failure is on standard output. Its failure count is unchanged, or a
-- write failed and the count is one more.
pub record LineFailuresReported (result : Result Completion Failure) (before after : ℕ) : Type 0 where
  pub failed : IfErr result (λ f. (after ≡ before) ⊎ ((after ≡ next_count before) × IsOfWriter f))
  pub held : OnOk result (after ≡ before)

-- what holds of standard output for a command
abbrev pub IsOutputAfter : {W : Type 0} → Request → Result Completion Failure → W → W → ℕ → ℕ → Type 0
IsOutputAfter (lines table_file text by) result old new before after = LineFailuresReported result before after
IsOutputAfter _ result old new before after = OutputFailuresReported result old new before after

-- a read failure is reported exactly if a read failed
pub record ReadFailuresReported (result : Result Completion Failure) (before after : ℕ) : Type 0 where
  pub failed : IfErr result (λ f. IsOfReader f → after ≡ next_count before)
  pub held : MatchResult result (λ _. after ≡ before) (λ f. (IsOfReader f → ⊥) → after ≡ before)

-- both, for a reader and a writer
abbrev pub DeviceFailuresReported : Result Completion Failure → ℕ → ℕ → ℕ → ℕ → Type 0
DeviceFailuresReported result reads_before reads_after writes_before writes_after =
    ReadFailuresReported result reads_before reads_after × WriteFailuresReported result writes_before writes_after
