-- What is said of a text that comes in pieces.
use Rattle.std.proofs.Common.{◌≡◌, ◌∙◌, ◌+◌, ℕ, List, ◌++◌, ap, append_assoc, length, refl, subst, sym}
use Rattle.std.specs.Prelude.{Bool, false, true}
use Rattle.ly_base.specs.Lexed.{Token}
use Rattle.ly_feed.proofs.OnwardLemmas.{alike, end_stays}
use Rattle.ly_feed.specs.Onward.{IsSettled, Onward, and_passes, and_reads, none_yet}
use Rattle.ly_feed.specs.ScanPart.{ScanPart, condition_in}
use Rattle.ly_feed.specs.TableAnswer.{IsRest, Progress, with_more}
use Rattle.ly_feed.specs.Verdict.{Verdict}
use Rattle.ly_pack.specs.Machine.{Machine}
use Rattle.ly_parse.specs.FeedingLaws.{FeedsInOneWay}
use Rattle.ly_scan.specs.Pieces.{CanFollow}

-- more behind more
pub more_twice : (w : Progress) (xs ys : List ℕ) → with_more (with_more w xs) ys ≡ with_more w (xs ++ ys)
more_twice w xs ys = λ i. record {
  place = record {
    line = w.place.line;
    condition = w.place.condition;
    at = w.place.at;
    rest = append_assoc w.place.rest xs ys i;
  };
  stack = w.stack;
  count = w.count;
}

-- anything may follow where the text hasn't ended
pub anything_follows : (more : List ℕ) → CanFollow false more
anything_follows more e = absurd (let off : false ≡ true → ⊥ = λ z. cc in off e)

module _ (p : ScanPart) (m : Machine) where
  -- the same is said before a piece and behind the matches of it that are decided
  pub same_rest : (w : Progress) (piece : List ℕ) {u : Progress} → FeedsInOneWay
      → Onward false p m (with_more w piece) u
      → (more : List ℕ) (v : Verdict)
      → (IsRest p m (with_more w (piece ++ more)) v → IsRest p m (with_more u more) v)
      × (IsRest p m (with_more u more) v → IsRest p m (with_more w (piece ++ more)) v)
  same_rest w piece way on more v =
      let both = alike false p m way on more (anything_follows more) v in
      let same = more_twice w piece more in (
        λ h. both.0 (subst (λ x. IsRest p m x v) (sym same) h),
        λ h. subst (λ x. IsRest p m x v) same (both.1 h),
      )

  -- what a piece settles is said, whatever comes behind it
  pub settled_rest : (w : Progress) (piece : List ℕ) (v : Verdict) → IsSettled false p m (with_more w piece) v
      → (more : List ℕ) → IsRest p m (with_more w (piece ++ more)) v
  settled_rest w piece v settled more
      = subst (λ x. IsRest p m x v) (more_twice w piece more) (settled more (anything_follows more))

  -- decided matches leave the end of the text where it was
  pub same_end : {ended : Bool} {w u : Progress} → Onward ended p m w u
      → u.place.at + length u.place.rest ≡ w.place.at + length w.place.rest
  same_end none_yet = refl
  same_end (and_passes {u = r} t on fast none) =
      sym (ap (λ (x : Token ℕ). x.at) (end_stays (condition_in p) r.place t fast.within)) ∙ same_end on
  same_end (and_reads {u = r} t token on fast here fed) =
      sym (ap (λ (x : Token ℕ). x.at) (end_stays (condition_in p) r.place t fast.within)) ∙ same_end on
