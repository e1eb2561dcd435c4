-- Decided matches change nothing of what is said, whatever comes.
use Rattle.std.proofs.Common.{◌≡◌, ◌↔◌, ◌∙◌, ◌+◌, ◌≤◌, ℕ, List, [], ◌++◌, Option, ap, ap₂, append-nil, append_assoc}
use Rattle.std.proofs.Common.{None, arith}
use Rattle.std.proofs.Common.{drop, length, length-append, length-drop, refl, subst, sym, take}
use Rattle.std.specs.Prelude.{Bool, false, true}
use Rattle.std.proofs.lemmas.List.{drop-append-le, take-append-le}
use Rattle.ly_base.specs.Lexed.{Place, after_line, moved, place_after, start_of, token_if}
use Rattle.ly_base.specs.declared.lexeme.Lexeme.{Lexeme}
use Rattle.ly_feed.proofs.RestLemmas.{IsStep, passing, reading, said_back, said_front, token_here}
use Rattle.ly_feed.specs.Onward.{AreAlike, IsSettled, Onward, and_passes, and_reads, none_yet, passed_on}
use Rattle.ly_feed.specs.Onward.{read_on}
use Rattle.ly_feed.specs.Passing.{ArePassedOver}
use Rattle.ly_feed.specs.ScanPart.{ScanPart, condition_in, scanner_in, terminal_in}
use Rattle.ly_feed.specs.TableAnswer.{IsRest, IsSaidFrom, IsVerdictBy, Progress, begun, end_at, end_of, with_more}
use Rattle.ly_feed.specs.Verdict.{Verdict}
use Rattle.ly_pack.specs.Machine.{Machine}
use Rattle.ly_parse.specs.FeedingLaws.{FeedsInOneWay}
use Rattle.ly_parse.specs.Reading.{ReadsTokens}
use Rattle.ly_scan.specs.Lexer.{IsLexemeAt, Scanner}
use Rattle.ly_scan.specs.Pieces.{CanFollow, PassesOver, IsDecided, behind}
use Rattle.ly_scan.specs.Pieces as pieces

-- nothing comes behind a place
pub behind_none : (q : Place) → behind q [] ≡ q
behind_none q = λ i. record { line = q.line; condition = q.condition; at = q.at; rest = append-nil q.rest i }

-- a lexeme that stands, whatever comes, stands where nothing does
pub stands_here : (ended : Bool) (s : Scanner) (q : Place) (t : Lexeme) → IsDecided ended s q t → IsLexemeAt s q t
stands_here ended s q t fast = subst (λ x. IsLexemeAt s x t) (behind_none q) (fast.is [] (λ e. refl))

-- a place goes on as its text does
after_behind : (next : ℕ → Option ℕ) (q : Place) (t : Lexeme) (more : List ℕ) → t.taken ≤ length q.rest
    → place_after next (behind q more) t ≡ behind (place_after next q t) more
after_behind next q t more within = λ i. record {
  line = after_line q.line (take-append-le t.taken q.rest more within i);
  condition = (place_after next q t).condition;
  at = q.at + t.taken;
  rest = drop-append-le t.taken q.rest more within i;
}

-- what stands whatever comes stands where the text has ended too
pub fast_of : (ended : Bool) (s : Scanner) (q : Place) (t : Lexeme) → IsDecided false s q t → IsDecided ended s q t
fast_of ended s q t fast = record {
  is = λ more can. fast.is more (λ e. absurd (let off : false ≡ true → ⊥ = λ z. cc in off e));
  some = fast.some;
  within = fast.within;
}

-- behind a lexeme the end of a text stays where it was
pub end_stays : (next : ℕ → Option ℕ) (q : Place) (t : Lexeme) → t.taken ≤ length q.rest
    → end_at q ≡ end_at (place_after next q t)
end_stays next q t within =
    let at : q.at + length q.rest ≡ q.at + t.taken + length (drop t.taken q.rest)
    = omega (arith, length-drop t.taken q.rest, within) in
    λ i. record { terminal = 0; at = at i; bytes = [] }

module _ (p : ScanPart) (m : Machine) where
  -- the same is said from both sides of a lexeme
  alike_step : (w u : Progress) (t : Lexeme) → FeedsInOneWay → IsStep p m w t u → t.taken ≤ length w.place.rest
      → (v : Verdict) → (IsRest p m w v → IsRest p m u v) × (IsRest p m u v → IsRest p m w v)
  alike_step w u t way step within v =
      let end : end_at w.place ≡ end_at u.place
      = end_stays (condition_in p) w.place t within ∙ ap end_at (sym step.place) in (
        λ h. subst (λ e. IsSaidFrom p m u e v) end (said_back p m w u t step (end_at w.place) v way h),
        λ h. said_front p m w u t step (end_at w.place) v (subst (λ e. IsSaidFrom p m u e v) (sym end) h),
      )

  -- what is said of the rest of a text of which nothing is read is said of the text
  pub from_start : (text : List ℕ) (v : Verdict) → IsRest p m (begun text) v ↔ IsVerdictBy p m text v
  from_start text v =
      let at : 0 + length text ≡ length text = omega arith in
      let end : end_at (start_of text) ≡ end_of text = λ i. record { terminal = 0; at = at i; bytes = [] } in (
        subst (λ e. IsSaidFrom p m (begun text) e v) end,
        subst (λ e. IsSaidFrom p m (begun text) e v) (sym end),
      )

module _ (ended : Bool) (p : ScanPart) (m : Machine) where
  -- a decided match is one step, whatever comes
  step_behind : (w u : Progress) (t : Lexeme) (more : List ℕ) → CanFollow ended more
      → IsDecided ended (scanner_in p) w.place t → IsStep p m w t u
      → IsStep p m (with_more w more) t (with_more u more)
  step_behind w u t more can fast step =
      let bytes : take t.taken w.place.rest ≡ take t.taken (w.place.rest ++ more)
      = sym (take-append-le t.taken w.place.rest more fast.within) in
      let same : token_here p m w.place t ≡ token_here p m (behind w.place more) t
      = ap (λ xs. token_if (terminal_in p t.rule.0 xs) w.place.at xs) bytes in
      record {
        is = fast.is more can;
        place = ap (λ q. behind q more) step.place
            ∙ sym (after_behind (condition_in p) w.place t more fast.within);
        reads = subst (λ ts. ReadsTokens m w.stack ts u.stack) same step.reads;
        count = step.count ∙ ap (λ ts. w.count + length ts) same;
      }

  -- and changes nothing
  alike_one : (w u : Progress) (t : Lexeme) → FeedsInOneWay → IsDecided ended (scanner_in p) w.place t
      → IsStep p m w t u → AreAlike ended p m w u
  alike_one w u t way fast step more can = alike_step p m (with_more w more) (with_more u more) t way
      (step_behind w u t more can fast step)
      (omega (arith, fast.within, length-append w.place.rest more))

  alike_on : (w r u : Progress) → AreAlike ended p m w r → AreAlike ended p m r u → AreAlike ended p m w u
  alike_on w r u first second more can v =
      (λ h. (second more can v).0 ((first more can v).0 h), λ h. (first more can v).1 ((second more can v).1 h))

  -- nor do more of them
  pub alike : {w u : Progress} → FeedsInOneWay → Onward ended p m w u → AreAlike ended p m w u
  alike way none_yet = λ more can v. (λ h. h, λ h. h)
  alike {w} way (and_passes {u = r} t on fast none) = alike_on w r (passed_on p r t) (alike way on)
      (alike_one r (passed_on p r t) t way fast
      (passing p m r t (stands_here ended (scanner_in p) r.place t fast) none))
  alike {w} way (and_reads {u = r} {next = next} t token on fast here fed) =
      alike_on w r (read_on p r t next) (alike way on)
      (alike_one r (read_on p r t next) t way fast
      (reading p m r t token next (stands_here ended (scanner_in p) r.place t fast) here fed))

  -- what is settled further on is settled
  pub settled_on : {w u : Progress} (v : Verdict) → FeedsInOneWay → Onward ended p m w u → IsSettled ended p m u v
      → IsSettled ended p m w v
  settled_on v way on settled more can = (alike way on more can v).1 (settled more can)

  -- decided matches behind others
  pub onward_on : {w r u : Progress} → Onward ended p m w r → Onward ended p m r u → Onward ended p m w u
  onward_on first none_yet = first
  onward_on first (and_passes t on fast none) = and_passes t (onward_on first on) fast none
  onward_on first (and_reads t token on fast here fed) = and_reads t token (onward_on first on) fast here fed

  -- lexemes that are passed over are decided matches
  pub passed_onward : (w : Progress) (passed : List Bool) → ArePassedOver p passed → {r : Place}
      → PassesOver (scanner_in p) passed w.place r
      → Onward ended p m w (record { place = r; stack = w.stack; count = w.count })
  passed_onward w passed nothing pieces.none_yet = none_yet
  passed_onward w passed nothing (pieces.and_one {r = s} t on fast one is) =
      let at : Place → Progress = λ q. record { place = q; stack = w.stack; count = w.count } in
      let rule = nothing t.rule.0 is in
      subst (λ q. Onward ended p m w (at q)) (ap₂ (moved s) one rule.condition)
      (and_passes t (passed_onward w passed nothing on) (fast_of ended (scanner_in p) s t fast)
      (rule.terminal (take t.taken s.rest)))

-- a lexeme that stands, whatever comes, stands where more has come
fast_with : (s : Scanner) (q : Place) (t : Lexeme) (more : List ℕ) → IsDecided false s q t
    → IsDecided false s (behind q more) t
fast_with s q t more fast = record {
  is = λ rest can. subst (λ x. IsLexemeAt s x t)
      (λ i. record { line = q.line; condition = q.condition; at = q.at; rest = sym (append_assoc q.rest more rest) i })
      (fast.is (more ++ rest) (λ e. absurd (let off : false ≡ true → ⊥ = λ z. cc in off e)));
  some = fast.some;
  within = omega (arith, fast.within, length-append q.rest more);
}

module _ (p : ScanPart) (m : Machine) where
  -- the bytes of a lexeme that stands are the same where more has come
  same_bytes : (q : Place) (t : Lexeme) (more : List ℕ) → t.taken ≤ length q.rest
      → take t.taken q.rest ≡ take t.taken (q.rest ++ more)
  same_bytes q t more within = sym (take-append-le t.taken q.rest more within)

  -- matches that are decided are decided where more has come
  pub onward_with : {w u : Progress} (more : List ℕ) → Onward false p m w u
      → Onward false p m (with_more w more) (with_more u more)
  onward_with more none_yet = none_yet
  onward_with {w} more (and_passes {u = r} t on fast none) =
      let place = after_behind (condition_in p) r.place t more fast.within in
      let there : passed_on p (with_more r more) t ≡ with_more (passed_on p r t) more
      = λ i. record { place = place i; stack = r.stack; count = r.count } in
      subst (Onward false p m (with_more w more)) there
      (and_passes t (onward_with more on) (fast_with (scanner_in p) r.place t more fast)
      (subst (λ bytes. terminal_in p t.rule.0 bytes ≡ None) (same_bytes r.place t more fast.within) none))
  onward_with {w} more (and_reads {u = r} {next = next} t token on fast here fed) =
      let place = after_behind (condition_in p) r.place t more fast.within in
      let there : read_on p (with_more r more) t next ≡ with_more (read_on p r t next) more
      = λ i. record { place = place i; stack = next; count = r.count + 1 } in
      subst (Onward false p m (with_more w more)) there
      (and_reads t token (onward_with more on) (fast_with (scanner_in p) r.place t more fast)
      (record {
        at = here.at;
        bytes = here.bytes ∙ same_bytes r.place t more fast.within;
        terminal = here.terminal;
      }) fed)
