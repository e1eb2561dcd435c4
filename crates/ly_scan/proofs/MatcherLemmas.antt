-- Matches whose bytes come in pieces.
use Rattle.std.proofs.Common.{◌≡◌, ◌≢◌, ◌∙◌, ◌<◌, ◌+◌, ◌++◌, ◌∷◌, [], ℕ, List, Option, Some, None, true}
use Rattle.std.proofs.Common.{take, drop, length, refl, sym, ap, subst, arith, is_some, get_or, IfSome}
use Rattle.std.proofs.Common.{append_assoc, append-nil, length-append, take-append-drop}
use Rattle.std.specs.Prelude.{◌==◌, option_map}
use Rattle.std.proofs.lemmas.Bool.Decides.{nat_tests}
use Rattle.std.proofs.lemmas.List.{length-take-le, take_more, take-append-le}
use Rattle.std.proofs.Math.Seq.{take-append-add, take-length}
use Rattle.ly_base.specs.declared.cut.Cut.{Cut}
use Rattle.ly_base.specs.declared.numbers.RuleNo.{RuleNo}
use Rattle.ly_scan.proofs.LexingLemmas.{no_bytes}
use Rattle.ly_scan.proofs.WalkLemmas.{best_ended, best_further, best_next, none_from_start, told}
use Rattle.ly_scan.specs.Matcher.{IsDecidedMatch, IsUnderway, StandsBehind, Underway}
use Rattle.ly_scan.specs.Matching.{IsMatch}
use Rattle.ly_scan.specs.Walk.{IsBest, Walk, better_of}
use Rattle.ly_scan.specs.declared.matching.Match.{Match}
use Rattle.ly_scan.specs.declared.matching.Match.TheVariants.{Stuck}

-- no byte has come
pub begun : {P : Type 0} (walk : Walk) (ahead : P → Walk) (stands : P → Type 0) (at : Option P)
    → StandsBehind walk ahead stands [] at
    → IsUnderway walk ahead stands [] (record { at = at; passed = 0; best = None })
begun walk ahead stands at there = record {
  there = there;
  passed = refl;
  best = λ m s low high rule. absurd (omega (arith, low, high));
}

-- what a walk that can't begin finds
pub decided_at_once : {P : Type 0} (walk : Walk) (ahead : P → Walk) (stands : P → Type 0) (cut : ℕ → Cut)
    (seen bytes : List ℕ) (u : Underway P) → ((t v : List ℕ) → walk t ≡ None → walk (t ++ v) ≡ None) → u.at ≡ None
    → bytes ≢ [] → IsUnderway walk ahead stands seen u → IsDecidedMatch walk cut (seen ++ bytes) Stuck
decided_at_once walk ahead stands cut seen bytes u stays none some h =
    let there : StandsBehind walk ahead stands seen None = subst (StandsBehind walk ahead stands seen) none h.there in
    let same : seen ++ bytes ≡ bytes = ap (λ t. t ++ bytes) there.0 in
    record {
      some = λ e. some (sym same ∙ e);
      ended = stays seen bytes (ap walk there.0 ∙ there.1);
      is = λ more. none_from_start walk ((seen ++ bytes) ++ more) stays there.1;
    }

-- a byte has come for which the walk has no entry
decided_here : (walk : Walk) (cut : ℕ → Cut) (text : List ℕ) (i : ℕ) (best : Option (ℕ × RuleNo)) (m : Match)
    → i < length text → ((t u : List ℕ) → walk t ≡ None → walk (t ++ u) ≡ None) → walk (take (i + 1) text) ≡ None
    → IsBest walk text i best
    → ((t : List ℕ) → IsBest walk t (length t) best → IsMatch walk cut t m) → IsDecidedMatch walk cut text m
decided_here walk cut text i best m lt stays none h match = record {
  some = λ e. omega (arith, lt, ap length e);
  ended = ap walk (sym (take-append-drop (i + 1) text)) ∙ stays (take (i + 1) text) (drop (i + 1) text) none;
  is = λ more. match (text ++ more) (best_ended walk (text ++ more) i best
      (omega (arith, lt, length-append text more)) stays
      (ap walk (take-append-le (i + 1) text more (omega (arith, lt))) ∙ none)
      (best_further walk text more i best (omega (arith, lt)) h));
}

-- as it is seen behind bytes that have come before
pub decided_behind : (walk here : Walk) (cut : ℕ → Cut) (seen bytes : List ℕ) (i : ℕ) (best : Option (ℕ × RuleNo))
    (m : Match) → i < length bytes → ((t u : List ℕ) → walk t ≡ None → walk (t ++ u) ≡ None)
    → ((text : List ℕ) → here text ≡ walk ((seen ++ take i bytes) ++ text)) → here (get_or bytes i 0 ∷ []) ≡ None
    → IsBest walk (seen ++ take i bytes) (length (seen ++ take i bytes)) best
    → ((t : List ℕ) → IsBest walk t (length t) best → IsMatch walk cut t m) → IsDecidedMatch walk cut (seen ++ bytes) m
decided_behind walk here cut seen bytes i best m lt stays there none h match =
    let n : ℕ = length (seen ++ take i bytes) in
    let b : ℕ = get_or bytes i 0 in
    let all : (seen ++ take i bytes) ++ drop i bytes ≡ seen ++ bytes
    = append_assoc seen (take i bytes) (drop i bytes) ∙ ap (λ xs. seen ++ xs) (take-append-drop i bytes) in
    let one : take (n + 1) (seen ++ bytes) ≡ (seen ++ take i bytes) ++ b ∷ []
    = ap (λ k. take k (seen ++ bytes)) (omega (arith, lt, length-append seen (take i bytes), length-take-le i bytes))
    ∙ take-append-add seen bytes (i + 1) ∙ ap (λ xs. seen ++ xs) (take_more bytes i 0 lt)
    ∙ sym (append_assoc seen (take i bytes) (b ∷ [])) in
    decided_here walk cut (seen ++ bytes) n best m
    (omega (arith, lt, length-append seen (take i bytes), length-append seen bytes, length-take-le i bytes)) stays
    (ap walk one ∙ sym (there (b ∷ [])) ∙ none)
    (subst (λ xs. IsBest walk xs n best) all
    (best_further walk (seen ++ take i bytes) (drop i bytes) n best (omega arith) h)) match

module _ {P : Type 0} (walk : Walk) (ahead : P → Walk) (stands : P → Type 0) where
  -- one byte more
  goes_on : (text : List ℕ) (b : ℕ) (at there : P) (passed : ℕ) (best : Option (ℕ × RuleNo)) (rule : Option RuleNo)
      → IsUnderway walk ahead stands text (record { at = Some at; passed = passed; best = best })
      → stands there → ((more : List ℕ) → ahead there more ≡ ahead at (b ∷ more))
      → is_some (ahead at (b ∷ [])) ≡ true → IfSome (ahead there []) (λ r. option_map (λ x. x.0) rule ≡ r)
      → IsUnderway walk ahead stands (text ++ b ∷ [])
      (record { at = Some there; passed = passed + 1; best = better_of best (passed + 1) rule })
  goes_on text b at there passed best rule h can on alive says =
      let further : (more : List ℕ) → ahead there more ≡ walk ((text ++ b ∷ []) ++ more)
      = λ more. on more ∙ h.there.1 (b ∷ more) ∙ ap walk (sym (append_assoc text (b ∷ []) more)) in
      let answer : ahead there [] ≡ Some (option_map (λ x. x.0) rule)
      = told (ahead there []) (option_map (λ x. x.0) rule) (sym (ap is_some (on []) ∙ alive)) says in
      let here : walk (text ++ b ∷ []) ≡ Some (option_map (λ x. x.0) rule)
      = ap walk (sym (append-nil (text ++ b ∷ []))) ∙ sym (further []) ∙ answer in
      let long : length (text ++ b ∷ []) ≡ length text + 1 = length-append text (b ∷ []) in
      let all : take (length text + 1) (text ++ b ∷ []) ≡ text ++ b ∷ []
      = ap (λ n. take n (text ++ b ∷ [])) (sym long) ∙ take-length (text ++ b ∷ []) in
      record {
        there = (can, further, ap is_some here);
        passed = ap (λ n. n + 1) h.passed ∙ sym long;
        best = subst (λ n. IsBest walk (text ++ b ∷ []) n (better_of best (passed + 1) rule)) (sym long)
            (subst (λ n. IsBest walk (text ++ b ∷ []) (length text + 1) (better_of best (n + 1) rule)) (sym h.passed)
            (best_next walk (text ++ b ∷ []) (length text) rule best (ap walk all ∙ here)
            (best_further walk text (b ∷ []) (length text) best (omega arith) h.best)));
      }

  -- as it is seen behind bytes that have come before
  pub goes_on_behind : (seen bytes : List ℕ) (i : ℕ) (at there : P) (before : ℕ) (best better : Option (ℕ × RuleNo))
      (rule : Option RuleNo) → i < length bytes
      → IsUnderway walk ahead stands (seen ++ take i bytes)
      (record { at = Some at; passed = before + i; best = best })
      → stands there → ((more : List ℕ) → ahead there more ≡ ahead at (get_or bytes i 0 ∷ more))
      → is_some (ahead at (get_or bytes i 0 ∷ [])) ≡ true
      → IfSome (ahead there []) (λ r. option_map (λ x. x.0) rule ≡ r)
      → better ≡ better_of best (before + i + 1) rule
      → IsUnderway walk ahead stands (seen ++ take (i + 1) bytes)
      (record { at = Some there; passed = before + (i + 1); best = better })
  goes_on_behind seen bytes i at there before best better rule lt h can on alive says is =
      let b : ℕ = get_or bytes i 0 in
      let all : (seen ++ take i bytes) ++ b ∷ [] ≡ seen ++ take (i + 1) bytes
      = append_assoc seen (take i bytes) (b ∷ []) ∙ ap (λ xs. seen ++ xs) (sym (take_more bytes i 0 lt)) in
      let count : before + i + 1 ≡ before + (i + 1) = omega arith in
      subst (λ xs. IsUnderway walk ahead stands xs
      (record { at = Some there; passed = before + (i + 1); best = better })) all
      (subst (λ n. IsUnderway walk ahead stands ((seen ++ take i bytes) ++ b ∷ [])
      (record { at = Some there; passed = n; best = better })) count
      (subst (λ o. IsUnderway walk ahead stands ((seen ++ take i bytes) ++ b ∷ [])
      (record { at = Some there; passed = before + i + 1; best = o })) (sym is)
      (goes_on (seen ++ take i bytes) b at there (before + i) best rule h can on alive says)))

  -- all bytes have come
  pub goes_on_whole : (seen bytes : List ℕ) (i : ℕ) (at : P) (before : ℕ) (best : Option (ℕ × RuleNo))
      → i ≡ length bytes
      → IsUnderway walk ahead stands (seen ++ take i bytes)
      (record { at = Some at; passed = before + i; best = best })
      → IsUnderway walk ahead stands (seen ++ bytes)
      (record { at = Some at; passed = before + length bytes; best = best })
  goes_on_whole seen bytes i at before best end h =
      let all : take i bytes ≡ bytes = ap (λ n. take n bytes) end ∙ take-length bytes in
      subst (λ xs. IsUnderway walk ahead stands (seen ++ xs)
      (record { at = Some at; passed = before + length bytes; best = best })) all
      (subst (λ n. IsUnderway walk ahead stands (seen ++ take i bytes)
      (record { at = Some at; passed = before + n; best = best })) end h)

  -- no byte more
  pub goes_on_still : (seen bytes : List ℕ) (u : Underway P) → true ≡ (length bytes == 0)
      → IsUnderway walk ahead stands seen u → IsUnderway walk ahead stands (seen ++ bytes) u
  goes_on_still seen bytes u empty h = subst (λ t. IsUnderway walk ahead stands t u)
      (sym (append-nil seen) ∙ ap (λ t. seen ++ t) (sym (no_bytes bytes (grind (arith, nat_tests, empty))))) h

  -- a match under way isn't decided
  pub not_ended : (seen : List ℕ) (at : Option P) → StandsBehind walk ahead stands seen at → seen ≢ []
      → walk seen ≢ None
  not_ended seen None there some = absurd (some there.0)
  not_ended seen (Some at) there some =
      λ ended. (let no : is_some {T = Option ℕ} None ≡ true = ap is_some (sym ended) ∙ there.2 in cc)
