-- Lexemes of one byte.
use Rattle.std.proofs.Common.{◌≡◌, ◌∙◌, ◌<◌, ◌≤◌, ◌⊎◌, ℕ, suc, zero, [], ◌∷◌, ◌++◌, List, Some, None, true, false}
use Rattle.std.proofs.Common.{ap, arith, get_or, inl, inr, length, refl, subst, sym, take}
use Rattle.std.proofs.Math.ListN.{replicate, set}
use Rattle.std.proofs.lemmas.Bool.{cases_eq, cases_lt}
use Rattle.std.proofs.lemmas.List.{get_or-replicate, get_or-set_other, get_or_default, get_or_past}
use Rattle.std.proofs.lemmas.List.{length-replicate}
use Rattle.std.specs.Bool.{OnTrue}
use Rattle.std.specs.Prelude.{Bool, ◌&&◌, not}
use Rattle.ly_base.specs.Lexed.{Place}
use Rattle.ly_scan.specs.Cuts.{token_len}
use Rattle.ly_scan.specs.Lexer.{Scanner}
use Rattle.ly_scan.specs.LoneBytes.{AreLone, IsLoneAt, IsOfPassed}
use Rattle.ly_scan.specs.Walk.{IsLongest, Walk}

-- a value and the negation of another
pub both : (a b : Bool) (P : Type 0) → (a ≡ true → b ≡ false → P) → OnTrue (a && not b) P
both true true P h = tt
both true false P h = h refl refl
both false b P h = tt

-- what was looked up by a byte
pub looked_up : (marks seen : List Bool) (text rest : List ℕ) (i place : ℕ) (mark is : Bool) → marks ≡ seen
    → text ≡ rest → place ≡ get_or text i 0 → mark ≡ get_or marks place mark → mark ≡ is → place < length marks
    → get_or seen (get_or rest i 0) false ≡ is
looked_up marks seen text rest i place mark is same left at found value within =
    ap (λ w. get_or w (get_or rest i 0) false) (sym same)
    ∙ (ap (λ w. get_or marks (get_or w i 0) false) (sym left)
    ∙ (ap (λ k. get_or marks k false) (sym at)
    ∙ (get_or_default marks place false mark within ∙ (sym found ∙ value))))

-- a walk over two bytes that has ended has no rule further on
no_rule : (walk : Walk) (b c : ℕ) (more : List ℕ) (m q : ℕ)
    → ((t u : List ℕ) → walk t ≡ None → walk (t ++ u) ≡ None) → walk (b ∷ c ∷ []) ≡ None → 1 < m
    → walk (take m (b ∷ c ∷ more)) ≡ Some (Some q) → ⊥
no_rule walk b c more zero q stays none lt rule = absurd (omega (arith, lt))
no_rule walk b c more (suc zero) q stays none lt rule = absurd (omega (arith, lt))
no_rule walk b c more (suc (suc m)) q stays none lt rule =
    let ended : walk (b ∷ c ∷ take m more) ≡ None = stays (b ∷ c ∷ []) (take m more) none in
    let no : None ≡ Some (Some q) = sym ended ∙ rule in cc

-- a byte that begins such a lexeme, before one that doesn't go on
longest : (walk : Walk) (b c : ℕ) (more : List ℕ) (r : ℕ) → ((t u : List ℕ) → walk t ≡ None → walk (t ++ u) ≡ None)
    → walk (b ∷ []) ≡ Some (Some r) → walk (b ∷ c ∷ []) ≡ None
    → IsLongest walk (b ∷ c ∷ more) (length (b ∷ c ∷ more)) 1 r
longest walk b c more r stays one none = record {
  some_byte = omega arith;
  within = omega arith;
  has_rule = one;
  longest = λ m q lt within rule. no_rule walk b c more m q stays none lt rule;
}

lone_in : (s : Scanner) (passed : List Bool) (l : List Bool × List Bool) (p : Place) (rest : List ℕ) → p.rest ≡ rest
    → p.condition ≡ 0 → 2 ≤ length rest → AreLone s passed l → get_or rest 1 0 < 256
    → get_or l.0 (get_or rest 0 0) false ≡ true → get_or l.1 (get_or rest 1 0) false ≡ false → IsLoneAt s passed p
lone_in s passed l p [] e initial long h byte begins ends = absurd (omega (arith, long))
lone_in s passed l p (b ∷ []) e initial long h byte begins ends = absurd (omega (arith, long))
lone_in s passed l p (b ∷ c ∷ more) e initial long h byte begins ends =
    let one = h.begin b p.line begins in
    let found : (after : List ℕ) → IsLongest (s.walk 0 p.line) ((b ∷ c ∷ more) ++ after)
    (length ((b ∷ c ∷ more) ++ after)) 1 one.rule
    = λ after. longest (s.walk 0 p.line) b c (more ++ after) one.rule (h.stays_ended p.line) one.walked
    (h.end b c p.line byte begins ends) in
    record {
      lexeme = record { rule = record { 0 = one.rule }; matched = 1; taken = 1 };
      stands = record {
        is = λ after follows. (
          subst (λ k. IsLongest (s.walk k p.line) (p.rest ++ after) (length (p.rest ++ after)) 1 one.rule) (sym initial)
              (subst (λ w. IsLongest (s.walk 0 p.line) (w ++ after) (length (w ++ after)) 1 one.rule) (sym e)
              (found after)),
          ap (λ k. token_len k 1) one.whole,
        );
        some = omega arith;
        within = omega (arith, ap length e);
      };
      one = refl;
      is_passed = one.is_passed;
    }

-- so it stands at the place
pub lone_at : (s : Scanner) (passed : List Bool) (l : List Bool × List Bool) (p : Place) → p.condition ≡ 0
    → 2 ≤ length p.rest → AreLone s passed l → get_or p.rest 1 0 < 256
    → get_or l.0 (get_or p.rest 0 0) false ≡ true → get_or l.1 (get_or p.rest 1 0) false ≡ false → IsLoneAt s passed p
lone_at s passed l p initial long h = lone_in s passed l p p.rest refl initial long h

-- no byte begins one
none_there : (b : ℕ) → get_or (replicate 256 false) b false ≡ false
none_there b = elim (cases_lt b 256) [
  | inl within ↦ get_or-replicate 256 b false false within
  | inr past ↦ get_or_past (replicate 256 false) b false (omega (arith, past, length-replicate 256 false))
]

-- where no byte begins one all are such
pub none_begins : (s : Scanner) (passed : List Bool) (ends : List Bool)
    → ((line : Bool) (text more : List ℕ) → s.walk 0 line text ≡ None → s.walk 0 line (text ++ more) ≡ None)
    → AreLone s passed (replicate 256 false, ends)
none_begins s passed ends stays = record {
  begin = λ b line h. let no : false ≡ true = sym (none_there b) ∙ h in cc;
  end = λ b c line byte h ends. let no : false ≡ true = sym (none_there b) ∙ h in cc;
  stays_ended = stays;
}

-- one more byte begins one, and those that may go on with it are marked
pub one_added : (s : Scanner) (passed begins goes next : List Bool) (byte : ℕ) → byte < length begins
    → AreLone s passed (begins, goes) → IsOfPassed s passed false byte → IsOfPassed s passed true byte
    → ((c : ℕ) → get_or next c false ≡ false → get_or goes c false ≡ false)
    → ((c : ℕ) → c < 256 → get_or next c false ≡ false → s.walk 0 false (byte ∷ c ∷ []) ≡ None)
    → ((c : ℕ) → c < 256 → get_or next c false ≡ false → s.walk 0 true (byte ∷ c ∷ []) ≡ None)
    → AreLone s passed (set begins byte true, next)
one_added s passed begins goes next byte lt h elsewhere at_line kept ends ends_at_line = record {
  begin = λ b line e. by_byte b line (cases_eq b byte) e;
  end = λ b c line low e none. ended b c line low (cases_eq b byte) e none;
  stays_ended = h.stays_ended;
}
  where
    was : (b : ℕ) → (b ≡ byte → ⊥) → get_or (set begins byte true) b false ≡ true → get_or begins b false ≡ true
    was b other e = sym (get_or-set_other begins byte b true false other) ∙ e

    of_line : (line : Bool) → IsOfPassed s passed line byte
    of_line false = elsewhere
    of_line true = at_line

    by_byte : (b : ℕ) (line : Bool) → (b ≡ byte) ⊎ (b ≡ byte → ⊥) → get_or (set begins byte true) b false ≡ true
        → IsOfPassed s passed line b
    by_byte b line (inl same) e = subst (IsOfPassed s passed line) (sym same) (of_line line)
    by_byte b line (inr other) e = h.begin b line (was b other e)

    ends_by : (c : ℕ) (line : Bool) → c < 256 → get_or next c false ≡ false → s.walk 0 line (byte ∷ c ∷ []) ≡ None
    ends_by c false low none = ends c low none
    ends_by c true low none = ends_at_line c low none

    ended : (b c : ℕ) (line : Bool) → c < 256 → (b ≡ byte) ⊎ (b ≡ byte → ⊥)
        → get_or (set begins byte true) b false ≡ true → get_or next c false ≡ false
        → s.walk 0 line (b ∷ c ∷ []) ≡ None
    ended b c line low (inl same) e none = ap (λ x. s.walk 0 line (x ∷ c ∷ [])) same ∙ ends_by c line low none
    ended b c line low (inr other) e none = h.end b c line low (was b other e) (kept c none)
