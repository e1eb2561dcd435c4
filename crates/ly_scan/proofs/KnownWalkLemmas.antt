-- Longest matches that are known, and found by what is known.
use Rattle.std.proofs.Common.{◌≡◌, ◌∙◌, ◌<◌, ◌≤◌, ◌+◌, ◌-◌, ◌&&◌, ◌++◌, ℕ, List, Option, Some, None, Bool, true, false}
use Rattle.std.proofs.Common.{IfSome, ap, arith, cond, drop, length, length-drop, nat_eq, refl, subst, sym, take}
use Rattle.std.proofs.Math.Seq.{take-add}
use Rattle.std.proofs.lemmas.Bool.{and_parts}
use Rattle.std.proofs.lemmas.Bool.Decides.{nat_tests}
use Rattle.std.proofs.lemmas.List.{drop-drop, take-append-drop}
use Rattle.std.proofs.lemmas.List.Elements.{All-push}
use Rattle.std.proofs.lemmas.Map.Entries.{lookup-filter-keys}
use Rattle.std.proofs.lemmas.Map.Views.{exact_unsigned_eq}
use Rattle.std.specs.List.{filter}
use Rattle.std.specs.Prelude.{[], ◌∷◌, All, Err, Ok, OnOk, Result, if◌then◌else◌, is_err, is_some, nat_lt}
use Rattle.ly_base.specs.declared.numbers.RuleNo.{RuleNo}
use Rattle.ly_scan.proofs.WalkLemmas.{best_stays}
use Rattle.ly_scan.specs.KnownWalks.{AreKnown, IsFound, Known, known_at, last}
use Rattle.ly_scan.specs.Private.KnownWalks.{HasStood, from_passed, joined}
use Rattle.ly_scan.specs.Private.Matching.{found}
use Rattle.ly_scan.specs.Walk.{IsBest, IsLongest, IsStart, StaysEnded, Walk}
use Rattle.ly_scan.specs.declared.matching.Best.{Best}

-- what holds where a call succeeds
pub where_ok : {A E : Type 0} {P : Type 0} (r : Result A E) → is_err r ≡ false → OnOk r P → P
where_ok (Ok a) e h = h
where_ok (Err y) e h = absurd cc

-- what holds of all where one more was added, if there was room for it
pub all_noted : (P : ℕ × ℕ → Type 0) (old new : List (ℕ × ℕ)) (stand : ℕ × ℕ) (room : Bool)
    → new ≡ (if room then old ++ stand ∷ [] else old) → All P old → P stand → All P new
all_noted P old new stand true e all one = subst (All P) (sym e) (All-push P old stand all one)
all_noted P old new stand false e all one = subst (All P) (sym e) all

-- the longest of walks that say the same
longest_along : (walk other : Walk) (text : List ℕ) (bound n r : ℕ) → ((t : List ℕ) → walk t ≡ other t)
    → IsLongest walk text bound n r → IsLongest other text bound n r
longest_along walk other text bound n r same h = record {
  some_byte = h.some_byte;
  within = h.within;
  has_rule = sym (same (take n text)) ∙ h.has_rule;
  longest = λ m s past within rule. h.longest m s past within (same (take m text) ∙ rule);
}

best_along : (walk other : Walk) (text : List ℕ) (n : ℕ) (best : Option (ℕ × RuleNo))
    → ((t : List ℕ) → walk t ≡ other t) → IsBest walk text n best → IsBest other text n best
best_along walk other text n None same h = λ m s some within rule. h m s some within (same (take m text) ∙ rule)
best_along walk other text n (Some x) same h = longest_along walk other text n x.0 x.1.0 same h

-- what is found of the longest match is so of walks that say the same
pub found_along : (walk other : Walk) (ended : Bool) (text : List ℕ) (longest : Option (ℕ × RuleNo))
    → ((t : List ℕ) → walk t ≡ other t) → IsFound walk ended text longest → IsFound other ended text longest
found_along walk other ended text longest same h = record {
  best = best_along walk other text (length text) longest same h.best;
  decided = λ e. sym (same text) ∙ h.decided e;
}

-- two numbers stand for an answer
pub found_some : (b : Best) → 0 < b.length → found b ≡ Some (b.length, b.rule)
found_some b some = ap (λ t. if t then None else Some (b.length, b.rule))
    (let e : nat_eq b.length 0 ≡ false = grind (arith, nat_tests, some) in e)

-- a walk that may begin somewhere stays ended as those of its condition do
pub may_start : (stands : Type 0) (walk ahead : Walk) → stands → is_some (ahead []) ≡ true
    → ((t : List ℕ) → ahead t ≡ walk t) → StaysEnded walk → IsStart stands ahead
may_start stands walk ahead there alive same stays = record {
  there = there;
  alive = alive;
  ends = λ t more e. same (t ++ more) ∙ stays t more (sym (same t) ∙ e);
}

-- A walk has read the first bytes of a text, and says this ahead.
module _ (walk ahead : Walk) (text : List ℕ) (passed : ℕ) (within : passed ≤ length text)
    (on : (more : List ℕ) → walk (take passed text ++ more) ≡ ahead more) where
  further : (m : ℕ) → walk (take (passed + m) text) ≡ ahead (take m (drop passed text))
  further m = ap walk (take-add passed m text) ∙ on (take m (drop passed text))

  behind : (m : ℕ) → passed ≤ m → walk (take m text) ≡ ahead (take (m - passed) (drop passed text))
  behind m past = ap (λ k. walk (take k text)) (let e : m ≡ passed + (m - passed) = omega (arith, past) in e)
      ∙ further (m - passed)

  -- the longest match, by that of the bytes so far and that ahead
  pub best_joined : (longest next : Option (ℕ × RuleNo)) → IsBest walk text passed longest
      → IsBest ahead (drop passed text) (length (drop passed text)) next
      → IsBest walk text (length text) (joined longest passed next)
  best_joined longest None so_far none = best_stays walk text passed (length text) longest within
      (λ m s past upto rule. none (m - passed) s (omega (arith, past))
      (omega (arith, past, upto, length-drop passed text)) (sym (behind m (omega (arith, past))) ∙ rule)) so_far
  best_joined longest (Some x) so_far is =
      let some = is.some_byte in let upto = is.within in record {
        some_byte = omega (arith, some);
        within = omega (arith, upto, within, length-drop passed text);
        has_rule = further x.0 ∙ is.has_rule;
        longest = λ m s past most rule. is.longest (m - passed) s (omega (arith, past))
            (omega (arith, past, most, length-drop passed text))
            (sym (behind m (omega (arith, past))) ∙ rule);
      }

  -- the longest match ahead, by that of the whole
  pub best_from : (longest : Option (ℕ × RuleNo)) → IsBest walk text (length text) longest
      → IsBest ahead (drop passed text) (length (drop passed text)) (from_passed longest passed)
  best_from None none = λ m s some upto rule. none (passed + m) s (omega (arith, some))
      (omega (arith, within, upto, length-drop passed text)) (further m ∙ rule)
  best_from (Some x) is = by_test (nat_lt passed x.0) refl
    where
      by_test : (b : Bool) → nat_lt passed x.0 ≡ b
          → IsBest ahead (drop passed text) (length (drop passed text)) (if b then Some (x.0 - passed, x.1) else None)
      by_test true t =
          let less : passed < x.0 = grind (arith, nat_tests, t) in let upto = is.within in record {
            some_byte = omega (arith, less);
            within = omega (arith, less, upto, length-drop passed text);
            has_rule = sym (behind x.0 (omega (arith, less))) ∙ is.has_rule;
            longest = λ m s past most rule. is.longest (passed + m) s (omega (arith, less, past))
                (omega (arith, within, most, length-drop passed text)) (further m ∙ rule);
          }
      by_test false t = λ m s some upto rule.
          let least : x.0 ≤ passed = grind (arith, nat_tests, t) in
          is.longest (passed + m) s (omega (arith, least, some))
          (omega (arith, within, upto, length-drop passed text)) (further m ∙ rule)

-- what is found of a walk that goes where one is known is found of the whole
pub found_joined : (walk ahead : Walk) (ended : Bool) (text : List ℕ) (left : ℕ) (longest next : Option (ℕ × RuleNo))
    → ((more : List ℕ) → walk (take (length text - left) text ++ more) ≡ ahead more)
    → IsBest walk text (length text - left) longest → IsFound ahead ended (last left text) next
    → IsFound walk ended text (joined longest (length text - left) next)
found_joined walk ahead ended text left longest next on so_far h =
    let passed = length text - left in record {
      best = best_joined walk ahead text passed (omega arith) on longest next so_far h.best;
      decided = λ e. ap walk (sym (take-append-drop passed text)) ∙ on (drop passed text) ∙ h.decided e;
    }

-- what is known at a place
pub found_there : (ahead : ℕ → Walk) (ended : Bool) (text : List ℕ) (known : Known) (number left : ℕ)
    (longest : Option (ℕ × RuleNo)) → left ≤ length text → AreKnown ahead ended text known
    → known_at known (number, left) ≡ Some longest → IsFound (ahead number) ended (last left text) longest
found_there ahead ended text known number left longest within h e =
    subst (λ o. IfSome o (IsFound (ahead number) ended (last left text))) e (h number left within)

-- it is within what is left
pub found_within : (walk : Walk) (ended : Bool) (text : List ℕ) (left : ℕ) (longest : Option (ℕ × RuleNo))
    → left ≤ length text → IsFound walk ended (last left text) longest → IfSome longest (λ m. m.0 ≤ left)
found_within walk ended text left None there h = tt
found_within walk ended text left (Some x) there h =
    let within = h.best.within in omega (arith, there, within, length-drop (length text - left) text)

-- and of where a walk has stood, by what is found of the whole
pub found_from : (walk : Walk) (ahead : ℕ → Walk) (ended : Bool) (text : List ℕ) (stand : ℕ × ℕ)
    (longest : Option (ℕ × RuleNo)) → IsFound walk ended text longest → HasStood walk ahead text stand
    → IsFound (ahead stand.0) ended (last stand.1 text) (from_passed longest (length text - stand.1))
found_from walk ahead ended text stand longest h stood =
    let passed = length text - stand.1 in record {
      best = best_from walk (ahead stand.0) text passed (omega arith) stood.1 longest h.best;
      decided = λ e. sym (stood.1 (drop passed text)) ∙ ap walk (take-append-drop passed text) ∙ h.decided e;
    }

-- nothing is known
pub none_known : (ahead : ℕ → Walk) (ended : Bool) (text : List ℕ) (known : Known) → known ≡ []
    → AreKnown ahead ended text known
none_known ahead ended text known e number left within =
    subst (λ k. IfSome (known_at k (number, left)) (IsFound (ahead number) ended (last left text))) (sym e) tt

-- what is known is so in any order
pub known_again : (ahead : ℕ → Walk) (ended : Bool) (text : List ℕ) (old new : Known)
    → ((q : ℕ × ℕ) → known_at new q ≡ known_at old q) → AreKnown ahead ended text old → AreKnown ahead ended text new
known_again ahead ended text old new same known number left within =
    subst (λ o. IfSome o (IsFound (ahead number) ended (last left text))) (sym (same (number, left)))
    (known number left within)

-- what is known is so where what is known of some places is given up, by how many bytes are left there
pub known_less : (ahead : ℕ → Walk) (ended : Bool) (text : List ℕ) (keeps : ℕ × ℕ → Bool) (old new : Known)
    → new ≡ filter (λ e. keeps e.0) old → AreKnown ahead ended text old → AreKnown ahead ended text new
known_less ahead ended text keeps old new same known number left within =
    subst (λ k. IfSome (known_at k (number, left)) (IsFound (ahead number) ended (last left text))) (sym same)
    (subst (λ o. IfSome o (IsFound (ahead number) ended (last left text))) (sym found)
    (by_test (keeps (number, left)) (known_at old (number, left)) (known number left within)))
  where
    at : ℕ × ℕ → Bool
    at s = nat_eq number s.0 && nat_eq left s.1

    alike : (s : ℕ × ℕ) → at s ≡ true → keeps s ≡ keeps (number, left)
    alike s t =
        let both = and_parts (nat_eq number s.0) (nat_eq left s.1) t in
        ap (λ n. keeps (n, s.1)) (sym (exact_unsigned_eq number s.0 both.0))
        ∙ ap (λ l. keeps (number, l)) (sym (exact_unsigned_eq left s.1 both.1))

    found : known_at (filter (λ (e : (ℕ × ℕ) × Option (ℕ × RuleNo)). keeps e.0) old) (number, left)
        ≡ cond (keeps (number, left)) (known_at old (number, left)) None
    found = lookup-filter-keys at keeps (keeps (number, left)) alike old

    by_test : (b : Bool) (o : Option (Option (ℕ × RuleNo))) → IfSome o (IsFound (ahead number) ended (last left text))
        → IfSome (cond b o None) (IsFound (ahead number) ended (last left text))
    by_test true o h = h
    by_test false o h = tt

-- one more is known
pub one_known : (ahead : ℕ → Walk) (ended : Bool) (text : List ℕ) (old new : Known) (stand : ℕ × ℕ)
    (longest : Option (ℕ × RuleNo))
    → ((q : ℕ × ℕ) → known_at new q
    ≡ cond (nat_eq stand.0 q.0 && nat_eq stand.1 q.1) (Some longest) (known_at old q))
    → IsFound (ahead stand.0) ended (last stand.1 text) longest → AreKnown ahead ended text old
    → AreKnown ahead ended text new
one_known ahead ended text old new stand longest put is known number left within =
    subst (λ o. IfSome o (IsFound (ahead number) ended (last left text))) (sym (put (number, left)))
    (by_test (nat_eq stand.0 number && nat_eq stand.1 left) refl)
  where
    by_test : (b : Bool) → (nat_eq stand.0 number && nat_eq stand.1 left) ≡ b
        → IfSome (cond b (Some longest) (known_at old (number, left))) (IsFound (ahead number) ended (last left text))
    by_test true t =
        let both = and_parts (nat_eq stand.0 number) (nat_eq stand.1 left) t in
        subst (λ n. IsFound (ahead n) ended (last left text) longest) (exact_unsigned_eq stand.0 number both.0)
        (subst (λ l. IsFound (ahead stand.0) ended (last l text) longest) (exact_unsigned_eq stand.1 left both.1) is)
    by_test false t = known number left within

-- what is known of a text is known of what is left behind some bytes
pub known_on : (ahead : ℕ → Walk) (ended : Bool) (text : List ℕ) (known : Known) (taken : ℕ) → taken ≤ length text
    → AreKnown ahead ended text known → AreKnown ahead ended (drop taken text) known
known_on ahead ended text known taken there h number left within =
    let e : last left text ≡ last left (drop taken text) =
    ap (λ k. drop k text) (let f : length text - left ≡ taken + (length (drop taken text) - left)
    = omega (arith, there, within, length-drop taken text) in f)
    ∙ sym (drop-drop (length (drop taken text) - left) taken text) in
    subst (λ t. IfSome (known_at known (number, left)) (IsFound (ahead number) ended t)) e
    (h number left (omega (arith, within, length-drop taken text)))
