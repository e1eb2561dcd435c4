-- Where the words of a text stand, as they are found.
use Rattle.std.proofs.Common.{◌≡◌, ◌≢◌, ◌≤◌, ◌<◌, ◌+◌, ◌-◌, ℕ, List, [], ◌∷◌, ◌++◌, sym, subst, arith, ap, length}
use Rattle.std.specs.List.{All, AllPairs}
use Rattle.std.proofs.lemmas.List.{length-append}
use Rattle.std.proofs.lemmas.List.Elements.{All-contains, All-nil, All-push, All-weaker}
use Rattle.ly_base.proofs.ListLemmas.{AllPairs-append, AllPairs-nil, AllPairs-one}
use Rattle.ly_base.proofs.MemberLemmas.{Contains-one}
use Rattle.ly_base.specs.Gap.{GapBefore}
use Rattle.ly_base.specs.declared.language.Language.TheVariants.{Yacc}
use Rattle.ly_yaccread.specs.Private.Words.{IsPartWord, word_of}
use Rattle.ly_yaccread.specs.Words.{GapPassed}
use Rattle.ly_yaccread.specs.declared.part.Part.{Part}
use Rattle.ly_yaccread.specs.declared.spans.WordSpan.{WordSpan}
use Rattle.ly_yaccread.specs.declared.words.NextWord.{NextWord}
use Rattle.ly_yaccread.specs.declared.words.NextWord.TheVariants.{End, Other}
use Rattle.ly_yaccread.proofs.PartLemmas.{taken, takes_from}

-- a span ends before another
abbrev pub EndsBefore : WordSpan → WordSpan → Type 0
EndsBefore s t = s.start + s.length ≤ t.start

-- a span ends before so many bytes at the end of a text
abbrev pub LeavesRest : ℕ → ℕ → WordSpan → Type 0
LeavesRest text rest s = s.start + s.length + rest ≤ text

-- spans of words before the rest of a text
pub record AreSpans (text rest : ℕ) (spans : List WordSpan) : Type 0 where
  pub less : rest ≤ text
  pub within : All (LeavesRest text rest) spans
  pub rising : AllPairs EndsBefore spans

pub no_spans : (text : ℕ) (spans : List WordSpan) → spans ≡ [] → AreSpans text text spans
no_spans text spans e = subst (λ l. AreSpans text text l) (sym e) (record {
  less = omega arith;
  within = All-nil (LeavesRest text text);
  rising = AllPairs-nil EndsBefore;
})

-- what stands behind a gap is no longer
pub gap_less : (text rest : List ℕ) → GapBefore Yacc text rest → length rest ≤ length text
gap_less text rest (g, _, e) = omega (arith, ap length e, length-append g rest)

-- what stands behind a word is shorter than the text from the word on
pub word_less : (p : Part) (text from rest : List ℕ) (w : NextWord) → w ≢ End → w ≢ Other → GapPassed text from
    → IsPartWord p text w rest → length rest < length from
word_less p text from rest w some known passed found
    = takes_from p text from (word_of w) rest passed (taken p text rest w some known found)

module _ (text rest front behind : ℕ) (spans longer : List WordSpan) (s : WordSpan) where
  -- a span more
  pub one_span : AreSpans text rest spans → front ≤ rest → behind < front → s.start ≡ text - front
      → s.length ≡ front - behind → longer ≡ spans ++ s ∷ [] → AreSpans text behind longer
  one_span so_far less shorter starts long pushed = subst (λ l. AreSpans text behind l) (sym pushed) (record {
    less = let h = so_far.less in omega arith;
    within = All-push (LeavesRest text behind) spans s
        (All-weaker (LeavesRest text rest) (LeavesRest text behind) (λ t h. omega arith) spans so_far.within)
        (let h = so_far.less in omega arith);
    rising = AllPairs-append EndsBefore spans (s ∷ []) so_far.rising (AllPairs-one EndsBefore s)
        (λ t u in_spans last. let h : LeavesRest text rest t
        = All-contains (LeavesRest text rest) spans t so_far.within in_spans in
        subst (EndsBefore t) (Contains-one s u last) (let k = so_far.less in omega arith));
  })

-- all spans are within the text
pub all_within : (text rest : ℕ) (spans : List WordSpan) → AreSpans text rest spans
    → All (λ s. s.start + s.length ≤ text) spans
all_within text rest spans so_far
    = All-weaker (LeavesRest text rest) (λ s. s.start + s.length ≤ text) (λ s h. omega arith) spans so_far.within
