-- Lines of a text by their numbers, and those that are indented.
use Rattle.std.proofs.Common.{◌≡◌, ◌≤◌, ◌<◌, ◌+◌, ◌-◌, ◌^◌, ◌∷◌, ◌⊎◌, [], ℕ, List, All, ap, arith, inl, inr}
use Rattle.std.proofs.Common.{length, length-append, length-drop, min, refl, subst, sym, true}
use Rattle.std.proofs.lemmas.List.Elements.{All-contains, All-push, All-weaker}
use Rattle.ly_base.proofs.ListLemmas.{AllPairs-append, AllPairs-one}
use Rattle.ly_base.proofs.MemberLemmas.{Contains-one}
use Rattle.ly_lexread.specs.Lines.{LineBefore}
use Rattle.ly_diagnostics.specs.Indented.{AreIndented, IsIndented}
use Rattle.ly_diagnostics.specs.Lines.{ArePassed, HasMark, IsKindOf, IsLine, LinesBefore, more, none}
use Rattle.ly_diagnostics.specs.Private.Indented.{IsAdded}
use Rattle.ly_diagnostics.specs.declared.lex_units.Kind.TheVariants.{Mark}
use Rattle.ly_diagnostics.specs.declared.lex_units.Unit.{Unit}
use Rattle.ly_diagnostics.specs.declared.lex_units.Units.{Units}

-- one line more behind so many
pub one_more : (n : ℕ) (text rest line behind : List ℕ) → LinesBefore n text rest → LineBefore rest line behind
    → LinesBefore (n + 1) text behind
one_more n text rest line behind (none t) here = more 0 t line behind behind here (none behind)
one_more n text rest line behind (more k t l b r first others) here = more (k + 1) t l b behind first
    (one_more k b r line behind others here)

-- so many lines, and then so many
pub more_lines : (m n : ℕ) (a b c : List ℕ) → LinesBefore m a b → LinesBefore n b c → LinesBefore (m + n) a c
more_lines m n a b c (none t) others = subst (λ k. LinesBefore k t c) (omega arith) others
more_lines m n a b c (more k t l u r first before) others = subst (λ j. LinesBefore j t c) (omega arith)
    (more (k + n) t l u c first (more_lines k n u r c before others))

-- what stands behind a line is less
pub line_shorter : (text line rest : List ℕ) → LineBefore text line rest → length rest < length text
line_shorter [] line rest here = absurd (here.0 refl)
line_shorter (x ∷ text) line rest here =
    let all = ap length here.2.2 in
    let rest = ap length here.3 in
    omega (arith, simp length-append at all, simp length-drop at rest)

-- there are no more lines than bytes
pub lines_within : (n : ℕ) (text rest : List ℕ) → LinesBefore n text rest → n + length rest ≤ length text
lines_within n text rest (none t) = omega arith
lines_within n text rest (more k t line behind r first others) =
    let less = line_shorter t line behind first in
    let few = lines_within k behind r others in
    omega arith

-- behind what was passed stands the rest, where there is one
lines_so_far : (text : List ℕ) (u : Units) (line behind : List ℕ) → ArePassed text u → LineBefore u.rest.now line behind
    → LinesBefore u.passed text u.rest.now
lines_so_far text u line behind are here = elim are.lines [
  | inl over ↦ absurd (here.0 over)
  | inr lines ↦ lines
]

-- the next line has the next number, which is no greater than the bytes are many
pub next_line : (text : List ℕ) (u : Units) (line behind : List ℕ) → ArePassed text u
    → LineBefore u.rest.now line behind → (u.passed + 1 ≤ length text) × IsLine text (u.passed + 1) line
next_line text u line behind are here =
    let lines = lines_so_far text u line behind are here in
    let within = lines_within u.passed text u.rest.now lines in
    let less = line_shorter u.rest.now line behind here in (
      omega arith,
      record {
        before = u.passed;
        count = refl;
        from = u.rest.now;
        passed = lines;
        rest = behind;
        is = here;
      },
    )

-- the first line of the unit in front has the next number
pub first_is : (text : List ℕ) (u : Units) (line behind : List ℕ) (first : ℕ) → length text < 2 ^ 64 → ArePassed text u
    → LineBefore u.rest.now line behind → first ≡ min (u.passed + 1) 18446744073709551615 → first ≡ u.passed + 1
first_is text u line behind first fits are here e =
    let next = next_line text u line behind are here in
    let within = next.0 in
    omega arith

-- a mark among the first lines is among more of them
more_marks : (text : List ℕ) (m n : ℕ) → HasMark text m → m ≤ n → HasMark text n
more_marks text m n mark least = record {
  number = mark.number;
  line = mark.line;
  is = mark.is;
  begins_rules = mark.begins_rules;
  within = let within = mark.within in omega arith;
}

-- the unit in front is passed
pub passed_on : (text : List ℕ) (u v : Units) (unit : Unit) (line behind : List ℕ) → length text < 2 ^ 64
    → ArePassed text u → LineBefore u.rest.now line behind → unit.first ≡ min (u.passed + 1) 18446744073709551615
    → unit.first ≤ unit.last → IsKindOf line unit.kind
    → (v.rest.now ≡ []) ⊎ LinesBefore (unit.last - u.passed) u.rest.now v.rest.now → v.passed ≡ unit.last
    → (v.in_rules ≡ true → (u.in_rules ≡ true) ⊎ (unit.kind ≡ Mark)) → ArePassed text v
passed_on text u v unit line behind fits are here e rises kind rest passed rules =
    let first = first_is text u line behind unit.first fits are here e in
    let lines = lines_so_far text u line behind are here in
    let least : u.passed ≤ v.passed = omega arith in
    record {
      lines = elim rest [
        | inl over ↦ inl over
        | inr others ↦ inr (subst (λ n. LinesBefore n text v.rest.now) (omega arith)
            (more_lines u.passed (unit.last - u.passed) text u.rest.now v.rest.now lines others))
      ];
      mark = λ is. elim (rules is) [
        | inl was ↦ more_marks text u.passed v.passed (are.mark was) least
        | inr mark ↦ record {
          number = u.passed + 1;
          line = line;
          is = (next_line text u line behind are here).1;
          begins_rules = kind.mark mark;
          within = omega arith;
        }
      ];
    }

-- what is found goes on rising, up to the last line that was passed
pub added : (text old new : List ℕ) (u : Units) (unit : Unit) (line behind : List ℕ) → length text < 2 ^ 64
    → ArePassed text u → u.in_rules ≡ true → LineBefore u.rest.now line behind
    → unit.first ≡ min (u.passed + 1) 18446744073709551615 → unit.first ≤ unit.last → IsKindOf line unit.kind
    → AreIndented text old → All (λ k. k ≤ u.passed) old → IsAdded old unit line new
    → AreIndented text new × All (λ k. k ≤ unit.last) new
added text old new u unit line behind fits are in_rules here e rises kind indented within is =
    let first = first_is text u line behind unit.first fits are here e in
    let fewer = All-weaker (λ k. k ≤ u.passed) (λ k. k ≤ unit.last) (λ k less. omega arith) old within in
    elim is [
      | inl same ↦ (subst (AreIndented text) (sym same) indented, subst (All (λ k. k ≤ unit.last)) (sym same) fewer)
      | inr one ↦ (
        subst (AreIndented text) (sym one.0) (record {
          each = All-push (IsIndented text) old unit.first indented.each (record {
            line = line;
            is = subst (λ n. IsLine text n line) (sym first) (next_line text u line behind are here).1;
            unused = kind.unused one.1;
            holds = one.2;
            before = u.passed;
            earlier = omega arith;
            mark = are.mark in_rules;
          });
          rising = AllPairs-append (λ m n. m < n) old (unit.first ∷ []) indented.rising
              (AllPairs-one (λ m n. m < n) unit.first) (λ m n there last.
              let less : m ≤ u.passed = All-contains (λ k. k ≤ u.passed) old m within there in
              let same : unit.first ≡ n = Contains-one unit.first n last in
              omega arith);
        }),
        subst (All (λ k. k ≤ unit.last)) (sym one.0)
            (All-push (λ k. k ≤ unit.last) old unit.first fewer rises),
      )
    ]
