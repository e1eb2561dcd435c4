-- The program of rules, one rule after another.
use Rattle.std.proofs.Common.{◌≡◌, inl, inr, ℕ, zero, suc, ◌+◌, ◌<◌, ◌≤◌, List, [], ◌∷◌, ◌++◌, length, get_or}
use Rattle.std.proofs.Common.{Option, Some, None, refl, sym, ap, subst, ◌∙◌, arith, append_assoc, append-nil}
use Rattle.std.proofs.Common.{add-one, length-append}
use Rattle.std.specs.Prelude.{slice_get}
use Rattle.std.proofs.lemmas.Bool.{cases_eq, cases_lt}
use Rattle.std.proofs.lemmas.List.{get_or_push, get_or_append_left}
use Rattle.std.proofs.lemmas.List.Elements.{All-push, All-weaker}
use Rattle.std.proofs.lemmas.Option.{slice_get_within}
use Rattle.ly_base.proofs.ListLemmas.{slice_get-append, slice_get-behind}
use Rattle.ly_base.proofs.BeforeLemmas.{slice_get-before}
use Rattle.ly_ere.specs.Expression.{Expression}
use Rattle.ly_position.specs.Private.Plain.{IsPlainPart}
use Rattle.ly_position.specs.Private.Program.{ProgramStep, reads, fork, ends, size, entry, code, HasCode}
use Rattle.ly_position.specs.Private.Reach.{LeadsBelow, StaysInside}
use Rattle.ly_position.specs.Private.Compile.{IsProgram, RuleStands, base_of, rule_size}
use Rattle.ly_position.proofs.CodeLaws.{entry_below}
use Rattle.ly_position.proofs.CodePlaces.{HasCode-append, HasCode-of, length-code}
use Rattle.ly_position.proofs.CodePlaces.{stands}

-- a rule stays as the program grows
rule_stays : (g more : List ProgramStep) (rule : Option Expression) (begin : Option ℕ) (k base : ℕ)
    → RuleStands g rule begin k base → RuleStands (g ++ more) rule begin k base
rule_stays g more None begin k base h = h
rule_stays g more (Some e) begin k base h
    = (slice_get-append g more base (ends k) h.0, HasCode-append g more e (base + 1) base h.1, h.2)

-- the entries so far and one more
standing_more : (rule : ℕ → Option Expression) (entries : List (Option ℕ)) (g more : List ProgramStep) (n : ℕ)
    (begin : Option ℕ) → length entries ≡ n
    → ((k : ℕ) → k < n → RuleStands g (rule k) (get_or entries k None) k (base_of rule k))
    → RuleStands (g ++ more) (rule n) begin n (base_of rule n)
    → (k : ℕ) → k < suc n
    → RuleStands (g ++ more) (rule k) (get_or (entries ++ begin ∷ []) k None) k (base_of rule k)
standing_more rule entries g more n begin count old new k l = elim (cases_lt k n) [
  | inl m ↦ rw (get_or_append_left entries (begin ∷ []) None k (omega arith))
      (rule_stays g more (rule k) (get_or entries k None) k (base_of rule k) (old k m))
  | inr m ↦ let same : n ≡ k = omega arith in
      subst (λ i. RuleStands (g ++ more) (rule i) (get_or (entries ++ begin ∷ []) i None) i (base_of rule i)) same
      (rw (get_or_push entries begin None n count) new)
]

program_none : (rule : ℕ → Option Expression) → IsProgram rule 0 [] []
program_none rule = record {
  closed = λ p s e. cc;
  within = λ k d l. absurd (omega arith);
  count = refl;
  long = refl;
  standing = λ k l. absurd (omega arith);
}

pub program_start : (rule : ℕ → Option Expression) (g : List ProgramStep) (entries : List (Option ℕ)) → g ≡ []
    → entries ≡ [] → IsProgram rule 0 g entries
program_start rule g entries a b = rw (a, b) (program_none rule)

-- a rule with nothing to match
pub program_skip : (rule : ℕ → Option Expression) (g : List ProgramStep) (entries : List (Option ℕ)) (n : ℕ)
    → IsProgram rule n g entries → rule n ≡ None → IsProgram rule (suc n) g (entries ++ None ∷ [])
program_skip rule g entries n h e = record {
  closed = h.closed;
  within = All-push (IsPlainPart (length g)) entries None h.within tt;
  count = omega (arith, h.count, length-append entries (None ∷ []));
  long = omega (arith, h.long, ap rule_size e);
  standing = subst (λ (x : List ProgramStep). (k : ℕ) → k < suc n
      → RuleStands x (rule k) (get_or (entries ++ None ∷ []) k None) k (base_of rule k)) (append-nil g)
      (standing_more rule entries g [] n None h.count h.standing (rw e refl));
}

leads_further : (n m : ℕ) (s : ProgramStep) → n ≤ m → LeadsBelow n s → LeadsBelow m s
leads_further n m (reads bytes q) l h = omega (arith, h)
leads_further n m (fork a b) l h = (omega (arith, h.0), omega (arith, h.1))
leads_further n m (ends i) l h = h

part_further : (n m : ℕ) (p : Option ℕ) → n ≤ m → IsPlainPart n p → IsPlainPart m p
part_further n m None l h = h
part_further n m (Some a) l h = omega (arith, h)

-- one more rule
module _ (rule : ℕ → Option Expression) (g : List ProgramStep) (entries : List (Option ℕ)) (n : ℕ) (e : Expression)
    (h : IsProgram rule n g entries) (is : rule n ≡ Some e) where
  abbrev base : ℕ
  base = length g

  abbrev more : List ProgramStep
  more = ends n ∷ code e (base + 1) base

  abbrev first : Option ℕ
  first = Some (entry (base + 1) (size e) base)

  count_more : length (g ++ more) ≡ base + 1 + size e
  count_more = omega (arith, length-append g more, length-code e (base + 1) base)

  at_base : slice_get (g ++ more) base ≡ Some (ends n)
  at_base = slice_get-behind g (code e (base + 1) base) base (ends n) refl

  has_code : HasCode (g ++ more) e (base + 1) base
  has_code = HasCode-of e (g ++ ends n ∷ []) [] (g ++ more) (base + 1) base
      (omega (arith, length-append g (ends n ∷ [])))
      (sym (append_assoc g (ends n ∷ []) (code e (base + 1) base))
      ∙ ap (λ z. (g ++ ends n ∷ []) ++ z) (sym (append-nil (code e (base + 1) base))))

  closed_more : StaysInside (g ++ more)
  closed_more p s at = elim (cases_lt p base) [
    | inl l ↦ leads_further base (length (g ++ more)) s (omega (arith, count_more))
        (h.closed p s (slice_get-before g more p s l at))
    | inr l ↦ elim (cases_eq base p) [
      | inl same ↦
          let one : ends n ≡ s = let a = at_base in let b : slice_get (g ++ more) base ≡ Some s
          = ap (λ x. slice_get (g ++ more) x) same ∙ at in cc in
          subst (LeadsBelow (length (g ++ more))) one tt
      | inr other ↦
          let within : p < length (g ++ more) = slice_get_within (g ++ more) p s at in
          let x = stands (g ++ more) e (base + 1) base 0 (length (g ++ more)) p has_code (omega arith) (omega arith)
          (omega (arith, count_more)) (omega (arith, count_more)) (omega arith) (omega (arith, count_more)) in
          let one : x.0 ≡ s = let a = x.1 in cc in
          subst (LeadsBelow (length (g ++ more))) one x.2
    ]
  ]

  stands_last : RuleStands (g ++ more) (rule n) first n (base_of rule n)
  stands_last = subst (λ b. RuleStands (g ++ more) (rule n) first n b) h.long
      (subst (λ r. RuleStands (g ++ more) r first n base) (sym is) (at_base, has_code, refl))

  pub program_rule : IsProgram rule (suc n) (g ++ more) (entries ++ first ∷ [])
  program_rule = record {
    closed = closed_more;
    within = All-push (IsPlainPart (length (g ++ more))) entries first
        (All-weaker (IsPlainPart base) (IsPlainPart (length (g ++ more)))
        (λ q k. part_further base (length (g ++ more)) q (omega (arith, count_more)) k) entries h.within)
        (entry_below (base + 1) (size e) base (length (g ++ more)) (omega (arith, count_more))
        (omega (arith, count_more)));
    count = omega (arith, h.count, length-append entries (first ∷ []));
    long = count_more ∙ omega (arith, h.long, ap rule_size is);
    standing = standing_more rule entries g more n first h.count h.standing stands_last;
  }

-- one more rule, as it was appended
pub program_step : (rule : ℕ → Option Expression) (g g' : List ProgramStep) (entries fs : List (Option ℕ))
    (n base begin : ℕ)
    (e : Expression) → IsProgram rule n g entries → rule n ≡ Some e → base ≡ length g
    → begin ≡ entry (base + 1) (size e) base → g' ≡ g ++ ends n ∷ code e (base + 1) base
    → fs ≡ entries ++ Some begin ∷ [] → IsProgram rule (n + 1) g' fs
program_step rule g g' entries fs n base begin e h is at first grown is_fs =
    let same : g' ≡ g ++ ends n ∷ code e (length g + 1) (length g)
    = grown ∙ ap (λ b. g ++ ends n ∷ code e (b + 1) b) at in
    let start : begin ≡ entry (length g + 1) (size e) (length g) = first ∙ ap (λ b. entry (b + 1) (size e) b) at in
    rw (add-one, same, is_fs, start) (program_rule rule g entries n e h is)

pub program_next : (rule : ℕ → Option Expression) (g : List ProgramStep) (entries fs : List (Option ℕ)) (n : ℕ)
    → IsProgram rule n g entries → rule n ≡ None → fs ≡ entries ++ None ∷ [] → IsProgram rule (n + 1) g fs
program_next rule g entries fs n h e is_fs = rw (add-one, is_fs) (program_skip rule g entries n h e)

-- there is such a program
pub record SomeProgram (rule : ℕ → Option Expression) (n : ℕ) : Type 0 where
  pub program : List ProgramStep
  pub entries : List (Option ℕ)
  pub is : IsProgram rule n program entries

program_more : (rule : ℕ → Option Expression) (n : ℕ) → SomeProgram rule n → (o : Option Expression) → rule n ≡ o
    → SomeProgram rule (suc n)
program_more rule n p None e = record {
  program = p.program;
  entries = p.entries ++ None ∷ [];
  is = program_skip rule p.program p.entries n p.is e;
}
program_more rule n p (Some x) e = record {
  program = p.program ++ ends n ∷ code x (length p.program + 1) (length p.program);
  entries = p.entries ++ Some (entry (length p.program + 1) (size x) (length p.program)) ∷ [];
  is = program_rule rule p.program p.entries n x p.is e;
}

pub some_program : (rule : ℕ → Option Expression) (n : ℕ) → SomeProgram rule n
some_program rule zero = record { program = []; entries = []; is = program_none rule }
some_program rule (suc n) = program_more rule n (some_program rule n) (rule n) refl
