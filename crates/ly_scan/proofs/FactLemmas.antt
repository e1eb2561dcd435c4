-- Lexemes that are told by the state where their walk ends.
use Rattle.std.proofs.Common.{◌≡◌, ◌≢◌, ◌∙◌, ◌<◌, ◌+◌, ◌++◌, ℕ, List, Option, Some, None, Bool, true, false, ap, arith}
use Rattle.std.proofs.Common.{get_or, length, refl, sym, take}
use Rattle.std.proofs.lemmas.List.{get_or-map}
use Rattle.std.specs.Prelude.{if◌then◌else◌, option_map, slice_index_or}
use Rattle.ly_base.specs.Lexed.{Place}
use Rattle.ly_base.specs.declared.cut.Cut.{Cut}
use Rattle.ly_base.specs.declared.cut.Cut.TheVariants.{Head, Tail, Whole}
use Rattle.ly_base.specs.declared.numbers.RuleNo.{RuleNo}
use Rattle.ly_scan.proofs.PieceLemmas.{stands_fast}
use Rattle.ly_scan.proofs.WalkLemmas.{best_fast, ends_best, ends_within}
use Rattle.ly_scan.specs.Cuts.{token_len}
use Rattle.ly_scan.specs.Facts.{IsTaggedLexeme, fact_by, facts_by, is_whole}
use Rattle.ly_scan.specs.Lexer.{Scanner}
use Rattle.ly_scan.specs.Lexers.{scanner_of}
use Rattle.ly_scan.specs.Pieces.{IsDecided}
use Rattle.ly_scan.specs.StateRows.{state_at}
use Rattle.ly_scan.specs.StateTable.{StateTable, ahead_at, cut_at, start_at, states_of}
use Rattle.ly_scan.specs.StateWalk.{ahead_of-ended}
use Rattle.ly_scan.specs.Walk.{IsLongest, Walk}
use Rattle.ly_scan.specs.declared.state_rows.RowStart.{RowStart}
use Rattle.ly_scan.specs.declared.tagged_lexeme.TaggedLexeme.{TaggedLexeme}

whole_is : (cut : Cut) → is_whole cut ≡ true → cut ≡ Whole
whole_is Whole e = refl
whole_is (Head n) e = absurd cc
whole_is (Tail n) e = absurd cc

-- A fact that isn't 0 is that of a rule which has no cut.
record HasFact (t : StateTable) (by_rule : List ℕ) (o : Option RuleNo) (told : ℕ) : Type 0 where
  rule : RuleNo
  is : o ≡ Some rule
  whole : cut_at t rule.0 ≡ Whole
  fact : get_or by_rule rule.0 0 ≡ told

has_fact : (t : StateTable) (by_rule : List ℕ) (o : Option RuleNo) (fact : ℕ) → fact_by t by_rule o ≡ fact → fact ≢ 0
    → HasFact t by_rule o fact
has_fact t by_rule None fact e some = absurd (some (sym e))
has_fact t by_rule (Some rule) fact e some = by_cut (is_whole (cut_at t rule.0)) refl e
  where
    by_cut : (b : Bool) → is_whole (cut_at t rule.0) ≡ b → (if b then get_or by_rule rule.0 0 else 0) ≡ fact
        → HasFact t by_rule (Some rule) fact
    by_cut true whole e = record {
      rule = rule;
      is = refl;
      whole = whole_is (cut_at t rule.0) whole;
      fact = e;
    }
    by_cut false part e = absurd (some (sym e))

-- A walk from the initial condition has read some bytes at a place, ends behind them, and stands in a state of this
-- rule, which has no cut: so they are a lexeme.
told_there : (t : StateTable) (q : Place) (line : Bool) (start at : RowStart) (n : ℕ) (rule : RuleNo)
    → q.condition ≡ 0 → (scanner_of t).walk 0 line ≡ (scanner_of t).walk 0 q.line
    → ((text : List ℕ) → ahead_at t start text ≡ (scanner_of t).walk 0 line text) → 0 < n → n < length q.rest
    → ((text : List ℕ) → ahead_at t at text ≡ ahead_at t start (take n q.rest ++ text))
    → ahead_at t start (take (n + 1) q.rest) ≡ None → slice_index_or t.rules (state_at at) None ≡ Some rule
    → cut_at t rule.0 ≡ Whole
    → IsDecided false (scanner_of t) q (record { rule = rule; matched = n; taken = n })
told_there t q line start at n rule initial lines begun some within on ended is whole =
    stands_fast s q false rule n n (λ more follows. (
      best_fast walk q.rest more (Some (n, rule)) stays
          (ends_within walk (ahead_at t start) q.rest (n + 1) stays begins ended) longest,
      ap (λ k. token_len k n) whole,
    ))
  where
    s : Scanner
    s = scanner_of t

    walk : Walk
    walk = s.walk q.condition q.line

    stays : (text more : List ℕ) → walk text ≡ None → walk (text ++ more) ≡ None
    stays = ahead_of-ended (states_of t) (start_at t q.condition q.line)

    begins : (text : List ℕ) → ahead_at t start text ≡ walk text
    begins text = begun text ∙ ap (λ w. w text) lines ∙ ap (λ k. s.walk k q.line text) (sym initial)

    longest : IsLongest walk q.rest (length q.rest) n rule.0
    longest = ends_best walk (ahead_at t start) (ahead_at t at) q.rest n rule stays some (omega (arith, within)) begins
        on refl (sym (ap (option_map (λ (r : RuleNo). r.0)) is)) (λ less. ended)

-- so it is told by the state
pub is_told : (t : StateTable) (q : Place) (line : Bool) (start at : RowStart) (by_rule facts : List ℕ)
    (told : TaggedLexeme)
    → facts ≡ facts_by t by_rule → state_at at < length t.rules → get_or facts (state_at at) 0 ≡ told.fact
    → told.fact ≢ 0 → q.condition ≡ 0 → (scanner_of t).walk 0 line ≡ (scanner_of t).walk 0 q.line
    → ((text : List ℕ) → ahead_at t start text ≡ (scanner_of t).walk 0 line text) → 0 < told.taken
    → told.taken < length q.rest
    → ((text : List ℕ) → ahead_at t at text ≡ ahead_at t start (take told.taken q.rest ++ text))
    → ahead_at t start (take (told.taken + 1) q.rest) ≡ None → IsTaggedLexeme (scanner_of t) by_rule q told
is_told t q line start at by_rule facts told all there found more initial lines begun some within on ended =
    let fact : fact_by t by_rule (slice_index_or t.rules (state_at at) None) ≡ told.fact
    = sym (get_or-map (fact_by t by_rule) t.rules (state_at at) None 0 there)
    ∙ ap (λ xs. get_or xs (state_at at) 0) (sym all) ∙ found in
    let has = has_fact t by_rule (slice_index_or t.rules (state_at at) None) told.fact fact more in record {
      lexeme = record { rule = has.rule; matched = told.taken; taken = told.taken };
      stands = told_there t q line start at told.taken has.rule initial lines begun some within on ended has.is
          has.whole;
      taken = refl;
      fact = has.fact;
      some = more;
    }
