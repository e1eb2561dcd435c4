-- The rules that some string leads to are those that win somewhere.
use Rattle.std.proofs.Common.{◌≡◌, ◌∙◌, ℕ, ◌+◌, ◌-◌, ◌≤◌, List, [], ◌∷◌, Bool, Option, Some, None, refl, sym}
use Rattle.std.proofs.Common.{ap, subst, arith, length, take, drop, length-take, le_antisymm}
use Rattle.std.proofs.Math.Seq.{take-add}
use Rattle.std.proofs.lemmas.List.{drop-take, take-take, take_all}
use Rattle.ly_base.specs.Lexed.{Place}
use Rattle.ly_ere.specs.Expression.{Expression, Matches}
use Rattle.ly_ere.specs.Names.{defined}
use Rattle.ly_ere.specs.Winner.{Candidate, FitsPattern, InTail, IsString, Winner}
use Rattle.ly_ere.specs.declared.pattern.Pattern.{Pattern}
use Rattle.ly_ere.specs.declared.pattern.Rule.{Rule}
use Rattle.ly_scan.specs.Cuts.{token_len}
use Rattle.ly_scan.specs.Lexer.{IsLongestAt, Scanner}
use Rattle.ly_subset.specs.Automaton.{Automaton, rule_after, start_of, state_after}
use Rattle.ly_tokens.specs.Agreement.{Agrees}
use Rattle.ly_tokens.specs.RowWalk.{cut_in, row_walk}
use Rattle.ly_tokens.proofs.AgreementLemmas.{no_bad_cut, winner_of}
use Rattle.ly_tokens.proofs.RowAgreementLemmas.{row_walk-says, rule_said, said_rule, same_rules_agree}
use Rattle.ly_counterexamples.specs.Doubts.{IsMatched, Wins}
use Rattle.ly_counterexamples.specs.Laws.{MatchedWin}

-- what fits the front of a text fits the text
fits_on : (names : List Expression) (p : Pattern) (rest : List ℕ) (n m : ℕ) → n ≤ length rest
    → FitsPattern names p (take n rest) n m → FitsPattern names p rest n m
fits_on names p rest n m within f =
    let le = f.token_within in
    let split : m + (n - m) ≡ n = omega (arith, le) in
    let behind : drop m (take n rest) ≡ take (n - m) (drop m rest)
    = ap (λ k. drop m (take k rest)) (sym split) ∙ drop-take m (n - m) rest in
    let least : n - m ≤ n - m = omega arith in
    record {
      some_byte = f.some_byte;
      token_within = le;
      within = within;
      in_head = subst (Matches names p.head) (take-take m n rest le) f.in_head;
      in_tail = subst (InTail names p.tail)
          (ap (take (n - m)) behind ∙ take-take (n - m) (n - m) (drop m rest) least) f.in_tail;
    }

-- a string of at least one byte has a first one
leads_first : (B : Automaton) (o : Option ℕ) (i : ℕ) (w : List ℕ) → 1 ≤ length w → rule_after B o w ≡ Some i
    → (b : ℕ) × (v : List ℕ) × (rule_after B o (b ∷ v) ≡ Some i)
leads_first B o i [] le e = absurd (omega (arith, le))
leads_first B o i (b ∷ v) le e = (b, v, e)

module _ (names : List Expression) (rules : List Rule) (B : Automaton)
    (a : Agrees names rules (record { walk = row_walk B; cut = cut_in rules })) (c : ℕ) (line : Bool) where
  abbrev scanner : Scanner
  scanner = record { walk = row_walk B; cut = cut_in rules }

  abbrev place_at : List ℕ → Place
  place_at text = record { line = line; condition = c; at = 0; rest = text }

  -- a walk that has a rule at the end of a text has its longest match there
  longest_here : (w : List ℕ) (i : ℕ) → 1 ≤ length w → row_walk B c line w ≡ Some (Some i)
      → IsLongestAt scanner (place_at w) (length w) i
  longest_here w i some e = record {
    some_byte = some;
    within = omega arith;
    has_rule = ap (row_walk B c line) (take_all (length w) w (omega arith)) ∙ e;
    longest = λ k r less within. absurd (omega (arith, less, within));
  }

  wins_here : (w : List ℕ) (i : ℕ) → 1 ≤ length w → row_walk B c line w ≡ Some (Some i)
      → (m : ℕ) × Winner names rules c line w i (length w) m
  wins_here w i some e = by (token_len (cut_in rules i) (length w)) refl where
    by : (o : Option ℕ) → token_len (cut_in rules i) (length w) ≡ o
        → (m : ℕ) × Winner names rules c line w i (length w) m
    by (Some m) t = (m, winner_of names rules scanner a (place_at w) (length w) i m (longest_here w i some e) t)
    by None t = absurd (no_bad_cut names rules scanner a (place_at w) (length w) i (longest_here w i some e) t)

  -- a string of at least one byte that leads to the rule
  leads_win : (i b : ℕ) (w : List ℕ) → rule_after B (start_of B c line) (b ∷ w) ≡ Some i
      → (rest : List ℕ) × (n : ℕ) × (m : ℕ) × Winner names rules c line rest i n m
  leads_win i b w e =
      let text : List ℕ = b ∷ w in
      let has : row_walk B c line text ≡ Some (Some i)
      = row_walk-says B c line text ∙ said_rule B (state_after B (start_of B c line) text) i e in
      let win = wins_here text i (omega arith) has in
      (text, length text, win.0, win.1)

  -- a candidate's match is a string of its rule
  string_of : (rest : List ℕ) (i n m : ℕ) → Candidate names rules c line rest i n m
      → IsString names rules c line i (take n rest)
  string_of rest i n m x = record {
    rule = x.rule;
    is_active = x.is_active;
    spelled = (
      take m rest,
      take (n - m) (drop m rest),
      (let le = x.fits.token_within in let e : n ≡ m + (n - m) = omega (arith, le) in
          ap (λ k. take k rest) e ∙ take-add m (n - m) rest),
      x.fits.in_head,
      x.fits.in_tail,
    );
  }

  -- where a rule wins a string leads to it
  win_leads : (rest : List ℕ) (i n m : ℕ) → Winner names rules c line rest i n m
      → (b : ℕ) × (w : List ℕ) × (rule_after B (start_of B c line) (b ∷ w) ≡ Some i)
  win_leads rest i n m win =
      let x = win.is_candidate in
      let within = x.fits.within in
      let some = x.fits.some_byte in
      let le = x.fits.token_within in
      let front = take n rest in
      let long : length front ≡ n = omega (arith, length-take n rest, within) in
      let string = string_of rest i n m x in
      let found = a.found c line front i string in
      let g = found.0 in
      let here = wins_here front g (omega (arith, long, some, le)) found.1 in
      let other : Winner names rules c line front g n here.0
      = subst (λ k. Winner names rules c line front g k here.0) long here.1 in
      let y = other.is_candidate in
      let too : Candidate names rules c line rest g n here.0 = record {
        rule = y.rule;
        is_active = y.is_active;
        fits = fits_on names y.rule.pattern rest n here.0 within y.fits;
      } in
      let same : g ≡ i = le_antisymm (a.least c line front g i found.1 string) (win.first g here.0 too) in
      let rule : rule_after B (start_of B c line) front ≡ Some i
      = rule_said B (state_after B (start_of B c line) front) g (sym (row_walk-says B c line front) ∙ found.1)
      ∙ ap Some same in
      leads_first B (start_of B c line) i front (omega (arith, long, some, le)) rule

pub matched_win : MatchedWin
matched_win lex file A B text scans same i = (to, back) where
  agrees : Agrees (defined file.names) file.rules.items (record { walk = row_walk B; cut = cut_in file.rules.items })
  agrees = same_rules_agree lex file text scans.nfa A scans.positions scans.subsets B same

  to : IsMatched B i → Wins file i
  to (c, line, b, w, e) = (c, line, leads_win (defined file.names) file.rules.items B agrees c line i b w e)

  back : Wins file i → IsMatched B i
  back (c, line, (rest, n, m, win)) =
      let leads = win_leads (defined file.names) file.rules.items B agrees c line rest i n m win in
      (c, line, leads.0, leads.1, leads.2)
