-- A scanner as plain data.
use Rattle.std.proofs.Common.{◌≡◌, ◌∙◌, ◌<◌, ◌≤◌, ◌+◌, ◌*◌, ℕ, List, Bool, Option, None, ap, arith, inl, inr, length}
use Rattle.std.proofs.Common.{false, map, subst, sym, true}
use Rattle.std.specs.Prelude.{IfSome, if◌then◌else◌, option_and_then, option_map, slice_index_or}
use Rattle.std.proofs.lemmas.Bool.{cases_lt, le-ltb, lt-ltb}
use Rattle.std.proofs.lemmas.List.{get_or-map, get_or_past, length-map}
use Rattle.std.proofs.lemmas.Option.{slice_get_past}
use Rattle.ly_base.specs.declared.cut.Cut.{Cut}
use Rattle.ly_base.specs.declared.numbers.RuleNo.{RuleNo}
use Rattle.ly_scan.specs.Beginning.{IsBegun, anywhere}
use Rattle.ly_scan.specs.Lexer.{Scanner}
use Rattle.ly_scan.specs.Lexers.{scanner_of}
use Rattle.ly_scan.specs.StateRows.{row_entry, row_width}
use Rattle.ly_scan.specs.StateTable.{StandsIn, StateTable, ahead_at, cut_at, next_at, rule_at, start_at, states_of}
use Rattle.ly_scan.specs.StateWalk.{States, state_walk}
use Rattle.ly_scan.specs.declared.state_rows.RowStart.{RowStart}

-- A table says of each condition, state and rule what states and cuts do.
pub record IsTableOf (t : StateTable) (S : States) (cuts : ℕ → Cut) : Type 0 where
  pub start : (condition : ℕ) (line : Bool) → start_at t condition line ≡ S.start condition line
  pub next : (state byte : ℕ) → next_at t state byte ≡ S.next state byte
  pub rule : (state : ℕ) → rule_at t state ≡ S.rule state
  pub cut : (rule : ℕ) → cut_at t rule ≡ cuts rule

-- so it says of a text what they do
pub same_scanner : (t : StateTable) (S : States) (cuts : ℕ → Cut) → IsTableOf t S cuts
    → scanner_of t ≡ (let s : Scanner = record { walk = state_walk S; cut = cuts } in s)
same_scanner t S cuts is = λ i. record {
  walk = state_walk (let states : States = record {
    start = λ condition line. is.start condition line i;
    next = λ state byte. is.next state byte i;
    rule = λ state. is.rule state i;
  } in states);
  cut = λ rule. is.cut rule i;
}

-- where no line is minded, walks begin anywhere as they do elsewhere than at the start of a line
pub begun_anywhere : (t : StateTable) (start : RowStart) → StandsIn t start
    → ((text : List ℕ) → ahead_at t start text ≡ state_walk (states_of t) 0 false text)
    → ((condition : ℕ) → state_walk (states_of t) condition true ≡ state_walk (states_of t) condition false)
    → IsBegun t (anywhere (record { start = start }))
begun_anywhere t start stands begun alike = record { stands = λ line. stands; there = there }
  where
    there : (line : Bool) (text : List ℕ) → ahead_at t start text ≡ state_walk (states_of t) 0 line text
    there false text = begun text
    there true text = begun text ∙ sym (ap (λ walk. walk text) (alike 0))

-- the rule of a state, of rules by their numbers
pub numbered : (rules : List (Option RuleNo)) (state : ℕ)
    → option_map (λ (r : RuleNo). r.0) (slice_index_or rules state None)
    ≡ slice_index_or (map (option_map (λ (r : RuleNo). r.0)) rules) state None
numbered rules state = elim (cases_lt state (length rules)) [
  | inl lt ↦ sym (get_or-map (option_map (λ (r : RuleNo). r.0)) rules state None None lt)
  | inr past ↦ ap (option_map (λ (r : RuleNo). r.0)) (get_or_past rules state None past)
      ∙ sym (get_or_past (map (option_map (λ (r : RuleNo). r.0)) rules) state None
      (omega (arith, past, length-map rules (option_map (λ (r : RuleNo). r.0)))))
]

module _ (t : StateTable) (full : length t.rows ≡ length t.rules * row_width) where
  -- no row is there for a state that isn't
  past_rows : (state byte : ℕ) → length t.rules ≤ state → row_entry t.rows state byte ≡ None
  past_rows state byte past = ap (option_and_then (λ next. next))
      (slice_get_past t.rows (state * row_width + byte) (omega (arith, past, full)))

  -- where a byte leads, by the rows of the states that are there
  pub next_as : (next : ℕ → ℕ → Option ℕ)
      → ((state byte : ℕ) → state < length t.rules → byte < 256 → row_entry t.rows state byte ≡ next state byte)
      → ((state byte : ℕ) → length t.rules ≤ state → next state byte ≡ None)
      → ((state byte : ℕ) → 256 ≤ byte → next state byte ≡ None)
      → (state byte : ℕ) → next_at t state byte ≡ next state byte
  next_as next here no_state no_byte state byte = elim (cases_lt byte 256) [
    | inl lt ↦ ap (λ b. if b then row_entry t.rows state byte else None) (lt-ltb byte 256 lt)
        ∙ elim (cases_lt state (length t.rules)) [
          | inl row ↦ here state byte row lt
          | inr past ↦ past_rows state byte past ∙ sym (no_state state byte past)
        ]
    | inr past ↦ ap (λ b. if b then row_entry t.rows state byte else None) (le-ltb byte 256 past)
        ∙ sym (no_byte state byte past)
  ]

  -- rows of states that are there lead to such
  pub targets_within : ((state byte : ℕ) → state < length t.rules → byte < 256
      → IfSome (row_entry t.rows state byte) (λ next. next < length t.rules))
      → (state byte : ℕ) → byte < 256 → IfSome (row_entry t.rows state byte) (λ next. next < length t.rules)
  targets_within here state byte lt = elim (cases_lt state (length t.rules)) [
    | inl row ↦ here state byte row lt
    | inr past ↦ subst (λ o. IfSome o (λ next. next < length t.rules)) (sym (past_rows state byte past)) tt
  ]
