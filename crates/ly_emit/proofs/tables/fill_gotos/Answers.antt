use Rattle.std.proofs.Common.{◌≡◌, ◌∙◌, ◌&&◌, ℕ, Some, ap, arith, inl, inr, nat_eq, refl, slice_index_or}
use Rattle.std.proofs.Common.{subst, sym}
use Rattle.std.specs.Prelude.{if◌then◌else◌}
use Rattle.std.proofs.lemmas.Bool.{cases_eq}
use Rattle.ly_join.specs.Grammar.{nonterminal, symbol_of, terminal}
use Rattle.ly_pack.specs.Rows.{dense_entry}
use Rattle.ly_relate.proofs.GotoLemmas.{nowhere}
use Rattle.ly_emit.specs.Private.Filling.{AreGotosTo, IsGotoAt, IsLedAt}
use Rattle.ly_emit.proofs.FillLemmas.{filled_more, put_filled, put_none}
use Rattle.ly_emit.proofs.RowLemmas.{found_at, led_at, led_within}
use Rattle.ly_emit.proofs.tables.fill_gotos.Goals as goal
use Rattle.ly_emit.proofs.tables.fill_gotos.Goals.{in-Nonterminal+in_ok-set, in_default}

pub set-requires-clause-column : goal.set-requires-clause-column
set-requires-clause-column c =
    let M = c.args.lr0.now in
    let k = c.args.state.0 in
    let goes = led_at M c.requires.lawful k c.requires.state c.gotos-transition-items.result.now
    c.gotos-transition-items.ensures c.loop-transition.transition-index c.in-Nonterminal.left.0
    c.loop-transition-test.true (ap symbol_of c.in-Nonterminal.is) in
    let lt = led_within M c.requires.lawful k c.requires.state c.in-Nonterminal.left.0 _ goes in
    let now = c.loop-transition.invariant.width in
    let width = c.requires.width in
    omega (arith, lt, now, width)

pub loop-transition-preserved : goal.loop-transition-preserved
loop-transition-preserved c =
    let M = c.args.lr0.now in
    let k = c.args.state.0 in
    let ts = c.gotos-transition-items.result.now in
    let i = c.loop-transition.transition-index in
    let t = slice_index_or ts i nowhere in
    let inv = c.loop-transition.invariant in
    let old = dense_entry c.loop-transition.gotos in
    let new = dense_entry c.match-transition.gotos in
    elim c.match-transition.branch [
      | in-Nonterminal+in_ok-set w ↦
          let A = w.in-Nonterminal.left.0 in
          let named : symbol_of t.symbol ≡ nonterminal A = ap symbol_of w.in-Nonterminal.is in
          let put : (r col : ℕ) → new r col ≡ (if nat_eq r k && nat_eq col A then Some t.target else old r col)
          = λ r col. ap (λ d. dense_entry d r col) w.gotos-is ∙ w.in_ok-set.ensures.entries r col in
          record {
            rows = ap (λ d. d.rows) w.gotos-is ∙ w.set.ensures.rows ∙ inv.rows;
            width = ap (λ d. d.width) w.gotos-is ∙ w.set.ensures.width ∙ inv.width;
            filled = put_filled old new k A t.target put (IsGotoAt M) (IsLedAt M) k
                (led_at M c.requires.lawful k c.requires.state ts c.gotos-transition-items.ensures i A
                c.loop-transition-test.true named) inv.filled;
            seen = λ j B lt is none. let before = put_none old new k A t.target put k B none in
                elim (cases_eq j i) [
                  | inl same ↦
                      let e : nonterminal B ≡ nonterminal A
                      = sym is ∙ ap (λ n. symbol_of (slice_index_or ts n nowhere).symbol) same ∙ named in
                      before.1 refl cc
                  | inr off ↦ inv.seen j B (omega (arith, lt, off)) is before.0
                ];
          }
      | in_default w ↦ record {
        rows = ap (λ d. d.rows) w.gotos-is ∙ inv.rows;
        width = ap (λ d. d.width) w.gotos-is ∙ inv.width;
        filled = subst (λ d. AreGotosTo M k (dense_entry d)) (sym w.gotos-is) inv.filled;
        seen = λ j B lt is none. elim (cases_eq j i) [
          | inl same ↦
              let e : terminal w.in_default.field-0.0 ≡ nonterminal B
              = sym (ap symbol_of w.in_default.is)
              ∙ (ap (λ n. symbol_of (slice_index_or ts n nowhere).symbol) (sym same) ∙ is) in
              absurd cc
          | inr off ↦ inv.seen j B (omega (arith, lt, off)) is
              (ap (λ d. dense_entry d k B) (sym w.gotos-is) ∙ none)
        ];
      }
    ]

pub returns-clause-filled : goal.returns-clause-filled
returns-clause-filled c =
    let M = c.args.lr0.now in
    let k = c.args.state.0 in
    let inv = c.loop-transition.invariant in
    let past = c.loop-transition-test.false in
    filled_more (IsGotoAt M) (IsLedAt M) (dense_entry c.loop-transition.gotos) k inv.filled (λ A none led.
    let found = found_at M c.requires.lawful k c.requires.state c.gotos-transition-items.result.now
    c.gotos-transition-items.ensures A led.0 led.1 in
    let within = found.1 in
    inv.seen found.0 A (omega (arith, within, past)) found.2 none)
