use Rattle.std.proofs.Common.{◌≡◌, ◌∙◌, ap, false, sym, true}
use Rattle.ly_resolve.proofs.RawLemmas.{asks_end, asks_no_end, asks_terminal}
use Rattle.ly_resolve.proofs.asking.asks_shift.Goals as goal

pub returns-in-Some : goal.returns-in-Some
returns-in-Some c = asks_end c.args.lr0.now c.requires.lawful c.args.state.0 c.args.terminal.0 c.start-start.result.0
    c.in-Some.accepting.0 c.eq.result c.requires.state c.if-terminal-eq0.true
    (c.start-start.ensures.value ∙ sym c.grammar.ensures.keeps.start ∙ ap (λ g. g.start) c.reduced.ensures)
    c.in-Some.ensures c.eq.ensures

pub returns-in-None : goal.returns-in-None
returns-in-None c = (
  λ held. absurd (let no : false ≡ true → ⊥ = λ z. cc in no held),
  λ raw. absurd (asks_no_end c.args.lr0.now c.requires.lawful c.args.state.0 c.args.terminal.0 c.start-start.result.0
      c.requires.state c.if-terminal-eq0.true
      (c.start-start.ensures.value ∙ sym c.grammar.ensures.keeps.start ∙ ap (λ g. g.start) c.reduced.ensures)
      c.in-None.ensures raw),
)

pub returns-else-terminal-eq0 : goal.returns-else-terminal-eq0
returns-else-terminal-eq0 c = asks_terminal c.args.lr0.now c.requires.lawful c.args.state.0 c.args.terminal.0
    c.goto_near.result c.is_some.result c.requires.state c.if-terminal-eq0.false
    c.goto_near.ensures c.is_some.ensures
