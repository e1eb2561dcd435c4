-- Transitions and pairs, as contracts see them.
use Rattle.ly_relate.specs.Related.{Goto, Lookback}
use Rattle.ly_relate.specs.declared.gotos.Goto as goto
use Rattle.ly_relate.specs.declared.walks.Lookback as lookback

abbrev pub goto_from : goto.Goto → Goto
goto_from g = record { from = g.from.0; symbol = g.symbol.0; target = g.target.0 }

abbrev pub lookback_from : lookback.Lookback → Lookback
lookback_from l = record { state = l.state.0; rule = l.rule; node = l.node }
