use Rattle.std.proofs.Common.{◌∙◌, subst, sym, refl}
use Rattle.std.specs.Prelude.{IsSome}
use Rattle.ly_base.proofs.ListLemmas.{option_map-some}
use Rattle.ly_resolve.proofs.RawLemmas.{terminal_shifted}
use Rattle.ly_emit.proofs.tables.shift_action.Goals as goal

pub unwrap-requires : goal.unwrap-requires
unwrap-requires c =
    let leads = (terminal_shifted c.args.lr0.now c.requires.lawful c.args.state.0 c.args.terminal.0 c.requires.state
    c.if-terminal-eq0.false).1 c.requires.shifted in
    let is = option_map-some (λ s. s.0) c.goto_near.result leads.0 (c.goto_near.ensures ∙ leads.1) in
    subst IsSome (sym is.1) refl
