use Rattle.std.proofs.Common.{◌≡◌, ◌∙◌, ap, None, rules, List, ◌++◌, ◌∷◌, []}
use Rattle.std.specs.Prelude.{replicate}
use Rattle.ly_join.specs.declared.terminal.TerminalName.{TerminalName}
use Rattle.ly_join.specs.declared.terminal.TerminalName.TheVariants.{End, Undefined}
use Rattle.ly_join.proofs.TableLemmas.{no_tables}
use Rattle.ly_join.proofs.terminal.Terminals.new.Goals as goal

pub invariant_of-result : goal.invariant_of-result
invariant_of-result c =
    let pushed : List TerminalName → TerminalName → List TerminalName = λ xs x. xs ++ x ∷ [] in
    let names : c.push-2.new.self.items ≡ End ∷ Undefined ∷ [] = c.in_ok-push-2.ensures.items
    ∙ ap (λ xs. pushed xs Undefined) (c.in_ok-push.ensures.items
    ∙ ap (λ xs. pushed xs End) c.new-names.ensures.items) in
    let none : c.in_ok-vec.field-0.items ≡ replicate 256 None
    = c.in_ok-vec.ensures.items_if_clones_equal (λ y h. search rules) in
    rw (names, c.new.ensures.empty) (no_tables (λ k. k.now) c.in_ok-vec.field-0.items none)
