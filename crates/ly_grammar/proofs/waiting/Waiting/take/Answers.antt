use Rattle.std.proofs.Common.{◌∙◌, ap, List, ℕ, slice_set, Vec}
use Rattle.std.proofs.lemmas.List.{map-set}
use Rattle.std.specs.declared.alloc.Global.{Global}
use Rattle.ly_grammar.proofs.waiting.Waiting.take.Goals as goal

pub returns-clause-gone : goal.returns-clause-gone
returns-clause-gone c =
    let rules : Vec ℕ Global → List ℕ = λ w. w.items in
    let n = c.args.nonterminal in
    map-set rules c.self.inside.lists.items n c.replace.new.dest
    ∙ ap (λ xs. slice_set xs n c.replace.new.dest.items) c.self.view_is
    ∙ ap (λ ys. slice_set c.args.self.now n ys) (ap rules c.replace.ensures.after ∙ c.new.ensures.items)
