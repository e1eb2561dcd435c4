use Rattle.std.proofs.Common.{◌≡◌, ◌∙◌, ◌+◌, ℕ, ap, map, replicate, List, [], ◌∷◌, ◌++◌, Vec}
use Rattle.std.proofs.lemmas.List.{map-append, replicate-append-replicate}
use Rattle.std.specs.declared.alloc.Global.{Global}
use Rattle.ly_counterexamples.proofs.lists.Lists.new.Goals as goal

-- one more empty list
one_more : {T : Type 0} (old new : List (Vec T Global)) (v : Vec T Global) (n : ℕ) → new ≡ old ++ v ∷ [] → v.items ≡ []
    → map (λ list. list.items) old ≡ replicate n [] → map (λ list. list.items) new ≡ replicate (n + 1) []
one_more old new v n grown none are = ap (map (λ list. list.items)) grown ∙ map-append (λ list. list.items) old (v ∷ [])
    ∙ ap (λ xs. xs ++ v.items ∷ []) are ∙ ap (λ x. replicate n [] ++ x ∷ []) none ∙ replicate-append-replicate n 1 []

pub loop-preserved : goal.loop-preserved
loop-preserved g c = one_more c.loop.lists.items c.push.new.self.items c.new.result c.loop.counter
    c.in_ok-push.ensures.items c.new.ensures.items c.loop.invariant
