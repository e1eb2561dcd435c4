use Rattle.std.proofs.Common.{◌≡◌, ◌∙◌, ◌++◌, ◌∷◌, ◌-◌, ◌<◌, ◌+◌, ℕ, List, [], add-one, ap, get_or, length, map}
use Rattle.std.proofs.Common.{refl, sym, take}
use Rattle.std.proofs.Math.Seq.{take-suc}
use Rattle.std.proofs.lemmas.List.{map-append, take_all}
use Rattle.ly_lexread.specs.declared.defined.NameLine.{NameLine}
use Rattle.ly_lexread.proofs.read.starts_of.Goals as goal

-- one more line
step : (whole : ℕ) (lines : List NameLine) (k : ℕ) (l : NameLine) (starts more : List ℕ) (start : ℕ)
    → k < length lines → start ≡ whole - (get_or lines k l).left → more ≡ starts ++ start ∷ []
    → starts ≡ map (λ n. whole - n.left) (take k lines) → more ≡ map (λ n. whole - n.left) (take (k + 1) lines)
step whole lines k l starts more start less here grown so_far =
    let at = λ (n : NameLine). whole - n.left in
    let next : take (k + 1) lines ≡ take k lines ++ get_or lines k l ∷ []
    = rw (add-one k, take-suc lines k l less) refl in
    grown ∙ (ap (λ s. starts ++ s ∷ []) here ∙ (ap (λ s. s ++ at (get_or lines k l) ∷ []) so_far
    ∙ (sym (map-append at (take k lines) (get_or lines k l ∷ [])) ∙ ap (map at) (sym next))))

pub loop-line-preserved : goal.loop-line-preserved
loop-line-preserved c = step c.args.whole c.args.lines.now c.loop-line.line-index _ c.loop-line.starts.items
    c.push.new.self.items c.saturating_sub.result c.loop-line-test.true c.saturating_sub.ensures
    c.in_ok-push.ensures.items c.loop-line.invariant

pub returns : goal.returns
returns c = c.loop-line.invariant
    ∙ ap (map (λ (n : NameLine). c.args.whole - n.left)) (take_all c.loop-line.line-index c.args.lines.now
    c.loop-line-test.false)
