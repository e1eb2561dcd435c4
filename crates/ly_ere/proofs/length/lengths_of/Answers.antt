use Rattle.std.proofs.Common.{◌≡◌, ◌<◌, arith, length, subst, sym, ◌∙◌}
use Rattle.std.proofs.lemmas.List.{get_or_default, length-map}
use Rattle.ly_ere.specs.Arena.{expressions}
use Rattle.ly_ere.specs.Expression.{Matches}
use Rattle.ly_ere.specs.Lengths.{AreLengths, IsSound, lengths_at}
use Rattle.ly_ere.specs.Names.{defined}
use Rattle.ly_ere.specs.Weight.{weight_of}
use Rattle.ly_ere.proofs.ArenaLemmas.{length-expressions}
use Rattle.ly_ere.proofs.length.lengths_of.Goals as goal

pub returns : goal.returns
returns c = λ sound.
    let names = defined c.args.names.now in
    let nodes = c.nodes-root.result.0.now in
    let root = c.nodes-root.result.1 in
    let ls = c.in_ok-lengths.lengths.items in
    let many : length names ≡ length c.args.names.now = length-map c.args.names.now (λ d. d.1) in
    let within : root < length (expressions nodes) = omega
    (arith, c.nodes-root.ensures.within, length-expressions nodes) in
    let here = c.in_ok-lengths.ensures.lengths names c.lengths.ensures root within
    (subst (λ e. IsSound (length names) e) (sym c.nodes-root.ensures.spelled)
    (subst (λ n. IsSound n c.args.re.now) (sym many) sound)) in
    let whole = subst (λ e. AreLengths (weight_of names e) (Matches names e) (lengths_at ls root))
    c.nodes-root.ensures.spelled here in
    let inside : root < length ls = omega (arith, c.nodes-root.ensures.within, c.in_ok-lengths.ensures.counted) in
    let same : c.index.result.now ≡ lengths_at ls root
    = c.index.ensures ∙ get_or_default ls root c.index.result.now (record { least = 0; most = 0 }) inside in
    subst (AreLengths (weight_of names c.args.re.now) (Matches names c.args.re.now)) (sym same) whole
