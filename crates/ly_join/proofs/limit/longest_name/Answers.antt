use Rattle.std.proofs.Common.{◌≡◌, ◌∙◌, ◌+◌, ◌++◌, ◌∷◌, [], List, ℕ, ap, arith, sym, length, map, max, take}
use Rattle.std.specs.List.{flat_map}
use Rattle.std.specs.Rc.{rc_slice_items}
use Rattle.std.proofs.lemmas.List.{append-nil, map-append}
use Rattle.std.proofs.lemmas.List.Concat.{flat_map-append}
use Rattle.ly_yaccread.specs.File.{declared_of, making_of, ruling_of}
use Rattle.ly_join.specs.Counts.{constructor_length, greatest, token_length}
use Rattle.ly_join.specs.Numbering.{declared_terminals}
use Rattle.ly_join.specs.Private.Tables.{terminal_of}
use Rattle.ly_join.proofs.CountLemmas.{declared_words, greatest_append, greatest_push}
use Rattle.ly_join.proofs.ListLemmas.{mapped_all, mapped_more, twice_all, twice_more}
use Rattle.ly_join.proofs.limit.longest_name.Goals as goal

pub loop-declaration-preserved : goal.loop-declaration-preserved
loop-declaration-preserved c =
    let declaration = c.declaration-item.result in
    let at = c.loop-declaration.declaration-index in
    let all = c.deref-declaration-items.result.now in
    let before = take at (map declared_of all) in
    let one = declared_terminals (declared_of declaration) in
    let names : List ℕ = map token_length one in
    let longest : c.longest_token.result ≡ greatest names
    = c.longest_token.ensures ∙ ap (λ xs. greatest (map token_length (map terminal_of xs))) c.deref.ensures.value
    ∙ ap (λ ts. greatest (map token_length ts)) (sym (declared_words declaration.symbols.items)) in
    let more : flat_map declared_terminals (take (at + 1) (map declared_of all))
    ≡ flat_map declared_terminals before ++ one
    = ap (flat_map declared_terminals) (mapped_more declared_of all at declaration c.loop-declaration-test.true
    c.declaration-item.is) ∙ (flat_map-append declared_terminals before (declared_of declaration ∷ [])
    ∙ ap (λ ts. flat_map declared_terminals before ++ ts) (append-nil one)) in
    let lengths = map token_length (flat_map declared_terminals before) in
    let sum : greatest (map token_length (flat_map declared_terminals (take (at + 1) (map declared_of all))))
    ≡ max (greatest lengths) (greatest names)
    = ap (λ ts. greatest (map token_length ts)) more
    ∙ (ap greatest (map-append token_length (flat_map declared_terminals before) one)
    ∙ greatest_append lengths names) in
    omega (arith, c.max-longest.ensures, longest, c.loop-declaration.invariant, sum)

pub loop-rule-preserved : goal.loop-rule-preserved
loop-rule-preserved c =
    let rule = c.rule-item.result in
    let at = c.loop-rule.rule-index in
    let all = c.deref-rule-items.result.now in
    let sizes = map (λ r. max (length r.left) (constructor_length r.making)) (map ruling_of all) in
    let size = max (length (rc_slice_items rule.left)) (constructor_length (making_of rule.action)) in
    let more : greatest (take (at + 1) sizes) ≡ max size (greatest (take at sizes))
    = ap greatest (twice_more (λ r. max (length r.left) (constructor_length r.making)) ruling_of all at rule
    c.loop-rule-test.true c.rule-item.is) ∙ greatest_push (take at sizes) size in
    omega (
      arith,
      c.max-longest-in-loop-rule.ensures,
      c.max.ensures,
      c.len.ensures,
      c.constructor_length.ensures,
      c.loop-rule.invariant,
      more,
    )

pub returns : goal.returns
returns c =
    let ds = c.deref-declaration-items.result.now in
    let rs = c.deref-rule-items.result.now in
    let sizes = map (λ r. max (length r.left) (constructor_length r.making)) (map ruling_of rs) in
    let names = map token_length (flat_map declared_terminals (map declared_of ds)) in
    let first : c.loop-declaration.longest ≡ greatest names
    = c.loop-declaration.invariant ∙ ap (λ xs. greatest (map token_length (flat_map declared_terminals xs)))
    (mapped_all declared_of ds c.loop-declaration.declaration-index c.loop-declaration-test.false) in
    let second : c.loop-rule.longest ≡ max c.loop-declaration.longest (greatest sizes)
    = c.loop-rule.invariant ∙ ap (λ xs. max c.loop-declaration.longest (greatest xs))
    (twice_all (λ r. max (length r.left) (constructor_length r.making)) ruling_of rs c.loop-rule.rule-index
    c.loop-rule-test.false) in
    second ∙ (ap (λ n. max n (greatest sizes)) first ∙ (sym (greatest_append names sizes)
    ∙ (ap (λ xs. greatest (map token_length (flat_map declared_terminals (map declared_of xs)) ++ sizes))
    c.deref-declaration-items.ensures.value
    ∙ ap (λ xs. greatest (map token_length
    (flat_map declared_terminals (map declared_of c.args.yacc.now.declarations.items))
    ++ map (λ r. max (length r.left) (constructor_length r.making)) (map ruling_of xs)))
    c.deref-rule-items.ensures.value)))
