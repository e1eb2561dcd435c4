use Rattle.std.proofs.Common.{◌≡◌, ◌<◌, ◌∙◌, arith, get_or, length, inl, inr, refl}
use Rattle.std.proofs.lemmas.List.{get_or_default}
use Rattle.std.proofs.lemmas.Result.{on_ok_weaker}
use Rattle.ly_minim.specs.Private.Partition.{AreParts}
use Rattle.ly_minim.proofs.SplitLemmas.{split_of}
use Rattle.ly_minim.proofs.partition.Partition.split.Goals as goal

pub returns-then-middle-marked-clause-split : goal.returns-then-middle-marked-clause-split
returns-then-middle-marked-clause-split c =
    let old = c.args.self.now in
    let b = c.args.block in
    let m = c.index-middle.result.now in
    let f = c.index.result.now in
    let e = c.index-2.result.now in
    let laid = c.requires.laid in
    let less = c.requires.block in
    let less_middle : b < length old.middle.items = (let same = laid.middle_count in omega arith) in
    let less_end : b < length old.end.items = (let same = laid.end_count in omega arith) in
    let middle : m ≡ get_or old.middle.items b 0 = c.index-middle.ensures
    ∙ get_or_default old.middle.items b m 0 less_middle in
    let first : f ≡ get_or old.first.items b 0 = c.index.ensures ∙ get_or_default old.first.items b f 0 less in
    let end : e ≡ get_or old.end.items b 0 = c.index-2.ensures ∙ get_or_default old.end.items b e 0 less_end in
    let some_marked : f < m = (let ne = c.if-marked-middle.false in omega (arith, first, middle, laid.low b less)) in
    let some_rest : m < e = (let ne = c.if-middle-rest.false in omega (arith, middle, end, laid.high b less)) in
    let parts : AreParts b m e f m old
    = record { kept_some = some_rest; part_some = some_marked; parts = inr (first, refl, end) } in
    on_ok_weaker c.split_off.result (λ cut. split_of old c.split_off.new.self b m e f m laid less parts cut
    (inl (first, middle, middle))) c.split_off.ensures.cut

pub returns-else-middle-marked-clause-split : goal.returns-else-middle-marked-clause-split
returns-else-middle-marked-clause-split c =
    let old = c.args.self.now in
    let b = c.args.block in
    let m = c.index-middle.result.now in
    let f = c.index.result.now in
    let e = c.index-2.result.now in
    let laid = c.requires.laid in
    let less = c.requires.block in
    let less_middle : b < length old.middle.items = (let same = laid.middle_count in omega arith) in
    let less_end : b < length old.end.items = (let same = laid.end_count in omega arith) in
    let middle : m ≡ get_or old.middle.items b 0 = c.index-middle.ensures
    ∙ get_or_default old.middle.items b m 0 less_middle in
    let first : f ≡ get_or old.first.items b 0 = c.index.ensures ∙ get_or_default old.first.items b f 0 less in
    let end : e ≡ get_or old.end.items b 0 = c.index-2.ensures ∙ get_or_default old.end.items b e 0 less_end in
    let some_marked : f < m = (let ne = c.if-marked-middle.false in omega (arith, first, middle, laid.low b less)) in
    let some_rest : m < e = (let ne = c.if-middle-rest.false in omega (arith, middle, end, laid.high b less)) in
    let parts : AreParts b f m m e old
    = record { kept_some = some_marked; part_some = some_rest; parts = inl (first, refl, end) } in
    on_ok_weaker c.split_off-else-middle-marked.result (λ cut. split_of old
    c.split_off-else-middle-marked.new.self b f m m e laid less parts cut (inr (middle, middle)))
    c.split_off-else-middle-marked.ensures.cut
